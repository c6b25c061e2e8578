-- What is asked, claim by claim and cycle by cycle, and what becomes of the lanes by it.
use Rattle.std.proofs.Common.{◌≡◌, ◌⊎◌, ℕ, zero, suc, ◌+◌, ◌-◌, ◌==◌, ◌≤◌, nat_le, Bool, List, [], ◌∷◌, ◌++◌, map, take, slice_get, Option, None, Some, true, false, if◌then◌else◌, refl, sym, ap, ◌∙◌, subst, inl, inr, arith}
use Rattle.std.proofs.lemmas.Bool.{eqb-true, leb-true, ne_eqb}
use Rattle.std.proofs.lemmas.List.{append-nil, append_assoc}
use Rattle.std.proofs.lemmas.Option.{none-some, same_Some}
use Rattle.diva_isa.specs.State.{State, goes_on}
use Rattle.diva_isa.specs.Step.{apply, record_of}
use Rattle.diva_isa.specs.declared.record.Record.{Record}
use Rattle.diva_core.specs.declared.flushes.Cause.{Cause}
use Rattle.diva_core.specs.declared.flushes.Cause.TheVariants.{Differs}
use Rattle.diva_core.specs.declared.pending.Entry.{Entry}
use Rattle.diva_core.specs.Entries.{pending_claim_of}
use Rattle.diva_core.specs.Older.{after, before_entry}
use Rattle.diva_core.specs.Timed.{Timed, PendingClaim, depth}
use Rattle.diva_core.specs.Cycle.{Commit, Flush, Judgement, Rule, Wait, by_front, by_judgement, by_solo, commits_under, committed, cycle_of, flushed, judged_under, judgement_under, past_front, stores_wait, without_solo}
use Rattle.diva_core.specs.History.{Meaning, IsHistory, lists_of}
use Rattle.diva_core.specs.Headline.{dues}
use Rattle.diva_core.specs.Machine.{IsMachine, Lives}
use Rattle.diva_core.proofs.Judging.{past-off}
use Rattle.diva_machine.specs.Machine.{Machine}
use Rattle.diva_core.specs.Told.{told_of}
use Rattle.diva_vote.specs.declared.votes.Outvoted.{Outvoted}
use Rattle.diva_vote.specs.Polls.{AlwaysTwoAreRight, ArePolledAndCounted}
use Rattle.diva_vote.specs.Questions.{Question, Saying}
use Rattle.diva_vote.proofs.Polling.{polled_more, polled_none}
use Rattle.diva_machine.specs.Asked.{DrivesAsking, asked_at, asked_in, asked_of, asked_over, stages_at}
use Rattle.diva_machine.specs.Drives.{Drives}
use Rattle.diva_machine.specs.Inner.{LedTurns}
use Rattle.diva_machine.specs.Panels.{IsSound, LedLanes, in_first, in_second, in_third}
use Rattle.diva_machine.specs.Staged.{IsStaged, Parts, last_stage, passed_by}
use Rattle.diva_machine.specs.declared.panel.Panel.{Panel}
use Rattle.diva_machine.proofs.Driving.{drives, no_turns, turn_more, turns_more}

-- ---- claim by claim

-- nothing is asked of a claim that is past the last stage
none_past : (age : ℕ) (s : State) (claim : Record) → suc last_stage ≤ age → asked_at age s claim ≡ []
unfolding stages_at
none_past age s claim past =
    rw (ne_eqb 1 age (λ e. omega arith), ne_eqb 3 age (λ e. omega arith), ne_eqb 4 age (λ e. omega arith), ne_eqb 5 age (λ e. omega arith)) refl

-- nor of those that were past it a cycle ago
none_first : (now : ℕ) (s : State) (p : PendingClaim) (rest : List PendingClaim) (past : Bool) → nat_le (p.cycle + last_stage) now ≡ past
    → asked_in (now + 1) (apply s p.claim) (take (passed_by now rest) rest) ≡ [] → asked_in (now + 1) s (take (passed_by now (p ∷ rest)) (p ∷ rest)) ≡ []
none_first now s p rest true is others = rw is (rw (none_past (now + 1 - p.cycle) s p.claim (let le = leb-true (p.cycle + last_stage) now is in omega arith)) others)
none_first now s p rest false is others = rw is refl

none_asked : (now : ℕ) (pending : List PendingClaim) (s : State) → asked_in (now + 1) s (take (passed_by now pending) pending) ≡ []
none_asked now [] s = refl
none_asked now (p ∷ rest) s = none_first now s p rest (nat_le (p.cycle + last_stage) now) refl (none_asked now rest (apply s p.claim))

-- nor, before a cycle's stages, of those that are past them
pub none_before : (w : Parts) (s : State) → 1 ≤ w.timed.cycles → IsStaged (w.timed.cycles - 1) w → asked_in w.timed.cycles s (take w.passed w.timed.under.pending) ≡ []
none_before w s some staged =
    rw staged.passed
    (subst (λ (cycle : ℕ). asked_in cycle s (take (passed_by (w.timed.cycles - 1) w.timed.under.pending) w.timed.under.pending) ≡ []) (omega arith) (none_asked (w.timed.cycles - 1) w.timed.under.pending s))

-- the state after the older ones of some claims
stands_at : State → List PendingClaim → ℕ → State
stands_at s pending at = after s (take at (map (λ p. p.claim) pending))

-- one claim more
asked_more : (cycle : ℕ) (pending : List PendingClaim) (s : State) (at : ℕ) (p : PendingClaim) → slice_get pending at ≡ Some p
    → asked_in cycle s (take (suc at) pending) ≡ asked_in cycle s (take at pending) ++ asked_at (cycle - p.cycle) (stands_at s pending at) p.claim
unfolding stands_at
asked_more cycle [] s at p here = absurd (none-some _ here)
asked_more cycle (x ∷ rest) s zero p here =
    append-nil (asked_at (cycle - x.cycle) s x.claim) ∙ ap (λ (y : PendingClaim). asked_at (cycle - y.cycle) s y.claim) (same_Some _ _ here)
asked_more cycle (x ∷ rest) s (suc at) p here =
    ap (λ more. asked_at (cycle - x.cycle) s x.claim ++ more) (asked_more cycle rest (apply s x.claim) at p here)
    ∙ sym (append_assoc (asked_at (cycle - x.cycle) s x.claim) (asked_in cycle (apply s x.claim) (take at rest)) (asked_at (cycle - p.cycle) (stands_at (apply s x.claim) rest at) p.claim))

-- the claims that wait are those of the entries
claims_of : (entries : List Entry) → map (λ (p : PendingClaim). p.claim) (map pending_claim_of entries) ≡ map (λ (e : Entry). e.claim) entries
claims_of [] = refl
claims_of (e ∷ rest) = ap (λ claims. e.claim ∷ claims) (claims_of rest)

stands_before : (s : State) (entries : List Entry) (pending : List PendingClaim) (at : ℕ) → map pending_claim_of entries ≡ pending → stands_at s pending at ≡ before_entry s entries at
unfolding stands_at
stands_before s entries pending at waits = ap (λ claims. after s (take at claims)) (ap (map (λ (p : PendingClaim). p.claim)) (sym waits) ∙ claims_of entries)

-- behind those that were asked of
pub asked_next : (before : List Question) (cycle : ℕ) (s : State) (entries : List Entry) (pending : List PendingClaim) (at : ℕ) (p : PendingClaim)
    → map pending_claim_of entries ≡ pending → slice_get pending at ≡ Some p
    → before ++ asked_in cycle s (take (at + 1) pending) ≡ (before ++ asked_in cycle s (take at pending)) ++ asked_at (cycle - p.cycle) (before_entry s entries at) p.claim
asked_next before cycle s entries pending at p waits here =
    let next : at + 1 ≡ suc at = omega arith in
    ap (λ (n : ℕ). before ++ asked_in cycle s (take n pending)) next
    ∙ ap (λ more. before ++ more) (asked_more cycle pending s at p here)
    ∙ ap (λ (stands : State). before ++ (asked_in cycle s (take at pending) ++ asked_at (cycle - p.cycle) stands p.claim)) (stands_before s entries pending at waits)
    ∙ sym (append_assoc before (asked_in cycle s (take at pending)) (asked_at (cycle - p.cycle) (before_entry s entries at) p.claim))

-- ---- behind the commits

-- the machine goes on, or nothing is pending
abbrev IsOnOrEmpty : Timed → Type 0
IsOnOrEmpty m = (goes_on m.arch ≡ true) ⊎ (m.under.pending ≡ [])

-- nothing is judged where nothing is pending
judged_empty : (n : ℕ) (rule : Rule) (m : Timed) → m.under.pending ≡ [] → judged_under rule n m ≡ m
judged_empty zero rule m none = refl
judged_empty (suc n) rule m none = ap (λ (pending : List PendingClaim). by_judgement m (judged_under rule n (past_front m)) (by_front rule m pending)) none

past_by : (n : ℕ) (rule : Rule) (m : Timed) (on : Bool) → goes_on (past_front m).arch ≡ on
    → (goes_on (past_front m).arch ≡ true → IsOnOrEmpty (judged_under rule n (past_front m))) → IsOnOrEmpty (judged_under rule n (past_front m))
past_by n rule m true is next = next is
past_by n rule m false is next =
    let none : (past_front m).under.pending ≡ [] = past-off m is in
    inr (ap (λ (z : Timed). z.under.pending) (judged_empty n rule (past_front m) none) ∙ none)

flushed_empty : (m : Timed) (cause : Cause) → (flushed m cause).under.pending ≡ []
unfolding flushed
flushed_empty m cause = refl

judgement_leaves : (m further : Timed) (w : Judgement) → goes_on m.arch ≡ true → IsOnOrEmpty further → IsOnOrEmpty (by_judgement m further w)
judgement_leaves m further Commit on next = next
judgement_leaves m further (Flush d) on next = inr (flushed_empty m (Differs d))
judgement_leaves m further Wait on next = inl on

judged_leaves : (n : ℕ) (rule : Rule) (m : Timed) → goes_on m.arch ≡ true → IsOnOrEmpty (judged_under rule n m)
judged_leaves zero rule m on = inl on
judged_leaves (suc n) rule m on =
    judgement_leaves m (judged_under rule n (past_front m)) (judgement_under rule m) on
    (past_by n rule m (goes_on (past_front m).arch) refl (λ next. judged_leaves n rule (past_front m) next))

committed_pending : (m : Timed) (r : Record) → (committed m r).under.pending ≡ m.under.pending
unfolding committed
committed_pending m r = refl

solo_leaves : (rule : Rule) (m : Timed) (start : ℕ) (b : Bool) → goes_on m.arch ≡ true → m.under.pending ≡ []
    → IsOnOrEmpty (if b then committed (without_solo m) (record_of m.arch) else m)
solo_leaves rule m start true on none = inr (committed_pending (without_solo m) (record_of m.arch) ∙ none)
solo_leaves rule m start false on none = inl on

by_solo_leaves : (rule : Rule) (m : Timed) (solo : Option ℕ) → goes_on m.arch ≡ true → ((start : ℕ) → solo ≡ Some start → m.under.pending ≡ []) → IsOnOrEmpty (by_solo rule m solo)
by_solo_leaves rule m None on alone = judged_leaves m.config.width rule m on
by_solo_leaves rule m (Some start) on alone = solo_leaves rule m start (m.cycles == start + depth) on (alone start refl)

commits_leave : (rule : Rule) (m : Timed) → goes_on m.arch ≡ true → ((start : ℕ) → m.under.solo ≡ Some start → m.under.pending ≡ []) → IsOnOrEmpty (commits_under rule m)
unfolding commits_under
commits_leave rule m on alone = by_solo_leaves rule m m.under.solo on alone

-- nothing is pending where an instruction runs solo
alone_by : (m : Timed) (solo : Option ℕ) → Lives m solo → (start : ℕ) → solo ≡ Some start → m.under.pending ≡ []
alone_by m None lives start is = absurd (none-some _ is)
alone_by m (Some at) lives start is = lives.empty

pub alone_pending : (m : Timed) → IsMachine m → (start : ℕ) → m.under.solo ≡ Some start → m.under.pending ≡ []
alone_pending m inv = alone_by m m.under.solo inv.lives

-- what is asked behind the state that is shown is asked behind the committed one
shown_by : (cycle : ℕ) (m : Timed) → IsOnOrEmpty m → asked_in cycle (record m.arch { end = 0 }) m.under.pending ≡ asked_in cycle m.arch m.under.pending
shown_by cycle m (inl on) = ap (λ (e : ℕ). asked_in cycle (record m.arch { end = e }) m.under.pending) (sym (eqb-true m.arch.end 0 on))
shown_by cycle m (inr none) = rw none refl

pub asked_shown : (cycle : ℕ) (m : Timed) → goes_on m.arch ≡ true → ((start : ℕ) → m.under.solo ≡ Some start → m.under.pending ≡ [])
    → asked_in cycle (record (commits_under stores_wait m).arch { end = 0 }) (commits_under stores_wait m).under.pending
    ≡ asked_in cycle (commits_under stores_wait m).arch (commits_under stores_wait m).under.pending
asked_shown cycle m on alone = shown_by cycle (commits_under stores_wait m) (commits_leave stores_wait m on alone)

-- ---- cycle by cycle

asked_then :
    {C : Type 0} (gives : Meaning C) (m : Timed) (core : C) (history : List (List Record × C)) (mid : Timed) (between : C) (list : List Record) (after : C)
    → IsHistory gives m core history mid between
    → asked_over m (lists_of (history ++ (list, after) ∷ [])) ≡ asked_over m (lists_of history) ++ asked_of mid
asked_then gives m core [] mid between list after h = append-nil (asked_of m) ∙ ap (λ (z : Timed). asked_of z) (sym h.0)
asked_then gives m core (turn ∷ rest) mid between list after h =
    ap (λ more. asked_of m ++ more) (asked_then gives (cycle_of m turn.0) turn.1 rest mid between list after h.1.1)
    ∙ sym (append_assoc (asked_of m) (asked_over (cycle_of m turn.0) (lists_of rest)) (asked_of mid))

pub led_none : {C S : Type 0} (gives : Meaning C) (m : Machine) (core : C) (led : S → List Question → S → Type 0) (stages : S)
    → LedTurns gives m core m core led stages stages
unfolding no_turns
led_none gives m core led stages =
    record {
      taken = no_turns gives m core;
      asked = λ first before h. rw (append-nil before) h;
    }

module _ {C S : Type 0} (gives : Meaning C) (m : Machine) (core : C) (last : Machine) (final : C) (led : S → List Question → S → Type 0) (stages after : S)
    (l : LedTurns gives m core last final led stages after) (inv : IsMachine m.timed) where
  -- one turn more
  pub led_more :
      (next : Machine) (list : List Record) (core-after : C) (stages-after : S)
      → goes_on last.timed.arch ≡ true
      → gives final (told_of last.timed) last.timed.arch list core-after
      → next.timed ≡ cycle_of last.timed list
      → next.last ≡ dues (next.timed.count - last.timed.count) last.timed.arch
      → ((first : S) (before : List Question) → led first before after → led first (before ++ asked_of last.timed) stages-after)
      → LedTurns gives m core next core-after led stages stages-after
  unfolding turn_more turns_more
  led_more next list core-after stages-after on asked cycled committed more =
      subst (λ (z : Timed). LedTurns gives m core (record next { timed = z }) core-after led stages stages-after) (sym cycled)
      (record {
        taken = turn_more gives m core last final l.taken inv next list core-after on asked (committed ∙ ap (λ (z : Timed). dues (z.count - last.timed.count) last.timed.arch) cycled);
        asked = λ first before h.
            rw (asked_then gives m.timed core l.taken.turns.history last.timed final list core-after l.taken.turns.good)
            (rw (← append_assoc before (asked_over m.timed (lists_of l.taken.turns.history)) (asked_of last.timed)) (more first _ (l.asked first before h)));
      })

  pub drives_asking : (this : List Question → Type 0) → this (asked_over m.timed (lists_of l.taken.turns.history)) → DrivesAsking gives m core last final this
  unfolding drives
  drives_asking this asked = record { drives = drives gives m core last final l.taken inv; asked = asked }

-- what was outvoted is noted behind the drive
pub drives_noting : {C : Type 0} (gives : Meaning C) (m : Machine) (core : C) (last : Machine) (final : C) (counts : Outvoted)
    → Drives gives m core last final → Drives gives m core (record last { outvoted = counts }) final
drives_noting gives m core last final counts d =
    record {
      turns = d.turns;
      commits = d.commits;
      shows = d.shows;
      rows = d.rows;
      calm = d.calm;
      rises = d.rises;
      machine = d.machine;
      pace = d.pace;
      paced = d.paced;
      counts = d.counts;
    }

pub asking_noting : {C : Type 0} (gives : Meaning C) (m : Machine) (core : C) (last : Machine) (final : C) (counts : Outvoted) (this : List Question → Type 0)
    → DrivesAsking gives m core last final this → DrivesAsking gives m core (record last { outvoted = counts }) final this
unfolding drives_noting
asking_noting gives m core last final counts this d = record { drives = drives_noting gives m core last final counts d.drives; asked = d.asked }

-- ---- the lanes

module _ {A B L : Type 0} (first_says : Saying A) (second_says : Saying B) (third_says : Saying L) where
  pub lanes_none : (p : Panel A B L) → LedLanes first_says second_says third_says p [] p
  lanes_none p =
      record {
        polled = polled_none first_says second_says third_says (in_first p) (in_second p) (in_third p) p.outvoted;
        same = record { first_is = refl; second_is = refl; third_is = refl };
      }

  -- one claim more, of a known age
  pub lanes_more : (p q r : Panel A B L) (xs : List Question) (age known : ℕ) (s : State) (claim : Record) → age ≡ known
      → LedLanes first_says second_says third_says p xs q
      → LedLanes first_says second_says third_says q (asked_at known s claim) r
      → LedLanes first_says second_says third_says p (xs ++ asked_at age s claim) r
  lanes_more p q r xs age known s claim is h k =
      rw is (record {
        polled = polled_more first_says second_says third_says xs (asked_at known s claim) _ _ _ _ _ _ _ _ _ _ _ _ h.polled k.polled;
        same = record {
          first_is = k.same.first_is ∙ h.same.first_is;
          second_is = k.same.second_is ∙ h.same.second_is;
          third_is = k.same.third_is ∙ h.same.third_is;
        };
      })

  -- at least two will be right, of lanes that are lent
  pub sound_lent : (p : Panel A B L) (a : A) (b : B) (l : L) → in_first p ≡ a → in_second p ≡ b → in_third p ≡ l
      → AlwaysTwoAreRight first_says second_says third_says a b l → IsSound first_says second_says third_says p
  sound_lent p a b l x y z always = rw (x, y, z) always

  -- and of those that are given back
  pub sound_back : (p : Panel A B L) (a : A) (b : B) (l : L) → in_first p ≡ a → in_second p ≡ b → in_third p ≡ l
      → IsSound first_says second_says third_says p → AlwaysTwoAreRight first_says second_says third_says a b l
  sound_back p a b l x y z sound = rw (← x, ← y, ← z) sound

  -- those that are lent were polled, and are given back
  pub polled_lent : (p q : Panel A B L) (asked : List Question) (a : A) (b : B) (l : L) (a' : A) (b' : B) (l' : L) (counts counts' : Outvoted)
      → in_first p ≡ a → in_second p ≡ b → in_third p ≡ l → p.outvoted ≡ counts
      → in_first q ≡ a' → in_second q ≡ b' → in_third q ≡ l' → q.outvoted ≡ counts'
      → LedLanes first_says second_says third_says p asked q
      → ArePolledAndCounted first_says second_says third_says asked a b l a' b' l' counts counts'
  polled_lent p q asked a b l a' b' l' counts counts' x y z n x' y' z' n' led =
      rw (← x, ← y, ← z, ← n, ← x', ← y', ← z', ← n') led.polled
