-- Histories of the core `Scalar`.
use Rattle.std.proofs.Common.{◌≡◌, ◌≢◌, ◌<◌, ◌≤◌, ℕ, zero, suc, ◌+◌, Bool, true, false, Option, List, [], ◌∷◌, ◌++◌, length, map, take, Some, None, refl, ap, sym, ◌∙◌, arith, subst, append_assoc, length-append, inl, inr, ◌⊎◌, if◌then◌else◌, ◌&&◌}
use Rattle.std.specs.Prelude.{nat_lt, IfSome}
use Rattle.std.proofs.lemmas.List.{length-map, map-append, append-nil}
use Rattle.std.proofs.lemmas.Bool.{true≢false, cases_lt, lt-ltb}
use Rattle.std.proofs.lemmas.Bool.Decides.{nat_tests}
use Rattle.std.proofs.lemmas.Option.{none-some}
use Rattle.diva_isa.specs.State.{State, goes_on}
use Rattle.diva_isa.specs.Step.{record_of, step, steps}
use Rattle.diva_isa.specs.declared.record.Record.{Record}
use Rattle.diva_isa.specs.declared.effect.Effect.{Effect}
use Rattle.diva_isa.specs.declared.undo.Undo.{Undo}
use Rattle.diva_core.specs.Timed.{Log, Timed, Config, PendingClaim, epoch_of, new_timed, room_of, depth}
use Rattle.diva_core.specs.Cycle.{cycle_of, stores_wait}
use Rattle.diva_core.specs.Undone.{CanUndo, undone}
use Rattle.diva_core.specs.Told.{told_of}
use Rattle.diva_core.specs.History.{FollowRule, IsHistory, lists_of}
use Rattle.diva_core.specs.Machine.{IsMachine, IsConfig}
use Rattle.diva_core.specs.Right.{AreRight, IsCalm, IsCalmRunning, IsRight, claim_of}
use Rattle.diva_core.proofs.Commits.{Commits}
use Rattle.diva_core.proofs.Steps.{steps-add}
use Rattle.diva_core.proofs.Cycling.{Cycled, cycled, Base, idled, ran, barks, differed, ended, finished, waited, taken}
use Rattle.diva_core.proofs.Keeping.{stays}
use Rattle.diva_core.proofs.Outcomes.{by-cases}
use Rattle.diva_core.proofs.Calming.{stays_calm, no-difference, not-yet, wait-least, claims-taken, room-some, due_from, Fresh, solo_fresh}
use Rattle.diva_core.proofs.Listing.{new_calm}
use Rattle.diva_core.proofs.Progressing.{same-undos}
use Rattle.diva_core.proofs.Starting.{new-machine}
use Rattle.diva_core.proofs.Undoing.{undone_calm, undone_stays}
use Rattle.diva_ahead.specs.Effects.{done_by}
use Rattle.diva_ahead.specs.Ahead.{Ahead, is_epoch}
use Rattle.diva_ahead.proofs.Leading.{Follows}
use Rattle.diva_tape.specs.Scalar.{IsPast, IsScalarCall, MayLead, ScalarCall, new_scalar, scalar_call, scalar_list}
use Rattle.diva_tape.proofs.Calling.{Hands, Keeps, Ready, epoch_holds, hands, next_of, waits}
use Rattle.diva_tape.proofs.Righting.{rule_right_by, scalar_right}

abbrev waiting : Timed → List Record
waiting m = map claim_of m.under.pending

-- ---- one call at a machine

-- the list of a call is that of the rule, and the core keeps what is then pending
record At (m : Timed) (call : ScalarCall) : Type 0 where
  list : call.list ≡ scalar_list m
  keeps : Keeps call.core (epoch_of m) m.arch (waiting m ++ take (room_of m) call.list)

rule_none : (room : ℕ) (b : Bool) (xs : List Record) → room ≡ 0 → [] ≡ (if nat_lt 0 room && b then xs else [])
rule_none room b xs none = rw none refl

rule_some : (room : ℕ) (b : Bool) (xs : List Record) → 0 < room → (if b then xs else []) ≡ (if nat_lt 0 room && b then xs else [])
rule_some room b xs some = rw (lt-ltb 0 room some) refl

take_none : (n : ℕ) → take {A = Record} n [] ≡ []
take_none zero = refl
take_none (suc n) = refl

take_one : (n : ℕ) (b : Bool) (r : Record) → 0 < n → take n (if b then r ∷ [] else []) ≡ (if b then r ∷ [] else [])
take_one zero b r some = absurd (omega arith)
take_one (suc n) true r some = ap (λ (xs : List Record). r ∷ xs) (take_none n)
take_one (suc n) false r some = refl

at_some : (ahead : Ahead) (m : Timed) → 0 < room_of m → m.count ≡ m.arch.instret → goes_on m.arch ≡ true → IsCalmRunning m → Ready ahead (epoch_of m) m.arch (waiting m) → At m (scalar_call ahead (told_of m) m.arch)
at_some ahead m some counted on calm ready =
    let h : Hands (epoch_of m) m.arch (waiting m) (scalar_call ahead (told_of m) m.arch) =
    hands ahead (told_of m) m.arch (waiting m) (let s = some in omega arith) (sym (length-map m.under.pending claim_of)) counted on (due_from m.arch (waiting m) calm.claims) ready in
    let far : steps (length (waiting m)) m.arch ≡ steps (length m.under.pending) m.arch = ap (λ (k : ℕ). steps k m.arch) (length-map m.under.pending claim_of) in
    let all : take (room_of m) (scalar_call ahead (told_of m) m.arch).list ≡ (scalar_call ahead (told_of m) m.arch).list =
    ap (take (room_of m)) h.list ∙ take_one (room_of m) (goes_on (steps (length (waiting m)) m.arch)) (record_of (steps (length (waiting m)) m.arch)) some ∙ sym h.list in
    record {
      list = h.list ∙ ap next_of far ∙ rule_some (room_of m) (goes_on (steps (length m.under.pending) m.arch)) (record_of (steps (length m.under.pending) m.arch) ∷ []) some;
      keeps = subst (λ (xs : List Record). Keeps (scalar_call ahead (told_of m) m.arch).core (epoch_of m) m.arch (waiting m ++ xs)) (sym all) h.keeps;
    }

at_none : (ahead : Ahead) (m : Timed) → room_of m ≡ 0 → Keeps ahead (epoch_of m) m.arch (waiting m) → At m (record { list = []; core = ahead })
at_none ahead m none k =
    record {
      list = rule_none (room_of m) (goes_on (steps (length m.under.pending) m.arch)) (record_of (steps (length m.under.pending) m.arch) ∷ []) none;
      keeps = subst (Keeps ahead (epoch_of m) m.arch) (sym (ap (λ (xs : List Record). waiting m ++ xs) (take_none (room_of m)) ∙ append-nil (waiting m))) k;
    }

no_claims : (xs : List PendingClaim) → map claim_of xs ≡ [] → xs ≡ []
no_claims [] e = refl
no_claims (p ∷ xs) e = absurd (cc)

kept : (ahead : Ahead) (m : Timed) → IsMachine m → goes_on m.arch ≡ true → IsCalmRunning m → room_of m ≡ 0 → Ready ahead (epoch_of m) m.arch (waiting m) → Keeps ahead (epoch_of m) m.arch (waiting m)
kept ahead m inv on calm none (inl k) = k
kept ahead m inv on calm none (inr f) = absurd (let some : 1 ≤ room_of m = room-some m inv calm.running on (no_claims m.under.pending f.1) in omega arith)

at : (ahead : Ahead) (m : Timed) → IsMachine m → goes_on m.arch ≡ true → IsCalmRunning m → Ready ahead (epoch_of m) m.arch (waiting m) → At m (scalar_call ahead (told_of m) m.arch)
at ahead m inv on calm ready =
    elim (cases_lt 0 (room_of m)) [
      | inl some ↦ at_some ahead m some (sym inv.counted) on calm ready
      | inr few ↦
          let none : room_of m ≡ 0 = omega arith in
          subst (At m) (sym (waits ahead (told_of m) m.arch none)) (at_none ahead m none (kept ahead m inv on calm none ready))
    ]

-- ---- and after the cycle

record Split (k : ℕ) (xs rest : List PendingClaim) : Type 0 where
  done : List PendingClaim
  parts : xs ≡ done ++ rest
  long : length done ≡ k

split_commits : (k : ℕ) (s : State) (c : ℕ) (xs rest : List PendingClaim) → Commits k s c xs rest → Split k xs rest
split_commits zero s c xs rest h = record { done = []; parts = sym h; long = refl }
split_commits (suc k) s c [] rest h = absurd h
split_commits (suc k) s c (p ∷ xs) rest h =
    let r : Split k xs rest = split_commits k (step s) c xs rest h.2 in
    record { done = p ∷ r.done; parts = ap (λ (z : List PendingClaim). p ∷ z) r.parts; long = ap suc r.long }

-- no instruction is taken back in a cycle
same_epoch : (b n : Timed) → n.under.log.flushes ≡ b.under.log.flushes → n.under.undos ≡ b.under.undos → epoch_of n ≡ epoch_of b
same_epoch b n flushes undos = omega arith

keeps_after :
    (ahead : Ahead) (b n : Timed) (list : List Record) (k : ℕ) (rest : List PendingClaim)
    → Base stores_wait b n k
    → n.under.log.flushes ≡ b.under.log.flushes
    → Split k b.under.pending rest
    → n.under.pending ≡ rest ++ taken b list
    → Keeps ahead (epoch_of b) b.arch (waiting b ++ take (room_of b) list)
    → Keeps ahead (epoch_of n) n.arch (waiting n)
keeps_after ahead b n list k rest v flushes split pending h =
    let more : List Record = take (room_of b) list in
    let mine : waiting n ≡ map claim_of rest ++ more = ap (map claim_of) pending ∙ map-append claim_of rest (taken b list) ∙ ap (λ (xs : List Record). map claim_of rest ++ xs) (claims-taken (b.cycles + 1) more) in
    let all : waiting b ++ more ≡ map claim_of split.done ++ waiting n =
    ap (λ (xs : List Record). xs ++ more) (ap (map claim_of) split.parts ∙ map-append claim_of split.done rest) ∙ append_assoc (map claim_of split.done) (map claim_of rest) more ∙ ap (λ (xs : List Record). map claim_of split.done ++ xs) (sym mine) in
    let long : length (waiting b ++ more) ≡ k + length (waiting n) = ap length all ∙ length-append (map claim_of split.done) (waiting n) ∙ ap (λ (d : ℕ). d + length (waiting n)) (length-map split.done claim_of ∙ split.long) in
    let far : steps (length (waiting b ++ more)) b.arch ≡ steps (length (waiting n)) n.arch =
    ap (λ (j : ℕ). steps j b.arch) long ∙ steps-add k (length (waiting n)) b.arch ∙ ap (steps (length (waiting n))) (sym v.stepped) in
    record {
      of = ap (is_epoch ahead.epoch) (same_epoch b n flushes v.undos) ∙ h.of;
      before = h.before ++ map done_by (map claim_of split.done);
      ring = h.ring ∙ ap (λ (xs : List Record). h.before ++ map done_by xs) all ∙ ap (λ (es : List Effect). h.before ++ es) (map-append done_by (map claim_of split.done) (waiting n)) ∙ sym (append_assoc h.before (map done_by (map claim_of split.done)) (map done_by (waiting n)));
      follows = subst (Follows ahead) far h.follows;
    }

ready_cases : (ahead : Ahead) (b n : Timed) (list : List Record) → IsMachine b → IsCalmRunning b → Keeps ahead (epoch_of b) b.arch (waiting b ++ take (room_of b) list) → Cycled stores_wait b list n → goes_on n.arch ≡ true → Ready ahead (epoch_of n) n.arch (waiting n)
ready_cases ahead b n list inv calm h (idled r) on = inl (keeps_after ahead b n list 0 b.under.pending r.base (ap (λ (l : Log). l.flushes) r.log) (record { done = []; parts = refl; long = refl }) r.pending h)
ready_cases ahead b n list inv calm h (ran r) on = inl (keeps_after ahead b n list (suc r.k) r.rest r.base (ap (λ (l : Log). l.flushes) r.log) (split_commits (suc r.k) b.arch (b.cycles + 1) b.under.pending r.rest r.claims) r.pending h)
ready_cases ahead b n list inv calm h (barks r) on =
    absurd (let w = calm.waits in let two = wait-least b b.under.pending inv.config (not-yet b inv r.was r.unjudged) in let i = r.idle in let late = r.late in omega arith)
ready_cases ahead b n list inv calm h (differed r) on = absurd (no-difference b n r (due_from _ _ calm.claims))
ready_cases ahead b n list inv calm h (ended r) on = absurd (true≢false (sym on ∙ r.off))
ready_cases ahead b n list inv calm h (finished r) on = absurd (none-some _ (sym calm.running ∙ r.since))
ready_cases ahead b n list inv calm h (waited r) on = absurd (none-some _ (sym calm.running ∙ r.since))

-- ---- while an instruction runs solo

pub record RunsSolo (m : Timed) (ahead : Ahead) : Type 0 where
  pub start : ℕ
  pub since : m.under.solo ≡ Some start
  pub other : is_epoch ahead.epoch (epoch_of m) ≡ false

-- the machine is calm, and the core keeps what is pending; or an instruction runs solo
abbrev pub Stands : Timed → Ahead → Type 0
Stands m ahead = (IsCalm m × (goes_on m.arch ≡ true → Ready ahead (epoch_of m) m.arch (waiting m))) ⊎ RunsSolo m ahead

solo_room : (m : Timed) (start : ℕ) → m.under.solo ≡ Some start → room_of m ≡ 0
solo_room m start some = rw some refl

-- the core does nothing
solo_call : (ahead : Ahead) (m : Timed) (start : ℕ) → m.under.solo ≡ Some start → scalar_call ahead (told_of m) m.arch ≡ record { list = []; core = ahead }
solo_call ahead m start some = waits ahead (told_of m) m.arch (solo_room m start some)

solo_list : (ahead : Ahead) (m : Timed) (start : ℕ) → m.under.solo ≡ Some start → (scalar_call ahead (told_of m) m.arch).list ≡ scalar_list m
solo_list ahead m start some =
    ap (λ (c : ScalarCall). c.list) (solo_call ahead m start some)
    ∙ rule_none (room_of m) (goes_on (steps (length m.under.pending) m.arch)) (record_of (steps (length m.under.pending) m.arch) ∷ []) (solo_room m start some)

solo_flushes : (b n : Timed) (list : List Record) (start : ℕ) → b.under.solo ≡ Some start → Cycled stores_wait b list n → n.under.log.flushes ≡ b.under.log.flushes
solo_flushes b n list start some (idled r) = (ap (λ (l : Log). l.flushes) r.log)
solo_flushes b n list start some (ran r) = (ap (λ (l : Log). l.flushes) r.log)
solo_flushes b n list start some (barks r) = absurd (none-some _ (sym r.was ∙ some))
solo_flushes b n list start some (differed r) = absurd (none-some _ (sym r.was ∙ some))
solo_flushes b n list start some (ended r) = (ap (λ (l : Log). l.flushes) r.log)
solo_flushes b n list start some (finished r) = (ap (λ (l : Log). l.flushes) r.log)
solo_flushes b n list start some (waited r) = (ap (λ (l : Log). l.flushes) r.log)

-- where it commits, the machine is calm with nothing pending, and else it runs on
solo_after : (m : Timed) (list : List Record) (start : ℕ) → IsMachine m → goes_on m.arch ≡ true → m.under.solo ≡ Some start → Cycled stores_wait m list (cycle_of m list) → Fresh (cycle_of m list) ⊎ ((cycle_of m list).under.solo ≡ Some start)
solo_after m list start inv on some (idled r) = absurd (none-some _ (sym r.was ∙ some))
solo_after m list start inv on some (ran r) = absurd (none-some _ (sym r.was ∙ some))
solo_after m list start inv on some (barks r) = absurd (none-some _ (sym r.was ∙ some))
solo_after m list start inv on some (differed r) = absurd (none-some _ (sym r.was ∙ some))
solo_after m list start inv on some (ended r) = absurd (none-some _ (sym r.was ∙ some))
solo_after m list start inv on some (finished r) = inl (solo_fresh m list r.start inv on r.since r.sixth)
solo_after m list start inv on some (waited r) = inr (r.solo ∙ sym r.since ∙ some)

stands_solo : (ahead : Ahead) (m : Timed) (list : List Record) → IsMachine m → goes_on m.arch ≡ true → RunsSolo m ahead → Stands (cycle_of m list) ahead
stands_solo ahead m list inv on r =
    let other : is_epoch ahead.epoch (epoch_of (cycle_of m list)) ≡ false =
    ap (is_epoch ahead.epoch) (same_epoch m (cycle_of m list) (solo_flushes m (cycle_of m list) list r.start r.since (cycled m list inv on)) (same-undos m list inv)) ∙ r.other in
    elim (solo_after m list r.start inv on r.since (cycled m list inv on)) [
      | inl fresh ↦ inl (fresh.calm, λ still. inr (other, ap (map claim_of) fresh.pending))
      | inr some ↦ inr (record { start = r.start; since = some; other = other })
    ]

-- ---- histories

-- a turn hands over by the rule, and the core stands where it did
pub record Turn (m : Timed) (list : List Record) (after : Ahead) : Type 0 where
  pub rule : list ≡ scalar_list m
  pub stands : Stands (cycle_of m list) after

pub turn : (m : Timed) (ahead : Ahead) (list : List Record) (after : Ahead) → IsMachine m → goes_on m.arch ≡ true → Stands m ahead → IsScalarCall ahead (told_of m) m.arch list after → Turn m list after
turn m ahead list after inv on (inl c) given =
    let a : At m (scalar_call ahead (told_of m) m.arch) = at ahead m inv on (c.0 on) (c.1 on) in
    let rule : list ≡ scalar_list m = given.lists ∙ a.list in
    let right : IsRight m list = subst (IsRight m) (sym rule) (scalar_right m) in
    let keeps : Keeps after (epoch_of m) m.arch (waiting m ++ take (room_of m) list) =
    subst (λ (x : Ahead). Keeps x (epoch_of m) m.arch (waiting m ++ take (room_of m) list)) (sym given.keeps)
    (subst (λ (l : List Record). Keeps (scalar_call ahead (told_of m) m.arch).core (epoch_of m) m.arch (waiting m ++ take (room_of m) l)) (sym given.lists) a.keeps) in
    record {
      rule = rule;
      stands = inl ((stays_calm m list inv c.0 right).calm, λ still. ready_cases after m (cycle_of m list) list inv (c.0 on) keeps (cycled m list inv on) still);
    }
turn m ahead list after inv on (inr r) given =
    record {
      rule = given.lists ∙ solo_list ahead m r.start r.since;
      stands = subst (Stands (cycle_of m list)) (sym (given.keeps ∙ ap (λ (c : ScalarCall). c.core) (solo_call ahead m r.start r.since))) (stands_solo ahead m list inv on r);
    }

follows_rule :
    (history : List (List Record × Ahead)) (m : Timed) (ahead : Ahead) (last : Timed) (final : Ahead)
    → IsMachine m
    → Stands m ahead
    → IsHistory IsScalarCall m ahead history last final
    → FollowRule scalar_list m (lists_of history)
follows_rule [] m ahead last final inv stands h = tt
follows_rule (one ∷ rest) m ahead last final inv stands h =
    let t : Turn m one.0 one.1 = turn m ahead one.0 one.1 inv h.0 stands h.1.0 in
    (t.rule, follows_rule rest (cycle_of m one.0) one.1 last final (stays m one.0 inv) t.stands h.1.1)

pub stands_by : (solo : Option ℕ) (m : Timed) (ahead : Ahead) → m.under.solo ≡ solo → MayLead m ahead → Stands m ahead
stands_by None m ahead e may = let rest = may.rests e in inl (rest.0, λ on. inr (may.epoch, ap (map claim_of) rest.1))
stands_by (Some start) m ahead e may = inr (record { start = start; since = e; other = may.epoch })

pub scalar_history : (m last : Timed) (before after : Ahead) (history : List (List Record × Ahead)) → MayLead m before → IsHistory IsScalarCall m before history last after → FollowRule scalar_list m (lists_of history)
scalar_history m last before after history may h = follows_rule history m before last after may.machine (stands_by m.under.solo m before refl may) h

pub scalar_history_right : (m last : Timed) (before after : Ahead) (history : List (List Record × Ahead)) → MayLead m before → IsHistory IsScalarCall m before history last after → AreRight m (lists_of history)
scalar_history_right m last before after history may h =
    rule_right_by scalar_list scalar_right m (lists_of history) (scalar_history m last before after history may h)

-- a new core at a new machine
pub new_leads : (z : Config) (s : State) → IsConfig z → s.instret ≡ 0 → MayLead (new_timed z s) new_scalar
new_leads z s ok none = record { machine = new-machine z s ok none; epoch = refl; rests = λ running. (new_calm z s ok, refl) }

-- where a solo instruction commits
pub leads_again : (m : Timed) (before after : Ahead) (list : List Record) (start : ℕ) → IsMachine m → goes_on m.arch ≡ true → m.under.solo ≡ Some start → m.cycles + 1 ≡ start + depth → is_epoch before.epoch (epoch_of m) ≡ false → IsScalarCall before (told_of m) m.arch list after
    → IsCalm (cycle_of m list) × ((cycle_of m list).under.pending ≡ []) × (is_epoch after.epoch (epoch_of (cycle_of m list)) ≡ false)
leads_again m before after list start inv on some sixth other given =
    let fresh : Fresh (cycle_of m list) = solo_fresh m list start inv on some sixth in
    let same_one : epoch_of (cycle_of m list) ≡ epoch_of m = same_epoch m (cycle_of m list) (solo_flushes m (cycle_of m list) list start some (cycled m list inv on)) (same-undos m list inv) in
    let same : after ≡ before = given.keeps ∙ ap (λ (c : ScalarCall). c.core) (solo_call before m start some) in
    (fresh.calm, fresh.pending, ap (λ (c : Ahead). is_epoch c.epoch (epoch_of (cycle_of m list))) same ∙ ap (is_epoch before.epoch) same_one ∙ other)

-- ---- flushes, whatever the machine is handed

-- the log stays, or an instruction starts solo and the flushes rise
flush_cases : (b n : Timed) (list : List Record) → Cycled stores_wait b list n → (n.under.log.flushes ≡ b.under.log.flushes) ⊎ ((n.under.log.flushes ≡ b.under.log.flushes + 1) × (n.under.solo ≡ Some (b.cycles + 1)))
flush_cases b n list (idled r) = inl (ap (λ (l : Log). l.flushes) r.log)
flush_cases b n list (ran r) = inl (ap (λ (l : Log). l.flushes) r.log)
flush_cases b n list (barks r) = inr ((ap (λ (l : Log). l.flushes) r.log), r.solo)
flush_cases b n list (differed r) = inr ((ap (λ (l : Log). l.flushes) r.log), r.solo)
flush_cases b n list (ended r) = inl (ap (λ (l : Log). l.flushes) r.log)
flush_cases b n list (finished r) = inl (ap (λ (l : Log). l.flushes) r.log)
flush_cases b n list (waited r) = inl (ap (λ (l : Log). l.flushes) r.log)

flush_cycle : (m : Timed) (list : List Record) → IsMachine m → ((cycle_of m list).under.log.flushes ≡ m.under.log.flushes) ⊎ (((cycle_of m list).under.log.flushes ≡ m.under.log.flushes + 1) × ((cycle_of m list).under.solo ≡ Some (m.cycles + 1)))
flush_cycle m list inv = by-cases (λ (n : Timed). (n.under.log.flushes ≡ m.under.log.flushes) ⊎ ((n.under.log.flushes ≡ m.under.log.flushes + 1) × (n.under.solo ≡ Some (m.cycles + 1)))) m list inv (λ on c. flush_cases m (cycle_of m list) list c) (λ off. inl refl)

past_call : (before after : Ahead) (m : Timed) (list : List Record) → IsPast before m → IsScalarCall before (told_of m) m.arch list after → IsPast after m
past_call before after m list past given =
    subst (λ (c : Ahead). IsPast c m) (sym given.keeps) (epoch_holds (λ (e : ℕ). e ≤ epoch_of m) before (told_of m) m.arch past (omega arith))

pub past_more : (o : Option ℕ) (a b : ℕ) → a ≤ b → IfSome o (λ (e : ℕ). e ≤ a) → IfSome o (λ (e : ℕ). e ≤ b)
past_more None a b h p = tt
past_more (Some e) a b h p = omega arith

past_other : (o : Option ℕ) (a b : ℕ) → a < b → IfSome o (λ (e : ℕ). e ≤ a) → is_epoch o b ≡ false
past_other None a b h p = refl
past_other (Some e) a b h p = grind (arith, nat_tests)

pub stays_past : (m : Timed) (before after : Ahead) (list handed : List Record) → IsMachine m → IsPast before m → IsScalarCall before (told_of m) m.arch list after → IsPast after (cycle_of m handed)
stays_past m before after list handed inv past given =
    let undos = same-undos m handed inv in
    let rise : epoch_of m ≤ epoch_of (cycle_of m handed) = elim (flush_cycle m handed inv) [ inl e ↦ omega arith | inr f ↦ let e = f.0 in omega arith ] in
    past_more after.epoch (epoch_of m) (epoch_of (cycle_of m handed)) rise (past_call before after m list past given)

pub leads_after_flush : (m : Timed) (before after : Ahead) (list handed : List Record) → IsMachine m → IsPast before m → IsScalarCall before (told_of m) m.arch list after → (cycle_of m handed).under.log.flushes ≢ m.under.log.flushes → MayLead (cycle_of m handed) after
leads_after_flush m before after list handed inv past given flush =
    elim (flush_cycle m handed inv) [
      | inl e ↦ absurd (flush e)
      | inr f ↦
          record {
            machine = stays m handed inv;
            epoch = past_other after.epoch (epoch_of m) (epoch_of (cycle_of m handed)) (let e = f.0 in let undos = same-undos m handed inv in omega arith) (past_call before after m list past given);
            rests = λ none. absurd (none-some _ (sym none ∙ f.1));
          }
    ]

-- where the last instruction is taken back
pub leads_after_undo : (m : Timed) (ahead : Ahead) (u : Undo) → IsMachine m → CanUndo m u → IsPast ahead m → MayLead (undone m u) ahead
unfolding undone
leads_after_undo m ahead u inv can past =
    record {
      machine = undone_stays m u inv can.counted;
      epoch = past_other ahead.epoch (epoch_of m) (epoch_of (undone m u)) (omega arith) past;
      rests = λ none. (undone_calm m u inv.config, refl);
    }
