-- Right lists lead the open machine to the same state as the machine with its checker.
use Rattle.std.proofs.Common.{◌≡◌, ◌≤◌, ℕ, zero, suc, ◌+◌, ◌==◌, ◌&&◌, Bool, List, [], ◌∷◌, drop, min, length, Option, Some, None, true, false, refl, sym, ap, ◌∙◌, arith, inl, inr, subst, not, map, if◌then◌else◌}
use Rattle.std.specs.Prelude.{nat_le}
use Rattle.std.specs.Option.{is_some}
use Rattle.std.proofs.lemmas.Bool.{cond_both, cases_Bool, le-leb, lt-ltb, true≢false}
use Rattle.std.proofs.lemmas.Bool.Decides.{nat_tests}
use Rattle.std.proofs.lemmas.Option.{none-some}
use Rattle.diva_decode.specs.declared.instr.Instr.{Instr}
use Rattle.diva_decode.specs.Table.{row_of}
use Rattle.diva_isa.specs.State.{State, goes_on, memory_of, word_of}
use Rattle.diva_isa.specs.End.{IsEnd}
use Rattle.diva_isa.specs.Inner.{HasRoom}
use Rattle.diva_isa.specs.Step.{effect_of, record_by, record_fetched, record_of, step}
use Rattle.diva_isa.specs.declared.effect.Effect.{Effect}
use Rattle.diva_isa.specs.declared.effect.Effect.TheVariants.{Nothing, Writes, Stores, Puts}
use Rattle.diva_isa.specs.declared.record.Record.{Record}
use Rattle.diva_isa.proofs.Ends.{end_record_of}
use Rattle.diva_isa.proofs.Room.{room}
use Rattle.diva_core.specs.declared.differences.Diff.{Diff}
use Rattle.diva_core.specs.Difference.{first_difference}
use Rattle.diva_core.specs.Timed.{Timed, PendingClaim, depth}
use Rattle.diva_core.specs.Cycle.{Commit, Wait, accepts, barked, begun, by_difference, by_front, by_judgement, commits_under, committed, counted, cycle_of, cycle_under, drained, flushed, judged_under, past_front, run_of, stores_wait, watched, with_pending}
use Rattle.diva_core.specs.Machine.{IsMachine, Lives}
use Rattle.diva_core.specs.Right.{AreRight, IsCalm, IsCalmRunning, IsRight, claim_of}
use Rattle.diva_core.proofs.Calming.{AreDueFrom, due_from, stays_calm}
use Rattle.diva_core.proofs.Judging.{past-off}
use Rattle.diva_core.proofs.Keeping.{stays}
use Rattle.diva_core.proofs.Phases.{bark}
use Rattle.diva_core.proofs.Steps.{step-on}
use Rattle.diva_open.proofs.Leaving.{leave_config, leave_idle}
use Rattle.diva_open.proofs.Placing.{no_difference}
use Rattle.diva_open.specs.Laws.{opened}
use Rattle.diva_open.specs.Open.{Open, can_apply, can_go_on, finds_place, idled, is_end, leave, leaves, left, obeyed, open_cycle_of, open_run_of, place_behind}

-- ---- what is due can be applied

finds_room : (s : State) (e : Effect) → HasRoom s e → finds_place s e ≡ true
finds_room s Nothing h = refl
finds_room s (Writes rd value) h = refl
finds_room s (Stores width addr value) h =
    rw (le-leb (memory_of s).base addr h.from, le-leb _ _ h.to) refl
finds_room s (Puts byte) h = lt-ltb _ _ h

by_word : (s : State) (w : ℕ) (o : Option Instr) → (record_by s true w o).end ≡ 0 → is_some o ≡ true
by_word s w None e = absurd (omega arith)
by_word s w (Some i) e = refl

by_fetched : (s : State) (o : Option ℕ) → (record_fetched s o).end ≡ 0 → is_some (row_of (record_fetched s o).word) ≡ true
by_fetched s None e = absurd (omega arith)
by_fetched s (Some w) e = by_word s w (row_of w) e

has_word : (s : State) → (record_of s).end ≡ 0 → is_some (row_of (record_of s).word) ≡ true
unfolding record_of
has_word s e = by_fetched s (word_of s s.pc) e

is_end_true : (end : ℕ) → IsEnd end → is_end end ≡ true
is_end_true end h =
    elim (cases_Bool (nat_le end 10)) [
      | inl low ↦ rw (lt-ltb end 512 h.below, low) refl
      | inr high ↦ (let more = h.halts in rw (lt-ltb end 512 h.below, high, le-leb 256 end (more (grind (arith, nat_tests)))) refl)
    ]

pub due_can_apply : (s : State) → can_apply s (record_of s) ≡ true
unfolding can_apply
due_can_apply s =
    cond_both ((record_of s).end == 0) (can_go_on s (record_of s)) (is_end (record_of s).end) (λ b. b ≡ true)
    (λ on. let e : (record_of s).end ≡ 0 = grind (arith, nat_tests) in rw (has_word s e, finds_room s (effect_of (record_of s)) (room s e)) refl)
    (λ off. is_end_true (record_of s).end (end_record_of s))

-- ---- phase 2

-- what is pending is due, if the machine goes on, and else nothing is pending
record IsDueIn (m : Timed) : Type 0 where
  due : goes_on m.arch ≡ true → AreDueFrom m.arch (map claim_of m.under.pending)
  none : goes_on m.arch ≡ false → m.under.pending ≡ []

-- a due record is done as one that commits
pub obeyed_due : (m : Timed) → obeyed m (record_of m.arch) ≡ committed m (record_of m.arch)
unfolding obeyed
obeyed_due m = rw (due_can_apply m.arch) refl

-- a due claim leaves as one that commits
left_due : (m : Timed) (p : PendingClaim) (rest : List PendingClaim) → m.under.pending ≡ p ∷ rest → p.claim ≡ record_of m.arch → left (opened m) (p ∷ rest) ≡ opened (past_front m)
left_due m p rest e due =
    ap (λ (r : Record). left (opened m) (record p { claim = r } ∷ rest)) due
    ∙ ap (λ (o : Option Diff). let after = obeyed m (record_of m.arch) in let z : Open = record { timed = with_pending after (if goes_on after.arch then rest else []); place = place_behind None m.count o } in z) (no_difference (record_of m.arch))
    ∙ ap (λ (after : Timed). opened (with_pending after (if goes_on after.arch then rest else []))) (obeyed_due m)
    ∙ ap (λ (ps : List PendingClaim). let after = committed m (record_of m.arch) in opened (with_pending after (if goes_on after.arch then drop 1 ps else []))) (sym e)

past_arch : (m : Timed) → (past_front m).arch ≡ step m.arch
unfolding committed
past_arch m = sym (step-on m.arch)

past_pending : (m : Timed) (p : PendingClaim) (rest : List PendingClaim) → m.under.pending ≡ p ∷ rest → goes_on (past_front m).arch ≡ true → (past_front m).under.pending ≡ rest
past_pending m p rest e on = ap (λ (b : Bool). if b then drop 1 m.under.pending else []) on ∙ ap (drop 1) e

past_due : (m : Timed) (p : PendingClaim) (rest : List PendingClaim) → m.under.pending ≡ p ∷ rest → AreDueFrom (step m.arch) (map claim_of rest) → IsDueIn (past_front m)
past_due m p rest e due =
    record {
      due = λ on. subst (λ (ps : List PendingClaim). AreDueFrom (past_front m).arch (map claim_of ps)) (sym (past_pending m p rest e on))
          (subst (λ (s : State). AreDueFrom s (map claim_of rest)) (sym (past_arch m)) due);
      none = λ off. past-off m off;
    }

-- the two machines by what becomes of the front claim, if it is due
by_waits : (m : Timed) (waits : Bool) (x : Open) (y : Timed) → x ≡ opened y
    → (if not waits then x else opened m) ≡ opened (by_judgement m y (if waits then Wait else Commit))
by_waits m true x y e = refl
by_waits m false x y e = e

by_ready : (m : Timed) (ready waits : Bool) (x : Open) (y : Timed) → x ≡ opened y
    → (if ready && not waits then x else opened m) ≡ opened (by_judgement m y (if ready then (if waits then Wait else Commit) else Wait))
by_ready m true waits x y e = by_waits m waits x y e
by_ready m false waits x y e = refl

front_due :
    (n : ℕ) (m : Timed)
    → IsDueIn m
    → ((z : Timed) → IsDueIn z → leave n (opened z) ≡ opened (judged_under stores_wait n z))
    → (ps : List PendingClaim) → m.under.pending ≡ ps
    → (if leaves m ps then leave n (left (opened m) ps) else opened m) ≡ opened (by_judgement m (judged_under stores_wait n (past_front m)) (by_front stores_wait m ps))
front_due n m is ih [] e = refl
front_due n m is ih (p ∷ rest) e =
    elim (cases_Bool (goes_on m.arch)) [
      | inl on ↦
          let dues : AreDueFrom m.arch (claim_of p ∷ map claim_of rest) = subst (λ (ps : List PendingClaim). AreDueFrom m.arch (map claim_of ps)) e (is.due on) in
          let due : p.claim ≡ record_of m.arch = dues.0 on in
          let none : first_difference p.claim (record_of m.arch) ≡ None = ap (λ (r : Record). first_difference r (record_of m.arch)) due ∙ no_difference (record_of m.arch) in
          let ready = nat_le (p.cycle + depth) m.cycles in
          ap (λ (r : Record). if ready && not (stores_wait m.config.stores m.owed r) then leave n (left (opened m) (p ∷ rest)) else opened m) due
          ∙ by_ready m ready (stores_wait m.config.stores m.owed (record_of m.arch)) (leave n (left (opened m) (p ∷ rest))) (judged_under stores_wait n (past_front m))
          (ap (leave n) (left_due m p rest e due) ∙ ih (past_front m) (past_due m p rest e dues.1))
          ∙ ap (λ (o : Option Diff). opened (by_judgement m (judged_under stores_wait n (past_front m)) (if ready then by_difference stores_wait m o else Wait))) (sym none)
      | inr off ↦ absurd (let none = ap length (sym e ∙ is.none off) in omega arith)
    ]

leave_due : (n : ℕ) (m : Timed) → IsDueIn m → leave n (opened m) ≡ opened (judged_under stores_wait n m)
leave_due zero m is = refl
leave_due (suc n) m is = front_due n m is (λ z due. leave_due n z due) m.under.pending refl

-- ---- a cycle

-- what phase 2 does to a calm machine, and what is then accepted
accepted_due : Timed → List Record → Timed
accepted_due m list = accepts m list (judged_under stores_wait m.config.width (drained (begun m)))

module _ (m : Timed) (list : List Record) (inv : IsMachine m) (on : goes_on m.arch ≡ true) (quiet : IsCalmRunning m) where
  begun_due : IsDueIn (drained (begun m))
  unfolding drained
  begun_due = record { due = λ still. due_from _ _ quiet.claims; none = λ off. absurd (true≢false (sym on ∙ off)) }

  leave_begun : leave m.config.width (opened (drained (begun m))) ≡ opened (judged_under stores_wait m.config.width (drained (begun m)))
  leave_begun = leave_due m.config.width (drained (begun m)) begun_due

  -- the numbers that phase 2 and what is accepted keep
  keeps_config : (accepted_due m list).config ≡ m.config
  unfolding drained accepts accepted_due
  keeps_config = ap (λ (o : Open). o.timed.config) (sym leave_begun) ∙ leave_config m.config.width (opened (drained (begun m)))

  keeps_idle : (accepted_due m list).under.idle ≡ m.under.idle
  unfolding drained accepts accepted_due
  keeps_idle = ap (λ (o : Open). o.timed.under.idle) (sym leave_begun) ∙ leave_idle m.config.width (opened (drained (begun m)))

  -- the idle cycles are below the limit, so they are counted
  early : (accepted_due m list).under.idle + 1 ≤ (accepted_due m list).config.limit
  early = rw (keeps_config, keeps_idle) (subst (Lives m) quiet.running inv.lives)

  idle_counted : idled m (accepted_due m list) ≡ counted m (accepted_due m list)
  idle_counted = ap (λ (idle : ℕ). let z : Timed = record (accepted_due m list) { under = record (accepted_due m list).under { idle = idle } } in z) (by_count ((accepted_due m list).count == m.count) (accepted_due m list).config.limit (accepted_due m list).under.idle early)
    where
      by_count : (b : Bool) (limit idle : ℕ) → idle + 1 ≤ limit → (if b then min limit (idle + 1) else 0) ≡ (if b then idle + 1 else 0)
      by_count true limit idle h = omega arith
      by_count false limit idle h = refl

  cycled_due : cycle_of m list ≡ barked (counted m (accepted_due m list))
  unfolding cycle_under commits_under watched drained accepted_due
  cycled_due = rw (on, quiet.running) refl

  -- the watchdog is silent, since the machine stays calm
  silent : IsCalm (cycle_of m list) → barked (counted m (accepted_due m list)) ≡ counted m (accepted_due m list)
  unfolding flushed
  silent calm =
      elim (bark (counted m (accepted_due m list))) [
        | inl q ↦ q.same
        | inr w ↦ absurd (let is = cycled_due ∙ w.flushes in
            none-some _ (sym (calm (ap (λ (z : Timed). goes_on z.arch) is ∙ w.on)).running ∙ ap (λ (z : Timed). z.under.solo) is))
      ]

  pub cycle_due : IsCalm (cycle_of m list) → open_cycle_of (opened m) list ≡ opened (cycle_of m list)
  unfolding open_cycle_of drained accepted_due
  cycle_due calm =
      let same : cycle_of m list ≡ idled m (accepted_due m list) = cycled_due ∙ silent calm ∙ sym idle_counted in
      rw on (ap (λ (o : Open). let z : Open = record o { timed = idled m (accepts m list o.timed) } in z) leave_begun) ∙ ap opened (sym same)

pub ended_due : (m : Timed) (list : List Record) → goes_on m.arch ≡ false → open_cycle_of (opened m) list ≡ opened (cycle_of m list)
unfolding open_cycle_of cycle_under
ended_due m list off = rw off refl

pub right_cycle : (m : Timed) (list : List Record) → IsMachine m → IsCalm m → IsRight m list → open_cycle_of (opened m) list ≡ opened (cycle_of m list)
right_cycle m list inv calm right =
    elim (cases_Bool (goes_on m.arch)) [
      | inl on ↦ cycle_due m list inv on (calm on) (stays_calm m list inv calm right).calm
      | inr off ↦ ended_due m list off
    ]

pub right_run : (m : Timed) (lists : List (List Record)) → IsMachine m → IsCalm m → AreRight m lists → open_run_of (opened m) lists ≡ opened (run_of m lists)
right_run m [] inv calm right = refl
right_run m (list ∷ rest) inv calm right =
    ap (λ (o : Open). open_run_of o rest) (right_cycle m list inv calm right.0)
    ∙ right_run (cycle_of m list) rest (stays m list inv) (stays_calm m list inv calm right.0).calm right.1
