-- Each hart that goes on counts an instruction within W + 6 cycles, W being the watchdog's limit.
use Rattle.std.proofs.Common.{◌≡◌, ℕ, suc, ◌+◌, ◌<◌, ◌≤◌, List, [], ◌∷◌, length, ap, arith, subst, ◌⊎◌, inl, inr}
use Rattle.std.proofs.lemmas.Bool.{eqb-true}
use Rattle.diva_isa.specs.declared.record.Record.{Record}
use Rattle.diva_core.specs.Timed.{depth}
use Rattle.diva_core.specs.Machine.{IsMachine, stalled}
use Rattle.diva_core.proofs.Progressing.{has_pace}
use Rattle.diva_core.proofs.Stalling.{Stalls, most}
use Rattle.diva_duo.specs.Duo.{Duo, timed, duo_cycle_of}
use Rattle.diva_duo.specs.Which.{Which, hart_at, machine_at}
use Rattle.diva_duo.specs.Between.{IsDuo, duo_run, WillGo, HasGone}
use Rattle.diva_duo.proofs.Readying.{hart_holds}
use Rattle.diva_duo.proofs.Cycles.{continues, stalls_at, stays}

-- a hart that goes on is a machine
is_machine_at : (w : Which) (d : Duo) → IsDuo d → (hart_at w d).state.end ≡ 0 → IsMachine (machine_at w d)
is_machine_at w d inv on =
    let h = hart_holds w d inv in subst (λ a. IsMachine (timed a d.memory (hart_at w d))) (h.running on) h.machine

pub has_gone : (w : Which) (d : Duo) → IsDuo d → HasGone w d
has_gone w d inv on = has_pace (machine_at w d) (is_machine_at w d inv on) (hart_holds w d inv).undos

abbrev Pair : Type 0
Pair = List Record × List Record

run_counts : (w : Which) (lists : List Pair) (d : Duo) → IsDuo d → (hart_at w d).state.instret ≤ (hart_at w (duo_run d lists)).state.instret
run_counts w [] d inv = omega arith
run_counts w (l ∷ rest) d inv =
    let c = (continues d inv l.0 l.1 w).count in
    let r = run_counts w rest (duo_cycle_of d l.0 l.1) (stays d inv l.0 l.1) in
    omega arith

-- it has counted by the end of the lists, or it has not stalled for so long
within_cases :
    (w : Which) (d e last : Duo) (k : ℕ)
    → (hart_at w e).config ≡ (hart_at w d).config
    → (hart_at w e).state.instret ≤ (hart_at w last).state.instret
    → ((hart_at w e).state.end ≡ 0 → ((hart_at w e).state.instret < (hart_at w last).state.instret) ⊎ (stalled (machine_at w e) + k < (hart_at w e).config.limit + depth))
    → ((hart_at w d).state.instret < (hart_at w e).state.instret) ⊎ Stalls (machine_at w d) (machine_at w e)
    → ((hart_at w d).state.instret < (hart_at w last).state.instret) ⊎ (stalled (machine_at w d) + suc k < (hart_at w d).config.limit + depth)
within_cases w d e last k z more ih (inl h) = inl (omega arith)
within_cases w d e last k z more ih (inr s) =
    elim (ih (eqb-true _ _ s.on)) [
      | inl h ↦ inl (let c = s.same in omega arith)
      | inr h ↦ inr (let c = s.longer in let l : (hart_at w e).config.limit ≡ (hart_at w d).config.limit = ap (λ x. x.limit) z in omega arith)
    ]

within : (w : Which) (lists : List Pair) (d : Duo) → IsDuo d → (hart_at w d).state.end ≡ 0
    → ((hart_at w d).state.instret < (hart_at w (duo_run d lists)).state.instret) ⊎ (stalled (machine_at w d) + length lists < (hart_at w d).config.limit + depth)
within w [] d inv on = inr (let h = most (machine_at w d) (is_machine_at w d inv on) in omega arith)
within w (l ∷ rest) d inv on =
    let e = duo_cycle_of d l.0 l.1 in
    let sound = stays d inv l.0 l.1 in
    within_cases w d e (duo_run e rest) (length rest) (continues d inv l.0 l.1 w).config (run_counts w rest e sound) (within w rest e sound) (stalls_at d inv l.0 l.1 w on)

pub will_go : (w : Which) (d : Duo) → IsDuo d → WillGo w d
will_go w d inv on lists long = elim (within w lists d inv on) [ inl h ↦ h | inr h ↦ absurd (omega arith) ]
