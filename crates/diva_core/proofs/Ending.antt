-- Every counted instruction was one of a state that went on, so a machine that has ended stands where the table ends.
use Rattle.std.proofs.Common.{◌≡◌, ℕ, ◌+◌, ◌-◌, ◌*◌, ◌<◌, ◌≤◌, true, false, List, [], ◌∷◌, length, refl, ap, sym, ◌∙◌, arith, inl, inr}
use Rattle.std.proofs.lemmas.Bool.{cases_Bool, cases_lt, true≢false}
use Rattle.diva_isa.specs.State.{State, goes_on}
use Rattle.diva_isa.specs.declared.record.Record.{Record}
use Rattle.diva_isa.specs.Step.{steps}
use Rattle.diva_core.specs.Timed.{Timed, Config, new_timed, depth}
use Rattle.diva_core.specs.Cycle.{cycle_of, run_of}
use Rattle.diva_core.specs.Machine.{IsMachine, IsConfig}
use Rattle.diva_core.specs.Headline.{Rises, EndsAfter}
use Rattle.diva_core.proofs.Steps.{steps-add}
use Rattle.diva_core.proofs.Cycling.{cycled}
use Rattle.diva_core.proofs.Going.{each-went}
use Rattle.diva_core.proofs.Outcomes.{rises, cycle-off}
use Rattle.diva_core.proofs.Keeping.{stays}
use Rattle.diva_core.proofs.Starting.{new-machine}
use Rattle.diva_core.proofs.Reaching.{sameness}

-- the machine stands where the table does after the counted instructions, each of a state that went on
pub record Follows (start : State) (m : Timed) : Type 0 where
  pub at : m.arch ≡ steps m.count start
  pub went : (j : ℕ) → j < m.count → goes_on (steps j start) ≡ true

Follows-on : (start : State) (m : Timed) (list : List Record) → IsMachine m → goes_on m.arch ≡ true → Follows start m → Follows start (cycle_of m list)
Follows-on start m list inv on f =
    let n : Timed = cycle_of m list in
    let r : Rises m n = rises m list inv in
    record {
      at = r.stepped ∙ ap (steps (n.count - m.count)) f.at ∙ sym (steps-add m.count (n.count - m.count) start) ∙ ap (λ k. steps k start) (let c = r.counted in omega arith);
      went = λ j h. elim (cases_lt j m.count) [
        | inl below ↦ f.went j below
        | inr above ↦ let e : m.count + (j - m.count) ≡ j = omega arith in
            ap goes_on (sym (ap (steps (j - m.count)) f.at ∙ sym (steps-add m.count (j - m.count) start) ∙ ap (λ k. steps k start) e))
            ∙ each-went m list n on (cycled m list inv on) (j - m.count) (let c = r.counted in omega arith)
      ];
    }

Follows-cycle : (start : State) (m : Timed) (list : List Record) → IsMachine m → Follows start m → Follows start (cycle_of m list)
Follows-cycle start m list inv f =
    elim (cases_Bool (goes_on m.arch)) [
      | inl on ↦ Follows-on start m list inv on f
      | inr off ↦ rw (cycle-off m list off) f
    ]

run-follows : (start : State) (lists : List (List Record)) (m : Timed) → IsMachine m → Follows start m → Follows start (run_of m lists)
run-follows start [] m inv f = f
run-follows start (list ∷ rest) m inv f = run-follows start rest (cycle_of m list) (stays m list inv) (Follows-cycle start m list inv f)

pub follows : (z : Config) (s : State) (lists : List (List Record)) → IsConfig z → s.instret ≡ 0 → Follows s (run_of (new_timed z s) lists)
follows z s lists ok none = run-follows s lists (new_timed z s) (new-machine z s ok none) (record { at = refl; went = λ j h. absurd (omega arith) })

-- a machine that has ended has counted exactly the instructions after which the table ends
pub ended_exactly : (s : State) (m : Timed) (n : ℕ) → Follows s m → goes_on m.arch ≡ false → EndsAfter n s → (m.arch ≡ steps n s) × (m.count ≡ n)
ended_exactly s m n f off ends =
    let least : m.count ≤ n = elim (cases_lt n m.count) [ inl h ↦ absurd (true≢false (sym (f.went n h) ∙ ends.ended)) | inr h ↦ h ] in
    let most : n ≤ m.count = elim (cases_lt m.count n) [ inl h ↦ absurd (true≢false (sym (ends.before m.count h) ∙ ap goes_on (sym f.at) ∙ off)) | inr h ↦ h ] in
    let same : m.count ≡ n = omega arith in
    (f.at ∙ ap (λ k. steps k s) same, same)

-- where the table ends after n instructions, n times W + 6 cycles lead to just that end, whatever is handed over
pub same_end :
    (z : Config) (s : State) (lists : List (List Record)) (n budget : ℕ)
    → IsConfig z
    → s.instret ≡ 0
    → (goes_on (run_of (new_timed z s) lists).arch ≡ true → length lists ≡ budget)
    → EndsAfter n s
    → n * (z.limit + depth) ≤ budget
    → ((run_of (new_timed z s) lists).arch ≡ steps n s) × ((run_of (new_timed z s) lists).count ≡ n)
same_end z s lists n budget ok none whole ends long =
    elim (cases_Bool (goes_on (run_of (new_timed z s) lists).arch)) [
      | inl on ↦ absurd (let all = whole on in true≢false (sym on ∙ ap goes_on (sameness z s lists n ok none ends.ended (omega arith)) ∙ ends.ended))
      | inr off ↦ ended_exactly s (run_of (new_timed z s) lists) n (follows z s lists ok none) off ends
    ]
