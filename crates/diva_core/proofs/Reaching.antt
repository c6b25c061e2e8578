-- How far a run has come, and where it ends.
use Rattle.std.proofs.Common.{◌≡◌, ℕ, ◌+◌, ◌-◌, ◌*◌, ◌<◌, ◌≤◌, true, false, List, [], ◌∷◌, length, refl, ap, sym, ◌∙◌, arith, ◌⊎◌, inl, inr}
use Rattle.std.proofs.Math.Nat.{mul-le-mul_right}
use Rattle.std.proofs.lemmas.Bool.{cases_Bool, cases_lt, true≢false}
use Rattle.diva_isa.specs.State.{State, goes_on}
use Rattle.diva_isa.specs.declared.record.Record.{Record}
use Rattle.diva_isa.specs.Step.{steps}
use Rattle.diva_core.specs.Timed.{Timed, Config, new_timed, depth}
use Rattle.diva_core.specs.Cycle.{cycle_of, run_of}
use Rattle.diva_core.specs.Machine.{IsMachine, IsConfig, stalled}
use Rattle.diva_core.specs.Headline.{KeepsPace}
use Rattle.diva_core.proofs.Steps.{steps-add, steps-off}
use Rattle.diva_core.proofs.Outcomes.{cycle-off, cycle-cycles}
use Rattle.diva_core.proofs.Keeping.{stays}
use Rattle.diva_core.proofs.Stalling.{stalls, Stalls, most}
use Rattle.diva_core.proofs.Progressing.{same-config, run-stays, run-config}
use Rattle.diva_core.proofs.Starting.{new-machine, headline}

-- how far a machine has come
abbrev far : Timed → ℕ
far m = m.count * (m.config.limit + depth) + stalled m

far-rise : (b n : Timed) → IsMachine b → n.config ≡ b.config → (b.count < n.count) ⊎ Stalls b n → far b < far n
far-rise b n inv z (inl h) =
    let l : n.config.limit ≡ b.config.limit = ap (λ x. x.limit) z in
    let top = most b inv in
    let p : (b.count + 1) * (b.config.limit + depth) ≤ n.count * (b.config.limit + depth) = mul-le-mul_right (b.config.limit + depth) (omega arith) in
    let q : n.count * (b.config.limit + depth) ≡ n.count * (n.config.limit + depth) = ap (λ x. n.count * (x + depth)) (sym l) in
    omega arith
far-rise b n inv z (inr s) =
    let l : n.config.limit ≡ b.config.limit = ap (λ x. x.limit) z in
    let longer = s.longer in
    let q : n.count * (n.config.limit + depth) ≡ b.count * (b.config.limit + depth) = ap (λ c. c * (n.config.limit + depth)) s.same ∙ ap (λ x. b.count * (x + depth)) l in
    omega arith

pub run-off : (lists : List (List Record)) (m : Timed) → goes_on m.arch ≡ false → run_of m lists ≡ m
run-off [] m off = refl
run-off (list ∷ rest) m off = ap (λ n. run_of n rest) (cycle-off m list off) ∙ run-off rest m off

was-on : (lists : List (List Record)) (m : Timed) → goes_on (run_of m lists).arch ≡ true → goes_on m.arch ≡ true
was-on lists m on = elim (cases_Bool (goes_on m.arch)) [ inl e ↦ e | inr f ↦ absurd (true≢false (sym on ∙ ap (λ n. goes_on n.arch) (run-off lists m f) ∙ f)) ]

run-far : (lists : List (List Record)) (m : Timed) → IsMachine m → far m + (run_of m lists).cycles ≤ far (run_of m lists) + m.cycles
run-far [] m inv = omega arith
run-far (list ∷ rest) m inv =
    elim (cases_Bool (goes_on m.arch)) [
      | inr off ↦ rw (run-off (list ∷ rest) m off) (omega arith)
      | inl on ↦
          let one : far m < far (cycle_of m list) = far-rise m (cycle_of m list) inv (same-config m list inv) (stalls m list inv on) in
          let next : (cycle_of m list).cycles ≡ m.cycles + 1 = cycle-cycles m list inv on in
          let more = run-far rest (cycle_of m list) (stays m list inv) in
          omega arith
    ]

-- in d times W + 6 cycles d instructions are counted
pub run-pace : (m : Timed) (lists : List (List Record)) → IsMachine m → KeepsPace m (run_of m lists)
run-pace m lists inv d long =
    let n : Timed = run_of m lists in
    let z : n.config.limit ≡ m.config.limit = ap (λ x. x.limit) (run-config m lists inv) in
    let top : stalled n < n.config.limit + depth = most n (run-stays m lists inv) in
    let f : far m + n.cycles ≤ far n + m.cycles = run-far lists m inv in
    let q : n.count * (n.config.limit + depth) ≡ n.count * (m.config.limit + depth) = ap (λ x. n.count * (x + depth)) z in
    elim (cases_lt n.count (m.count + d)) [
      | inl h ↦ absurd (let p : (n.count + 1) * (m.config.limit + depth) ≤ (m.count + d) * (m.config.limit + depth) = mul-le-mul_right (m.config.limit + depth) (omega arith) in omega arith)
      | inr h ↦ h
    ]

-- a machine that goes on has run a cycle for each list
run-cycles : (lists : List (List Record)) (m : Timed) → IsMachine m → goes_on (run_of m lists).arch ≡ true → (run_of m lists).cycles ≡ m.cycles + length lists
run-cycles [] m inv on = omega arith
run-cycles (list ∷ rest) m inv on =
    let more = run-cycles rest (cycle_of m list) (stays m list inv) on in
    let next = cycle-cycles m list inv (was-on (list ∷ rest) m on) in
    omega arith

steps-past : (n k : ℕ) (s : State) → n ≤ k → goes_on (steps n s) ≡ false → steps k s ≡ steps n s
steps-past n k s h off =
    ap (λ j. steps j s) (omega arith) ∙ steps-add n (k - n) s ∙ steps-off (k - n) (steps n s) off

ends-going : (s t : State) (n c : ℕ) → t ≡ steps c s → goes_on (steps n s) ≡ false → (goes_on t ≡ true → n ≤ c) → t ≡ steps n s
ends-going s t n c e off more =
    elim (cases_Bool (goes_on t)) [
      | inl on ↦ e ∙ steps-past n c s (more on) off
      | inr f ↦ e ∙ ends-by (cases_lt c n) (ap goes_on (sym e) ∙ f)
    ]
  where
    ends-by : (c < n) ⊎ (n ≤ c) → goes_on (steps c s) ≡ false → steps c s ≡ steps n s
    ends-by (inl h) f = sym (steps-past c n s (omega arith) f)
    ends-by (inr h) f = steps-past n c s h off

-- where the table ends after n instructions, n times W + 6 cycles lead to that end, whatever is handed over
pub sameness : (z : Config) (s : State) (lists : List (List Record)) (n : ℕ) → IsConfig z → s.instret ≡ 0 → goes_on (steps n s) ≡ false → n * (z.limit + depth) ≤ length lists → (run_of (new_timed z s) lists).arch ≡ steps n s
sameness z s lists n ok none off long =
    ends-going s (run_of (new_timed z s) lists).arch n (run_of (new_timed z s) lists).count (headline z s lists ok none) off (λ on.
    let all = run-cycles lists (new_timed z s) (new-machine z s ok none) on in
    let h = run-pace (new_timed z s) lists (new-machine z s ok none) n (omega arith) in
    omega arith)
