-- A machine that goes on commits within W + 6 cycles, W being the watchdog's limit.
use Rattle.std.proofs.Common.{◌≡◌, ℕ, suc, ◌+◌, ◌-◌, ◌/◌, ◌<◌, ◌≤◌, true, List, [], ◌∷◌, length, refl, ap, ◌∙◌, arith, ◌⊎◌, inl, inr}
use Rattle.std.proofs.Math.Nat.{div-lt_iff_lt-mul}
use Rattle.diva_isa.specs.declared.record.Record.{Record}
use Rattle.diva_isa.specs.Step.{steps}
use Rattle.diva_isa.specs.State.{goes_on}
use Rattle.diva_core.specs.Timed.{Timed, depth}
use Rattle.diva_core.specs.Cycle.{cycle_of, run_of}
use Rattle.diva_core.specs.Machine.{IsMachine, stalled}
use Rattle.diva_core.specs.Headline.{Rises, HasPace}
use Rattle.diva_core.proofs.Steps.{steps-add}
use Rattle.diva_core.proofs.Outcomes.{by-cases, any-base, rises, Rises-none}
use Rattle.diva_core.proofs.Stalling.{Stalls, stalls, most}
use Rattle.diva_core.proofs.Keeping.{stays}

-- ---- runs

pub same-config : (m : Timed) (list : List Record) → IsMachine m → (cycle_of m list).config ≡ m.config
same-config m list inv = by-cases (λ n. n.config ≡ m.config) m list inv (λ on c. (any-base m list _ c).base.config) (λ off. refl)

pub same-undos : (m : Timed) (list : List Record) → IsMachine m → (cycle_of m list).under.undos ≡ m.under.undos
same-undos m list inv = by-cases (λ n. n.under.undos ≡ m.under.undos) m list inv (λ on c. (any-base m list _ c).base.undos) (λ off. refl)

pub run-stays : (m : Timed) (lists : List (List Record)) → IsMachine m → IsMachine (run_of m lists)
run-stays m [] inv = inv
run-stays m (list ∷ rest) inv = run-stays (cycle_of m list) rest (stays m list inv)

pub run-config : (m : Timed) (lists : List (List Record)) → IsMachine m → (run_of m lists).config ≡ m.config
run-config m [] inv = refl
run-config m (list ∷ rest) inv = run-config (cycle_of m list) rest (stays m list inv) ∙ same-config m list inv

pub run-undos : (m : Timed) (lists : List (List Record)) → IsMachine m → (run_of m lists).under.undos ≡ m.under.undos
run-undos m [] inv = refl
run-undos m (list ∷ rest) inv = run-undos (cycle_of m list) rest (stays m list inv) ∙ same-undos m list inv

pub Rises-trans : (m mid last : Timed) → Rises m mid → Rises mid last → Rises m last
Rises-trans m mid last a b =
    let e : (mid.count - m.count) + (last.count - mid.count) ≡ last.count - m.count = (let x = a.counted in let y = b.counted in omega arith) in
    let s : last.arch ≡ steps ((mid.count - m.count) + (last.count - mid.count)) m.arch = rw (steps-add, ← a.stepped) b.stepped in
    record { counted = (let x = a.counted in let y = b.counted in omega arith); stepped = rw e at s }

pub run-rises : (m : Timed) (lists : List (List Record)) → IsMachine m → Rises m (run_of m lists)
run-rises m [] inv = Rises-none m
run-rises m (list ∷ rest) inv = Rises-trans m (cycle_of m list) _ (rises m list inv) (run-rises (cycle_of m list) rest (stays m list inv))

within-stall :
    (m n last : Timed) (k : ℕ)
    → n.config ≡ m.config
    → Stalls m n
    → (n.count < last.count) ⊎ (stalled n + k < n.config.limit + depth)
    → (m.count < last.count) ⊎ (stalled m + suc k < m.config.limit + depth)
within-stall m n last k z s (inl h) = inl (let c = s.same in omega arith)
within-stall m n last k z s (inr h) = inr (let c = s.longer in let l : n.config.limit ≡ m.config.limit = ap (λ x. x.limit) z in omega arith)

within-cases :
    (m n last : Timed) (k : ℕ)
    → n.config ≡ m.config
    → n.count ≤ last.count
    → (goes_on n.arch ≡ true → (n.count < last.count) ⊎ (stalled n + k < n.config.limit + depth))
    → (m.count < n.count) ⊎ Stalls m n
    → (m.count < last.count) ⊎ (stalled m + suc k < m.config.limit + depth)
within-cases m n last k z more ih (inl h) = inl (omega arith)
within-cases m n last k z more ih (inr s) = within-stall m n last k z s (ih s.on)

within : (lists : List (List Record)) (m : Timed) → IsMachine m → goes_on m.arch ≡ true → (m.count < (run_of m lists).count) ⊎ (stalled m + length lists < m.config.limit + depth)
within [] m inv on = inr (let h = most m inv in omega arith)
within (list ∷ rest) m inv on =
    within-cases m (cycle_of m list) (run_of (cycle_of m list) rest) (length rest) (same-config m list inv)
    (run-rises (cycle_of m list) rest (stays m list inv)).counted
    (within rest (cycle_of m list) (stays m list inv))
    (stalls m list inv on)

-- every W + 6 cycles from a machine that goes on raise the count
pub progress : (m : Timed) (lists : List (List Record)) → IsMachine m → goes_on m.arch ≡ true → m.config.limit + depth ≤ length lists → m.count < (run_of m lists).count
progress m lists inv on long = elim (within lists m inv on) [ inl h ↦ h | inr h ↦ absurd (omega arith) ]

-- ---- the pace

-- what the pace says of the count alone
pub has_pace : (m : Timed) → IsMachine m → HasPace m
has_pace m inv none =
    let top = most m inv in
    let p = inv.pace none in
    let low : m.cycles / (m.config.limit + depth) < m.count + 1 = (div-lt_iff_lt-mul {k = m.config.limit + depth} (omega arith)).1 (omega arith) in
    omega arith
