-- How far the instructions go.
use Rattle.std.proofs.Common.{◌≡◌, ◌≢◌, ℕ, zero, suc, ◌≤◌, ◌<◌, ◌+◌, ◌-◌, Bool, true, false, refl, ap, sym, ◌∙◌, arith, subst, inl, inr}
use Rattle.std.proofs.lemmas.Bool.{cases_Bool, true≢false, eqb-true, and_parts}
use Rattle.diva_isa.specs.State.{State, goes_on}
use Rattle.diva_isa.specs.Step.{step, steps}
use Rattle.diva_core.specs.Timed.{Timed}
use Rattle.diva_core.proofs.Steps.{steps-add, steps-shift}
use Rattle.diva_machine.specs.Counts.{StopsAtOnce}
use Rattle.diva_debug.specs.Moves.{Moves, stands_at, steps_in, steps_until}

-- ---- as many as there are

pub steps_in-most : (k : ℕ) (s : State) → steps_in k s ≤ k
steps_in-most zero s = omega arith
steps_in-most (suc k) s =
    elim (cases_Bool (goes_on s)) [
      | inl on ↦ rw on (let few = steps_in-most k (step s) in omega arith)
      | inr off ↦ rw off (omega arith)
    ]

pub steps_in-off : (k : ℕ) (s : State) → goes_on s ≡ false → steps_in k s ≡ 0
steps_in-off zero s off = refl
steps_in-off (suc k) s off = rw off refl

-- of those that are left, one is taken
pub in-further : (k i : ℕ) (s : State) → i < k → goes_on s ≡ true → steps_in (k - i) s ≡ suc (steps_in (k - (i + 1)) (step s))
in-further k i s h on = let e : k - i ≡ suc (k - (i + 1)) = omega arith in rw (e, on) refl

-- ---- until a pc is reached

pub until-off : (k pc : ℕ) (s : State) → goes_on s ≡ false → steps_until k pc s ≡ 0
until-off zero pc s off = refl
until-off (suc k) pc s off = rw off refl

pub until-there : (k i pc : ℕ) (s : State) → i < k → goes_on s ≡ true → stands_at pc (step s) ≡ true → steps_until (k - i) pc s ≡ 1
until-there k i pc s h on there = let e : k - i ≡ suc (k - (i + 1)) = omega arith in rw (e, on, there) refl

pub until-not : (k i pc : ℕ) (s : State) → i < k → goes_on s ≡ true → stands_at pc (step s) ≡ false → steps_until (k - i) pc s ≡ suc (steps_until (k - (i + 1)) pc (step s))
until-not k i pc s h on there = let e : k - i ≡ suc (k - (i + 1)) = omega arith in rw (e, on, there) refl

pub until-most : (k pc : ℕ) (s : State) → steps_until k pc s ≤ k
until-most zero pc s = omega arith
until-most (suc k) pc s =
    elim (cases_Bool (goes_on s)) [
      | inr off ↦ rw off (omega arith)
      | inl on ↦ elim (cases_Bool (stands_at pc (step s))) [
        | inl there ↦ rw (on, there) (omega arith)
        | inr not ↦ rw (on, not) (let few = until-most k pc (step s) in omega arith)
      ]
    ]

pub Moves-then : (a b : ℕ) (m mid last : Timed) → Moves a m mid → Moves b mid last → Moves (a + b) m last
Moves-then a b m mid last v w =
    let c = v.count in
    let d = w.count in
    record { count = omega arith; arch = rw steps-add (w.arch ∙ ap (steps b) v.arch) }

-- a turn of the loop: from a state that goes on, one instruction
module _ (k i : ℕ) (m mid last : Timed) (short : i < k) (on : goes_on mid.arch ≡ true) (one : Moves 1 mid last) where
  pub in-then : steps_in k m.arch ≡ i + steps_in (k - i) mid.arch → steps_in k m.arch ≡ i + 1 + steps_in (k - (i + 1)) last.arch
  in-then left =
      let e = in-further k i mid.arch short on in
      let f : steps_in (k - (i + 1)) last.arch ≡ steps_in (k - (i + 1)) (step mid.arch) = ap (steps_in (k - (i + 1))) one.arch in
      omega arith

  module _ (pc : ℕ) (left : steps_until k pc m.arch ≡ i + steps_until (k - i) pc mid.arch) where
    pub stops-there : stands_at pc last.arch ≡ true → steps_until k pc m.arch ≡ i + 1
    stops-there there = left ∙ ap (λ n. i + n) (until-there k i pc mid.arch short on (ap (stands_at pc) (sym one.arch) ∙ there))

    pub left-then : stands_at pc last.arch ≡ false → steps_until k pc m.arch ≡ i + 1 + steps_until (k - (i + 1)) pc last.arch
    left-then not =
        let e = until-not k i pc mid.arch short on (ap (stands_at pc) (sym one.arch) ∙ not) in
        let f : steps_until (k - (i + 1)) pc last.arch ≡ steps_until (k - (i + 1)) pc (step mid.arch) = ap (steps_until (k - (i + 1)) pc) one.arch in
        omega arith

pub at-once-then : (m mid last : Timed) → m.count ≤ mid.count → StopsAtOnce m mid → StopsAtOnce mid last → StopsAtOnce m last
at-once-then m mid last up a (inl same) = subst (StopsAtOnce m) (sym same) a
at-once-then m mid last up a (inr b) = inr ((let more = b.0 in omega arith), b.1)

pub moved-up : (n : ℕ) (m last : Timed) → Moves n m last → m.count ≤ last.count
moved-up n m last v = let c = v.count in omega arith

-- `far` is told exactly where as many instructions as there may be were stepped
far-step : (k pc : ℕ) (s : State) (there : Bool) → goes_on s ≡ true → stands_at pc (step s) ≡ there
    → (goes_on (steps (steps_until k pc (step s)) (step s)) ≡ true → (steps (steps_until k pc (step s)) (step s)).pc ≢ pc → steps_until k pc (step s) ≡ k)
    → goes_on (steps (steps_until (suc k) pc s) s) ≡ true → (steps (steps_until (suc k) pc s) s).pc ≢ pc → steps_until (suc k) pc s ≡ suc k
far-step k pc s true on there more goes other =
    let one : steps_until (suc k) pc s ≡ 1 = rw (on, there) refl in
    absurd (other (ap (λ n. (steps n s).pc) one ∙ eqb-true _ _ (and_parts _ _ there).1))
far-step k pc s false on there more goes other =
    let next : steps_until (suc k) pc s ≡ suc (steps_until k pc (step s)) = rw (on, there) refl in
    let at : steps (steps_until (suc k) pc s) s ≡ steps (steps_until k pc (step s)) (step s) = ap (λ n. steps n s) next ∙ sym (steps-shift (steps_until k pc (step s)) s) in
    next ∙ ap suc (more (ap goes_on (sym at) ∙ goes) (λ e. other (ap (λ (t : State). t.pc) at ∙ e)))

pub far-exactly : (k pc : ℕ) (s : State) → goes_on (steps (steps_until k pc s) s) ≡ true → (steps (steps_until k pc s) s).pc ≢ pc → steps_until k pc s ≡ k
far-exactly zero pc s goes other = refl
far-exactly (suc k) pc s goes other =
    elim (cases_Bool (goes_on s)) [
      | inl on ↦ far-step k pc s (stands_at pc (step s)) on refl (far-exactly k pc (step s)) goes other
      | inr off ↦ absurd (let none : steps_until (suc k) pc s ≡ 0 = rw off refl in true≢false (sym goes ∙ ap (λ n. goes_on (steps n s)) none ∙ off))
    ]
