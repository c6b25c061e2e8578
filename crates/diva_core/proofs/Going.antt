-- Every counted instruction was one of a state that went on, so the state's own number of instructions is the count.
use Rattle.std.proofs.Common.{◌≡◌, ℕ, zero, suc, ◌+◌, ◌-◌, ◌<◌, ◌≤◌, true, List, refl, ap, sym, ◌∙◌, arith, inl, inr}
use Rattle.std.proofs.lemmas.Bool.{cases_Bool, true≢false}
use Rattle.diva_isa.specs.State.{State, goes_on}
use Rattle.diva_isa.specs.declared.record.Record.{Record}
use Rattle.diva_isa.specs.Step.{record_of, apply, step, steps}
use Rattle.diva_core.specs.Cycle.{Rule}
use Rattle.diva_core.specs.Timed.{Timed}
use Rattle.diva_core.specs.Machine.{IsMachine}
use Rattle.diva_core.proofs.Steps.{steps-add, steps-off, step-on}
use Rattle.diva_core.proofs.Cycling.{Cycled, idled, ran, barks, differed, ended, finished, waited}
use Rattle.diva_core.proofs.Outcomes.{AnyBase, any-base}

-- what goes on went on before
pub went-on : (n : ℕ) (s : State) → goes_on (steps n s) ≡ true → goes_on s ≡ true
went-on n s on = elim (cases_Bool (goes_on s)) [ inl e ↦ e | inr f ↦ absurd (true≢false (sym on ∙ ap goes_on (steps-off n s f) ∙ f)) ]

pub went-before : (j k : ℕ) (s : State) → j ≤ k → goes_on (steps k s) ≡ true → goes_on (steps j s) ≡ true
went-before j k s h on =
    let e : j + (k - j) ≡ k = omega arith in
    went-on (k - j) (steps j s) (ap goes_on (sym (steps-add j (k - j) s) ∙ ap (λ i. steps i s) e) ∙ on)

-- each instruction that a cycle counts is one of a state that went on
pub each-went : {rule : Rule} (b : Timed) (list : List Record) (n : Timed) → goes_on b.arch ≡ true → Cycled rule b list n → (j : ℕ) → j < n.count - b.count → goes_on (steps j b.arch) ≡ true
each-went b list n on (idled r) j h = absurd (let c = r.base.counted in omega arith)
each-went b list n on (ran r) j h = went-before j (suc r.k) b.arch (let c = r.base.counted in omega arith) (ap goes_on (sym r.base.stepped) ∙ r.on)
each-went b list n on (barks r) j h = absurd (let c = r.base.counted in omega arith)
each-went b list n on (differed r) j h = went-before j r.k b.arch (let c = r.base.counted in omega arith) (ap goes_on (sym r.base.stepped) ∙ r.on)
each-went b list n on (ended r) j h = went-before j r.k b.arch (let c = r.base.counted in omega arith) r.went
each-went b list n on (finished r) j h = went-before j 0 b.arch (let c = r.base.counted in omega arith) on
each-went b list n on (waited r) j h = absurd (let c = r.base.counted in omega arith)

-- ---- how many instructions led to a state

apply_instret : (s : State) (r : Record) → goes_on s ≡ true → (apply s r).instret ≡ s.instret + 1
unfolding apply
apply_instret s r on = rw on refl

steps_instret : (k : ℕ) (s : State) → ((j : ℕ) → j < k → goes_on (steps j s) ≡ true) → (steps k s).instret ≡ s.instret + k
steps_instret zero s went = omega arith
steps_instret (suc k) s went =
    let before = steps_instret k s (λ j h. went j (omega arith)) in
    let one : (step (steps k s)).instret ≡ (steps k s).instret + 1 = ap (λ (t : State). t.instret) (step-on (steps k s)) ∙ apply_instret (steps k s) (record_of (steps k s)) (went k (omega arith)) in
    omega arith

-- after a cycle they are those that were counted
pub counted-cases : {rule : Rule} (b : Timed) (list : List Record) (n : Timed) → IsMachine b → goes_on b.arch ≡ true → Cycled rule b list n → n.arch.instret ≡ n.count
counted-cases {rule} b list n inv on c =
    let a : AnyBase rule b n = any-base b list n c in
    let more : n.count ≡ b.count + a.k = a.base.counted in
    let before : b.arch.instret ≡ b.count = inv.counted in
    let led : (steps a.k b.arch).instret ≡ b.arch.instret + a.k = steps_instret a.k b.arch (λ j h. each-went b list n on c j (omega arith)) in
    let there : n.arch.instret ≡ (steps a.k b.arch).instret = ap (λ (t : State). t.instret) a.base.stepped in
    omega arith
