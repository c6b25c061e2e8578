-- The steps of the instructions that were counted, and the records that were due at each.
use Rattle.std.proofs.Common.{◌≡◌, ℕ, zero, suc, ◌+◌, ◌-◌, ◌==◌, ◌≤◌, List, ◌∷◌, ◌++◌, length, zero-add, refl, ap, sym, ◌∙◌, arith, inl, inr}
use Rattle.std.proofs.lemmas.Bool.{eq-eqb, eqb-true, false_from_ne_true}
use Rattle.std.proofs.lemmas.Bool.Decides.{eqb_tells}
use Rattle.std.proofs.lemmas.List.{append-nil}
use Rattle.diva_isa.specs.State.{State}
use Rattle.diva_isa.specs.Step.{apply, record_of, step, steps}
use Rattle.diva_isa.specs.declared.record.Record.{Record}
use Rattle.diva_core.specs.Cycle.{accepts, counted, flushed, watched}
use Rattle.diva_core.specs.Timed.{Timed}
use Rattle.diva_core.specs.Headline.{Rises, dues}
use Rattle.diva_core.proofs.Phases.{bark}
use Rattle.diva_core.proofs.Steps.{steps-add, steps-shift}

-- the due records of further instructions
pub dues-add : (k d : ℕ) (s : State) → dues (k + d) s ≡ dues k s ++ dues d (steps k s)
dues-add zero d s = rw zero-add refl
dues-add (suc k) d s =
    let e : suc k + d ≡ suc (k + d) = omega arith in
    rw e (ap (λ (xs : List Record). record_of s ∷ xs) (dues-add k d (step s) ∙ ap (λ t. dues k (step s) ++ dues d t) (steps-shift k s)))

pub length-dues : (k : ℕ) (s : State) → length (dues k s) ≡ k
length-dues zero s = refl
length-dues (suc k) s = let e = length-dues k (step s) in omega arith

-- none came due of none that were counted
pub dues_none : (n : ℕ) (s : State) (rs : List Record) → rs ≡ rs ++ dues (n - n) s
dues_none n s rs = let none : n - n ≡ 0 = omega arith in sym (ap (λ (k : ℕ). rs ++ dues k s) none ∙ append-nil rs)

-- nothing was counted exactly where no record came due
pub none-due : (a b : ℕ) (s : State) (records : List Record) → a ≤ b → records ≡ dues (b - a) s → (b == a) ≡ (length records == 0)
none-due a b s records h is =
    let len : length records ≡ b - a = ap length is ∙ length-dues (b - a) s in
    elim (eqb_tells b a) [
      | inl same ↦ same.0 ∙ sym (eq-eqb (length records) 0 (let e = same.1 in omega arith))
      | inr more ↦ more.0 ∙ sym (false_from_ne_true _ (λ t. more.1 (let e = eqb-true (length records) 0 t in omega arith)))
    ]

-- ---- of machines

pub rises_none : (m : Timed) → Rises m m
rises_none m =
    record { counted = omega arith; stepped = (let none : m.count - m.count ≡ 0 = omega arith in sym (ap (λ (k : ℕ). steps k m.arch) none)) }

-- a commit is one step
pub rises_one : (m n : Timed) → n.arch ≡ apply m.arch (record_of m.arch) → n.count ≡ m.count + 1 → Rises m n
unfolding step
rises_one m n is more =
    record { counted = omega arith; stepped = (let one : n.count - m.count ≡ 1 = omega arith in is ∙ sym (ap (λ (k : ℕ). steps k m.arch) one)) }

module _ (m n o : Timed) (first : Rises m n) (then : Rises n o) where
  sum : (n.count - m.count) + (o.count - n.count) ≡ o.count - m.count
  sum = let a = first.counted in let b = then.counted in omega arith

  pub rises_then : Rises m o
  rises_then =
      record {
        counted = (let a = first.counted in let b = then.counted in omega arith);
        stepped = then.stepped ∙ ap (steps (o.count - n.count)) first.stepped ∙ sym (steps-add (n.count - m.count) (o.count - n.count) m.arch) ∙ ap (λ k. steps k m.arch) sum;
      }

  pub dues_then : dues (n.count - m.count) m.arch ++ dues (o.count - n.count) n.arch ≡ dues (o.count - m.count) m.arch
  dues_then =
      ap (λ u. dues (n.count - m.count) m.arch ++ dues (o.count - n.count) u) first.stepped
      ∙ sym (dues-add (n.count - m.count) (o.count - n.count) m.arch)
      ∙ ap (λ k. dues k m.arch) sum

  pub dues_joined : (xs ys : List Record) → xs ≡ dues (n.count - m.count) m.arch → ys ≡ xs ++ dues (o.count - n.count) n.arch → ys ≡ dues (o.count - m.count) m.arch
  dues_joined xs ys a b = b ∙ ap (λ (zs : List Record). zs ++ dues (o.count - n.count) n.arch) a ∙ dues_then

-- phases 4 and 5 count no instruction
pub accepts-count : (before m : Timed) (list : List Record) → (accepts before list m).count ≡ m.count
unfolding accepts
accepts-count before m list = refl

pub watched-count : (before m : Timed) → (watched before m).count ≡ m.count
unfolding watched flushed
watched-count before m = elim (bark (counted before m)) [ inl q ↦ ap (λ z. z.count) q.same | inr w ↦ ap (λ z. z.count) w.flushes ]
