-- The two never lie to the same question: after it each is where the other was.
use Rattle.std.proofs.Common.{◌≡◌, Bool, true, false, not, refl, sym, ap, ◌∙◌, inl, inr}
use Rattle.diva_vote.specs.declared.lanes.Honest.{Honest}
use Rattle.diva_vote.specs.Votes.{AtLeastTwo}
use Rattle.diva_vote.proofs.Polling.{always_by}
use Rattle.diva_vote_tests.specs.declared.tests.lanes.Alternating.{Alternating}
use Rattle.diva_vote_tests.proofs.tests.lanes.recall_alternating.Goals as goal

-- of two that never both lie one is right, and so is a third
two_by : (lies first second : Bool) {X Y Z : Type 0} → first ≡ lies → second ≡ not first → (first ≡ false → X) → (second ≡ false → Y) → Z → AtLeastTwo X Y Z
two_by true first second is other x y z = inr (inr (y (other ∙ ap not is), z))
two_by false first second is other x y z = inr (inl (x is, z))

pub returns : goal.returns
returns c =
    always_by _ _ _ (λ (a b : Alternating) (l : Honest). b.lies ≡ not a.lies)
    (λ poll a b l a' b' l' h x y z. (two_by a.lies a.lies b.lies refl h x.1 y.1 z.0, y.0 ∙ ap not (h ∙ sym x.0)))
    _ _ _ c.requires
