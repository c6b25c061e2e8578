use Rattle.std.proofs.Common.{◌<◌, length, sym, ◌∙◌, ap, subst, arith, inl, inr}
use Rattle.std.proofs.lemmas.Bool.{cases_Bool, eqb-true}
use Rattle.diva_commit.specs.Committing.{is_committed}
use Rattle.diva_commit.proofs.Answering.{held_by}
use Rattle.diva_duo.specs.Duo.{Hart}
use Rattle.diva_duo.proofs.hart.Hart.settle.Goals as goal

pub returns-clause-room : goal.returns-clause-room
returns-clause-room c = λ free.
    let room = subst (λ (h : Hart). length h.state.buffer < h.config.stores) (sym c.self.view_is) free in
    elim (cases_Bool (is_committed c.commit.result)) [
      | inl is ↦ is
      | inr not ↦ absurd (let full = eqb-true _ _ (held_by _ _ (ap is_committed (sym c.commit.ensures.answer) ∙ not)).1 in omega arith)
    ]
