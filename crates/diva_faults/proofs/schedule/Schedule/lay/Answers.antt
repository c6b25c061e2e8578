use Rattle.std.proofs.Common.{refl, sym, subst, ◌∙◌}
use Rattle.std.specs.List.{All}
use Rattle.diva_faults.specs.Rows.{IsScriptRow}
use Rattle.diva_faults.proofs.Laying.{read_hushed, read_laid}
use Rattle.diva_faults.proofs.schedule.Schedule.lay.Goals as goal

pub returns-then-is_hushed : goal.returns-then-is_hushed
returns-then-is_hushed c =
    c.clear.ensures
    ∙ read_hushed c.args.cycle c.args.self.now c.deref.result.now c.args.self.now c.begun_by-begun.result (c.deref.ensures.value ∙ c.self.view_is) refl
    c.begun_by-begun.ensures.begun c.args.list.now (sym c.is_hushed.ensures ∙ c.if-is_hushed.true)

pub returns-else-is_hushed : goal.returns-else-is_hushed
returns-else-is_hushed c =
    c.lay_all.ensures
    ∙ read_laid c.args.cycle c.args.self.now c.deref.result.now c.deref-else-is_hushed.result.now c.begun_by-begun.result
    (c.deref.ensures.value ∙ c.self.view_is) (c.deref-else-is_hushed.ensures.value ∙ c.self.view_is)
    c.begun_by-begun.ensures.begun c.args.list.now (subst (All IsScriptRow) c.self.view_is c.self.invariant.ranges)
    c.begun_before-earlier.result c.begun_before-earlier.ensures.begun (sym c.is_hushed.ensures ∙ c.if-is_hushed.false)
