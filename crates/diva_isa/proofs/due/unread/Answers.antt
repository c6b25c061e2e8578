use Rattle.std.proofs.Common.{Some, None, ap, sym, ◌∙◌}
use Rattle.diva_isa.specs.Step.{record_fetched}
use Rattle.diva_isa.proofs.Unread.{unread}
use Rattle.diva_isa.proofs.due.unread.Goals as goal

pub returns-in-Some : goal.returns-in-Some
returns-in-Some c = λ s at.
    c.trap_before.ensures ∙ unread s c.args.pc (Some c.in-Some.word) (rw c.in-Some.is at c.requires) at ∙ ap (record_fetched s) (sym c.in-Some.is)

pub returns-in-None : goal.returns-in-None
returns-in-None c = λ s at.
    c.trap_before-in-None.ensures ∙ unread s c.args.pc None (rw c.in-None.is at c.requires) at ∙ ap (record_fetched s) (sym c.in-None.is)
