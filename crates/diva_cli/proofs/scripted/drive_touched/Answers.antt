-- The turns of a core under a script are those of the core that was lent.
use Rattle.std.proofs.Common.{List, rules, subst, sym}
use Rattle.diva_isa.specs.declared.record.Record.{Record}
use Rattle.diva_machine.specs.Asked.{asked_over}
use Rattle.diva_cli.specs.Lanes.{are_asked}
use Rattle.diva_faults.specs.Spoiled.{spoiled}
use Rattle.diva_faults.proofs.Spoiling.{Turns-spoiled}
use Rattle.diva_cli.proofs.Handing.{drives_for}
use Rattle.diva_cli.proofs.scripted.drive_touched.Goals as goal

pub returns-clause-drives : goal.returns-clause-drives
returns-clause-drives g c =
    let t = Turns-spoiled g.C.Core.gives _ _ _ _ _ _ _ c.new-faulty.ensures.inner c.new-faulty.ensures.script (search rules) c.drive_checked.ensures.drives.drives.turns in
    drives_for (spoiled c.args.script.now g.C.Core.gives) _ _ _ _ _ c.drive_checked.result _
    t.turns
    (subst (λ (lists : List (List Record)). are_asked g.L.Lane.says c.args.lanes.now c.drive_checked.new.lanes c.args.liar (asked_over c.args.m.now.timed lists)) (sym t.same) c.drive_checked.ensures.drives.asked)
    c.drive_checked.ensures.is.within c.drive_checked.ensures.is.ended c.drive_checked.ensures.is.budget
