-- The machine ends in one of the three parts, or runs them all.
use Rattle.std.proofs.Common.{sym, ◌∙◌, arith}
use Rattle.std.proofs.lemmas.Bool.{true≢false}
use Rattle.diva_faults.specs.Spoiled.{spoiled}
use Rattle.diva_cli.proofs.Seeing.{no_turn}
use Rattle.diva_cli.proofs.Handing.{drives_for}
use Rattle.diva_cli.proofs.Polling.{asked_then, none_asked}
use Rattle.diva_cli.proofs.Scripting.{drives_behind, ended_before, ended_touched}
use Rattle.diva_cli.proofs.scripted.drive_scripted.Goals as goal

pub returns-then-not-goes_on-clause-drives : goal.returns-then-not-goes_on-clause-drives
returns-then-not-goes_on-clause-drives g c = record {
  turns = no_turn (spoiled c.args.script.now g.C.Core.gives) _ _;
  asked = none_asked g.L.Lane.says c.args.lanes.now c.args.liar;
  most = omega arith;
  whole = λ on. absurd (true≢false (sym on ∙ (sym c.goes_on.ensures.value ∙ c.if-not-goes_on.true)));
}

pub returns-then-not-goes_on-2-clause-drives : goal.returns-then-not-goes_on-2-clause-drives
returns-then-not-goes_on-2-clause-drives g c =
    ended_before g.C.Core.gives c.args.script.now _ _ _ _ _ _ _ c.goes_on.ensures.machine (omega (arith, c.cycles_before-before.ensures))
    (drives_for g.C.Core.gives _ _ _ _ _ c.drive_checked.result _
    c.drive_checked.ensures.drives.drives.turns c.drive_checked.ensures.drives.asked c.drive_checked.ensures.is.within c.drive_checked.ensures.is.ended c.drive_checked.ensures.is.budget)
    (cc)

pub returns-then-not-goes_on-3-clause-drives : goal.returns-then-not-goes_on-3-clause-drives
returns-then-not-goes_on-3-clause-drives g c =
    ended_touched g.C.Core.gives c.args.script.now _ _ _ _ _ _ _ c.goes_on.ensures.machine (omega (arith, c.cycles_before-before.ensures))
    (drives_for g.C.Core.gives _ _ _ _ _ c.drive_checked.result _
    c.drive_checked.ensures.drives.drives.turns c.drive_checked.ensures.drives.asked c.drive_checked.ensures.is.within c.drive_checked.ensures.is.ended c.drive_checked.ensures.is.budget)
    _ _ _ _ _ (omega (arith, c.cycles_before-touched.ensures)) c.drive_touched.ensures.drives
    (asked_then g.L.Lane.says _ _ _ c.args.liar) (cc)

pub returns-clause-drives : goal.returns-clause-drives
returns-clause-drives g c =
    drives_behind g.C.Core.gives c.args.script.now _ _ _ _ _ _ _ c.goes_on.ensures.machine (omega (arith, c.cycles_before-before.ensures))
    (drives_for g.C.Core.gives _ _ _ _ _ c.drive_checked.result _
    c.drive_checked.ensures.drives.drives.turns c.drive_checked.ensures.drives.asked c.drive_checked.ensures.is.within c.drive_checked.ensures.is.ended c.drive_checked.ensures.is.budget)
    _ _ _ _ _ (omega (arith, c.cycles_before-touched.ensures)) c.drive_touched.ensures.drives
    (asked_then g.L.Lane.says _ _ _ c.args.liar)
    _ _ _ _ _ (cc) (omega arith)
    (drives_for g.C.Core.gives _ _ _ _ _ c.drive_checked-2.result _
    c.drive_checked-2.ensures.drives.drives.turns c.drive_checked-2.ensures.drives.asked c.drive_checked-2.ensures.is.within
    c.drive_checked-2.ensures.is.ended c.drive_checked-2.ensures.is.budget)
    (asked_then g.L.Lane.says _ _ _ c.args.liar)
