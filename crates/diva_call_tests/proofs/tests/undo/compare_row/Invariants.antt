-- What has been noted is what the last instruction overwrote.
use Rattle.std.specs.Prelude.{IfSome}
use Rattle.diva_core.specs.Undone.{CanUndo}
use Rattle.diva_call_tests.proofs.tests.undo.compare_row.Given as goal

abbrev pub invariant-loop : goal.invariant-loop
invariant-loop g l = IfSome l.last (λ u. CanUndo l.m.timed u)
