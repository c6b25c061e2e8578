-- The machine's numbers stay.
use Rattle.std.proofs.Common.{◌≡◌}
use Rattle.diva_debug.specs.Sessions.{machine_of}
use Rattle.diva_call_tests.proofs.tests.sessions.compare.Given as goal

abbrev pub invariant-loop-command : goal.invariant-loop-command
invariant-loop-command g l = (machine_of l.session).timed.config ≡ (machine_of l.fn.session).timed.config
