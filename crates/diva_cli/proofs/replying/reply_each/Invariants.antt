-- The replies so far, and the cycles that they took.
use Rattle.std.proofs.Common.{◌≡◌, ◌≤◌, ◌+◌, Ok}
use Rattle.diva_cli.specs.Replies.{cycles_of}
use Rattle.diva_cli.proofs.Commanding.{RepliesSoFar}
use Rattle.diva_outside.specs.Lent.{lent}
use Rattle.diva_cli.proofs.replying.reply_each.Given as goal

abbrev pub invariant-loop-command : goal.invariant-loop-command
invariant-loop-command g l = record {
  replies : RepliesSoFar g.D.Core.gives l.commands l.command-index l.fn.session.machine.timed l.fn.core l.session l.core (lent g.S.Sink.account l.fn.sink l.sink) (Ok tt);
  within : l.session.machine.timed.cycles ≤ l.fn.session.machine.timed.cycles + cycles_of l.command-index l.fn.session.machine.timed.config.limit;
  config : l.session.machine.timed.config ≡ l.fn.session.machine.timed.config;
}
