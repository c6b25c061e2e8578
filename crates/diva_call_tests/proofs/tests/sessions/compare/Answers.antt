-- A command that was read is short.
use Rattle.std.proofs.Common.{◌+◌, ap, sym, subst, arith}
use Rattle.std.specs.List.{All}
use Rattle.std.proofs.Math.Nat.{mul-le-mul_right}
use Rattle.diva_core.specs.Timed.{Config, depth}
use Rattle.diva_debug.specs.Moves.{IsShort}
use Rattle.diva_debug.specs.Sessions.{machine_of}
use Rattle.diva_call_tests.proofs.tests.sessions.compare.Goals as goal

pub reply-line-requires : goal.reply-line-requires
reply-line-requires g c =
    let all = subst (All IsShort) (sym c.deref-command-items.ensures.value) c.in_ok-read.ensures.short in
    let short : IsShort c.command-item.result = subst IsShort (sym c.command-item.is) (all c.loop-command.command-index c.command-item.result c.loop-command-test.true) in
    let same = ap (λ (z : Config). z.limit) c.loop-command.invariant in
    let few = c.requires in
    let most = mul-le-mul_right ((machine_of c.loop-command.session).timed.config.limit + depth) short in
    omega arith
