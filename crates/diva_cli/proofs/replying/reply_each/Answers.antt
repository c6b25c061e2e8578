-- One reply more.
use Rattle.std.proofs.Common.{◌≡◌, ◌+◌, ◌∙◌, length, slice_get, Some, refl, ap, sym, arith, subst}
use Rattle.std.proofs.lemmas.Option.{slice_get_read}
use Rattle.std.proofs.lemmas.Result.{err_from_is_err_and}
use Rattle.diva_core.specs.Timed.{Config}
use Rattle.diva_debug.specs.Moves.{IsShort}
use Rattle.diva_cli.proofs.Commanding.{cycles-fit, cycles-more, replied, replies_more, replies_none}
use Rattle.diva_cli.proofs.replying.reply_each.Goals as goal

pub loop-command-init : goal.loop-command-init
loop-command-init g c =
    let r = c.requires in
    record { replies = replies_none g.D.Core.gives _ _ _ g.S.Sink.account _ r.new r.none r.keeps; within = omega arith; config = refl }

pub reply_to-line-requires : goal.reply_to-line-requires
reply_to-line-requires g c =
    let inv = c.loop-command.invariant in
    let short : IsShort c.command-item.result = subst IsShort (sym c.command-item.is) (c.requires.short c.loop-command.command-index c.command-item.result c.loop-command-test.true) in
    record {
      cycles = cycles-fit c.loop-command.session.machine.timed.cycles c.args.session.now.machine.timed.cycles c.loop-command.command-index (length c.args.commands.now) _ c.args.session.now.machine.timed.config.limit c.loop-command.session.machine.timed.config.limit _
          inv.within c.loop-command-test.true (ap (λ (z : Config). z.limit) inv.config) c.requires.cycles short;
    }

pub loop-command-preserved : goal.loop-command-preserved
loop-command-preserved g c =
    let inv = c.loop-command.invariant in
    let reply = c.reply_to-line.ensures in
    let at : slice_get c.args.commands.now c.loop-command.command-index ≡ Some c.command-item.result = slice_get_read c.args.commands.now (length c.args.commands.now) c.loop-command.command-index c.command-item.result refl c.loop-command-test.true c.command-item.is in
    record {
      replies = replies_more g.D.Core.gives _ c.loop-command.command-index _ _ _ _ g.S.Sink.account _ _ _ c.command-item.result _ _ _ _ inv.replies at
          (record { stands = reply.stands; keep = reply.keep; moved = reply.moved; origin = reply.origin; at_once = reply.at_once; back = reply.back; stays = reply.stays; led = reply.led })
          reply.reply c.in_ok-put_line.ensures;
      within = cycles-more c.loop-command.session.machine.timed.cycles _ c.loop-command.command-index _ c.loop-command.session.machine.timed.config.limit _ inv.within (ap (λ (z : Config). z.limit) inv.config) reply.million;
      config = reply.config ∙ inv.config;
    }

pub returns-in_err-put_line : goal.returns-in_err-put_line
returns-in_err-put_line g c =
    let inv = c.loop-command.invariant in
    let reply = c.reply_to-line.ensures in
    let at : slice_get c.args.commands.now c.loop-command.command-index ≡ Some c.command-item.result = slice_get_read c.args.commands.now (length c.args.commands.now) c.loop-command.command-index c.command-item.result refl c.loop-command-test.true c.command-item.is in
    let failed = err_from_is_err_and c.from_residual.result c.from_residual.ensures.1 in
    rw failed.1 (replied g.D.Core.gives _ (c.loop-command.command-index + 1) _ _ _ _ g.S.Sink.account _ _ _
    (replies_more g.D.Core.gives _ c.loop-command.command-index _ _ _ _ g.S.Sink.account _ _ _ c.command-item.result _ _ _ _ inv.replies at
    (record { stands = reply.stands; keep = reply.keep; moved = reply.moved; origin = reply.origin; at_once = reply.at_once; back = reply.back; stays = reply.stays; led = reply.led })
    reply.reply c.in_err-put_line.ensures)
    (cycles-more c.loop-command.session.machine.timed.cycles _ c.loop-command.command-index _ c.loop-command.session.machine.timed.config.limit _ inv.within (ap (λ (z : Config). z.limit) inv.config) reply.million)
    tt)

pub returns : goal.returns
returns g c =
    let inv = c.loop-command.invariant in
    replied g.D.Core.gives _ c.loop-command.command-index _ _ _ _ g.S.Sink.account _ _ _ inv.replies inv.within
    (let l = c.loop-command-test.false in let m = c.loop-command.auto.command-index-end in omega arith)
