-- What a command makes of a machine, and what the reply tells.
use Rattle.std.proofs.Common.{◌≡◌, false, ap, sym, ◌∙◌}
use Rattle.diva_machine.specs.Machine.{Machine}
use Rattle.diva_debug.specs.Moves.{goes_back}
use Rattle.diva_debug.specs.Replies.{reply_at}
use Rattle.diva_debug.specs.Rewindable.{kept_of}
use Rattle.diva_debug.proofs.Answering.{tells_far, tells_kept}
use Rattle.diva_debug.proofs.Chains.{stands}
use Rattle.diva_debug.proofs.Leading.{leaves_back, leaves_config, leaves_keep, leaves_led, leaves_machine, leaves_million, leaves_standing, leaves_within}
use Rattle.diva_debug.proofs.session.reply_to.Goals as goal

pub returns-clause-reply : goal.returns-clause-reply
returns-clause-reply g c =
    c.reply_at.ensures.reply
    ∙ ap (λ k. reply_at c.args.command.now k c.machine.result.now.timed.count c.machine.result.now.timed.arch c.machine.result.now.timed.under.log.newest) c.kept-kept.ensures
    ∙ ap (λ (m : Machine). reply_at c.args.command.now (kept_of c.args.m.now) m.timed.count m.timed.arch m.timed.under.log.newest) c.machine.ensures.machine

pub returns-clause-far : goal.returns-clause-far
returns-clause-far g c pc until =
    let m = c.move_by.new.m.machine.timed in
    let on : goes_back c.args.command.now ≡ false = ap goes_back until in
    tells_far pc (kept_of c.args.m.now) c.args.m.now.machine.timed m m.under.log.newest c.args.command.now c.reply_at.result (returns-clause-reply g c) (c.move_by.ensures.on on).moved until

pub returns-clause-too_few : goal.returns-clause-too_few
returns-clause-too_few g c k back =
    let m = c.move_by.new.m.machine.timed in
    tells_kept k (kept_of c.args.m.now) m.count m.arch m.under.log.newest c.args.command.now c.reply_at.result (returns-clause-reply g c) back

pub returns-clause-stands : goal.returns-clause-stands
returns-clause-stands g c =
    leaves_standing g.C.Core.gives c.args.command.now _ _ _ _ c.move_by.ensures.on c.move_by.ensures.back c.recall.ensures.sound

pub returns-clause-stood : goal.returns-clause-stood
returns-clause-stood g c = sym (stands c.args.m.now.machine.timed.arch c.args.m.now.undos c.recall.ensures.sound.undos)

pub returns-clause-stands_on : goal.returns-clause-stands_on
returns-clause-stands_on g c = sym (stands c.move_by.new.m.machine.timed.arch c.move_by.new.m.undos c.machine.ensures.sound.undos)

pub returns-clause-keep : goal.returns-clause-keep
returns-clause-keep g c = leaves_keep g.C.Core.gives c.args.command.now _ _ _ _ c.move_by.ensures.on c.move_by.ensures.back

pub returns-clause-within : goal.returns-clause-within
returns-clause-within g c = leaves_within g.C.Core.gives c.args.command.now _ _ _ _ c.move_by.ensures.on c.move_by.ensures.back

pub returns-clause-million : goal.returns-clause-million
returns-clause-million g c = leaves_million g.C.Core.gives c.args.command.now _ _ _ _ c.move_by.ensures.on c.move_by.ensures.back c.move_by.ensures.short

pub returns-clause-back : goal.returns-clause-back
returns-clause-back g c = leaves_back g.C.Core.gives c.args.command.now _ _ _ _ c.move_by.ensures.on c.move_by.ensures.back c.recall.ensures.sound

pub returns-clause-stays : goal.returns-clause-stays
returns-clause-stays g c k back few = let b = c.move_by.ensures.back k back in (b.0.stays few, b.1)

pub returns-clause-led : goal.returns-clause-led
returns-clause-led g c = leaves_led g.C.Core.gives c.args.command.now _ _ _ _ c.move_by.ensures.on c.move_by.ensures.back c.recall.ensures.machine

pub returns-clause-config : goal.returns-clause-config
returns-clause-config g c = leaves_config g.C.Core.gives c.args.command.now _ _ _ _ c.move_by.ensures.on c.move_by.ensures.back

pub returns-clause-machine : goal.returns-clause-machine
returns-clause-machine g c = leaves_machine g.C.Core.gives c.args.command.now _ _ _ _ c.move_by.ensures.on c.move_by.ensures.back c.recall.ensures.machine
