use Rattle.diva_ooo.proofs.Asking.{woken}
use Rattle.diva_ooo.proofs.board.Board.readers_of.Goals as goal

pub returns : goal.returns
returns c = λ w i k off.
    woken w c.args.self.now c.up_to_next.result c.args.rd c.args.at k i c.requires.register (rw (← c.from-n.ensures) c.up_to_next.ensures.some) (rw (← c.from-n.ensures) c.up_to_next.ensures.none) off
