use Rattle.diva_ooo.specs.declared.board.Board.{Board}
use Rattle.diva_ooo.proofs.Boarding.{board_lowered}
use Rattle.diva_ooo.proofs.board.Board.renumber.Goals as goal

pub returns-clause-board : goal.returns-clause-board
returns-clause-board c = λ w i.
    let b = c.args.self.now in
    let after : Board =
    record {
      base = 0;
      waiting = c.lowered-self.result;
      running = c.lowered-self-2.result;
      done = c.lowered-self-3.result;
      storing = c.lowered-self-4.result;
      stored = c.lowered-self-5.result;
      loads = c.lowered-self-6.result;
      candidates = c.lowered-self-7.result;
      writers = c.lower.new.sets;
      readers = c.lower-2.new.sets;
    } in
    board_lowered w b after c.requires i c.lowered-self.ensures c.lowered-self-2.ensures c.lowered-self-3.ensures c.lowered-self-4.ensures c.lowered-self-5.ensures c.lowered-self-6.ensures c.lowered-self-7.ensures
    c.lower.ensures.sets c.lower-2.ensures.sets c.lower.ensures.lowered c.lower-2.ensures.lowered
