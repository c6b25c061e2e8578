use Rattle.diva_ooo.specs.declared.board.Board.{Board}
use Rattle.diva_ooo.proofs.Boarding.{board_kept}
use Rattle.diva_ooo.proofs.board.Board.keep.Goals as goal

pub returns-clause-board : goal.returns-clause-board
returns-clause-board c = λ w i.
    let b = c.args.self.now in
    let after : Board =
    record {
      base = b.base;
      waiting = c.below-self.result;
      running = c.below-self-2.result;
      done = c.below-self-3.result;
      storing = c.below-self-4.result;
      stored = c.below-self-5.result;
      loads = c.below-self-6.result;
      candidates = b.candidates;
      writers = c.keep_below.new.sets;
      readers = c.keep_below-2.new.sets;
    } in
    board_kept w b after c.args.most i c.below-self.ensures c.below-self-2.ensures c.below-self-3.ensures c.below-self-4.ensures c.below-self-5.ensures c.below-self-6.ensures
    c.keep_below.ensures.sets c.keep_below-2.ensures.sets c.keep_below.ensures.kept c.keep_below-2.ensures.kept
