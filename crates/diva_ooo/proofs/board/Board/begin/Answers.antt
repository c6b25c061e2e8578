use Rattle.diva_ooo.proofs.Boarding.{board_begun}
use Rattle.diva_ooo.proofs.board.Board.begin.Goals as goal

pub returns-clause-board : goal.returns-clause-board
returns-clause-board c = λ w e new i is was now profile none does.
    board_begun w c.args.at e new c.args.self.now c.remove.new.self c.put.new.self c.put-2.new.self c.args.stores i is was now profile none does c.remove.ensures c.put.ensures c.put-2.ensures
