use Rattle.diva_ooo.proofs.Boarding.{board_pop}
use Rattle.diva_ooo.proofs.board.Board.pop.Goals as goal

pub returns-clause-board : goal.returns-clause-board
returns-clause-board c = λ w e i is. board_pop w e c.args.self.now c.requires i is
