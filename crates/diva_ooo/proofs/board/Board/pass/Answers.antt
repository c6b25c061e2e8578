use Rattle.diva_ooo.proofs.Boarding.{board_passed}
use Rattle.diva_ooo.proofs.board.Board.pass.Goals as goal

pub returns-clause-board : goal.returns-clause-board
returns-clause-board c = λ w i idle. board_passed w c.args.at c.args.self.now c.remove.new.self i idle c.remove.ensures
