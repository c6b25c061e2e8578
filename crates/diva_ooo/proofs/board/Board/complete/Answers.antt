use Rattle.std.proofs.Common.{◌≡◌, ◌+◌, ◌⊎◌, ℕ, false, subst}
use Rattle.diva_ooo.specs.Board.{IsWrittenBetween, reads}
use Rattle.diva_ooo.specs.MarkSets.{has, holds_at}
use Rattle.diva_ooo.proofs.Boarding.{board_done}
use Rattle.diva_ooo.specs.WindowEntry.{profile_of}
use Rattle.diva_ooo.proofs.board.Board.complete.Goals as goal

pub returns-clause-board : goal.returns-clause-board
returns-clause-board c = λ w e new i is was now profile effect rd.
    let b = c.args.self.now in
    let waiting = c.readers_of-waiting.result in
    let others : (k : ℕ) → has waiting (b.base + k) ≡ false → (holds_at (reads (profile_of e).rd) w k ≡ false) ⊎ IsWrittenBetween w (profile_of e).rd c.args.at k =
    subst (λ (n : ℕ). (k : ℕ) → has waiting (b.base + k) ≡ false → (holds_at (reads n) w k ≡ false) ⊎ IsWrittenBetween w n c.args.at k) rd (c.readers_of-waiting.ensures w i) in
    board_done w c.args.at e new b c.remove.new.self c.put.new.self c.remove-2.new.self c.put_all.new.self waiting i is was now profile effect c.remove.ensures c.put.ensures c.remove-2.ensures c.put_all.ensures others
