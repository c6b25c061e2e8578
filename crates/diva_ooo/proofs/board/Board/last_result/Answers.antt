use Rattle.std.proofs.Common.{arith, get_or, refl}
use Rattle.diva_ooo.specs.Board.{no_mark}
use Rattle.diva_ooo.proofs.Asking.{are_results, last_result_of, no_result_of, result_within}
use Rattle.diva_ooo.proofs.board.Board.last_result.Goals as goal

pub overflow_sub-result : goal.overflow_sub-result
overflow_sub-result c =
    let b = c.args.self.now in
    let ws = get_or b.writers c.from.result no_mark in
    (result_within b c.both.result ws c.args.at c.in-Some.mark (are_results b c.both.result ws c.from-older.result c.below.result c.args.at c.both.ensures c.from-older.ensures c.below.ensures) c.in-Some.ensures.some.there).0

pub returns-in-Some-clause-some : goal.returns-in-Some-clause-some
returns-in-Some-clause-some c = λ w i h.
    let b = c.args.self.now in
    last_result_of w b c.both.result c.args.at c.args.n c.in-Some.mark i c.requires.register (omega arith)
    (are_results b c.both.result (get_or b.writers c.args.n no_mark) c.from-older.result c.below.result c.args.at (rw (← c.from.ensures) c.both.ensures) c.from-older.ensures c.below.ensures)
    c.in-Some.ensures.some

pub returns-in-None-clause-none : goal.returns-in-None-clause-none
returns-in-None-clause-none c = λ w i h none n k.
    let b = c.args.self.now in
    no_result_of w b c.both.result c.args.at c.args.n n i c.requires.register
    (are_results b c.both.result (get_or b.writers c.args.n no_mark) c.from-older.result c.below.result c.args.at (rw (← c.from.ensures) c.both.ensures) c.from-older.ensures c.below.ensures)
    (c.in-None.ensures.none refl) k
