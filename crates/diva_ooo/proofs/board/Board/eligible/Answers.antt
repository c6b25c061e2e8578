use Rattle.std.proofs.Common.{refl, sym}
use Rattle.diva_ooo.proofs.Asking.{eligible_all, eligible_but, eligible_but_waits, eligible_stored, eligible_waits, stored_free}
use Rattle.diva_ooo.proofs.board.Board.eligible.Goals as goal

pub returns-in-Some-clause-waiting : goal.returns-in-Some-clause-waiting
returns-in-Some-clause-waiting c = λ w i board there. eligible_but_waits w c.args.self.now c.both-waiting.result c.except.result c.in-Some.mark i board c.both-waiting.ensures c.except.ensures there

pub returns-in-Some-clause-others : goal.returns-in-Some-clause-others
returns-in-Some-clause-others c = λ w i board none. eligible_but w c.args.self.now c.both-waiting.result c.except.result c.in-Some.mark i board c.both-waiting.ensures c.in-Some.ensures.some c.except.ensures none

pub returns-in-Some-clause-stored : goal.returns-in-Some-clause-stored
returns-in-Some-clause-stored c = λ w i board there load. eligible_stored w c.args.self.now c.both-waiting.result c.except.result c.in-Some.mark i board c.in-Some.ensures.some c.except.ensures there load

pub returns-in-None-clause-waiting : goal.returns-in-None-clause-waiting
returns-in-None-clause-waiting c = λ w i board there. eligible_waits w c.args.self.now c.both-waiting.result i board c.both-waiting.ensures there

pub returns-in-None-clause-others : goal.returns-in-None-clause-others
returns-in-None-clause-others c = λ w i board none. eligible_all w c.args.self.now c.both-waiting.result i board c.both-waiting.ensures none

pub returns-in-None-clause-stored : goal.returns-in-None-clause-stored
returns-in-None-clause-stored c = λ w i board there load. sym (stored_free w c.args.self.now i board (c.in-None.ensures.none refl))
