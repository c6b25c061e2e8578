use Rattle.std.proofs.Common.{refl}
use Rattle.diva_core.specs.Cycle.{is_store}
use Rattle.diva_ooo.proofs.Asking.{next_of, none_of}
use Rattle.diva_ahead.specs.Effects.{done_by}
use Rattle.diva_ooo.proofs.board.Board.next_store.Goals as goal

pub returns-in-Some-clause-some : goal.returns-in-Some-clause-some
returns-in-Some-clause-some c = λ w i. next_of (λ e. is_store (done_by e.result)) w c.args.self.now.base c.args.self.now.stored c.args.from c.in-Some.mark i.stored c.in-Some.ensures.some

pub returns-in-None-clause-none : goal.returns-in-None-clause-none
returns-in-None-clause-none c = λ w i none n h. none_of (λ e. is_store (done_by e.result)) w c.args.self.now.base c.args.self.now.stored c.args.from n i.stored (c.in-None.ensures.none refl) h
