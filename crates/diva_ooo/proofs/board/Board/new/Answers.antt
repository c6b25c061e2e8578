use Rattle.std.proofs.Common.{arith, refl}
use Rattle.diva_core.specs.Cycle.{is_store}
use Rattle.diva_ooo.specs.Board.{is_load, is_open_store, reads, writes}
use Rattle.diva_ooo.specs.Finish.{is_running}
use Rattle.diva_ooo.specs.Issue.{is_done, is_waiting}
use Rattle.diva_ooo.proofs.Boarding.{blank_those}
use Rattle.diva_ooo.proofs.Marking.{those_none}
use Rattle.diva_ahead.specs.Effects.{done_by}
use Rattle.diva_ooo.proofs.board.Board.new.Goals as goal

pub returns-clause-board : goal.returns-clause-board
returns-clause-board c =
    record {
      base = omega arith;
      waiting = those_none (λ e. is_waiting e.progress) 0;
      running = those_none (λ e. is_running e.progress) 0;
      done = those_none (λ e. is_done e.progress) 0;
      gone = λ i h. absurd (omega arith);
      storing = those_none is_open_store 0;
      stored = those_none (λ e. is_store (done_by e.result)) 0;
      loads = those_none is_load 0;
      candidates = λ i none. refl;
      write_sets = refl;
      read_sets = refl;
      writers = λ n h. blank_those (writes n) n;
      readers = λ n h. blank_those (reads n) n;
    }
