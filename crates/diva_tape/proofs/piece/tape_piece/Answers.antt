use Rattle.std.proofs.Common.{arith}
use Rattle.diva_tape.proofs.ReadingBack.{tape_read_back}
use Rattle.diva_tape.proofs.Writing.{number-more}
use Rattle.diva_tape.proofs.piece.tape_piece.Goals as goal

pub loop-number-preserved : goal.loop-number-preserved
loop-number-preserved c =
    record {
      text = rw (c.hex_word-in-loop-number.ensures.bytes, c.push.ensures.bytes) (number-more _ _ _ c.loop-number.number-index c.loop-number-test.true c.loop-number.invariant.text);
      len = omega arith;
      short = c.loop-number.invariant.short;
    }

pub returns-clause-reads_back : goal.returns-clause-reads_back
returns-clause-reads_back c = tape_read_back
