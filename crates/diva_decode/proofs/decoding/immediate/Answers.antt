-- The word of an immediate operation, by the lemma on its opcode.
use Rattle.std.proofs.Common.{arith}
use Rattle.diva_decode.proofs.Rows.{row_immediate}
use Rattle.diva_decode.proofs.decoding.immediate.Goals as goal

pub returns : goal.returns
returns c =
    let at = row_immediate c.args.word c.requires.code c.requires.no_shift.0 c.requires.no_shift.1 in
    grind (arith, at)
