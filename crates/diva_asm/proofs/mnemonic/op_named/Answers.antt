use Rattle.diva_asm.proofs.Naming.{found_among}
use Rattle.diva_asm.proofs.mnemonic.op_named.Goals as goal

pub returns : goal.returns
returns c = rw (c.first_op.ensures, c.ops_with.ensures) (found_among c.args.word.now)
