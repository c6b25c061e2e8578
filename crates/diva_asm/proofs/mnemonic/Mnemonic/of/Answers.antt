use Rattle.std.proofs.Common.{◌∙◌, sym}
use Rattle.diva_asm.proofs.Naming.{of_operation, of_other}
use Rattle.diva_asm.proofs.mnemonic.Mnemonic.of.Goals as goal

pub returns-in-Some : goal.returns-in-Some
returns-in-Some c = sym (of_operation c.args.word.now c.in-Some.op (sym c.op_named.ensures ∙ c.in-Some.is))

pub returns-in-None : goal.returns-in-None
returns-in-None c = c.named.ensures ∙ sym (of_other c.args.word.now (sym c.op_named.ensures ∙ c.in-None.is))
