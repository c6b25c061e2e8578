use Rattle.std.specs.Option.{option_map}
use Rattle.diva_asm.specs.Texts.{operand_texts}
use Rattle.diva_asm.proofs.Reading.{statement_read}
use Rattle.diva_asm.proofs.statement.statement_with.Goals as goal

pub returns-in-Ok-clause-read : goal.returns-in-Ok-clause-read
returns-in-Ok-clause-read c =
    let texts = operand_texts (option_map (λ t. t.now) c.if-is_empty.texts) in
    let given = c.in-Ok.ensures in
    statement_read c.args.mnemonic texts c.in-Ok.operands (rw c.operands-operands.ensures at given.0) (rw c.operands-operands.ensures at given.1)
