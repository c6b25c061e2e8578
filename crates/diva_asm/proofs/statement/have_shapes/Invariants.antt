use Rattle.std.proofs.Common.{◌≡◌, drop}
use Rattle.std.specs.Option.{option_map}
use Rattle.diva_asm.specs.Texts.{operand_texts}
use Rattle.diva_asm.specs.Statements.{have_shapes}
use Rattle.diva_asm.proofs.statement.have_shapes.Given as goal

abbrev pub invariant-loop-operand : goal.invariant-loop-operand
invariant-loop-operand l =
    have_shapes l.operands (operand_texts (option_map (λ t. t.now) l.fn.texts)) ≡ have_shapes (drop l.operand-index l.operands) (operand_texts (option_map (λ t. t.now) l.texts))
