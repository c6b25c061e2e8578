use Rattle.std.proofs.Common.{◌≡◌, drop}
use Rattle.std.specs.Option.{option_map}
use Rattle.diva_asm.specs.Texts.{operand_texts}
use Rattle.diva_asm.specs.Statements.{have_shapes, with_operands, no_operands}
use Rattle.diva_asm.proofs.statement.with_operands.Given as goal

abbrev pub invariant-loop-operand : goal.invariant-loop-operand
invariant-loop-operand l = record {
  shapes : have_shapes l.operands (operand_texts (option_map (λ t. t.now) l.fn.texts)) ≡ have_shapes (drop l.operand-index l.operands) (operand_texts (option_map (λ t. t.now) l.texts));
  read : with_operands l.operands (operand_texts (option_map (λ t. t.now) l.fn.texts)) no_operands ≡ with_operands (drop l.operand-index l.operands) (operand_texts (option_map (λ t. t.now) l.texts)) l.values;
}
