use Rattle.std.proofs.Common.{◌≡◌, drop}
use Rattle.std.specs.List.{find}
use Rattle.std.specs.Str.{bytes_eq}
use Rattle.diva_asm.specs.Mnemonics.{op_name}
use Rattle.diva_asm.proofs.mnemonic.first_op.Given as goal

abbrev pub invariant-loop-op : goal.invariant-loop-op
invariant-loop-op l = find (λ op. bytes_eq (op_name op) l.word) l.ops ≡ find (λ op. bytes_eq (op_name op) l.word) (drop l.op-index l.ops)
