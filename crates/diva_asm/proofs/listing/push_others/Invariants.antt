use Rattle.std.proofs.Common.{◌≡◌, ◌≤◌, ◌+◌, ◌++◌, length, take, drop}
use Rattle.std.specs.Prelude.{codes}
use Rattle.std.specs.List.{sum_by, flat_map}
use Rattle.diva_asm.specs.Listing.{operand_text}
use Rattle.diva_asm.specs.Inner.{width}
use Rattle.diva_asm.proofs.listing.push_others.Given as goal

abbrev pub invariant-loop-operand : goal.invariant-loop-operand
invariant-loop-operand l = record {
  bytes : l.line ≡ l.initial.line ++ flat_map (λ other. codes ", " ++ operand_text l.addr l.i other) (take l.operand-index l.operands);
  room : length l.line + sum_by width (drop l.operand-index l.operands) ≤ length l.initial.line + sum_by width l.operands;
}
