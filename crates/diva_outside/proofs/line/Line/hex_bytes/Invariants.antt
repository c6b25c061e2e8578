-- The bytes so far are written, two digits each.
use Rattle.std.proofs.Common.{◌≡◌, ◌*◌, ◌+◌, ◌++◌, length, take}
use Rattle.std.specs.List.{flat_map}
use Rattle.diva_outside.specs.Text.{hex_byte}
use Rattle.diva_outside.proofs.line.Line.hex_bytes.Given as goal

abbrev pub invariant-loop-byte : goal.invariant-loop-byte
invariant-loop-byte l = record {
  bytes : l.self ≡ l.initial.self ++ flat_map hex_byte (take l.byte-index l.bytes);
  len : length l.self ≡ length l.initial.self + 2 * l.byte-index;
}
