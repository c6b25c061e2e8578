-- The commas so far.
use Rattle.std.proofs.Common.{◌≡◌, ◌≤◌, take}
use Rattle.std.specs.List.{count_by}
use Rattle.diva_rate.specs.Cells.{is_comma}
use Rattle.diva_rate.proofs.cells.commas.Given as goal

abbrev pub invariant-loop-byte : goal.invariant-loop-byte
invariant-loop-byte l = record {
  counted : l.count ≡ count_by is_comma (take l.byte-index l.line);
  few : l.count ≤ l.byte-index;
}
