-- The fields so far are written, fifteen bytes each at most.
use Rattle.std.proofs.Common.{◌≡◌, ◌≤◌, ◌+◌, ◌*◌, ◌++◌, length, take}
use Rattle.diva_drawing.specs.Log.{named_fields}
use Rattle.diva_drawing.proofs.stages.push_named.Given as goal

abbrev pub invariant-loop-field : goal.invariant-loop-field
invariant-loop-field l = record {
  bytes : l.line ≡ l.initial.line ++ named_fields (take l.field-index l.fields) l.claim;
  len : length l.line ≤ length l.initial.line + 15 * l.field-index;
}
