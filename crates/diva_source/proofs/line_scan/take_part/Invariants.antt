-- The bytes so far were read, and none of them is a line feed.
use Rattle.std.proofs.Common.{◌≡◌, ◌≤◌, ◌-◌, length, take}
use Rattle.std.specs.List.{position_or_len}
use Rattle.diva_outside.specs.Lines.{is_feed}
use Rattle.diva_source.specs.Scanned.{after_bytes}
use Rattle.diva_source.proofs.Scanning.{scanned}
use Rattle.diva_source.proofs.line_scan.take_part.Given as goal

abbrev pub invariant-loop-at : goal.invariant-loop-at
invariant-loop-at l = record {
  within : l.at ≤ position_or_len is_feed l.bytes;
  after : scanned l.words l.place ≡ after_bytes (scanned l.initial.words l.initial.place) (take l.at l.bytes);
}

abbrev pub decreases-loop-at : goal.decreases-loop-at
decreases-loop-at l = length l.bytes - l.at
