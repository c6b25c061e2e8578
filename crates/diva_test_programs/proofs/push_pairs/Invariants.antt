-- The pairs so far are written.
use Rattle.std.proofs.Common.{◌≡◌, ◌++◌, take}
use Rattle.diva_test_programs.specs.Files.{pairs_bytes}
use Rattle.diva_test_programs.proofs.push_pairs.Given as goal

abbrev pub invariant-loop-first : goal.invariant-loop-first
invariant-loop-first l = l.file.items ≡ l.initial.file.items ++ pairs_bytes (take l.first-index l.initial.pairs)
