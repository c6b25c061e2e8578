-- The numbers so far are written.
use Rattle.std.proofs.Common.{◌≡◌, ◌++◌, take}
use Rattle.diva_test_programs.specs.Files.{words_bytes}
use Rattle.diva_test_programs.proofs.push_words.Given as goal

abbrev pub invariant-loop-word : goal.invariant-loop-word
invariant-loop-word l = l.file.items ≡ l.initial.file.items ++ words_bytes (take l.word-index l.initial.words)
