-- The names so far are those before and the words that the loop has passed.
use Rattle.std.proofs.Common.{◌≡◌, ◌++◌, map, take}
use Rattle.diva_lab_args.proofs.rate.push_names.Given as goal

abbrev pub invariant-loop-word : goal.invariant-loop-word
invariant-loop-word l = l.names.items ≡ l.fn.names.items ++ map (λ w. w.now) (take l.word-index l.words)
