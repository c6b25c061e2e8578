-- The items so far are those of the names before the rest.
use Rattle.std.proofs.Common.{length}
use denote.Text.{Utf8}
use denote.Shadow.{shadow}
use Rattle.diva_lab_args.specs.Inner.{items_in}
use Rattle.diva_lab_args.proofs.ChoiceLemmas.{Goes}
use Rattle.diva_lab_args.proofs.choices.choice.Given as goal

abbrev pub invariant-loop-name : goal.invariant-loop-name
invariant-loop-name g l = shadow (Utf8 l.rest) × Goes g.T.Named.named l.fn.word (items_in l.choice) l.rest

abbrev pub decreases-loop-name : goal.decreases-loop-name
decreases-loop-name g l = length l.rest
