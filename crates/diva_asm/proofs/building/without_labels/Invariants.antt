use Rattle.std.proofs.Common.{◌≡◌, length}
use Rattle.diva_asm.specs.Texts.{labels_of}
use Rattle.diva_asm.proofs.building.without_labels.Given as goal

abbrev pub invariant-label : goal.invariant-label
invariant-label l = (labels_of l.text).rest ≡ (labels_of l.left).rest

abbrev pub decreases-label : goal.decreases-label
decreases-label l = length l.left
