-- The parts that are left come, behind the list so far, to what all parts come to.
use Rattle.std.proofs.Common.{◌≡◌, ◌≤◌, length}
use Rattle.diva_tape.specs.Tapes.{list_from}
use Rattle.diva_tape.proofs.Listing.{with_parts}
use Rattle.diva_tape.proofs.reading.list_from.Given as goal

abbrev pub invariant-loop-part : goal.invariant-loop-part
invariant-loop-part l = record {
  can_next : (goal.iterator-loop-part).can_next l.part-iterator;
  is_finite : (goal.iterator-loop-part).is_finite l.part-iterator;
  most : length l.list ≤ 8;
  same : list_from l.fn.parts ≡ with_parts l.list l.is_miscounted l.is_overfull l.part-iterator;
}
