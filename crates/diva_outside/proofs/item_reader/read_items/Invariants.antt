-- The lines that are left make of the items so far what all lines make of none.
use Rattle.std.proofs.Common.{◌≡◌, ◌≤◌, ◌+◌, length}
use Rattle.std.specs.List.{All}
use Rattle.diva_outside.specs.Items.{items_of, with_item}
use Rattle.diva_outside.specs.Lines.{over_lines}
use Rattle.diva_outside.proofs.item_reader.read_items.Given as goal

abbrev pub invariant-loop-line : goal.invariant-loop-line
invariant-loop-line g l = record {
  can_next : (goal.iterator-loop-line g).can_next l.line-iterator;
  is_finite : (goal.iterator-loop-line g).is_finite l.line-iterator;
  counted : l.number + length l.line-iterator ≤ length l.text;
  same : items_of g.R.Kind.FaultKind.number g.R.ItemReader.item g.R.ItemReader.surplus l.text
      ≡ over_lines g.R.Kind.FaultKind.number (with_item g.R.ItemReader.item g.R.ItemReader.surplus) (l.number + 1) l.items.items l.line-iterator;
  few : length l.items.items ≤ l.number;
  keeps : All g.R.ItemReader.keeps l.items.items;
}
