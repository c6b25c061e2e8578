-- The lines that are left make of what is kept so far what all lines make of what is kept at first.
use Rattle.std.proofs.Common.{◌≡◌, ◌≤◌, ◌+◌, length}
use Rattle.diva_outside.specs.Lines.{fold_lines, over_lines}
use Rattle.diva_outside.proofs.line_reader.fold_lines.Given as goal

abbrev pub invariant-loop-line : goal.invariant-loop-line
invariant-loop-line g l = record {
  can_next : (goal.iterator-loop-line g).can_next l.line-iterator;
  is_finite : (goal.iterator-loop-line g).is_finite l.line-iterator;
  counted : l.number + length l.line-iterator ≤ length l.text;
  same : fold_lines g.R.Kind.FaultKind.number (g.R.LineReader.step l.reader) l.initial.kept l.text
      ≡ over_lines g.R.Kind.FaultKind.number (g.R.LineReader.step l.reader) (l.number + 1) l.kept l.line-iterator;
}
