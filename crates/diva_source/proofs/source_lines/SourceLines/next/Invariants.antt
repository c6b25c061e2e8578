-- A part of the line was read, and bytes are at hand; what may still be read grows shorter.
use Rattle.std.proofs.Common.{◌≡◌, ◌<◌, length}
use Rattle.diva_outside.specs.Lent.{lent}
use Rattle.diva_source.specs.SourceLines.{lent_name, lines_account}
use Rattle.diva_source.proofs.Lines.{ReadsPart}
use Rattle.diva_source.proofs.source_lines.SourceLines.next.Given as goal

abbrev pub invariant-loop-place : goal.invariant-loop-place
invariant-loop-place g l = record {
  same_source : lent_name l.self ≡ lent_name l.fn.self;
  some : 0 < length l.self.piece;
  reads : ReadsPart (lent (lines_account g.D.Source.account) l.fn.self l.self) l.words l.place;
}

abbrev pub decreases-loop-place : goal.decreases-loop-place
decreases-loop-place g l = (lines_account g.D.Source.account l.self).limit
