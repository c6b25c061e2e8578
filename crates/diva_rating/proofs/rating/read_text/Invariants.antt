use Rattle.std.proofs.Common.{◌≡◌, ◌≤◌}
use Rattle.std.specs.Io.KnownBytes.{prepend_known}
use Rattle.diva_source.specs.Source.{IsAllOf}
use Rattle.diva_rating.proofs.rating.read_text.Given as goal

abbrev pub invariant-loop-text : goal.invariant-loop-text
invariant-loop-text g l = record {
  stays : (g.D.Source.account l.source).contents ≡ (g.D.Source.account l.fn.source).contents;
  later : (g.D.Source.account l.fn.source).faults ≤ (g.D.Source.account l.source).faults;
  all : IsAllOf (g.D.Source.account l.fn.source).contents l.name (prepend_known l.text.items (g.D.Source.account l.source).rest);
}

abbrev pub decreases-loop-text : goal.decreases-loop-text
decreases-loop-text g l = (g.D.Source.account l.source).limit
