use Rattle.std.proofs.Common.{◌≡◌, ◌≤◌, take}
use Rattle.diva_rating.specs.Rated.{HasKept}
use Rattle.diva_rating.proofs.rating.read_files.Given as goal

abbrev pub invariant-loop-name : goal.invariant-loop-name
invariant-loop-name g l = record {
  stays : (g.D.Source.account l.source).contents ≡ (g.D.Source.account l.fn.source).contents;
  later : (g.D.Source.account l.fn.source).faults ≤ (g.D.Source.account l.source).faults;
  kept : HasKept (g.D.Source.account l.fn.source).contents (take l.name-index l.names) l.kept;
}
