use Rattle.std.proofs.Common.{◌≤◌, ◌*◌}
use Rattle.std.specs.List.{All}
use Rattle.diva_image.specs.ImageLayout.{layout}
use Rattle.diva_hart.specs.Start.{start_of}
use Rattle.diva_open.specs.Open.{new_open}
use Rattle.diva_trial.specs.Inner.{AreAlike, Stands}
use Rattle.diva_trial.specs.Kept.{BeginsNew, IsStand}
use Rattle.diva_trial.specs.declared.kept.Stand.{Stand}
use Rattle.diva_trial.proofs.kept.Kept.new.Given as goal

abbrev pub invariant-loop-place : goal.invariant-loop-place
invariant-loop-place g l = record {
  last : Stands g.M.Driven.step g.C.Core.gives l.fn.script (new_open l.fn.config (start_of (layout l.fn.image))) l.fn.core (g.M.Driven.seen l.last.machine) l.last.core;
  alike : AreAlike (new_open l.fn.config (start_of (layout l.fn.image))) (g.M.Driven.seen l.last.machine);
  early : (g.M.Driven.seen l.last.machine).timed.cycles ≤ l.place * l.fn.gap;
  stands : All (IsStand g.M.Driven.seen g.M.Driven.step g.C.Core.gives l.fn.script (new_open l.fn.config (start_of (layout l.fn.image))) l.fn.core) l.stands.items;
  all : All (λ (stand : Stand g.row.M.Denot g.row.C.Denot). AreAlike (new_open l.fn.config (start_of (layout l.fn.image))) (g.M.Driven.seen stand.machine)) l.stands.items;
  new : BeginsNew g.M.Driven.seen l.stands.items;
}
