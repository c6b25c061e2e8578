-- The run under a fault begins where the run without it stood.
use Rattle.std.proofs.Common.{◌≡◌, ◌<◌, List, length, Some, slice_get, sym, subst}
use Rattle.std.proofs.lemmas.Option.{slice_get_within}
use Rattle.diva_open.specs.Open.{Open}
use Rattle.diva_trial.specs.Inner.{AreAlike, Stands}
use Rattle.diva_trial.specs.declared.kept.Stand.{Stand}
use Rattle.diva_trial.proofs.Keeping.{alike_back, alike_then, stands_too}
use Rattle.diva_trial.proofs.kept.Kept.strike.Given as given
use Rattle.diva_trial.proofs.kept.Kept.strike.Goals as goal

-- the machine that is taken is one of those that are kept
within : (g : given.Over) (c : goal.After-run_struck g) → c.latest_before-at.result < length c.args.self.now.stands.items
within g c =
    let at = c.latest_before-at.ensures in
    slice_get_within c.args.self.now.stands.items c.latest_before-at.result at.stand
    (subst (λ (l : List (Stand g.row.M.Denot g.row.C.Denot)). slice_get l c.latest_before-at.result ≡ Some at.stand) c.deref.ensures.value at.there)

pub returns-clause-struck : goal.returns-clause-struck
returns-clause-struck g c = λ o first all.
    c.run_struck.ensures.struck o first
    (stands_too g.M.Driven.step g.C.Core.gives c.args.script.now o first _ _ _ _ c.copy_from.ensures.machine c.copy_from.ensures.core
    (subst (λ (s : Stand g.row.M.Denot g.row.C.Denot). Stands g.M.Driven.step g.C.Core.gives c.args.script.now o first (g.M.Driven.seen s.machine) s.core) (sym c.index.ensures)
    (all c.latest_before-at.result c.index.result.now (within g c))))

pub returns-clause-begins : goal.returns-clause-begins
returns-clause-begins g c =
    let work : Open = g.M.Driven.seen c.args.self.now.work.machine in
    let copy : Open = g.M.Driven.seen c.copy_from.new.self.machine in
    let last : Open = g.M.Driven.seen c.run_struck.new.m in
    let taken : AreAlike work (g.M.Driven.seen c.index.result.now.machine) =
    subst (λ (s : Stand g.row.M.Denot g.row.C.Denot). AreAlike work (g.M.Driven.seen s.machine)) (sym c.index.ensures)
    (c.requires.begins.alike c.latest_before-at.result c.index.result.now (within g c)) in
    let copied : AreAlike work copy = subst (λ (n : Open). AreAlike work n) (sym c.copy_from.ensures.machine) taken in
    record {
      new = c.requires.begins.new;
      alike = λ k d lt. alike_then last work _ (alike_back work last (alike_then work copy last copied c.run_struck.ensures.alike)) (c.requires.begins.alike k d lt);
    }
