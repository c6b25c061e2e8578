-- One machine more is kept.
use Rattle.std.proofs.Common.{◌∙◌, ◌++◌, ◌∷◌, [], List, ap, sym, subst, arith}
use Rattle.std.specs.List.{All}
use Rattle.std.proofs.lemmas.List.Elements.{All-nil, All-push}
use Rattle.diva_image.specs.ImageLayout.{layout}
use Rattle.diva_hart.specs.Start.{start_of}
use Rattle.diva_open.specs.Open.{Open, new_open}
use Rattle.diva_trial.specs.Inner.{AreAlike}
use Rattle.diva_trial.specs.Kept.{BeginsNew, IsStand}
use Rattle.diva_trial.specs.declared.kept.Stand.{Stand}
use Rattle.diva_trial.proofs.Keeping.{alike_same, alike_then, begins_more, stands_new, stands_too}
use Rattle.diva_trial.proofs.kept.Kept.new.Goals as goal

pub loop-place-init : goal.loop-place-init
loop-place-init g c =
    let o : Open = new_open c.args.config (start_of (layout c.args.image.now)) in
    let stand_on : Stand g.row.M.Denot g.row.C.Denot → Type 0 = IsStand g.M.Driven.seen g.M.Driven.step g.C.Core.gives c.args.script.now o c.args.core.now in
    let are_alike : Stand g.row.M.Denot g.row.C.Denot → Type 0 = λ stand. AreAlike o (g.M.Driven.seen stand.machine) in
    let last = c.in_ok-last.ensures in
    let first = c.in_ok-first.ensures in
    let new = ap (λ (k : Open). k.timed.cycles) first.machine in
    let late = ap (λ (k : Open). k.timed.cycles) last.machine in
    let items = c.in_ok-push.ensures.items in
    record {
      last = stands_new g.M.Driven.step g.C.Core.gives c.args.script.now o c.args.core.now (g.M.Driven.seen c.in_ok-last.last.machine) c.in_ok-last.last.core last.machine last.core;
      alike = alike_same o (g.M.Driven.seen c.in_ok-last.last.machine) last.machine;
      early = omega arith;
      stands = subst (All stand_on) (sym items) (All-push stand_on c.new-stands.result.items c.in_ok-first.first
          (subst (All stand_on) (sym c.new-stands.ensures.items) (All-nil stand_on))
          (stands_new g.M.Driven.step g.C.Core.gives c.args.script.now o c.args.core.now (g.M.Driven.seen c.in_ok-first.first.machine) c.in_ok-first.first.core first.machine first.core));
      all = subst (All are_alike) (sym items) (All-push are_alike c.new-stands.result.items c.in_ok-first.first
          (subst (All are_alike) (sym c.new-stands.ensures.items) (All-nil are_alike))
          (alike_same o (g.M.Driven.seen c.in_ok-first.first.machine) first.machine));
      new = subst (BeginsNew g.M.Driven.seen) (sym (items ∙ ap (λ (l : List (Stand g.row.M.Denot g.row.C.Denot)). l ++ c.in_ok-first.first ∷ []) c.new-stands.ensures.items)) new;
    }

pub loop-place-preserved : goal.loop-place-preserved
loop-place-preserved g c =
    let o : Open = new_open c.args.config (start_of (layout c.args.image.now)) in
    let stand_on : Stand g.row.M.Denot g.row.C.Denot → Type 0 = IsStand g.M.Driven.seen g.M.Driven.step g.C.Core.gives c.args.script.now o c.args.core.now in
    let are_alike : Stand g.row.M.Denot g.row.C.Denot → Type 0 = λ stand. AreAlike o (g.M.Driven.seen stand.machine) in
    let inv = c.loop-place.invariant in
    let run = c.run_plain.ensures in
    let after = run.stands o c.args.core.now inv.last in
    let alike : AreAlike o (g.M.Driven.seen c.run_plain.new.m) = alike_then o (g.M.Driven.seen c.loop-place.last.machine) (g.M.Driven.seen c.run_plain.new.m) inv.alike run.alike in
    let within = run.over.within in
    let items = c.in_ok-push-2.ensures.items in
    record {
      last = after;
      alike = alike;
      early = rw (← c.from.ensures, ← c.from-in-loop-place.ensures) within;
      stands = subst (All stand_on) (sym items) (All-push stand_on c.loop-place.stands.items c.copy_from.new.self inv.stands
          (stands_too g.M.Driven.step g.C.Core.gives c.args.script.now o c.args.core.now (g.M.Driven.seen c.run_plain.new.m) (g.M.Driven.seen c.copy_from.new.self.machine)
          c.run_plain.new.core c.copy_from.new.self.core c.copy_from.ensures.machine c.copy_from.ensures.core after));
      all = subst (All are_alike) (sym items) (All-push are_alike c.loop-place.stands.items c.copy_from.new.self inv.all
          (subst (λ (n : Open). AreAlike o n) (sym c.copy_from.ensures.machine) alike));
      new = subst (BeginsNew g.M.Driven.seen) (sym items) (begins_more g.M.Driven.seen c.loop-place.stands.items c.copy_from.new.self inv.new);
    }
