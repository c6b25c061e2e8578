use Rattle.std.proofs.Common.{◌≡◌, ◌≤◌, ◌+◌, sym, ap, ◌∙◌, arith, take, drop}
use Rattle.diva_ooo.specs.Finish.{finished_from, redirected}
use Rattle.diva_ooo.specs.declared.finishing.Redirect.{Redirect}
use Rattle.diva_ooo.specs.declared.finishing.Redirect.TheVariants.{On}
use Rattle.diva_ooo.proofs.Finished.{finished_end, passed, runs_behind}
use Rattle.diva_ooo.proofs.Marking.{past_first, without_first}
use Rattle.diva_ooo.proofs.finishing.finish.Goals as goal

pub loop-at-init : goal.loop-at-init
loop-at-init c =
    let first = c.first-at.ensures in
    record {
      left = sym (passed c.args.window.now 0 c.first-at.result (omega arith) (λ i from lt. sym (c.running_places-running.ensures i) ∙ first.lower i lt));
      passed = first.lower;
      behind = λ i from. c.running_places-running.ensures i;
    }

pub loop-at-preserved : goal.loop-at-preserved
loop-at-preserved c =
    let at = c.loop-at.at in
    let now = c.finish_at-redirect.new.window in
    let was = c.loop-at.window in
    let next = c.first-at-in-loop-at.result in
    let kept = c.loop-at.invariant in
    let far : at + 1 ≤ next = past_first c.loop-at.running c.remove.new.self at next c.remove.ensures kept.passed c.first-at-in-loop-at.ensures.there (omega arith) in
    let on : c.finish_at-redirect.result ≡ On = grind arith in
    record {
      left = sym (passed now (at + 1) next far
          (λ i from lt. runs_behind was now (at + 1) i c.finish_at-redirect.ensures.behind from ∙ sym (kept.behind i (omega arith)) ∙ sym (without_first c.loop-at.running c.remove.new.self at i c.remove.ensures from) ∙ c.first-at-in-loop-at.ensures.lower i lt))
          ∙ ap (λ (t : Redirect). redirected (take (at + 1) now) t (finished_from (take (at + 1) now) (drop (at + 1) now))) (sym on)
          ∙ c.finish_at-redirect.ensures.finishes
          ∙ kept.left;
      passed = c.first-at-in-loop-at.ensures.lower;
      behind = λ i from. without_first c.loop-at.running c.remove.new.self at i c.remove.ensures (omega arith) ∙ kept.behind i (omega arith) ∙ sym (runs_behind was now (at + 1) i c.finish_at-redirect.ensures.behind (omega arith));
    }

pub returns : goal.returns
returns c = sym (finished_end c.loop-at.window c.loop-at.at (rw (sym c.len.ensures.value) c.loop-at-test.false)) ∙ c.loop-at.invariant.left
