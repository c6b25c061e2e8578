use Rattle.std.proofs.Common.{◌≡◌, ◌<◌, ◌≤◌, ◌+◌, ℕ, [], false, sym, ◌∙◌, arith, length, take, drop}
use Rattle.diva_ooo.specs.Issue.{issued, issued_from}
use Rattle.diva_ooo.specs.Board.{can_at}
use Rattle.diva_ooo.specs.MarkSets.{has}
use Rattle.diva_ooo.proofs.Marking.{past_first, rest_among, rest_past, without_first}
use Rattle.diva_ooo.proofs.Issued.{AreAsBefore, before_next, before_same, begun_next, issued_end, issued_two, passed_one, passed_stay, waits_at}
use Rattle.diva_ooo.proofs.issuing.issue.Goals as goal
use Rattle.diva_ooo.proofs.issuing.issue.Goals.{then-is_ready+else-begun-eq2, else-is_ready}

pub loop-at-init : goal.loop-at-init
loop-at-init c =
    let first = c.first-at.ensures in
    let among = c.candidate_places-candidates.ensures in
    record {
      left = sym (passed_stay c.args.ahead.now c.args.view.now 0 c.args.window.now 0 c.first-at.result (omega arith) (λ i from lt. among.others i (first.lower i lt)));
      few = omega arith;
      passed = first.lower;
      here = first.there;
      waits = among.waiting;
      stored = among.stored;
      others = λ i from. among.others i;
    }

pub begin_at-requires-clause-waits : goal.begin_at-requires-clause-waits
begin_at-requires-clause-waits c = λ e is.
    let long = c.len.ensures.most in
    waits_at c.loop-at.window c.is_ready.new.self c.loop-at.at e c.is_ready.ensures.same (c.loop-at.invariant.waits c.loop-at.at (c.loop-at.invariant.here (omega arith))) is

pub loop-at-preserved : goal.loop-at-preserved
loop-at-preserved c =
    let ahead = c.args.ahead.now in
    let s = c.args.view.now in
    let w = c.loop-at.window in
    let at = c.loop-at.at in
    let now = c.if-is_ready.window in
    let kept = c.loop-at.invariant in
    let first = c.first-at-in-loop-at.ensures in
    let next = c.first-at-in-loop-at.result in
    let most = c.len.ensures.most in
    let inside : at < length w = let long = c.len.ensures.value in omega arith in
    let here : issued_from ahead s c.if-is_ready.begun (take (at + 1) now) (drop (at + 1) now) ≡ issued_from ahead s c.loop-at.begun (take at w) (drop at w) =
    elim c.if-is_ready.branch [
      | then-is_ready+else-begun-eq2 v ↦
          rw (v.window-is, v.begun-is) (begun_next ahead s c.loop-at.begun w c.is_ready.new.self v.begin_at.new.window at c.loop-at.invariant.few inside
          (sym c.is_ready.ensures.value ∙ v.if-is_ready.true) c.is_ready.ensures.same v.begin_at.ensures.started)
      | else-is_ready v ↦
          rw (v.window-is, v.begun-is, c.is_ready.ensures.same) (sym (passed_one ahead s c.loop-at.begun w at inside (sym c.is_ready.ensures.value ∙ v.if-is_ready.false)))
    ] in
    let few : c.if-is_ready.begun < 2 = elim c.if-is_ready.branch [
      | then-is_ready+else-begun-eq2 v ↦ let begun = v.begun-is in omega arith
      | else-is_ready v ↦ let begun = v.begun-is in omega arith
    ] in
    let as_before : AreAsBefore w now at = elim c.if-is_ready.branch [
      | then-is_ready+else-begun-eq2 v ↦
          rw v.window-is (before_next ahead s w c.is_ready.new.self v.begin_at.new.window at inside (kept.waits at (kept.here (omega arith))) c.is_ready.ensures.same v.begin_at.ensures.started)
      | else-is_ready v ↦ before_same w now at (v.window-is ∙ c.is_ready.ensures.same)
    ] in
    let far : at + 1 ≤ next = past_first c.loop-at.candidates c.remove.new.self at next c.remove.ensures kept.passed first.there (omega arith) in
    let others : (i : ℕ) → at + 1 ≤ i → has c.remove.new.self i ≡ false → can_at [] now i ≡ false =
    λ i from off. as_before.can i (omega arith) ∙ kept.others i (omega arith) (sym (without_first c.loop-at.candidates c.remove.new.self at i c.remove.ensures from) ∙ off) in
    record {
      left = sym (passed_stay ahead s c.if-is_ready.begun now (at + 1) next far (λ i from lt. others i from (first.lower i lt))) ∙ here ∙ kept.left;
      few = few;
      passed = first.lower;
      here = first.there;
      waits = λ i there.
          let behind = rest_past c.loop-at.candidates c.remove.new.self at i c.remove.ensures kept.passed there in
          as_before.waits i (omega arith) ∙ kept.waits i (rest_among c.loop-at.candidates c.remove.new.self at i c.remove.ensures there);
      stored = λ i there load.
          let behind = rest_past c.loop-at.candidates c.remove.new.self at i c.remove.ensures kept.passed there in
          as_before.stored i ∙ kept.stored i (rest_among c.loop-at.candidates c.remove.new.self at i c.remove.ensures there) (sym (as_before.loads i (omega arith)) ∙ load);
      others = λ i from. others i (omega arith);
    }

pub returns-then-begun-eq2 : goal.returns-then-begun-eq2
unfolding issued
returns-then-begun-eq2 c =
    let ahead = c.args.ahead.now in
    let s = c.args.view.now in
    let w = c.loop-at.window in
    let at = c.loop-at.at in
    let inside : at < length w = let long = c.len.ensures.value in omega arith in
    sym (issued_two ahead s (c.loop-at.begun + 1) (at + 1) c.begin_at.new.window (omega arith))
    ∙ begun_next ahead s c.loop-at.begun w c.is_ready.new.self c.begin_at.new.window at c.loop-at.invariant.few inside (sym c.is_ready.ensures.value ∙ c.if-is_ready.true) c.is_ready.ensures.same c.begin_at.ensures.started
    ∙ c.loop-at.invariant.left

pub returns : goal.returns
unfolding issued
returns c =
    let long = c.len.ensures.value in
    sym (issued_end c.args.ahead.now c.args.view.now c.loop-at.begun c.loop-at.window c.loop-at.at (omega arith)) ∙ c.loop-at.invariant.left
