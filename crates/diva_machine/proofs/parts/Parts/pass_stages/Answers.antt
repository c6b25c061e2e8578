use Rattle.std.proofs.lemmas.List.{append-nil, length-map, take_all}
use Rattle.std.proofs.Common.{◌≡◌, ◌≤◌, ◌-◌, ◌+◌, ◌++◌, ℕ, List, [], length, take, Some, slice_get, sym, ap, ◌∙◌, refl, subst, arith}
use Rattle.diva_core.specs.Future.{IsFuture}
use Rattle.diva_core.specs.Timed.{Timed}
use Rattle.diva_core.specs.Entries.{pending_claim_of}
use Rattle.diva_core.specs.Older.{before_entry}
use Rattle.diva_isa.specs.State.{State}
use Rattle.diva_machine.specs.Staged.{Parts}
use Rattle.diva_machine.specs.Inner.{IsAdvanced}
use Rattle.diva_vote.specs.Questions.{Question}
use Rattle.diva_machine.specs.Asked.{asked_at, asked_in}
use Rattle.diva_machine.proofs.Asking.{asked_next, none_before}
use Rattle.diva_machine.proofs.Staging.{entry_at, get_mapped, same_length, stage_next, stages_begin, stages_end, still_young}
use Rattle.diva_machine.proofs.parts.Parts.pass_stages.Goals as goal

pub loop-at-init : goal.loop-at-init
loop-at-init g c =
    let w = c.args.self.now in
    let begins = stages_begin w c.requires.cycles c.requires.staged in
    let more = begins.1 in
    let at = ap (λ (z : Parts). z.passed) c.self.view_is in
    record {
      rest = refl;
      waits = sym c.requires.staged.waits;
      length = refl;
      below = omega arith;
      from = omega arith;
      early = λ h. sym at;
      late = λ h. omega arith;
      future = c.requires.staged.future;
      advanced = rw at begins.0;
      sound = c.requires.stages_sound;
      led = λ first before h.
          let shown : State = record w.timed.arch { end = 0 } in
          let none : asked_in w.timed.cycles shown (take c.self.inside.passed w.timed.under.pending) ≡ [] = ap (λ (n : ℕ). asked_in w.timed.cycles shown (take n w.timed.under.pending)) at ∙ none_before w shown c.requires.cycles c.requires.staged in
          subst (λ (qs : List Question). g.S.Stages.led first (before ++ qs) c.args.stages.now) (sym none) (rw (append-nil before) h);
    }

pub pass_stage-requires-clause-aged : goal.pass_stage-requires-clause-aged
pass_stage-requires-clause-aged g c = λ e here.
    let inv = c.loop-at.invariant in
    rw inv.rest (still_young c.args.self.now c.loop-at.at e c.loop-at.self.entries c.requires.cycles c.requires.staged inv.waits inv.from here).0

pub pass_stage-requires-clause-young : goal.pass_stage-requires-clause-young
pass_stage-requires-clause-young g c = λ e here.
    let inv = c.loop-at.invariant in
    rw inv.rest (still_young c.args.self.now c.loop-at.at e c.loop-at.self.entries c.requires.cycles c.requires.staged inv.waits inv.from here).1

pub pass_stage-requires-clause-future : goal.pass_stage-requires-clause-future
pass_stage-requires-clause-future g c =
    let inv = c.loop-at.invariant in
    subst (λ (m : Timed). IsFuture m.arch c.loop-at.self.entries c.loop-at.self.future) (sym (ap (λ (x : Parts). x.timed) inv.rest)) inv.future

pub loop-at-preserved : goal.loop-at-preserved
loop-at-preserved g c =
    let w = c.args.self.now in
    let inv = c.loop-at.invariant in
    let z = c.pass_stage.new.self in
    let same : c.loop-at.self.timed ≡ w.timed = ap (λ (x : Parts). x.timed) inv.rest in
    let len : length c.self-in-loop-at.inside.under.pending.items ≡ length c.loop-at.self.entries = ap (λ (x : Parts). length x.entries) c.self-in-loop-at.view_is in
    let next = stage_next w c.loop-at.self z c.loop-at.at c.requires.cycles c.requires.staged same inv.waits inv.from (omega arith) c.pass_stage.ensures.passed inv.below inv.early inv.late in
    record {
      rest = c.pass_stage.ensures.rest ∙ ap (λ (x : Parts). record x { entries = z.entries; passed = z.passed; future = z.future }) inv.rest;
      waits = c.pass_stage.ensures.waits ∙ inv.waits;
      length = same_length z.entries c.loop-at.self.entries c.pass_stage.ensures.waits ∙ inv.length;
      below = next.0;
      from = omega arith;
      early = next.1.0;
      late = next.1.1;
      future = subst (λ (m : Timed). IsFuture m.arch z.entries z.future) (ap (λ (x : Parts). x.timed) c.pass_stage.ensures.rest ∙ same) c.pass_stage.ensures.future;
      advanced = subst (λ (m : Timed). IsAdvanced m.arch (w.timed.cycles - 1) (c.loop-at.at + 1) z.entries) same
          (c.pass_stage.ensures.advanced (w.timed.cycles - 1) (let some = c.requires.cycles in ap (λ (m : Timed). m.cycles) same ∙ omega arith)
          (subst (λ (m : Timed). IsAdvanced m.arch (w.timed.cycles - 1) c.loop-at.at c.loop-at.self.entries) (sym same) inv.advanced));
      sound = c.pass_stage.ensures.stages_sound;
      led = λ first before h.
          let there = entry_at c.loop-at.self.entries c.loop-at.at (omega arith) in
          let stands : slice_get w.timed.under.pending c.loop-at.at ≡ Some (pending_claim_of there.0) = ap (λ ps. slice_get ps c.loop-at.at) (sym inv.waits) ∙ get_mapped c.loop-at.self.entries c.loop-at.at there.0 there.1 in
          let shown : State = record w.timed.arch { end = 0 } in
          rw (asked_next before w.timed.cycles shown c.loop-at.self.entries w.timed.under.pending c.loop-at.at (pending_claim_of there.0) inv.waits stands)
          (subst (λ (m : Timed). g.S.Stages.led first ((before ++ asked_in w.timed.cycles shown (take c.loop-at.at w.timed.under.pending)) ++ asked_at (m.cycles - there.0.cycle) (before_entry (record m.arch { end = 0 }) c.loop-at.self.entries c.loop-at.at) there.0.claim) c.pass_stage.new.stages) same
          (c.pass_stage.ensures.led there.0 first _ there.1 (inv.led first before h)));
    }

pub returns-clause-staged : goal.returns-clause-staged
returns-clause-staged g c =
    let inv = c.loop-at.invariant in
    let len : length c.self-in-loop-at.inside.under.pending.items ≡ length c.loop-at.self.entries = ap (λ (x : Parts). length x.entries) c.self-in-loop-at.view_is in
    stages_end c.args.self.now c.loop-at.self c.loop-at.at c.requires.cycles inv.rest inv.waits c.requires.staged (omega arith) inv.advanced inv.late inv.future

pub returns-clause-led : goal.returns-clause-led
returns-clause-led g c = λ first before h.
    let w = c.args.self.now in
    let inv = c.loop-at.invariant in
    let len : length c.self-in-loop-at.inside.under.pending.items ≡ length c.loop-at.self.entries = ap (λ (x : Parts). length x.entries) c.self-in-loop-at.view_is in
    let few : length w.timed.under.pending ≤ c.loop-at.at = (let e = ap (λ ps. length ps) inv.waits in let m = length-map c.loop-at.self.entries pending_claim_of in omega arith) in
    subst (λ ps. g.S.Stages.led first (before ++ asked_in w.timed.cycles (record w.timed.arch { end = 0 }) ps) c.loop-at.stages) (take_all c.loop-at.at w.timed.under.pending few) (inv.led first before h)
