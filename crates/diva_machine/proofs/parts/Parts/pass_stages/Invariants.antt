use Rattle.std.proofs.Common.{◌≡◌, ◌≤◌, ◌-◌, ◌++◌, List, length, map, take}
use Rattle.diva_core.specs.Future.{IsFuture}
use Rattle.diva_core.specs.Entries.{pending_claim_of}
use Rattle.diva_machine.specs.Staged.{passed_by}
use Rattle.diva_vote.specs.Questions.{Question}
use Rattle.diva_machine.specs.Asked.{asked_in}
use Rattle.diva_machine.specs.Inner.{IsAdvanced}
use Rattle.diva_machine.proofs.parts.Parts.pass_stages.Given as goal

abbrev pub invariant-loop-at : goal.invariant-loop-at
invariant-loop-at g l = record {
  rest : l.self ≡ record l.fn.self { entries = l.self.entries; passed = l.self.passed; future = l.self.future };
  waits : map pending_claim_of l.self.entries ≡ l.fn.self.timed.under.pending;
  length : length l.self.entries ≡ length l.fn.self.entries;
  below : l.self.passed ≤ l.at;
  from : l.fn.self.passed ≤ l.at;
  early : l.at ≤ passed_by l.fn.self.timed.cycles l.fn.self.timed.under.pending → l.self.passed ≡ l.at;
  late : passed_by l.fn.self.timed.cycles l.fn.self.timed.under.pending ≤ l.at → l.self.passed ≡ passed_by l.fn.self.timed.cycles l.fn.self.timed.under.pending;
  future : IsFuture l.fn.self.timed.arch l.self.entries l.self.future;
  advanced : IsAdvanced l.fn.self.timed.arch (l.fn.self.timed.cycles - 1) l.at l.self.entries;
  sound : g.S.Stages.sound l.stages;
  led : (first : _) (before : List Question) → g.S.Stages.led first before l.fn.stages
      → g.S.Stages.led first (before ++ asked_in l.fn.self.timed.cycles (record l.fn.self.timed.arch { end = 0 }) (take l.at l.fn.self.timed.under.pending)) l.stages;
}

abbrev pub decreases-loop-at : goal.decreases-loop-at
decreases-loop-at g l = length l.self.entries - l.at
