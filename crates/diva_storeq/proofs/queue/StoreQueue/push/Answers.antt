-- One store more is laid over the others.
use Rattle.std.proofs.Common.{◌≡◌, [], ◌∷◌, ◌++◌, arith}
use Rattle.std.proofs.lemmas.Grind.{common_steps}
use Rattle.std.specs.List.{All}
use Rattle.std.proofs.lemmas.List.Elements.{All-push, All-weaker}
use Rattle.diva_memory.specs.declared.interval.Interval.{Interval}
use Rattle.diva_memory.specs.Interval.{LiesIn}
use Rattle.diva_storeq.specs.Masked.{IsMasked}
use Rattle.diva_storeq.specs.Stores.{masked}
use Rattle.diva_storeq.proofs.Laying.{laid_push, laid_push_covered, laid_push_others}
use Rattle.diva_storeq.proofs.Placing.{masked_sound}
use Rattle.diva_storeq.proofs.queue.StoreQueue.push.Goals.{then-is_empty, else-is_empty}
use Rattle.diva_storeq.proofs.queue.StoreQueue.push.Goals as goal

-- nothing is pushed out
stays : (c : goal.After-try_push_back) → c.try_push_back.new.self.items ≡ c.args.self.now.items ++ masked c.args.s ∷ []
stays c = grind (arith, common_steps)

pub invariant_of-self : goal.invariant_of-self
invariant_of-self c =
    let q = c.self.inside in
    let e = c.masked-entry.result in
    let items = c.args.self.now.items in
    let sound : All IsMasked items = rw c.self.view_is at c.self.invariant.0 in
    let within : All (λ d. LiesIn q.interval d.addr 4) items = rw c.self.view_is at c.self.invariant.1 in
    let now : Interval = c.widen.new.self in
    let kept : All (λ d. LiesIn now d.addr 4) items =
    elim c.if-is_empty.branch [
      | then-is_empty w ↦ let none : items ≡ [] = grind (arith, common_steps) in rw none (λ k d l. absurd (omega arith))
      | else-is_empty w ↦ All-weaker (λ d. LiesIn q.interval d.addr 4) (λ d. LiesIn now d.addr 4) (λ d h. c.widen.ensures.kept d.addr 4 (rw w.self-inside-is h)) items within
    ] in
    rw (stays c, ← c.masked-entry.ensures) (
      All-push IsMasked items e sound (rw c.masked-entry.ensures (masked_sound c.args.s c.requires.aligned)),
      All-push (λ d. LiesIn now d.addr 4) items e kept c.widen.ensures.wide,
    )

pub returns-clause-laid : goal.returns-clause-laid
returns-clause-laid c = λ m. rw (stays c) (laid_push m c.args.self.now.items c.args.s c.requires.aligned)

pub returns-clause-covered : goal.returns-clause-covered
returns-clause-covered c = λ m a h k. rw (stays c) (laid_push_covered m c.args.self.now.items c.args.s a c.requires.aligned h k)

pub returns-clause-others : goal.returns-clause-others
returns-clause-others c = λ m a h. rw (stays c) (laid_push_others m c.args.self.now.items c.args.s a c.requires.aligned h)
