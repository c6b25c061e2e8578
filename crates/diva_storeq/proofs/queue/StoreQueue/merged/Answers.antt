-- One entry more is laid over the word.
use Rattle.std.proofs.Common.{◌≡◌, ◌+◌, ◌%◌, map, append_assoc, sym, arith}
use Rattle.std.proofs.lemmas.Grind.{common_steps}
use Rattle.std.proofs.lemmas.List.{map-append, append-nil}
use Rattle.std.proofs.lemmas.List.Elements.{All-rest}
use Rattle.diva_storeq.specs.Masked.{IsMasked}
use Rattle.diva_storeq.specs.Stores.{laid}
use Rattle.diva_storeq.proofs.Laying.{laid_more, has_word}
use Rattle.diva_storeq.proofs.queue.StoreQueue.merged.Goals as goal

pub loop-entry-preserved : goal.loop-entry-preserved
loop-entry-preserved c = (
  All-rest IsMasked c.in-Some.entry.now c.next.new.self c.loop-entry.entry-iterator c.in-Some.ensures.steps c.loop-entry.invariant.0,
  simp (map-append, append_assoc) (rw c.in-Some.ensures.steps at c.loop-entry.invariant.1),
  c.over-word.type_inv,
  λ i lt. simp map-append (rw (c.over-word.ensures i lt) (laid_more c.args.memory.now (map (λ e. e.now) c.loop-entry.yielded) c.in-Some.entry.now (c.args.addr + i) _ (c.loop-entry.invariant.3 i lt))),
)

pub returns-clause-value : goal.returns-clause-value
returns-clause-value c =
    let aligned : c.args.addr % 4 ≡ 0 = grind (arith, common_steps) in
    let all : map (λ e. e.now) c.loop-entry.yielded ≡ c.args.self.now.items = rw (c.in-None.ensures.steps.0, append-nil) at c.loop-entry.invariant.1 in
    sym (has_word (laid c.args.memory.now c.args.self.now.items) c.args.addr c.loop-entry.word aligned c.loop-entry.invariant.2 (rw all at c.loop-entry.invariant.3))
