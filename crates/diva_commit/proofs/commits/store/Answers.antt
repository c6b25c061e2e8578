use Rattle.std.proofs.Common.{refl, ◌∙◌, ap}
use Rattle.diva_isa.specs.Kind.{size}
use Rattle.diva_memory.specs.Bytes.{Bytes}
use Rattle.diva_commit.specs.Committing.{state_of}
use Rattle.diva_storeq.specs.Stores.{masked}
use Rattle.diva_commit.proofs.Storing.{inside_pushed, range_fits, store_laid}
use Rattle.diva_commit.proofs.commits.store.Goals as goal

pub push-requires-clause-range : goal.push-requires-clause-range
push-requires-clause-range c =
    range_fits c.args.memory.now c.args.queue.now.items c.args.addr c.size-width.result (size c.args.width) c.recall.ensures c.size-width.ensures c.requires.inside

pub returns-clause-laid : goal.returns-clause-laid
returns-clause-laid c = λ regs pc output n end.
    ap (λ (m : Bytes). state_of regs pc m output n end) (c.push.ensures.laid c.args.memory.now)
    ∙ store_laid _ _ regs pc output n end (size c.args.width) c.args.addr c.args.value c.size-width.ensures refl refl

pub returns-clause-queued : goal.returns-clause-queued
unfolding masked
returns-clause-queued c = rw (c.push.ensures.entries, c.size-width.ensures) refl

pub returns-clause-inside : goal.returns-clause-inside
returns-clause-inside c = λ h.
    rw c.push.ensures.entries (inside_pushed c.args.memory.now c.args.queue.now.items _ (size c.args.width) c.size-width.ensures c.requires.inside h)
