-- One entry more is laid over the byte, and a byte outside stays outside.
use Rattle.std.proofs.Common.{◌≡◌, None, sym, rules, map}
use Rattle.std.proofs.lemmas.List.{map-append}
use Rattle.diva_memory.specs.Bytes.{byte_at}
use Rattle.diva_storeq.proofs.Laying.{laid_none, laid_more}
use Rattle.diva_storeq.proofs.queue.StoreQueue.byte_over.Goals as goal

pub returns-in_err-byte-clause-value : goal.returns-in_err-byte-clause-value
returns-in_err-byte-clause-value c =
    let outside : byte_at c.args.memory.now c.args.addr ≡ None = search rules in
    rw c.from_residual.ensures (sym (laid_none c.args.memory.now c.args.self.now.items c.args.addr outside))

pub loop-entry-preserved : goal.loop-entry-preserved
loop-entry-preserved c =
    simp map-append (rw (c.unwrap_or-byte.ensures, c.byte-in-loop-entry.ensures) (laid_more c.args.memory.now (map (λ e. e.now) c.loop-entry.yielded) c.in-Some.entry.now c.args.addr c.loop-entry.byte c.loop-entry.invariant))
