-- One entry more is laid over both bytes, and a half word of which a byte is outside is not there.
use Rattle.std.proofs.Common.{◌≡◌, ◌+◌, None, sym, rules, map}
use Rattle.std.proofs.lemmas.List.{map-append}
use Rattle.diva_memory.specs.Bytes.{byte_at}
use Rattle.diva_storeq.specs.Stores.{laid}
use Rattle.diva_storeq.proofs.Laying.{half_none, half_high_none, laid_none, laid_more}
use Rattle.diva_storeq.proofs.queue.StoreQueue.half_over.Goals as goal

pub returns-in_err-low : goal.returns-in_err-low
returns-in_err-low c =
    let m = c.args.memory.now in
    let entries = c.args.self.now.items in
    let outside : byte_at m c.args.addr ≡ None = search rules in
    rw c.from_residual.ensures (sym (half_none (laid m entries) c.args.addr (laid_none m entries c.args.addr outside)))

pub returns-in_err-high : goal.returns-in_err-high
returns-in_err-high c =
    let m = c.args.memory.now in
    let entries = c.args.self.now.items in
    let outside : byte_at m (c.args.addr + 1) ≡ None = search rules in
    rw c.from_residual-in_err-high.ensures (sym (half_high_none (laid m entries) c.args.addr (laid_none m entries (c.args.addr + 1) outside)))

pub loop-entry-preserved : goal.loop-entry-preserved
loop-entry-preserved c =
    let more = laid_more c.args.memory.now (map (λ e. e.now) c.loop-entry.yielded) c.in-Some.entry.now in
    simp map-append (
      rw (c.unwrap_or-low.ensures, c.byte-in-loop-entry.ensures) (more c.args.addr c.loop-entry.low c.loop-entry.invariant.0),
      rw (c.unwrap_or-high.ensures, c.byte-in-loop-entry-2.ensures) (more (c.args.addr + 1) c.loop-entry.high c.loop-entry.invariant.1),
    )
