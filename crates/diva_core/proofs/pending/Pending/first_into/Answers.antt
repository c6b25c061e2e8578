use Rattle.std.proofs.Common.{◌≡◌, ◌∙◌, ℕ, sym, ap, arith}
use Rattle.diva_isa.specs.State.{word_of}
use Rattle.diva_core.specs.Older.{older, with_claims}
use Rattle.diva_core.proofs.Bypassing.{apart_kept, word_kept}
use Rattle.diva_core.proofs.pending.Pending.first_into.Goals as goal

pub loop-place-preserved : goal.loop-place-preserved
loop-place-preserved c = λ s i lt.
    rw (c.next_effect.ensures s) (apart_kept _ c.next_effect.result c.args.addr i (sym c.is_apart.ensures ∙ c.if-not-is_apart.false) lt ∙ c.loop-place.invariant s i lt)

pub returns-clause-none : goal.returns-clause-none
returns-clause-none c = λ e s.
    let items = c.args.self.now.items in
    let end : c.loop-place.place ≡ c.args.count = omega arith in
    ap (λ (k : ℕ). word_of (with_claims s (older items k)) c.args.addr) (sym end) ∙ word_kept (with_claims s (older items c.loop-place.place)) s c.args.addr (c.loop-place.invariant s)
