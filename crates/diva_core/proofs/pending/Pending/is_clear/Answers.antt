use Rattle.diva_isa.specs.Step.{effect_of}
use Rattle.diva_memory.proofs.Spanning.{span_apart}
use Rattle.diva_core.specs.Effects.{is_apart}
use Rattle.diva_core.specs.Entries.{MayStore}
use Rattle.diva_core.proofs.Clear.{claim_apart}
use Rattle.diva_core.proofs.pending.Pending.is_clear.Goals as goal

pub returns : goal.returns
returns c =
    let p = c.self.inside in
    let a = c.args.addr in
    let n = c.args.n in
    λ t. rw (← c.self.view_is) (span_apart MayStore (λ e. is_apart (effect_of e.claim) a n) p.span p.entries.items a n (λ e. claim_apart e a n) c.self.invariant.2 (c.is_apart.ensures.apart t))
