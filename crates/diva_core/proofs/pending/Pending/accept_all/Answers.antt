use Rattle.std.proofs.Common.{◌≡◌, ◌++◌, List, map, take, ap, ◌∙◌, arith}
use Rattle.std.proofs.lemmas.List.{take_all}
use Rattle.diva_isa.specs.declared.record.Record.{Record}
use Rattle.diva_core.specs.Entries.{fresh, pending_claim_of}
use Rattle.diva_core.proofs.Accepting.{claims_more}
use Rattle.diva_core.proofs.pending.Pending.accept_all.Goals as goal

pub returns-clause-claims : goal.returns-clause-claims
returns-clause-claims c =
    let all : take c.loop-claim.claim-index c.args.claims.now ≡ c.args.claims.now = take_all c.loop-claim.claim-index c.args.claims.now (omega arith) in
    ap (map pending_claim_of) (c.loop-claim.invariant.items ∙ ap (λ (rs : List Record). c.args.self.now.items ++ map (fresh c.args.cycle) rs) all)
    ∙ claims_more c.args.self.now.items c.args.cycle c.args.claims.now
