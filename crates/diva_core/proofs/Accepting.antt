-- Claims that are accepted, as entries and as pending claims.
use Rattle.std.proofs.Common.{◌≡◌, ℕ, List, ◌++◌, map, ap, ◌∙◌}
use Rattle.std.proofs.lemmas.List.{map-append}
use Rattle.std.proofs.lemmas.Simd.{map-map}
use Rattle.diva_isa.specs.declared.record.Record.{Record}
use Rattle.diva_core.specs.Cycle.{accepted_in}
use Rattle.diva_core.specs.Entries.{fresh, pending_claim_of}
use Rattle.diva_core.specs.Timed.{PendingClaim}
use Rattle.diva_core.specs.declared.pending.Entry.{Entry}

pub claims_more : (entries : List Entry) (cycle : ℕ) (claims : List Record) → map pending_claim_of (entries ++ map (fresh cycle) claims) ≡ map pending_claim_of entries ++ map (accepted_in cycle) claims
claims_more entries cycle claims =
    map-append pending_claim_of entries (map (fresh cycle) claims)
    ∙ ap (λ (ps : List PendingClaim). map pending_claim_of entries ++ ps) (map-map pending_claim_of (fresh cycle) claims)
