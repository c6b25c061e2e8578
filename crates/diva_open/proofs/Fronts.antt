-- The front claim, as it is looked up.
use Rattle.std.proofs.Common.{◌≡◌, ◌+◌, ◌&&◌, List, [], ◌∷◌, length, map, slice_get, Some, false, refl, arith}
use Rattle.std.specs.Prelude.{not, nat_le}
use Rattle.std.proofs.lemmas.Option.{none-some, same_Some}
use Rattle.diva_core.specs.declared.pending.Entry.{Entry}
use Rattle.diva_core.specs.Entries.{pending_claim_of}
use Rattle.diva_core.specs.Timed.{Timed, depth}
use Rattle.diva_core.specs.Cycle.{stores_wait}
use Rattle.diva_open.specs.Open.{leaves}

pub front_leaves :
    (m : Timed) (items : List Entry) (e : Entry)
    → slice_get items 0 ≡ Some e
    → leaves m (map pending_claim_of items) ≡ (nat_le (e.cycle + depth) m.cycles && not (stores_wait m.config.stores m.owed e.claim))
front_leaves m [] e here = absurd (none-some _ here)
front_leaves m (x ∷ items) e here = rw (same_Some _ _ here) refl

pub none_leaves : (m : Timed) (items : List Entry) → length items ≡ 0 → leaves m (map pending_claim_of items) ≡ false
none_leaves m [] none = refl
none_leaves m (x ∷ items) none = absurd (omega arith)
