use Rattle.std.proofs.Common.{◌≡◌, Some, slice_get, rules}
use Rattle.std.proofs.lemmas.List.Elements.{All-set}
use Rattle.diva_memory.proofs.Spanning.{span_set}
use Rattle.diva_core.specs.declared.pending.Entry.{Entry}
use Rattle.diva_core.specs.Entries.{IsDecoded, MayStore}
use Rattle.diva_core.proofs.Clear.{decoded_by}
use Rattle.diva_core.proofs.pending.Pending.note_decoded.Goals as goal

pub invariant_of-self : goal.invariant_of-self
invariant_of-self c =
    let p = c.self.inside in
    let e : Entry = c.unwrap-noted.result.now in
    let d : Entry = record e { decoded = c.decode_here-noted.result } in
    let here : slice_get p.entries.items c.args.at ≡ Some e = search rules in
    (All-set IsDecoded p.entries.items c.args.at d (decoded_by e.claim.word c.decode_here-noted.result c.decode_here-noted.ensures.row_of) c.self.invariant.0, c.self.invariant.1, span_set MayStore p.span p.entries.items c.args.at e d here (λ a k may. may) c.self.invariant.2)
