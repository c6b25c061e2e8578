use Rattle.std.proofs.Common.{◌≡◌, ◌++◌, [], ◌∷◌, None, false, sym, ◌∙◌, rules}
use Rattle.std.proofs.lemmas.List.Elements.{All-push}
use Rattle.circular_buffer.specs.Buffer.{buffer}
use Rattle.diva_memory.proofs.Spanning.{span_push, span_quiet}
use Rattle.diva_core.specs.declared.pending.Entry.{Entry}
use Rattle.diva_core.specs.Entries.{IsDecoded, MayStore, may_store}
use Rattle.diva_core.proofs.pending.Pending.accept.Goals.{then-has_store_opcode, else-has_store_opcode}
use Rattle.diva_core.proofs.pending.Pending.accept.Goals as goal

pub invariant_of-self : goal.invariant_of-self
invariant_of-self c =
    let p = c.self.inside in
    let e : Entry = record { claim = c.args.claim.now; cycle = c.args.cycle; decoded = None; verdict = None } in
    elim c.if-has_store_opcode.branch [
      | then-has_store_opcode w ↦
          let x = w.extend in
          let now : c.try_push_back.new.self ≡ buffer (p.entries.items ++ e ∷ []) p.entries.capacity = search rules in
          rw (now, w.self-inside-is) (All-push IsDecoded p.entries.items e c.self.invariant.0 tt, c.self.invariant.1, span_push MayStore p.span x.new.span p.entries.items e c.self.invariant.2 (rw w.len.ensures.len at x.ensures.older) (λ a k may. rw (may.1, may.2, ← w.len.ensures.len) x.ensures.youngest))
      | else-has_store_opcode w ↦
          let now : c.try_push_back.new.self ≡ buffer (p.entries.items ++ e ∷ []) p.entries.capacity = search rules in
          let other : may_store e ≡ false = sym c.has_store_opcode.ensures ∙ w.if-has_store_opcode.false in
          rw (now, w.self-inside-is) (All-push IsDecoded p.entries.items e c.self.invariant.0 tt, c.self.invariant.1, span_quiet MayStore p.span p.entries.items e (λ a k may. let m = may.0 in absurd (cc)) c.self.invariant.2)
    ]
