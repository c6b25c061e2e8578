use Rattle.std.proofs.Common.{◌≡◌, ℕ, ◌++◌, [], ◌∷◌, refl, rules}
use Rattle.circular_buffer.specs.Buffer.{buffer}
use Rattle.diva_memory.proofs.Spanning.{span_push, span_quiet}
use Rattle.diva_isa.specs.declared.effect.Effect.{Effect}
use Rattle.diva_isa.specs.declared.effect.Effect.TheVariants.{Nothing, Writes, Stores, Puts}
use Rattle.diva_isa.specs.declared.kind.Width.{Width}
use Rattle.diva_ahead.specs.Inner.{StoresAt}
use Rattle.diva_ahead.proofs.ring.Ring.push.Goals.{in-Stores, in_default}
use Rattle.diva_ahead.proofs.ring.Ring.push.Goals as goal

stores_none : (e : Effect) → ((width : Width) (addr value : ℕ) → e ≡ Stores width addr value → ⊥) → (a n : ℕ) → StoresAt e a n → ⊥
stores_none Nothing h a n at = at
stores_none (Writes rd value) h a n at = at
stores_none (Stores width addr value) h a n at = h width addr value refl
stores_none (Puts byte) h a n at = at

pub invariant_of-self : goal.invariant_of-self
invariant_of-self c =
    let r = c.self.inside in
    elim c.match-effect.branch [
      | in-Stores w ↦
          let e : Effect = Stores w.in-Stores.width w.in-Stores.addr w.in-Stores.value in
          let x = w.extend in
          let now : c.try_push_back.new.self ≡ buffer (r.effects.items ++ e ∷ []) r.effects.capacity = search rules in
          rw (now, w.self-inside-is) (c.self.invariant.0, span_push StoresAt r.span x.new.self r.effects.items e c.self.invariant.1 (rw w.len.ensures.len at x.ensures.older) (λ a k at. rw (at.0, at.1, ← w.len.ensures.len, ← w.size.ensures) x.ensures.youngest))
      | in_default w ↦
          let now : c.try_push_back.new.self ≡ buffer (r.effects.items ++ c.args.effect ∷ []) r.effects.capacity = search rules in
          rw (now, w.self-inside-is) (c.self.invariant.0, span_quiet StoresAt r.span r.effects.items c.args.effect (stores_none c.args.effect w.in_default.not-Stores) c.self.invariant.1)
    ]
