-- Where no claim is older, and where none stores into the number, it is the view's.
use Rattle.std.proofs.Common.{◌≡◌, ℕ, List, refl, sym, ◌∙◌}
use Rattle.diva_isa.specs.Kind.{size}
use Rattle.diva_isa.specs.State.{State, number_of}
use Rattle.diva_core.specs.declared.pending.Entry.{Entry}
use Rattle.diva_core.specs.Older.{bypassed, older}
use Rattle.diva_core.proofs.Clear.{clear_number}
use Rattle.diva_core.proofs.bypass.BypassLook.number.Goals as goal
use Rattle.diva_core.proofs.bypass.BypassLook.number.Goals.{then-self-eq0-via-then-self-eq0, then-self-eq0-via-else-self-eq0+then-is_clear}

none_older : (s : State) (entries : List Entry) (k n a : ℕ) → k ≡ 0 → number_of (bypassed s (older entries k)) n a ≡ number_of s n a
none_older s entries k n a h = rw h refl

pub returns-then-self-eq0 : goal.returns-then-self-eq0
returns-then-self-eq0 c =
    let s = c.args.self.now.view.now in
    let entries = c.args.self.now.pending.now.items in
    let k = c.args.self.now.at in
    c.number.ensures ∙ sym (elim c.then-self-eq0.branch [
      | then-self-eq0-via-then-self-eq0 w ↦ none_older s entries k (size c.args.width) c.args.addr w.if-self-eq0.true
      | then-self-eq0-via-else-self-eq0+then-is_clear w ↦ rw w.size.ensures at (clear_number s entries k c.args.addr w.size.result (w.is_clear.ensures w.if-is_clear.true))
    ])
