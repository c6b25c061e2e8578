-- One hart goes on: what it sees then, and where its stores lie.
use Rattle.std.proofs.Common.{◌≡◌, ℕ, ◌+◌, ◌%◌, ◌==◌, Bool, true, false, List, [], ◌∷◌, ◌++◌, refl, ap, sym, ◌∙◌, subst, if◌then◌else◌}
use Rattle.std.proofs.lemmas.List.{append-nil}
use Rattle.std.proofs.lemmas.Bool.{eqb-true}
use Rattle.diva_memory.specs.Bytes.{Bytes, IsInside, put_all, low_bytes}
use Rattle.diva_memory.proofs.Writing.{put_all_base}
use Rattle.diva_storeq.specs.Width.{is_width}
use Rattle.diva_storeq.specs.declared.masked.Masked.{Masked}
use Rattle.diva_storeq.specs.declared.store.Store.{Store}
use Rattle.diva_storeq.specs.Masked.{WritesInside, merge}
use Rattle.diva_storeq.specs.Stores.{entry_at, lay, laid, masked}
use Rattle.diva_storeq.proofs.Placing.{merge_masked, within_masked}
use Rattle.diva_storeq.proofs.Laying.{inside_laid, laid_append}
use Rattle.diva_isa.specs.declared.kind.Width.{Width}
use Rattle.diva_isa.specs.declared.kind.Width.TheVariants.{Byte, Half, Word}
use Rattle.diva_isa.specs.Kind.{size}
use Rattle.diva_isa.specs.State.{State, goes_on, memory_of}
use Rattle.diva_isa.specs.declared.record.Record.{Record}
use Rattle.diva_isa.specs.declared.effect.Effect.{Effect}
use Rattle.diva_isa.specs.declared.effect.Effect.TheVariants.{Nothing, Writes, Stores, Puts}
use Rattle.diva_isa.specs.Step.{record_of, apply, step, effect_of, with_effect}
use Rattle.diva_isa.specs.Inner.{HasRoom}
use Rattle.diva_isa.proofs.Room.{IsAligned, aligned_store, room}
use Rattle.diva_commit.specs.Committing.{AreInside, buffered, entry_by, state_of}
use Rattle.diva_commit.proofs.Storing.{inside_more}
use Rattle.diva_hart.specs.HartArch.{HartState, hart_in, seen}
use Rattle.diva_duo.specs.Harts.{gone}

-- ---- an entry of the buffer is the store that it stands for

is_sized : (w : Width) → is_width (size w) ≡ true
is_sized Byte = refl
is_sized Half = refl
is_sized Word = refl

abbrev store_of : (w : Width) (addr value : ℕ) → Store
store_of w addr value = record { addr = addr; width = size w; value = value; sized = is_sized w }

merge_entry : (m : Bytes) (w : Width) (addr value : ℕ) → addr % size w ≡ 0 → merge m (entry_at addr (size w) value) ≡ put_all m addr (low_bytes (size w) value)
unfolding masked lay
merge_entry m w addr value aligned = merge_masked m (store_of w addr value) aligned

within_entry : (m : Bytes) (w : Width) (addr value : ℕ) → IsInside m addr (size w) → WritesInside m (entry_at addr (size w) value)
unfolding masked
within_entry m w addr value inside = within_masked m (store_of w addr value) inside

-- ---- what an effect does to memory with a buffer laid over it

same_bytes : (m n : Bytes) → n.base ≡ m.base → record { base = m.base; items = n.items } ≡ n
same_bytes m n e = ap (λ (b : ℕ). record { base = b; items = n.items }) (sym e)

module _ (memory : Bytes) (h : HartState) where
  laid_effect : (e : Effect) → IsAligned e → laid memory (h.buffer ++ entry_by e) ≡ memory_of (with_effect (seen memory h) e)
  laid_effect Nothing aligned = ap (laid memory) (append-nil h.buffer)
  laid_effect (Writes rd value) aligned = ap (laid memory) (append-nil h.buffer)
  laid_effect (Stores w addr value) aligned =
      laid_append memory h.buffer (entry_at addr (size w) value ∷ [])
      ∙ merge_entry (laid memory h.buffer) w addr value aligned
      ∙ sym (same_bytes (laid memory h.buffer) (put_all (laid memory h.buffer) addr (low_bytes (size w) value)) (put_all_base (laid memory h.buffer) addr (low_bytes (size w) value)))
  laid_effect (Puts byte) aligned = ap (laid memory) (append-nil h.buffer)

  inside_effect : (e : Effect) → HasRoom (seen memory h) e → AreInside memory h.buffer → AreInside memory (h.buffer ++ entry_by e)
  inside_effect Nothing there h' = subst (AreInside memory) (sym (append-nil h.buffer)) h'
  inside_effect (Writes rd value) there h' = subst (AreInside memory) (sym (append-nil h.buffer)) h'
  inside_effect (Stores w addr value) there h' = inside_more memory h.buffer (entry_at addr (size w) value) h' (within_entry memory w addr value (inside_laid memory h.buffer addr (size w) there))
  inside_effect (Puts byte) there h' = subst (AreInside memory) (sym (append-nil h.buffer)) h'

  -- the record r goes on, or it ends
  abbrev moved_by : Record → Bool → State
  moved_by r b =
      let s = seen memory h in
      record (if b then record (with_effect s (effect_of r)) { pc = r.next } else record s { end = r.end }) { instret = s.instret + 1 }

  abbrev buffered_by : Record → Bool → List Masked
  buffered_by r b = if b then entry_by (effect_of r) else []

  seen_by : (r : Record) (b : Bool) → (b ≡ true → IsAligned (effect_of r)) → seen memory (hart_in (moved_by r b) (h.buffer ++ buffered_by r b)) ≡ moved_by r b
  seen_by r true aligned =
      let t = moved_by r true in
      ap (λ (m : Bytes). state_of t.regs t.pc m t.output t.instret t.end) (laid_effect (effect_of r) (aligned refl))
  seen_by r false aligned =
      let t = moved_by r false in
      ap (λ (m : Bytes). state_of t.regs t.pc m t.output t.instret t.end) (ap (laid memory) (append-nil h.buffer))

  inside_by : (r : Record) (b : Bool) → (b ≡ true → HasRoom (seen memory h) (effect_of r)) → AreInside memory h.buffer → AreInside memory (h.buffer ++ buffered_by r b)
  inside_by r true there i = inside_effect (effect_of r) (there refl) i
  inside_by r false there i = subst (AreInside memory) (sym (append-nil h.buffer)) i

  -- a hart that goes on sees what its state becomes by one step
  pub seen_gone : goes_on (seen memory h) ≡ true → seen memory (gone memory h) ≡ step (seen memory h)
  unfolding step apply buffered
  seen_gone on =
      let r = record_of (seen memory h) in
      rw on (seen_by r (r.end == 0) (λ e. aligned_store (seen memory h) (eqb-true r.end 0 e)))

  -- and its stores lie inside memory
  pub inside_gone : AreInside memory h.buffer → AreInside memory (gone memory h).buffer
  unfolding buffered
  inside_gone i =
      let r = record_of (seen memory h) in
      inside_by r (r.end == 0) (λ e. room (seen memory h) (eqb-true r.end 0 e)) i
