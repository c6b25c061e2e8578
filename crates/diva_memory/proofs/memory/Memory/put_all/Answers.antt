-- A copy into the middle of the bytes writes them one by one, and nothing beside them.
use Rattle.std.proofs.Common.{◌≡◌, ◌≤◌, ◌<◌, ◌⊎◌, sym, subst, slice_get, ◌+◌, ◌-◌, List, ℕ, length, arith, ap}
use Rattle.std.proofs.lemmas.Grind.{common_steps}
use Rattle.std.proofs.lemmas.List.{with_items_is}
use borrow.Rule.Slice.PartMut.{put_mid}
use Rattle.diva_memory.specs.Bytes.{Bytes, byte_at}
use Rattle.diva_memory.proofs.Writing.{put_all_items, length_put_mid, put_all_written, put_all_beside}
use Rattle.diva_memory.proofs.memory.Memory.put_all.Goals as goal

-- the part that was copied to stands between what was before it and behind it
pub returns-clause-value : goal.returns-clause-value
returns-clause-value c =
    let m = c.self.inside in
    let n = length c.args.bytes.now in
    let at = c.args.addr - m.base in
    let len : at + n - at ≡ n = omega arith in
    let room : at + n ≤ length m.bytes.items = grind (arith, common_steps) in
    let fits : length (put_mid at n m.bytes.items c.args.bytes.now) ≡ m.bytes.len = rw (length_put_mid m.bytes.items c.args.bytes.now at room) (grind (arith, common_steps)) in
    rw (put_all_items c.args.self.now c.args.addr c.args.bytes.now c.requires, ← c.self.view_is, len, c.copy_from_slice.ensures.after, c.deref_mut.ensures.value)
    (ap (λ (xs : List ℕ). record { base = m.base; items = xs }) (with_items_is m.bytes (put_mid at n m.bytes.items c.args.bytes.now) fits))

pub returns-clause-written : goal.returns-clause-written
returns-clause-written c =
    let IsWritten : Bytes → Type 0 = λ m. (i : ℕ) → i < length c.args.bytes.now → byte_at m (c.args.addr + i) ≡ slice_get c.args.bytes.now i in
    subst IsWritten (sym (returns-clause-value c)) (put_all_written c.args.self.now c.args.addr c.args.bytes.now c.requires)

pub returns-clause-others : goal.returns-clause-others
returns-clause-others c =
    let IsKept : Bytes → Type 0 = λ m. (a : ℕ) → (a < c.args.addr) ⊎ (c.args.addr + length c.args.bytes.now ≤ a) → byte_at m a ≡ byte_at c.args.self.now a in
    subst IsKept (sym (returns-clause-value c)) (put_all_beside c.args.self.now c.args.addr c.args.bytes.now)
