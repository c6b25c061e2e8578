-- What an instruction overwrote, put back after it, leads to the state before.
use Rattle.std.proofs.Common.{◌≡◌, ◌≢◌, ◌≤◌, ◌<◌, ℕ, zero, suc, ◌+◌, ◌-◌, ◌*◌, ◌%◌, ◌^◌, ◌==◌, Bool, true, false, List, [], ◌∷◌, ◌++◌, length, take, drop, Option, Some, None, slice_get, slice_index, add-zero, refl, ap, sym, ◌∙◌, subst, arith, if◌then◌else◌}
use Rattle.std.specs.Prelude.{slice_set, unwrap_or, nat_le}
use Rattle.std.proofs.lemmas.Bool.{eq-eqb, eqb-true}
use Rattle.std.proofs.lemmas.Bool.Decides.{nat_tests}
use Rattle.std.proofs.lemmas.Grind.{common_steps}
use Rattle.std.proofs.lemmas.Option.{none-some, same_Some}
use borrow.Rule.Slice.PartMut.{put_mid}
use Rattle.diva_memory.specs.Bytes.{Bytes, IsInside, byte_at, put_all, low_bytes}
use Rattle.diva_memory.proofs.Writing.{put_all_base, put_all_items, put_all_length}
use Rattle.diva_isa.specs.State.{State, GoesOn, goes_on, memory_of, number_of}
use Rattle.diva_isa.specs.Kind.{kind, size}
use Rattle.diva_isa.specs.Regs.{with_reg}
use Rattle.diva_isa.specs.Step.{record_of, apply, step, effect, effect_by, effect_of, with_effect, HasRegister}
use Rattle.diva_isa.specs.Inner.{HasRoom, IsExact, bytes_from}
use Rattle.diva_isa.specs.Undo.{IsUndo, applied, overwritten, pc_alone, restore, undo_of}
use Rattle.diva_isa.specs.declared.undo.Undo.{Undo}
use Rattle.diva_decode.specs.declared.instr.Instr.{Instr}
use Rattle.diva_decode.specs.Table.{row_of, HasRegisters}
use Rattle.diva_isa.specs.declared.kind.Kind.{Kind}
use Rattle.diva_isa.specs.declared.kind.Kind.TheVariants.{Lui, Auipc, Jal, Jalr, Branch, Load, Store, OpImm, OpReg, Fence, Ecall, Ebreak, Counter}
use Rattle.diva_isa.proofs.Registers.{registers_below}
use Rattle.diva_isa.specs.declared.record.Record.{Record}
use Rattle.diva_isa.specs.declared.kind.Width.{Width}
use Rattle.diva_isa.specs.declared.kind.Width.TheVariants.{Byte, Half, Word}
use Rattle.diva_isa.specs.declared.effect.Effect.{Effect}
use Rattle.diva_isa.specs.declared.effect.Effect.TheVariants.{Nothing, Writes, Stores, Puts}
use Rattle.diva_isa.proofs.Room.{room}
use Rattle.diva_isa.proofs.Stored.{length_low_bytes}

-- ---- lists

set_back : (xs : List ℕ) (i v : ℕ) → slice_set (slice_set xs i v) i (slice_index xs i) ≡ xs
set_back [] i v = refl
set_back (x ∷ xs) zero v = refl
set_back (x ∷ xs) (suc i) v = ap (λ (ys : List ℕ). x ∷ ys) (set_back xs i v)

take_back : (xs ys : List ℕ) → take (length xs) (xs ++ ys) ≡ xs
take_back [] ys = refl
take_back (x ∷ xs) ys = ap (λ (zs : List ℕ). x ∷ zs) (take_back xs ys)

take_whole : (xs : List ℕ) → take (length xs) xs ≡ xs
take_whole [] = refl
take_whole (x ∷ xs) = ap (λ (zs : List ℕ). x ∷ zs) (take_whole xs)

drop_behind : (xs ys : List ℕ) → drop (length xs) (xs ++ ys) ≡ ys
drop_behind [] ys = refl
drop_behind (x ∷ xs) ys = drop_behind xs ys

take_drop : (n : ℕ) (xs : List ℕ) → take n xs ++ drop n xs ≡ xs
take_drop zero xs = refl
take_drop (suc n) [] = refl
take_drop (suc n) (x ∷ xs) = ap (λ (zs : List ℕ). x ∷ zs) (take_drop n xs)

-- as many as were overwritten are put back
mid_back : (items bs : List ℕ) (at n : ℕ) → length bs ≡ n → at + n ≤ length items → put_mid at n (put_mid at n items bs) (take n (drop at items)) ≡ items
mid_back items bs zero n e h =
    ap (λ (zs : List ℕ). take n items ++ zs) (ap (λ (k : ℕ). drop k (bs ++ drop n items)) (sym e) ∙ drop_behind bs (drop n items)) ∙ take_drop n items
mid_back [] bs (suc at) n e h = absurd (omega arith)
mid_back (x ∷ items) bs (suc at) n e h = ap (λ (zs : List ℕ). x ∷ zs) (mid_back items bs at n e (omega arith))

-- ---- memory

length_from : (m : Bytes) (addr n : ℕ) → IsInside m addr n → length (bytes_from m addr n) ≡ n
length_from m addr n h = let from = h.from in let to = h.to in grind (arith, common_steps)

bytes_back : (m : Bytes) (addr n : ℕ) (bs : List ℕ) → length bs ≡ n → IsInside m addr n → put_all (put_all m addr bs) addr (bytes_from m addr n) ≡ m
bytes_back m addr n bs e h =
    let from = h.from in let to = h.to in
    let inside : IsInside m addr (length bs) = rw e h in
    let long = length_from m addr n h in
    let first : put_all m addr bs ≡ record m { items = put_mid (addr - m.base) n m.items bs } = rw e at (put_all_items m addr bs inside) in
    let again : IsInside (put_all m addr bs) addr (length (bytes_from m addr n)) =
    record { from = omega (arith, put_all_base m addr bs); to = omega (arith, put_all_base m addr bs, put_all_length m addr bs, long) } in
    put_all_items (put_all m addr bs) addr (bytes_from m addr n) again
    ∙ ap (λ (k : ℕ). record (put_all m addr bs) { items = put_mid (addr - (put_all m addr bs).base) k (put_all m addr bs).items (bytes_from m addr n) }) long
    ∙ ap (λ (z : Bytes). record z { items = put_mid (addr - z.base) n z.items (bytes_from m addr n) }) first
    ∙ ap (λ (zs : List ℕ). record m { items = zs }) (mid_back m.items bs (addr - m.base) n e (omega arith))

there : (items : List ℕ) (at b : ℕ) → slice_get items at ≡ Some b → drop at items ≡ b ∷ drop (suc at) items
there [] at b e = absurd (none-some _ e)
there (x ∷ items) zero b e = ap (λ (y : ℕ). y ∷ items) (same_Some _ _ e)
there (x ∷ items) (suc at) b e = there items at b e

-- the byte at a place of the list
byte_there : (m : Bytes) (addr i b : ℕ) → byte_at m (addr + i) ≡ Some b → m.base ≤ addr → slice_get m.items (addr - m.base + i) ≡ Some b
byte_there m addr i b e h =
    let test : nat_le m.base (addr + i) ≡ true = grind (arith, nat_tests) in
    let place : addr + i - m.base ≡ addr - m.base + i = omega arith in
    rw (test, place) at e

four_there : (items : List ℕ) (at b0 b1 b2 b3 : ℕ) → slice_get items at ≡ Some b0 → slice_get items (at + 1) ≡ Some b1 → slice_get items (at + 2) ≡ Some b2 → slice_get items (at + 3) ≡ Some b3
    → take 4 (drop at items) ≡ b0 ∷ b1 ∷ b2 ∷ b3 ∷ []
four_there items at b0 b1 b2 b3 h0 h1 h2 h3 =
    let n2 : suc (at + 1) ≡ at + 2 = omega arith in
    let n3 : suc (at + 2) ≡ at + 3 = omega arith in
    let n1 : suc at ≡ at + 1 = omega arith in
    ap (take 4) (there items at b0 h0)
    ∙ ap (λ (zs : List ℕ). b0 ∷ take 3 zs) (ap (λ (k : ℕ). drop k items) n1 ∙ there items (at + 1) b1 h1)
    ∙ ap (λ (zs : List ℕ). b0 ∷ b1 ∷ take 2 zs) (ap (λ (k : ℕ). drop k items) n2 ∙ there items (at + 2) b2 h2)
    ∙ ap (λ (zs : List ℕ). b0 ∷ b1 ∷ b2 ∷ take 1 zs) (ap (λ (k : ℕ). drop k items) n3 ∙ there items (at + 3) b3 h3)

four_low : (b0 b1 b2 b3 : ℕ) → b0 < 2 ^ 8 → b1 < 2 ^ 8 → b2 < 2 ^ 8 → b3 < 2 ^ 8 → low_bytes 4 (b0 + b1 * 256 + b2 * 65536 + b3 * 16777216) ≡ b0 ∷ b1 ∷ b2 ∷ b3 ∷ []
four_low b0 b1 b2 b3 h0 h1 h2 h3 = grind arith

pub length_low : (n v : ℕ) → n ≤ 4 → length (low_bytes n v) ≡ n
length_low zero v h = refl
length_low (suc zero) v h = refl
length_low (suc (suc zero)) v h = refl
length_low (suc (suc (suc zero))) v h = refl
length_low (suc (suc (suc (suc zero)))) v h = refl
length_low (suc (suc (suc (suc (suc n))))) v h = absurd (omega arith)

-- a word that was read byte by byte is put back as these bytes
pub word_bytes : (m : Bytes) (addr b0 b1 b2 b3 w : ℕ) → IsInside m addr 4
    → byte_at m addr ≡ Some b0 → byte_at m (addr + 1) ≡ Some b1 → byte_at m (addr + 2) ≡ Some b2 → byte_at m (addr + 3) ≡ Some b3
    → b0 < 2 ^ 8 → b1 < 2 ^ 8 → b2 < 2 ^ 8 → b3 < 2 ^ 8
    → w ≡ b0 + b1 * 256 + b2 * 65536 + b3 * 16777216 → low_bytes 4 w ≡ bytes_from m addr 4
word_bytes m addr b0 b1 b2 b3 w inside e0 e1 e2 e3 h0 h1 h2 h3 is =
    let from = inside.from in
    let first : slice_get m.items (addr - m.base) ≡ Some b0 = rw add-zero at (byte_there m addr 0 b0 (rw add-zero e0) from) in
    ap (low_bytes 4) is ∙ four_low b0 b1 b2 b3 h0 h1 h2 h3
    ∙ sym (four_there m.items (addr - m.base) b0 b1 b2 b3 first (byte_there m addr 1 b1 e1 from) (byte_there m addr 2 b2 e2 from) (byte_there m addr 3 b3 e3 from))

-- ---- a state

reg_back : (regs : List ℕ) (rd v : ℕ) → with_reg (with_reg regs rd v) rd (slice_index regs rd) ≡ regs
reg_back regs zero v = refl
reg_back regs (suc rd) v = let no : (suc rd == 0) ≡ false = grind (arith, nat_tests) in rw no (set_back regs (suc rd) v)

-- the instruction is no longer counted
count_back : (s : State) (u : Undo) (n : ℕ) → restore (record s { instret = n + 1 }) u ≡ record (restore s u) { instret = n }
unfolding restore
count_back s u n = let e : n + 1 - 1 ≡ n = omega arith in ap (λ (k : ℕ). record (restore s u) { instret = k }) e

effect_back : (s : State) (e : Effect) (next : ℕ) → GoesOn s → HasRoom s e → IsExact s e
    → record (restore (record (with_effect s e) { pc = next }) (overwritten s e)) { instret = s.instret } ≡ s
unfolding restore
effect_back s Nothing next on fits exact = ap (λ (out : List ℕ). record s { output = out; end = 0 }) (take_whole s.output) ∙ ap (λ (n : ℕ). record s { end = n }) (sym on)
effect_back s (Writes rd value) next on fits exact =
    ap (λ (regs : List ℕ). record s { regs = regs; output = take (length s.output) s.output; end = 0 }) (reg_back s.regs rd value)
    ∙ ap (λ (out : List ℕ). record s { output = out; end = 0 }) (take_whole s.output) ∙ ap (λ (n : ℕ). record s { end = n }) (sym on)
effect_back s (Stores width addr value) next on fits exact =
    let m = memory_of s in
    let base : (put_all m addr (low_bytes (size width) value)).base ≡ s.base = put_all_base m addr (low_bytes (size width) value) in
    let same : (record { base = s.base; items = (put_all m addr (low_bytes (size width) value)).items }) ≡ put_all m addr (low_bytes (size width) value) =
    ap (λ (b : ℕ). record { base = b; items = (put_all m addr (low_bytes (size width) value)).items }) (sym base) in
    ap (λ (z : Bytes). record s { bytes = (put_all z addr (low_bytes (size width) (unwrap_or (number_of s (size width) addr) 0))).items; output = take (length s.output) s.output; end = 0 }) same
    ∙ ap (λ (bs : List ℕ). record s { bytes = (put_all (put_all m addr (low_bytes (size width) value)) addr bs).items; output = take (length s.output) s.output; end = 0 }) exact
    ∙ ap (λ (z : Bytes). record s { bytes = z.items; output = take (length s.output) s.output; end = 0 }) (bytes_back m addr (size width) (low_bytes (size width) value) (length_low_bytes width value) fits)
    ∙ ap (λ (out : List ℕ). record s { output = out; end = 0 }) (take_whole s.output) ∙ ap (λ (n : ℕ). record s { end = n }) (sym on)
effect_back s (Puts byte) next on fits exact =
    ap (λ (out : List ℕ). record s { output = out; end = 0 }) (take_back s.output (byte ∷ [])) ∙ ap (λ (n : ℕ). record s { end = n }) (sym on)

end_back : (s : State) (end : ℕ) → GoesOn s → record (restore (record s { end = end }) (pc_alone s)) { instret = s.instret } ≡ s
unfolding restore
end_back s end on = ap (λ (out : List ℕ). record s { output = out; end = 0 }) (take_whole s.output) ∙ ap (λ (n : ℕ). record s { end = n }) (sym on)

on_test : (s : State) → GoesOn s → goes_on s ≡ true
on_test s on = eq-eqb s.end 0 on

record_back : (c : Bool) (s : State) (r : Record) → (r.end == 0) ≡ c → GoesOn s → (r.end ≡ 0 → HasRoom s (effect_of r)) → IsExact s (if c then effect_of r else Nothing)
    → restore (record (if c then record (with_effect s (effect_of r)) { pc = r.next } else record s { end = r.end }) { instret = s.instret + 1 }) (overwritten s (if c then effect_of r else Nothing)) ≡ s
record_back true s r e on has exact =
    count_back (record (with_effect s (effect_of r)) { pc = r.next }) (overwritten s (effect_of r)) s.instret ∙ effect_back s (effect_of r) r.next on (has (eqb-true r.end 0 e)) exact
record_back false s r e on has exact = count_back (record s { end = r.end }) (pc_alone s) s.instret ∙ end_back s r.end on

-- restore undoes step
pub back_over : (s : State) → GoesOn s → IsExact s (applied (record_of s)) → restore (step s) (undo_of s) ≡ s
unfolding step apply undo_of
back_over s on exact =
    rw (on_test s on) (record_back ((record_of s).end == 0) s (record_of s) refl on (room s) exact)

-- ---- what is known of what the last instruction overwrote

pub is_undo : (s : State) (u : Undo) → undo_of s ≡ u → restore (step s) u ≡ s → IsUndo (step s) u
is_undo s u same back = record { stepped = ap step back; overwrote = ap undo_of back ∙ same }

-- the bounds of what an effect overwrites
pub record IsBounded (s : State) (u : Undo) : Type 0 where
  pub register : u.reg < 32
  pub width : u.width ≤ 4
  pub inside : u.width ≢ 0 → IsInside (memory_of s) u.addr u.width

size_few : (w : Width) → size w ≤ 4
size_few Byte = omega arith
size_few Half = omega arith
size_few Word = omega arith

effect_bounds : (s : State) (e : Effect) → HasRegister e → HasRoom s e → IsBounded s (overwritten s e)
effect_bounds s Nothing has fits = record { register = omega arith; width = omega arith; inside = λ some. absurd (some refl) }
effect_bounds s (Writes rd value) has fits = record { register = has; width = omega arith; inside = λ some. absurd (some refl) }
effect_bounds s (Stores width addr value) has fits = record { register = omega arith; width = size_few width; inside = λ some. fits }
effect_bounds s (Puts byte) has fits = record { register = omega arith; width = omega arith; inside = λ some. absurd (some refl) }

put_register : (c : Bool) (byte : ℕ) → HasRegister (if c then Puts byte else Nothing)
put_register true byte = tt
put_register false byte = tt

kind_register : (k : Kind) (i : Instr) (r : Record) → HasRegisters i → HasRegister (effect k i r)
kind_register Lui i r h = h.0
kind_register Auipc i r h = h.0
kind_register Jal i r h = h.0
kind_register Jalr i r h = h.0
kind_register Branch i r h = tt
kind_register (Load width) i r h = h.0
kind_register (Store width) i r h = tt
kind_register OpImm i r h = h.0
kind_register OpReg i r h = h.0
kind_register Fence i r h = tt
kind_register Ecall i r h = put_register (r.src1 == 1) (r.value % 2 ^ 8)
kind_register Ebreak i r h = tt
kind_register Counter i r h = h.0

by_register : (o : Option Instr) (w : ℕ) (r : Record) → row_of w ≡ o → HasRegister (effect_by o r)
by_register None w r is = tt
by_register (Some i) w r is = kind_register (kind i.op) i r (registers_below w i is)

effect_register : (r : Record) → HasRegister (effect_of r)
effect_register r = by_register (row_of r.word) r.word r refl

applied_bounds : (c : Bool) (s : State) (r : Record) → (r.end == 0) ≡ c → (r.end ≡ 0 → HasRoom s (effect_of r)) → IsBounded s (overwritten s (if c then effect_of r else Nothing))
applied_bounds true s r e has = effect_bounds s (effect_of r) (effect_register r) (has (eqb-true r.end 0 e))
applied_bounds false s r e has = effect_bounds s Nothing tt tt

undo_bounds : (s : State) → IsBounded s (undo_of s)
unfolding undo_of
undo_bounds s = applied_bounds ((record_of s).end == 0) s (record_of s) refl (room s)

-- memory has its range also where it is put back
restored_inside : (s : State) (u : Undo) (a n : ℕ) → IsInside (memory_of (restore s u)) a n → IsInside (memory_of s) a n
unfolding restore
restored_inside s u a n h = let from = h.from in let to = h.to in record { from = from; to = omega (arith, put_all_length (memory_of s) u.addr (low_bytes u.width u.bytes)) }

pub last_bounds : (s : State) (u : Undo) → IsUndo s u → IsBounded s u
last_bounds s u is =
    let b : IsBounded (restore s u) u = subst (IsBounded (restore s u)) is.overwrote (undo_bounds (restore s u)) in
    record { register = b.register; width = b.width; inside = λ some. restored_inside s u u.addr u.width (b.inside some) }

out_len_is : (s : State) → (undo_of s).out_len ≡ length s.output
unfolding undo_of
out_len_is s = by_effect s (applied (record_of s))
  where
    by_effect : (s : State) (e : Effect) → (overwritten s e).out_len ≡ length s.output
    by_effect s Nothing = refl
    by_effect s (Writes rd value) = refl
    by_effect s (Stores width addr value) = refl
    by_effect s (Puts byte) = refl

take_fits : (xs : List ℕ) (n : ℕ) → n ≡ length (take n xs) → n ≤ length xs
take_fits xs zero e = omega arith
take_fits [] (suc n) e = absurd (omega arith)
take_fits (x ∷ xs) (suc n) e = let h = take_fits xs n (omega arith) in omega arith

pub last_output : (s : State) (u : Undo) → IsUndo s u → u.out_len ≤ length s.output
unfolding restore
last_output s u is = take_fits s.output u.out_len (ap (λ (v : Undo). v.out_len) (sym is.overwrote) ∙ out_len_is (restore s u))

-- an instruction led to the state
pub last_counted : (s : State) (u : Undo) → IsUndo s u → 1 ≤ s.instret
unfolding restore step apply
last_counted s u is = let e : s.instret - 1 + 1 ≡ s.instret = ap (λ (z : State). z.instret) is.stepped in omega arith
