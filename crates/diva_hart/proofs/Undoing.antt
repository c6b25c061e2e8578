-- What the last instruction overwrote is put back.
use Rattle.std.proofs.Common.{◌≡◌, ◌-◌, ℕ, List, [], ◌∷◌, length, take, drop, refl, ap, ◌∙◌, arith}
use Rattle.diva_memory.specs.Bytes.{Bytes, low_bytes, put_all}
use Rattle.diva_memory.proofs.Writing.{put_all_base, put_all_length}
use Rattle.diva_storeq.specs.declared.masked.Masked.{Masked}
use Rattle.diva_storeq.specs.Stores.{laid}
use Rattle.diva_storeq.proofs.Laying.{laid_base, laid_length}
use Rattle.diva_isa.specs.Regs.{with_reg}
use Rattle.diva_isa.specs.Undo.{restore}
use Rattle.diva_isa.specs.declared.undo.Undo.{Undo}
use Rattle.diva_commit.specs.Committing.{state_of}
use Rattle.diva_hart.specs.HartArch.{HartState, seen}

pub length_rest : (stores : List Masked) → length (drop 1 stores) ≡ length stores - 1
length_rest [] = refl
length_rest (s ∷ stores) = omega arith

-- n is memory with all stores of the hart, and with the old bytes put back
module _ (m : Bytes) (h : HartState) (u : Undo) (mid n : Bytes) (drained : mid ≡ laid m h.buffer) (put : n ≡ put_all mid u.addr (low_bytes u.width u.bytes)) where
  pub restored_base : n.base ≡ m.base
  restored_base = ap (λ (z : Bytes). z.base) put ∙ put_all_base mid u.addr (low_bytes u.width u.bytes) ∙ ap (λ (z : Bytes). z.base) drained ∙ laid_base m h.buffer

  pub restored_size : length n.items ≡ length m.items
  restored_size = ap (λ (z : Bytes). length z.items) put ∙ put_all_length mid u.addr (low_bytes u.width u.bytes) ∙ ap (λ (z : Bytes). length z.items) drained ∙ laid_length m h.buffer

  pub restored_state : (regs output : List ℕ) (instret : ℕ) (buffer : List Masked)
      → regs ≡ with_reg h.regs u.reg u.old → output ≡ take u.out_len h.output → instret ≡ h.instret → buffer ≡ []
      → seen n (record { regs = regs; pc = u.pc; output = output; instret = instret - 1; end = 0; buffer = buffer }) ≡ restore (seen m h) u
  unfolding restore
  restored_state regs output instret buffer r o i empty =
      let bytes : List ℕ = low_bytes u.width u.bytes in
      ap (λ (b : List Masked). state_of regs u.pc (laid n b) output (instret - 1) 0) empty
      ∙ ap (λ (z : Bytes). state_of regs u.pc z output (instret - 1) 0) (put ∙ ap (λ (z : Bytes). put_all z u.addr bytes) drained)
      ∙ ap (λ (rs : List ℕ). state_of rs u.pc (put_all (laid m h.buffer) u.addr bytes) output (instret - 1) 0) r
      ∙ ap (λ (out : List ℕ). state_of (with_reg h.regs u.reg u.old) u.pc (put_all (laid m h.buffer) u.addr bytes) out (instret - 1) 0) o
      ∙ ap (λ (k : ℕ). state_of (with_reg h.regs u.reg u.old) u.pc (put_all (laid m h.buffer) u.addr bytes) (take u.out_len h.output) (k - 1) 0) i
      ∙ ap (λ (b : ℕ). state_of (with_reg h.regs u.reg u.old) u.pc (record { base = b; items = (put_all (laid m h.buffer) u.addr bytes).items }) (take u.out_len h.output) (h.instret - 1) 0)
      (put_all_base (laid m h.buffer) u.addr bytes)
