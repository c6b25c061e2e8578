-- The future file, as claims leave their results and as they commit.
use Rattle.std.proofs.Common.{◌≡◌, ◌≢◌, ℕ, zero, suc, ◌+◌, ◌-◌, ◌%◌, ◌^◌, ◌==◌, ◌≤◌, List, [], ◌∷◌, ◌++◌, length, drop, slice_get, Option, Some, None, Bool, true, false, if◌then◌else◌, refl, sym, ap, ◌∙◌, arith}
use Rattle.std.proofs.lemmas.Bool.{eqb-false, eqb-true}
use Rattle.std.proofs.lemmas.Grind.{common_steps}
use Rattle.std.proofs.lemmas.Option.{none-some, same_Some}
use Rattle.diva_decode.specs.declared.instr.Instr.{Instr}
use Rattle.diva_decode.specs.Table.{row_of}
use Rattle.diva_isa.specs.State.{State}
use Rattle.diva_isa.specs.Regs.{with_reg}
use Rattle.diva_isa.specs.Kind.{kind}
use Rattle.diva_isa.specs.Step.{apply, effect, effect_by, effect_of, with_effect}
use Rattle.diva_isa.specs.declared.kind.Kind.{Kind}
use Rattle.diva_isa.specs.declared.kind.Kind.TheVariants.{Lui, Auipc, Jal, Jalr, Branch, Load, Store, OpImm, OpReg, Fence, Ecall, Ebreak, Counter}
use Rattle.diva_isa.specs.declared.effect.Effect.{Effect}
use Rattle.diva_isa.specs.declared.effect.Effect.TheVariants.{Nothing, Puts}
use Rattle.diva_isa.specs.declared.record.Record.{Record}
use Rattle.diva_core.specs.declared.pending.Entry.{Entry}
use Rattle.diva_core.specs.Older.{older, with_claims}
use Rattle.diva_core.specs.Future.{FutureFile, IsFuture, committed_file, target_by, with_result, without_oldest}
use Rattle.diva_core.proofs.Bypassing.{apply_goes, apply_moves, claims_more}
use Rattle.diva_core.proofs.Forms.{writes_target}

-- ---- what a claim does to the registers

none_written : (regs : List ℕ) (d v : ℕ) → d ≡ 0 → with_reg regs d v ≡ regs
none_written regs d v e = ap (λ (n : ℕ). with_reg regs n v) e

put_regs : (b : Bool) (s : State) (byte : ℕ) → (with_effect s (if b then Puts byte else Nothing)).regs ≡ s.regs
put_regs true s byte = refl
put_regs false s byte = refl

-- an instruction that has x0 for its result changes no register
none_by : (k : Kind) (i : Instr) (r : Record) (s : State) → i.rd ≡ 0 → (with_effect s (effect k i r)).regs ≡ s.regs
none_by Lui i r s e = none_written s.regs i.rd r.value e
none_by Auipc i r s e = none_written s.regs i.rd r.value e
none_by Jal i r s e = none_written s.regs i.rd r.value e
none_by Jalr i r s e = none_written s.regs i.rd r.value e
none_by Branch i r s e = refl
none_by (Load width) i r s e = none_written s.regs i.rd r.value e
none_by (Store width) i r s e = refl
none_by OpImm i r s e = none_written s.regs i.rd r.value e
none_by OpReg i r s e = none_written s.regs i.rd r.value e
none_by Fence i r s e = refl
none_by Ecall i r s e = put_regs (r.src1 == 1) s (r.value % 2 ^ 8)
none_by Ebreak i r s e = refl
none_by Counter i r s e = none_written s.regs i.rd r.value e

by_row : (o : Option Instr) (s : State) (r : Record) → row_of r.word ≡ o → (with_effect s (effect_by o r)).regs ≡ with_reg s.regs (target_by o) r.value
by_row None s r e = refl
by_row (Some i) s r e = by_target (i.rd == 0) refl
  where
    same : effect_of r ≡ effect (kind i.op) i r
    same = ap (λ (o : Option Instr). effect_by o r) e

    by_target : (b : Bool) → (i.rd == 0) ≡ b → (with_effect s (effect (kind i.op) i r)).regs ≡ with_reg s.regs i.rd r.value
    by_target true z = let none : i.rd ≡ 0 = eqb-true _ _ z in none_by (kind i.op) i r s none ∙ sym (none_written s.regs i.rd r.value none)
    by_target false z = ap (λ (x : Effect). (with_effect s x).regs) (sym same ∙ writes_target r i e (eqb-false _ _ z))

pub regs_written : (s : State) (r : Record) → (with_effect s (effect_of r)).regs ≡ with_reg s.regs (target_by (row_of r.word)) r.value
regs_written s r = by_row (row_of r.word) s r refl

-- only the registers before it are of a matter
regs_alike : (s t : State) (r : Record) → s.regs ≡ t.regs → (with_effect s (effect_of r)).regs ≡ (with_effect t (effect_of r)).regs
regs_alike s t r e = regs_written s r ∙ ap (λ (regs : List ℕ). with_reg regs (target_by (row_of r.word)) r.value) e ∙ sym (regs_written t r)

pub claims_alike : (s t : State) (rs : List Record) → s.regs ≡ t.regs → (with_claims s rs).regs ≡ (with_claims t rs).regs
claims_alike s t [] e = e
claims_alike s t (r ∷ rs) e = claims_alike (with_effect s (effect_of r)) (with_effect t (effect_of r)) rs (regs_alike s t r e)

-- a claim that commits, and leaves the machine going on
pub committed_regs : (s : State) (r : Record) → (apply s r).end ≡ 0 → (apply s r).regs ≡ (with_effect s (effect_of r)).regs
committed_regs s r on = let goes = apply_goes s r on in ap (λ (t : State). t.regs) (apply_moves s r goes.0 goes.1)

-- ---- the file

pub future_begun : (s : State) (entries : List Entry) → IsFuture s entries (committed_file s.regs)
future_begun s entries = record { within = omega arith; regs = refl }

get_below : (entries : List Entry) (k : ℕ) (e : Entry) → slice_get entries k ≡ Some e → k + 1 ≤ length entries
get_below [] k e h = absurd (none-some _ h)
get_below (x ∷ entries) zero e h = omega arith
get_below (x ∷ entries) (suc k) e h = let rest = get_below entries k e h in omega arith

-- the next claim leaves its result
pub future_kept : (s : State) (entries : List Entry) (f : FutureFile) (e : Entry) → slice_get entries f.claims ≡ Some e → IsFuture s entries f → IsFuture s entries (with_result f e.claim)
future_kept s entries f e here is =
    record {
      within = get_below entries f.claims e here;
      regs = ap (λ (regs : List ℕ). with_reg regs (target_by (row_of e.claim.word)) e.claim.value) is.regs
          ∙ sym (regs_written (with_claims s (older entries f.claims)) e.claim)
          ∙ ap (λ (t : State). t.regs) (sym (claims_more s entries f.claims e here));
    }

-- the oldest claim has committed
pub future_left : (s t : State) (entries : List Entry) (f : FutureFile) (e : Entry) → slice_get entries 0 ≡ Some e → t.regs ≡ (with_effect s (effect_of e.claim)).regs
    → IsFuture s entries f → IsFuture t (drop 1 entries) (without_oldest t.regs f)
future_left s t [] f e here same is = absurd (none-some _ here)
future_left s t (x ∷ entries) f e here same is = by_claims (f.claims == 0) refl
  where
    older_rest : (k : ℕ) → k ≢ 0 → (with_claims s (older (x ∷ entries) k)).regs ≡ (with_claims t (older entries (k - 1))).regs
    older_rest k some =
        let one : k ≡ suc (k - 1) = omega arith in
        ap (λ (n : ℕ). (with_claims s (older (x ∷ entries) n)).regs) one
        ∙ ap (λ (y : Entry). (with_claims (with_effect s (effect_of y.claim)) (older entries (k - 1))).regs) (same_Some _ _ here)
        ∙ sym (claims_alike t (with_effect s (effect_of e.claim)) (older entries (k - 1)) same)

    by_claims : (b : Bool) → (f.claims == 0) ≡ b → IsFuture t entries (if b then committed_file t.regs else record { regs = f.regs; claims = f.claims - 1 })
    by_claims true z = future_begun t entries
    by_claims false z = record { within = (let w = is.within in omega arith); regs = is.regs ∙ older_rest f.claims (eqb-false _ _ z) }

-- the older claims stay where others come
pub older_more : (entries more : List Entry) (k : ℕ) → k ≤ length entries → older (entries ++ more) k ≡ older entries k
older_more entries more zero h = refl
older_more [] more (suc k) h = absurd (omega arith)
older_more (x ∷ entries) more (suc k) h = ap (λ (claims : List Record). x.claim ∷ claims) (older_more entries more k (omega arith))

more_length : (entries more : List Entry) (n : ℕ) → n ≤ length entries → n ≤ length (entries ++ more)
more_length entries more n h = grind (arith, common_steps)

-- claims become pending
pub future_more : (s : State) (entries more : List Entry) (f : FutureFile) → IsFuture s entries f → IsFuture s (entries ++ more) f
future_more s entries more f is =
    record {
      within = more_length entries more f.claims is.within;
      regs = is.regs ∙ ap (λ (rs : List Record). (with_claims s rs).regs) (sym (older_more entries more f.claims is.within));
    }
