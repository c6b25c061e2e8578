-- What a right line says is due, and a line of which all is due is right.
use Rattle.std.proofs.Common.{◌≡◌, ◌<◌, ◌^◌, ℕ, Bool, true, false, Option, Some, None, ap, ◌∙◌, refl, arith, if◌then◌else◌}
use Rattle.std.specs.Prelude.{not, ◌==◌, ◌||◌}
use Rattle.std.specs.Option.{unwrap_or}
use Rattle.std.proofs.lemmas.Bool.{eq-eqb, eqb-true}
use Rattle.diva_isa.specs.End.{end_of}
use Rattle.diva_isa.specs.State.{State}
use Rattle.diva_isa.specs.Step.{record_of}
use Rattle.diva_isa.specs.declared.record.Record.{Record}
use Rattle.diva_isa.proofs.Ends.{end_record_of}
use Rattle.diva_claims.specs.Said.{IsEndSaid, IsLineOf, IsSaid, SaysOf, contradicts, differs, done_by, end_said, is_trap, mask_stored, never, register_written}
use Rattle.diva_claims.specs.declared.said.Said.{Said}
use Rattle.diva_claims.specs.declared.said.SaidEnd.{SaidEnd}
use Rattle.diva_claims.specs.declared.said.SaidEnd.TheVariants.{Number, SomeTrap}

-- a number that is filled in is said, or nothing is
number_said : (o : Option ℕ) (due : ℕ) → unwrap_or o due ≡ due → IsSaid o due
number_said None due e = tt
number_said (Some number) due e = e

same_number : (b : Bool) (number due : ℕ) → (number == due) ≡ b → not b ≡ false → number ≡ due
same_number true number due e h = eqb-true number due e
same_number false number due e h = absurd (cc)

not_other : (o : Option ℕ) (due : ℕ) → differs o due ≡ false → IsSaid o due
not_other None due e = tt
not_other (Some number) due e = same_number (number == due) number due refl e

neither : (b c : Bool) → (b || c) ≡ false → (b ≡ false) × (c ≡ false)
neither false c e = (refl, e)
neither true c e = absurd (cc)

trap_said : (b : Bool) (due : ℕ) → due < 2 ^ 9 → is_trap (end_of due) ≡ b → (if b then due else never) ≡ due → is_trap (end_of due) ≡ true
trap_said true due small is e = is
trap_said false due small is e = absurd (omega arith)

end_is_said : (o : Option SaidEnd) (due : ℕ) → due < 2 ^ 9 → end_said o due ≡ due → IsEndSaid o due
end_is_said None due small e = tt
end_is_said (Some (Number end)) due small e = e
end_is_said (Some SomeTrap) due small e = trap_said (is_trap (end_of due)) due small refl e

-- a line whose end is due contradicts nothing
record Agrees (said : Said) (due : Record) : Type 0 where
  none : contradicts said due ≡ false
  end : end_said said.end due.end ≡ due.end

agrees : (b : Bool) (said : Said) (due : Record) → due.end < 2 ^ 9 → contradicts said due ≡ b → (if b then never else end_said said.end due.end) ≡ due.end → Agrees said due
agrees true said due small is e = absurd (omega arith)
agrees false said due small is e = record { none = is; end = e }

pub says : (said : Said) (s : State) → IsLineOf (Some said) (record_of s) → SaysOf said (record_of s)
says said s line =
    let due : Record = record_of s in
    let small : due.end < 2 ^ 9 = (end_record_of s).below in
    let a : Agrees said due = agrees (contradicts said due) said due small refl (ap (λ (r : Record). r.end) line) in
    let both = neither (differs said.rd (register_written (done_by due))) (differs said.mask (mask_stored (done_by due))) a.none in
    record {
      pc = number_said said.pc due.pc (ap (λ (r : Record). r.pc) line);
      word = number_said said.word due.word (ap (λ (r : Record). r.word) line);
      src1 = number_said said.src1 due.src1 (ap (λ (r : Record). r.src1) line);
      src2 = number_said said.src2 due.src2 (ap (λ (r : Record). r.src2) line);
      addr = number_said said.addr due.addr (ap (λ (r : Record). r.addr) line);
      value = number_said said.value due.value (ap (λ (r : Record). r.value) line);
      next = number_said said.next due.next (ap (λ (r : Record). r.next) line);
      end = end_is_said said.end due.end small a.end;
      rd = not_other said.rd (register_written (done_by due)) both.0;
      mask = not_other said.mask (mask_stored (done_by due)) both.1;
    }

-- ---- and the other way

filled_in : (o : Option ℕ) (due : ℕ) → IsSaid o due → unwrap_or o due ≡ due
filled_in None due h = refl
filled_in (Some number) due h = h

no_other : (o : Option ℕ) (due : ℕ) → IsSaid o due → differs o due ≡ false
no_other None due h = refl
no_other (Some number) due h = rw (eq-eqb number due h) refl

end_filled_in : (o : Option SaidEnd) (due : ℕ) → IsEndSaid o due → end_said o due ≡ due
end_filled_in None due h = refl
end_filled_in (Some (Number end)) due h = h
end_filled_in (Some SomeTrap) due h = rw h refl

pub is_right : (said : Said) (s : State) → SaysOf said (record_of s) → IsLineOf (Some said) (record_of s)
is_right said s h =
    let due : Record = record_of s in
    let none : contradicts said due ≡ false = rw (no_other said.rd (register_written (done_by due)) h.rd, no_other said.mask (mask_stored (done_by due)) h.mask) refl in
    let end : (if contradicts said due then never else end_said said.end due.end) ≡ due.end =
    ap (λ b. if b then never else end_said said.end due.end) none ∙ end_filled_in said.end due.end h.end in
    λ i. record {
      pc = filled_in said.pc due.pc h.pc i;
      word = filled_in said.word due.word h.word i;
      src1 = filled_in said.src1 due.src1 h.src1 i;
      src2 = filled_in said.src2 due.src2 h.src2 i;
      addr = filled_in said.addr due.addr h.addr i;
      value = filled_in said.value due.value h.value i;
      next = filled_in said.next due.next h.next i;
      end = end i;
    }
