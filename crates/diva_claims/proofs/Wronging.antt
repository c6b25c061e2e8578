-- What is wrong with a line, and what a flush shows of it.
use Rattle.std.proofs.Common.{◌≡◌, ◌≢◌, ℕ, Bool, true, false, Option, Some, None, refl, sym, ap, inl, inr, if◌then◌else◌}
use Rattle.std.specs.Prelude.{◌==◌, ◌||◌, not}
use Rattle.std.specs.Option.{option_or, unwrap_or}
use Rattle.std.proofs.lemmas.Bool.{eq-eqb, eqb-true, eqb-false}
use Rattle.std.proofs.lemmas.Option.{none-some, same_Some}
use Rattle.diva_core.specs.Difference.{first_difference}
use Rattle.diva_core.specs.declared.differences.Diff.{Diff}
use Rattle.diva_core.specs.declared.differences.Field.{Field as FieldName}
use Rattle.diva_core.specs.declared.differences.Field.TheVariants.{Pc, Word, Src1, Src2, Addr, Value, Next, End}
use Rattle.diva_isa.specs.End.{end_of}
use Rattle.diva_isa.specs.State.{State}
use Rattle.diva_isa.specs.Step.{record_of}
use Rattle.diva_isa.specs.declared.record.Record.{Record}
use Rattle.diva_claims.proofs.Saying.{is_right, says}
use Rattle.diva_claims.specs.Said.{IsEndSaid, IsLineOf, IsSaid, SaysOf, contradicts, differs, done_by, end_said, filled, is_trap, mask_stored, never, register_written}
use Rattle.diva_claims.specs.Wrong.{IsShown, ShowsAs, first_wrong, other, other_end, other_field, other_mask, other_register}
use Rattle.diva_claims.specs.declared.said.Said.{Said}
use Rattle.diva_claims.specs.declared.said.SaidEnd.{SaidEnd}
use Rattle.diva_claims.specs.declared.said.SaidEnd.TheVariants.{Number, SomeTrap}
use Rattle.diva_claims.specs.declared.wrong.Wrong.{Wrong}
use Rattle.diva_claims.specs.declared.wrong.Wrong.TheVariants.{Field, NoTrap, Register, Mask}

-- ---- the first of ten

pub in_order : {A : Type 0} (a b c d e f g h i j : Option A)
    → option_or (option_or (option_or (option_or (option_or (option_or (option_or (option_or (option_or a b) c) d) e) f) g) h) i) j
    ≡ option_or a (option_or b (option_or c (option_or d (option_or e (option_or f (option_or g (option_or h (option_or i j))))))))
in_order (Some x) b c d e f g h i j = refl
in_order None (Some x) c d e f g h i j = refl
in_order None None (Some x) d e f g h i j = refl
in_order None None None (Some x) e f g h i j = refl
in_order None None None None (Some x) f g h i j = refl
in_order None None None None None (Some x) g h i j = refl
in_order None None None None None None (Some x) h i j = refl
in_order None None None None None None None (Some x) i j = refl
in_order None None None None None None None None (Some x) j = refl
in_order None None None None None None None None None j = refl

-- ---- nothing is wrong with a right line

neither : {A : Type 0} (a b : Option A) → option_or a b ≡ None → (a ≡ None) × (b ≡ None)
neither None b e = (refl, e)
neither (Some x) b e = absurd (none-some _ (sym e))

same_or_other : (t : Bool) (wrong : Wrong) (number due : ℕ) → (number == due) ≡ t → (if t then None else Some wrong) ≡ None → number ≡ due
same_or_other true wrong number due is e = eqb-true number due is
same_or_other false wrong number due is e = absurd (none-some _ (sym e))

no_other : (wrong : ℕ → Wrong) (o : Option ℕ) (due : ℕ) → other wrong o due ≡ None → IsSaid o due
no_other wrong None due e = tt
no_other wrong (Some number) due e = same_or_other (number == due) (wrong number) number due refl e

none_other : (wrong : ℕ → Wrong) (o : Option ℕ) (due : ℕ) → IsSaid o due → other wrong o due ≡ None
none_other wrong None due h = refl
none_other wrong (Some number) due h = rw (eq-eqb number due h) refl

traps : (t : Bool) (due : ℕ) → (if t then None else Some (NoTrap due)) ≡ None → t ≡ true
traps true due e = refl
traps false due e = absurd (none-some _ (sym e))

no_other_end : (o : Option SaidEnd) (due : ℕ) → other_end o due ≡ None → IsEndSaid o due
no_other_end None due e = tt
no_other_end (Some (Number end)) due e = no_other (λ number. Field (record { field = End; claimed = number; due = due })) (Some end) due e
no_other_end (Some SomeTrap) due e = traps (is_trap (end_of due)) due e

none_other_end : (o : Option SaidEnd) (due : ℕ) → IsEndSaid o due → other_end o due ≡ None
none_other_end None due h = refl
none_other_end (Some (Number end)) due h = none_other (λ number. Field (record { field = End; claimed = number; due = due })) (Some end) due h
none_other_end (Some SomeTrap) due h = rw h refl

abbrev in_field : FieldName → ℕ → ℕ → Wrong
in_field field due number = Field (record { field = field; claimed = number; due = due })

pub nothing_wrong : (said : Said) (due : Record) → SaysOf said due → first_wrong said due ≡ None
unfolding first_wrong
nothing_wrong said due h =
    rw (
      none_other (in_field Pc due.pc) said.pc due.pc h.pc,
      none_other (in_field Word due.word) said.word due.word h.word,
      none_other (in_field Src1 due.src1) said.src1 due.src1 h.src1,
      none_other (in_field Src2 due.src2) said.src2 due.src2 h.src2,
      none_other (in_field Addr due.addr) said.addr due.addr h.addr,
      none_other (in_field Value due.value) said.value due.value h.value,
      none_other (in_field Next due.next) said.next due.next h.next,
      none_other_end said.end due.end h.end,
      none_other (λ number. Register number (register_written (done_by due))) said.rd (register_written (done_by due)) h.rd,
      none_other (λ number. Mask number (mask_stored (done_by due))) said.mask (mask_stored (done_by due)) h.mask,
    ) refl

pub says_so : (said : Said) (due : Record) → first_wrong said due ≡ None → SaysOf said due
unfolding first_wrong
says_so said due e =
    let pc = neither (other_field Pc said.pc due.pc) _ e in
    let word = neither (other_field Word said.word due.word) _ pc.1 in
    let src1 = neither (other_field Src1 said.src1 due.src1) _ word.1 in
    let src2 = neither (other_field Src2 said.src2 due.src2) _ src1.1 in
    let addr = neither (other_field Addr said.addr due.addr) _ src2.1 in
    let value = neither (other_field Value said.value due.value) _ addr.1 in
    let next = neither (other_field Next said.next due.next) _ value.1 in
    let end = neither (other_end said.end due.end) _ next.1 in
    let rd = neither (other_register said.rd (register_written (done_by due))) _ end.1 in
    record {
      pc = no_other (in_field Pc due.pc) said.pc due.pc pc.0;
      word = no_other (in_field Word due.word) said.word due.word word.0;
      src1 = no_other (in_field Src1 due.src1) said.src1 due.src1 src1.0;
      src2 = no_other (in_field Src2 due.src2) said.src2 due.src2 src2.0;
      addr = no_other (in_field Addr due.addr) said.addr due.addr addr.0;
      value = no_other (in_field Value due.value) said.value due.value value.0;
      next = no_other (in_field Next due.next) said.next due.next next.0;
      end = no_other_end said.end due.end end.0;
      rd = no_other (λ number. Register number (register_written (done_by due))) said.rd (register_written (done_by due)) rd.0;
      mask = no_other (λ number. Mask number (mask_stored (done_by due))) said.mask (mask_stored (done_by due)) rd.1;
    }

pub right_none : (said : Said) (s : State) → IsLineOf (Some said) (record_of s) → first_wrong said (record_of s) ≡ None
right_none said s line = nothing_wrong said (record_of s) (says said s line)

pub none_right : (said : Said) (s : State) → first_wrong said (record_of s) ≡ None → IsLineOf (Some said) (record_of s)
none_right said s e = is_right said s (says_so said (record_of s) e)

-- ---- what a difference shows

abbrev diff_in : FieldName → (claimed due : ℕ) → Diff
diff_in field claimed due = record { field = field; claimed = claimed; due = due }

in_order_shown : (t : Bool) (c : Diff) (later : Option Diff) (rest : Option Wrong) (d : Diff) → (if t then later else Some c) ≡ Some d
    → (later ≡ Some d → IsShown rest d) → IsShown (option_or (if t then None else Some (Field c)) rest) d
in_order_shown true c later rest d e more = more e
in_order_shown false c later rest d e more = inl (sym (same_Some _ _ e))

unsaid : (field : FieldName) (due : ℕ) (later : Option Diff) (d : Diff) → (if due == due then later else Some (diff_in field due due)) ≡ Some d → later ≡ Some d
unsaid field due later d e = rw (eq-eqb due due refl) at e

-- a field in which the claim may differ first, or not
field_shown : (field : FieldName) (o : Option ℕ) (due : ℕ) (later : Option Diff) (rest : Option Wrong) (d : Diff)
    → (if unwrap_or o due == due then later else Some (diff_in field (unwrap_or o due) due)) ≡ Some d
    → (later ≡ Some d → IsShown rest d) → IsShown (option_or (other_field field o due) rest) d
field_shown field None due later rest d e more = more (unsaid field due later d e)
field_shown field (Some number) due later rest d e more = in_order_shown (number == due) (diff_in field number due) later rest d e more

-- the claim differs in its end, and that is this one
record Ends (claimed due : ℕ) (d : Diff) : Type 0 where
  is : d ≡ diff_in End claimed due
  other : claimed ≢ due

ends : (t : Bool) (claimed due : ℕ) (d : Diff) → (claimed == due) ≡ t → (if t then None else Some (diff_in End claimed due)) ≡ Some d → Ends claimed due d
ends true claimed due d is e = absurd (none-some _ e)
ends false claimed due d is e = record { is = sym (same_Some _ _ e); other = eqb-false claimed due is }

-- what is no field of a record
differs_shown : (b : Bool) (wrong : Wrong) (rest : Option Wrong) (d : Diff) → ShowsAs wrong d → (b ≡ true → IsShown rest d)
    → IsShown (option_or (if b then None else Some wrong) rest) d
differs_shown true wrong rest d shows more = more refl
differs_shown false wrong rest d shows more = shows

mask_shown : (o : Option ℕ) (due : ℕ) (d : Diff) → d.field ≡ End → differs o due ≡ true → IsShown (other_mask o due) d
mask_shown None due d h e = absurd (cc)
mask_shown (Some number) due d h e = mask_by (number == due) e
  where
    mask_by : (t : Bool) → not t ≡ true → IsShown (if t then None else Some (Mask number due)) d
    mask_by true f = absurd (cc)
    mask_by false f = h

register_shown : (o : Option ℕ) (due : ℕ) (rest : Option Wrong) (d : Diff) (b : Bool) → d.field ≡ End → (differs o due || b) ≡ true → (b ≡ true → IsShown rest d)
    → IsShown (option_or (other_register o due) rest) d
register_shown None due rest d b h e more = more e
register_shown (Some number) due rest d b h e more = register_by (number == due) e
  where
    register_by : (t : Bool) → (not t || b) ≡ true → IsShown (option_or (if t then None else Some (Register number due)) rest) d
    register_by true f = more f
    register_by false f = h

-- nothing is said of the end but what is due
other_shown : (b : Bool) (due : ℕ) (rest : Option Wrong) (d : Diff) → (b ≡ true → IsShown rest d) → (if b then never else due) ≢ due → IsShown rest d
other_shown true due rest d more e = more refl
other_shown false due rest d more e = absurd (e refl)

end_shown : (o : Option SaidEnd) (due : ℕ) (b : Bool) (rest : Option Wrong) (d : Diff) → Ends (if b then never else end_said o due) due d
    → (b ≡ true → IsShown rest d) → IsShown (option_or (other_end o due) rest) d
end_shown None due b rest d x more = other_shown b due rest d more x.other
end_shown (Some (Number end)) due b rest d x more = by_number (end == due) refl b x more
  where
    by_number : (t : Bool) → (end == due) ≡ t → (c : Bool) → Ends (if c then never else end) due d → (c ≡ true → IsShown rest d)
        → IsShown (option_or (if t then None else Some (Field (diff_in End end due))) rest) d
    by_number true is true y next = next refl
    by_number true is false y next = absurd (y.other (eqb-true end due is))
    by_number false is true y next = inr (refl, y.is)
    by_number false is false y next = inl y.is
end_shown (Some SomeTrap) due b rest d x more = by_trap (is_trap (end_of due)) b x more
  where
    by_trap : (t c : Bool) → Ends (if c then never else (if t then due else never)) due d → (c ≡ true → IsShown rest d)
        → IsShown (option_or (if t then None else Some (NoTrap due)) rest) d
    by_trap true true y next = next refl
    by_trap true false y next = absurd (y.other refl)
    by_trap false c y next = ap (λ (z : Diff). z.field) y.is

pub shown : (said : Said) (due : Record) (d : Diff) → first_difference (filled said due) due ≡ Some d → IsShown (first_wrong said due) d
unfolding first_wrong first_difference
shown said due d e =
    field_shown Pc said.pc due.pc _ _ d e (λ word.
    field_shown Word said.word due.word _ _ d word (λ src1.
    field_shown Src1 said.src1 due.src1 _ _ d src1 (λ src2.
    field_shown Src2 said.src2 due.src2 _ _ d src2 (λ addr.
    field_shown Addr said.addr due.addr _ _ d addr (λ value.
    field_shown Value said.value due.value _ _ d value (λ next.
    field_shown Next said.next due.next _ _ d next (λ end.
    let x : Ends (filled said due).end due.end d = ends ((filled said due).end == due.end) (filled said due).end due.end d refl end in
    end_shown said.end due.end (contradicts said due) _ d x (λ some.
    let field : d.field ≡ End = ap (λ (z : Diff). z.field) x.is in
    register_shown said.rd (register_written (done_by due)) _ d (differs said.mask (mask_stored (done_by due))) field some (λ mask.
    mask_shown said.mask (mask_stored (done_by due)) d field mask)))))))))
