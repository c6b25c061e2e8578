-- A verdict grows by the fields of the next stage.
use Rattle.std.proofs.Common.{◌≡◌, ◌≢◌, ℕ, zero, suc, ◌-◌, ◌≤◌, ◌==◌, List, [], ◌∷◌, ◌++◌, Option, Some, None, Bool, true, false, cond, refl, sym, ap, ◌∙◌, arith}
use Rattle.std.specs.Option.{is_some}
use Rattle.std.proofs.lemmas.Bool.{le-leb, true≢false}
use Rattle.std.proofs.lemmas.List.{append-nil}
use Rattle.std.proofs.lemmas.Option.{none-some}
use Rattle.diva_decode.specs.Table.{row_of}
use Rattle.diva_isa.specs.State.{State}
use Rattle.diva_isa.specs.Step.{record_of}
use Rattle.diva_isa.specs.declared.record.Record.{Record}
use Rattle.diva_core.specs.declared.differences.Field.{Field}
use Rattle.diva_core.specs.declared.differences.Diff.{Diff}
use Rattle.diva_core.specs.declared.pending.Entry.{Entry}
use Rattle.diva_core.specs.Difference.{all_fields, difference_in, field_of, first_difference}
use Rattle.diva_core.specs.Stages.{Answers, HasVerdict, decode, earlier, execute, fetch, fields_at, is_memory, memory, operands, outcome_fields}
use Rattle.diva_core.proofs.Differing.{difference-none}
use Rattle.diva_vote.specs.declared.stage.Stage.{Stage}
use Rattle.diva_vote.specs.declared.stage.Stage.TheVariants.{Fetch, Operands, Execute, Memory}
use Rattle.diva_machine.specs.Staged.{decoded_at, last_stage}
use Rattle.diva_vote.specs.Questions.{stage_row}

-- the verdict of a claim p of an age, where r is due
abbrev pub verdict_at : ℕ → Record → Record → Option Diff
verdict_at age p r = difference_in (fields_at age (is_memory r)) p r

-- the first of two differences
abbrev pub first_of_two : Option Diff → Option Diff → Option Diff
first_of_two None d = d
first_of_two (Some c) d = Some c

first_some : (c d : Option Diff) → is_some c ≡ true → first_of_two c d ≡ c
first_some None d h = absurd (true≢false (sym h))
first_some (Some c) d h = refl

first_if : (b : Bool) (x : Option Diff) (c : Diff) (y : Option Diff) → cond b (first_of_two x y) (Some c) ≡ first_of_two (cond b x (Some c)) y
first_if true x c y = refl
first_if false x c y = refl

-- the first difference in some fields and then in others
difference_more : (fs gs : List Field) (p r : Record) → difference_in (fs ++ gs) p r ≡ first_of_two (difference_in fs p r) (difference_in gs p r)
difference_more [] gs p r = refl
difference_more (f ∷ fs) gs p r =
    rw (difference_more fs gs p r) (first_if (field_of f p == field_of f r) (difference_in fs p r) (record { field = f; claimed = field_of f p; due = field_of f r }) (difference_in gs p r))

-- from the last stage on all fields have been compared
pub fields_whole : (age : ℕ) (access : Bool) → last_stage ≤ age → fields_at age access ≡ all_fields
unfolding fields_at
fields_whole age true past = rw (le-leb 1 age (omega arith), le-leb 2 age (omega arith), le-leb 3 age (omega arith), le-leb 4 age (omega arith), le-leb 5 age past) refl
fields_whole age false past = rw (le-leb 1 age (omega arith), le-leb 2 age (omega arith), le-leb 3 age (omega arith), le-leb 4 age (omega arith), le-leb 5 age past) refl

fields_next : (age : ℕ) (access : Bool) → last_stage ≤ age → fields_at (suc age) access ≡ fields_at age access
fields_next age access past = fields_whole (suc age) access (omega arith) ∙ sym (fields_whole age access past)

-- the fields of the stage that leads from an age to the next
abbrev pub own_at : ℕ → Bool → List Field
own_at zero access = fetch.fields access
own_at (suc zero) access = decode.fields access
own_at (suc (suc zero)) access = operands.fields access
own_at (suc (suc (suc zero))) access = execute.fields access
own_at (suc (suc (suc (suc zero)))) access = memory.fields access
own_at (suc (suc (suc (suc (suc n))))) access = []

fields_more : (a : ℕ) (access : Bool) → fields_at (suc a) access ≡ fields_at a access ++ own_at a access
unfolding fields_at
fields_more zero access = refl
fields_more (suc zero) access = refl
fields_more (suc (suc zero)) access = refl
fields_more (suc (suc (suc zero))) true = refl
fields_more (suc (suc (suc zero))) false = refl
fields_more (suc (suc (suc (suc zero)))) true = refl
fields_more (suc (suc (suc (suc zero)))) false = refl
fields_more (suc (suc (suc (suc (suc n))))) access =
    fields_next (suc (suc (suc (suc (suc n))))) access (omega arith) ∙ sym (append-nil (fields_at (suc (suc (suc (suc (suc n))))) access))

verdict_more : (a : ℕ) (p r : Record) → verdict_at (suc a) p r ≡ first_of_two (verdict_at a p r) (difference_in (own_at a (is_memory r)) p r)
verdict_more a p r = ap (λ fs. difference_in fs p r) (fields_more a (is_memory r)) ∙ difference_more (fields_at a (is_memory r)) (own_at a (is_memory r)) p r

none_first : (c d : Option Diff) → None ≡ first_of_two c d → c ≡ None
none_first None d h = refl
none_first (Some c) d h = absurd (none-some _ h)

-- the age of a claim that comes to a stage
abbrev pub before_of : Stage → ℕ
before_of stage = (stage_row stage).age - 1

pub age_from : (stage : Stage) → (stage_row stage).age ≡ suc (before_of stage)
age_from Fetch = refl
age_from Operands = refl
age_from Execute = refl
age_from Memory = refl

-- it does not decode
pub decodes_none : (stage : Stage) → before_of stage ≢ 1
decodes_none Fetch = λ is. omega arith
decodes_none Operands = λ is. omega arith
decodes_none Execute = λ is. omega arith
decodes_none Memory = λ is. omega arith

-- what a stage needs of the earlier fields
earlier_agree : (stage : Stage) (access : Bool) (p r : Record) → difference_in (fields_at (before_of stage) access) p r ≡ None → difference_in (earlier (stage_row stage)) p r ≡ None
unfolding fields_at
earlier_agree Fetch access p r h = h
earlier_agree Operands access p r h = h
earlier_agree Execute access p r h = h
earlier_agree Memory true p r h = h
earlier_agree Memory false p r h =
    none_first (difference_in (earlier memory) p r) (difference_in outcome_fields p r) (sym h ∙ difference_more (earlier memory) outcome_fields p r)

own_is : (stage : Stage) (access : Bool) → own_at (before_of stage) access ≡ (stage_row stage).fields access
own_is Fetch access = refl
own_is Operands access = refl
own_is Execute access = refl
own_is Memory access = refl

-- ---- one age more

module _ (s : State) (e : Entry) where
  -- a difference that was found stays
  pub stays_found : (a : ℕ) → is_some e.verdict ≡ true → HasVerdict s a e → HasVerdict s (suc a) e
  stays_found a was h = λ on.
      h on ∙ sym (first_some (verdict_at a e.claim (record_of s)) (difference_in (own_at a (is_memory (record_of s))) e.claim (record_of s)) (ap is_some (sym (h on)) ∙ was))
      ∙ sym (verdict_more a e.claim (record_of s))

  -- where none is found yet, the next stage decides
  found_next : (a : ℕ) (v : Option Diff) → e.verdict ≡ None
      → (s.end ≡ 0 → verdict_at a e.claim (record_of s) ≡ None → v ≡ difference_in (own_at a (is_memory (record_of s))) e.claim (record_of s))
      → HasVerdict s a e → HasVerdict s (suc a) (record e { verdict = v })
  found_next a v was answer h = λ on.
      let old : None ≡ verdict_at a e.claim (record_of s) = sym was ∙ h on in
      answer on (sym old) ∙ ap (λ o. first_of_two o (difference_in (own_at a (is_memory (record_of s))) e.claim (record_of s))) old ∙ sym (verdict_more a e.claim (record_of s))

  -- what a stage finds
  pub found_by : (stage : Stage) (v : Option Diff) → e.verdict ≡ None → Answers (stage_row stage) s e.claim v → HasVerdict s (before_of stage) e → HasVerdict s (suc (before_of stage)) (record e { verdict = v })
  found_by stage v was answer =
      let access = is_memory (record_of s) in
      found_next (before_of stage) v was
      (λ on agrees. answer on (earlier_agree stage access e.claim (record_of s) agrees) ∙ ap (λ fs. difference_in fs e.claim (record_of s)) (sym (own_is stage access)))

  -- nor behind the last one
  pub verdict_past : (a : ℕ) → last_stage ≤ a → HasVerdict s a e → HasVerdict s (suc a) e
  verdict_past a past v = λ on.
      let access = is_memory (record_of s) in
      v on ∙ ap (λ fs. difference_in fs e.claim (record_of s)) (sym (fields_next a access past))

  -- there a verdict is the first difference of all fields
  pub whole_verdict : (age : ℕ) → last_stage ≤ age → s.end ≡ 0 → HasVerdict s age e → e.verdict ≡ first_difference e.claim (record_of s)
  unfolding first_difference
  whole_verdict age past on v = v on ∙ ap (λ fs. difference_in fs e.claim (record_of s)) (fields_whole age (is_memory (record_of s)) past)

-- ---- the solo instruction

-- the record of a solo instruction is filled by the stages of fetch, operands and execute
pub fields_kept : (age : ℕ) → 1 ≤ age → age ≢ 1 → age ≢ 3 → age ≢ 4 → fields_at (age - 1) false ≡ fields_at age false
unfolding fields_at
fields_kept zero some one three four = absurd (omega arith)
fields_kept (suc zero) some one three four = absurd (one refl)
fields_kept (suc (suc zero)) some one three four = refl
fields_kept (suc (suc (suc zero))) some one three four = absurd (three refl)
fields_kept (suc (suc (suc (suc zero)))) some one three four = absurd (four refl)
fields_kept (suc (suc (suc (suc (suc zero))))) some one three four = refl
fields_kept (suc (suc (suc (suc (suc (suc n)))))) some one three four =
    let before : suc (suc (suc (suc (suc (suc n))))) - 1 ≡ suc (suc (suc (suc (suc n)))) = omega arith in
    ap (λ (age : ℕ). fields_at age false) before ∙ sym (fields_next (suc (suc (suc (suc (suc n))))) false (omega arith))

-- where it is filled by all stages it is the due one
pub filled_whole : (s : State) (age : ℕ) (r : Record) → difference_in (fields_at age false) r (record_of s) ≡ None → last_stage ≤ age → r ≡ record_of s
unfolding first_difference
filled_whole s age r filled past =
    difference-none r (record_of s) (ap (λ fs. difference_in fs r (record_of s)) (sym (fields_whole age false past)) ∙ filled)

-- ---- the decoded form

-- it changes with the decode stage alone
pub form_whole : (a word : ℕ) → 2 ≤ a → decoded_at a word ≡ row_of word
form_whole a word h = rw (le-leb 2 a h) refl

pub form_kept : (a word : ℕ) → a ≢ 1 → decoded_at (suc a) word ≡ decoded_at a word
form_kept zero word n = refl
form_kept (suc zero) word n = absurd (n refl)
form_kept (suc (suc a)) word n = form_whole (suc (suc (suc a))) word (omega arith) ∙ sym (form_whole (suc (suc a)) word (omega arith))
