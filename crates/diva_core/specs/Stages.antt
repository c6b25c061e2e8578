-- The stages of the checker, a row for each: what it compares of a pending claim with the record that is due after the older claims.
-- Cited by `check` of diva_fetchchk, diva_opchk and diva_execchk, with `check_in`, `check_access` and `check_memory`; in `Questions.antt`,
-- for `Lane::judge`; in `Log.antt` and `Drawing.antt`, for `Pen::log_cycle` and `draw_cycle`.
use Rattle.std.specs.Prelude.{◌≡◌, ◌-◌, ◌==◌, nat_le, ℕ, Bool, true, false, List, [], ◌∷◌, codes, find, flat_map, Option, Some, None, if◌then◌else◌}
use Rattle.diva_decode.specs.declared.instr.Instr.{Instr}
use Rattle.diva_decode.specs.Table.{row_of}
use Rattle.diva_isa.specs.State.{State}
use Rattle.diva_isa.specs.Step.{record_of}
use Rattle.diva_isa.specs.Kind.{kind, moves_memory}
use Rattle.diva_isa.specs.declared.record.Record.{Record}
use Rattle.diva_core.specs.declared.differences.Field.{Field}
use Rattle.diva_core.specs.declared.differences.Field.TheVariants.{Pc, Word, Src1, Src2, Addr, Value, Next, End}
use Rattle.diva_core.specs.declared.differences.Diff.{Diff}
use Rattle.diva_core.specs.declared.pending.Entry.{Entry}
use Rattle.diva_core.specs.Difference.{difference_in}

-- ---- the rows

-- a stage: a claim passes it at this age, the number of cycles since it was accepted; logs call it by this name, and drawings by this
-- letter; and these fields are compared, where `access` says whether the due record is a load or a store
pub record StageRow : Type 0 where
  pub age : ℕ
  pub name : List ℕ
  pub letter : ℕ
  pub fields : (access : Bool) → List Field

-- what a load or a store has of memory, and any other record has when it executes
abbrev pub outcome_fields : List Field
outcome_fields = Value ∷ Next ∷ End ∷ []

abbrev pub fetch : StageRow
fetch = record { age = 1; name = codes "fetch"; letter = 0x46; fields = λ access. Pc ∷ Word ∷ [] }

abbrev pub decode : StageRow
decode = record { age = 2; name = codes "decode"; letter = 0x44; fields = λ access. [] }

abbrev pub operands : StageRow
operands = record { age = 3; name = codes "operands"; letter = 0x4f; fields = λ access. Src1 ∷ Src2 ∷ [] }

abbrev pub execute : StageRow
execute = record { age = 4; name = codes "execute"; letter = 0x58; fields = λ access. Addr ∷ (if access then [] else outcome_fields) }

abbrev pub memory : StageRow
memory = record { age = 5; name = codes "memory"; letter = 0x4d; fields = λ access. if access then outcome_fields else [] }

abbrev pub stages : List StageRow
stages = fetch ∷ decode ∷ operands ∷ execute ∷ memory ∷ []

-- ---- what is read of them

-- the stage that claims of an age pass, if there is one
abbrev pub stage_at : (age : ℕ) → Option StageRow
stage_at age = find (λ stage. stage.age == age) stages

-- the fields that a claim of an age has been compared in: those of the stages that it has passed
unfoldable pub fields_at : (age : ℕ) (access : Bool) → List Field
fields_at age access = flat_map (λ stage. if nat_le stage.age age then stage.fields access else []) stages

-- those that have to agree before a stage: what earlier ones compare of any record, which is what they compare of a load or a store
abbrev pub earlier : StageRow → List Field
earlier stage = fields_at (stage.age - 1) true

-- ---- what a check answers, and what an entry carries

abbrev pub is_memory_by : Option Instr → Bool
is_memory_by None = false
is_memory_by (Some i) = moves_memory (kind i.op)

-- r is a load or a store
abbrev pub is_memory : Record → Bool
is_memory r = is_memory_by (row_of r.word)

-- if a claim agrees with the due record in the earlier fields, the answer is the first difference in the stage's own
abbrev pub Finds : StageRow → (claim due : Record) → (answer : Option Diff) → Type 0
Finds stage claim due answer = difference_in (earlier stage) claim due ≡ None → answer ≡ difference_in (stage.fields (is_memory due)) claim due

-- so it is, with what is due in the state s, if that goes on
abbrev pub Answers : StageRow → State → (claim : Record) → (answer : Option Diff) → Type 0
Answers stage s claim answer = s.end ≡ 0 → Finds stage claim (record_of s) answer

-- where s goes on, an entry of this age that stands in it carries the first difference from its due record in the fields of its
-- age
abbrev pub HasVerdict : State → (age : ℕ) → Entry → Type 0
HasVerdict s age e = s.end ≡ 0 → e.verdict ≡ difference_in (fields_at age (is_memory (record_of s))) e.claim (record_of s)
