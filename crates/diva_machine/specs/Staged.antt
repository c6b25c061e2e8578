-- What the checker's stages have noted so far of each pending claim, and of the solo instruction.
-- Cited by `Machine::entry`, `cycle` and the type `Machine`.
use Rattle.std.specs.Prelude.{ℕ, suc, ◌≡◌, ◌+◌, ◌-◌, ◌≤◌, nat_le, false, List, [], ◌∷◌, map, Option, Some, None, slice_get, ⊤, if◌then◌else◌}
use Rattle.diva_decode.specs.declared.instr.Instr.{Instr}
use Rattle.diva_decode.specs.Table.{row_of}
use Rattle.diva_isa.specs.State.{State}
use Rattle.diva_isa.specs.Step.{record_of}
use Rattle.diva_isa.specs.declared.record.Record.{Record}
use Rattle.diva_core.specs.declared.pending.Entry.{Entry}
use Rattle.diva_core.specs.Entries.{pending_claim_of}
use Rattle.diva_core.specs.Future.{FutureFile, IsFuture}
use Rattle.diva_core.specs.Older.{before_entry}
use Rattle.diva_core.specs.Difference.{difference_in}
use Rattle.diva_core.specs.Stages.{HasVerdict, decode, fields_at, memory}
use Rattle.diva_core.specs.Timed.{Timed, PendingClaim}

-- the decoded form of a claim with this word: it is noted as the claim is decoded
abbrev pub decoded_at : (age : ℕ) (word : ℕ) → Option Instr
decoded_at age word = if nat_le decode.age age then row_of word else None

-- an entry of this age that stands in the state s has its verdict and its decoded form
pub record IsChecked (s : State) (age : ℕ) (e : Entry) : Type 0 where
  pub verdict : HasVerdict s age e
  pub decoded : e.decoded ≡ decoded_at age e.claim.word

-- so has each of the pending ones after the cycle `now`, behind a committed state
abbrev pub AreChecked : State → (now : ℕ) → List Entry → Type 0
AreChecked arch now entries =
    (at : ℕ) (e : Entry) → slice_get entries at ≡ Some e → IsChecked (before_entry arch entries at) (now - e.cycle) e

-- ---- between two phases

-- the age at which a claim passes through the last stage
abbrev pub last_stage : ℕ
last_stage = memory.age

-- how many of the claims, from the oldest on, are past the last stage
abbrev pub passed_by : (now : ℕ) → List PendingClaim → ℕ
passed_by now [] = 0
passed_by now (p ∷ rest) = if nat_le (p.cycle + last_stage) now then suc (passed_by now rest) else 0

-- the claims were accepted one behind the other, from the cycle `from` on and until `now`
abbrev pub AreInOrder : (from now : ℕ) → List PendingClaim → Type 0
AreInOrder from now [] = from ≤ now
AreInOrder from now (p ∷ rest) = (from ≤ p.cycle) × AreInOrder p.cycle now rest

-- a record that is filled in the state s agrees with the due one in the fields of its age; the stage of age 4 fills those of
-- the last stage too
abbrev pub IsFilled : State → (age : ℕ) → Record → Type 0
IsFilled s age r = difference_in (fields_at age false) r (record_of s) ≡ None

-- so does the record of an instruction that started solo in a cycle
abbrev pub IsFilledSince : State → (now : ℕ) → Option ℕ → Record → Type 0
IsFilledSince arch now None r = ⊤
IsFilledSince arch now (Some start) r = IsFilled arch (now - start) r

-- the parts of a machine: the timed machine, what its last cycle committed, the entries of the pending claims, how many of
-- them are past the last stage, the future file, and the record of the solo instruction
pub record Parts : Type 0 where
  pub timed : Timed
  pub last : List Record
  pub entries : List Entry
  pub passed : ℕ
  pub future : FutureFile
  pub filled : Record

-- what holds of the pending claims where the stages of the cycle `now` have run
pub record IsStaged (now : ℕ) (w : Parts) : Type 0 where
  pub waits : w.timed.under.pending ≡ map pending_claim_of w.entries
  pub checked : AreChecked w.timed.arch now w.entries
  pub ordered : AreInOrder 0 now w.timed.under.pending
  pub passed : w.passed ≡ passed_by now w.timed.under.pending
  pub future : IsFuture w.timed.arch w.entries w.future

-- and of the solo instruction
abbrev pub IsSoloFilled : (now : ℕ) → Parts → Type 0
IsSoloFilled now w = IsFilledSince w.timed.arch now w.timed.under.solo w.filled
