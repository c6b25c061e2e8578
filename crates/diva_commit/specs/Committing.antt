-- What becomes of a record that is to commit.
-- Cited by `commit`, `commit_by` and the type `Committed`; by `HartArch::commit` and `drain` of diva_hart.
use Rattle.std.specs.Prelude.{ℕ, ◌≡◌, ◌==◌, ◌&&◌, Bool, true, false, List, [], ◌∷◌, Option, Some, None, if◌then◌else◌}
use Rattle.diva_memory.specs.Bytes.{Bytes}
use Rattle.diva_storeq.specs.declared.masked.Masked.{Masked}
use Rattle.diva_storeq.specs.Masked.{WritesInside}
use Rattle.diva_storeq.specs.Stores.{entry_at}
use Rattle.diva_decode.specs.Table.{row_of}
use Rattle.diva_isa.specs.State.{State}
use Rattle.diva_isa.specs.Kind.{reads_instret_by, size}
use Rattle.diva_isa.specs.Step.{effect_of, record_of}
use Rattle.diva_isa.specs.declared.effect.Effect.{Effect}
use Rattle.diva_isa.specs.declared.effect.Effect.TheVariants.{Nothing, Writes, Stores, Puts}
use Rattle.diva_isa.specs.End.{end_of}
use Rattle.diva_isa.specs.declared.end.End.{End}
use Rattle.diva_isa.specs.declared.end.End.TheVariants.{GoesOn as Running, Halt as Halted, Trap as Trapped}
use Rattle.diva_isa.specs.declared.record.Record.{Record}
use Rattle.diva_core.specs.declared.differences.Diff.{Diff}
use Rattle.diva_core.specs.Cycle.{puts_store}
use Rattle.diva_commit.specs.declared.commits.Committed.{Committed}
use Rattle.diva_commit.specs.declared.commits.Committed.TheVariants.{GoesOn, Halt, Trap, Held, Differs}

-- the state of these parts, m being memory with the stores that are not in it yet laid over it
abbrev pub state_of : (regs : List ℕ) (pc : ℕ) → Bytes → (output : List ℕ) (instret end : ℕ) → State
state_of regs pc m output instret end =
    record { regs = regs; pc = pc; base = m.base; bytes = m.items; output = output; instret = instret; end = end }

-- r is the due record of s, but that the value of an instruction that reads `instret` may be any
abbrev pub IsDueButInstret : State → Record → Type 0
IsDueButInstret s r =
    r ≡ (if reads_instret_by (row_of (record_of s).word) then record (record_of s) { value = r.value } else record_of s)

-- each of the stores lies inside memory
abbrev pub AreInside : Bytes → List Masked → Type 0
AreInside m [] = Unit {0}
AreInside m (s ∷ stores) = WritesInside m s × AreInside m stores

-- a record commits, and the state has ended so, if it has
abbrev pub ending : End → Committed
ending Running = GoesOn
ending (Halted status) = Halt status
ending (Trapped number) = Trap number

-- the answer: a verdict is against the record; or it is a store that does not trap, and the queue is full; or it commits
abbrev pub answer : Option Diff → Record → (full : Bool) → Committed
answer (Some d) r full = Differs d
answer None r full = if puts_store r && full then Held else ending (end_of r.end)

-- the record committed
abbrev pub is_committed : Committed → Bool
is_committed GoesOn = true
is_committed (Halt status) = true
is_committed (Trap number) = true
is_committed Held = false
is_committed (Differs d) = false

-- the entry that an effect puts behind the others of the queue, if it does
abbrev pub entry_by : Effect → List Masked
entry_by Nothing = []
entry_by (Writes rd value) = []
entry_by (Stores width addr value) = entry_at addr (size width) value ∷ []
entry_by (Puts byte) = []

-- the entries that a record puts there: one where it is a store that does not trap
unfoldable pub buffered : Record → List Masked
buffered r = if r.end == 0 then entry_by (effect_of r) else []
