-- What is seen of a machine between two cycles, by its observers.
-- Cited by `Pen::new`, `draw_cycle`, `log_cycle` and `Snapshot::of`.
use Rattle.std.specs.Prelude.{ℕ, ◌≡◌, Bool, List, [], ◌∷◌, map, Option, option_map, ⊤}
use Rattle.diva_isa.specs.State.{State, goes_on}
use Rattle.diva_isa.specs.Step.{record_of}
use Rattle.diva_isa.specs.declared.record.Record.{Record}
use Rattle.diva_core.specs.declared.flushes.FlushRow.{FlushRow}
use Rattle.diva_core.specs.declared.pending.Entry.{Entry}
use Rattle.diva_core.specs.Cycle.{cycle_of}
use Rattle.diva_core.specs.Entries.{pending_claim_of}
use Rattle.diva_core.specs.Timed.{Timed}
use Rattle.diva_machine.specs.Staged.{AreChecked}
use Rattle.diva_drawing.specs.declared.snapshot.SnapshotSolo.{SnapshotSolo}
use Rattle.diva_drawing.specs.declared.snapshot.SnapshotClaim.{SnapshotClaim}

-- the instructions committed, the cycles run, the flushes and the newest of them; whether the machine goes on; the instruction that
-- runs solo, if one does; and the pending claims, the oldest first
pub record Snapshot : Type 0 where
  pub count : ℕ
  pub cycles : ℕ
  pub flushes : ℕ
  pub newest : Option FlushRow
  pub goes_on : Bool
  pub solo : Option SnapshotSolo
  pub claims : List SnapshotClaim

-- of a pending claim its verdict is seen, and in which cycle it was accepted
abbrev pub snapshot_claim_of : Entry → SnapshotClaim
snapshot_claim_of e = record { claim = e.claim; cycle = e.cycle; verdict = e.verdict }

-- the instruction that runs solo since a cycle is the one that is due in the committed state, which goes on
abbrev pub solo_since : State → (start : ℕ) → SnapshotSolo
solo_since arch start = record { since = start; due = record_of (record arch { end = 0 }) }

-- this is seen of a machine
pub record IsSnapshot (m : Timed) (s : Snapshot) : Type 0 where
  pub count : s.count ≡ m.count
  pub cycles : s.cycles ≡ m.cycles
  pub flushes : s.flushes ≡ m.under.log.flushes
  pub newest : s.newest ≡ m.under.log.newest
  pub goes_on : s.goes_on ≡ goes_on m.arch
  pub solo : s.solo ≡ option_map (solo_since m.arch) m.under.solo
  pub entries : List Entry
  pub claims : s.claims ≡ map snapshot_claim_of entries
  pub waits : m.under.pending ≡ map pending_claim_of entries
  -- the verdict of each pending claim is the first difference that the stages up to its age find in it
  pub checked : AreChecked m.arch m.cycles entries

-- this is seen of a machine behind each of some cycles, in which it is handed these lists
abbrev pub AreSnapshots : Timed → List (List Record) → List Snapshot → Type 0
AreSnapshots m [] [] = ⊤
AreSnapshots m [] (s ∷ seen) = ⊥
AreSnapshots m (list ∷ lists) [] = ⊥
AreSnapshots m (list ∷ lists) (s ∷ seen) = IsSnapshot (cycle_of m list) s × AreSnapshots (cycle_of m list) lists seen
