-- What a cycle and a turn promise of a machine, whatever is handed over.
-- Cited by `cycle`, `cycle_voted`, `turn` and `turn_voted`.
use Rattle.std.specs.Prelude.{ℕ, ◌≡◌, ◌≤◌, ◌+◌, List, [], ◌∷◌, Some, None, true, false}
use Rattle.diva_isa.specs.State.{goes_on}
use Rattle.diva_isa.specs.declared.record.Record.{Record}
use Rattle.diva_core.specs.Timed.{PendingClaim, depth}
use Rattle.diva_core.specs.Told.{told_of}
use Rattle.diva_core.specs.Cycle.{cycle_of}
use Rattle.diva_core.specs.History.{Meaning}
use Rattle.diva_core.specs.Machine.{IsMachine}
use Rattle.diva_core.specs.Headline.{HasPace, IsJudged, WillCount, WillJudge}
use Rattle.diva_core.specs.HartCycle.{IsHartCycle}
use Rattle.diva_core.specs.Right.{IsRight, IsCalm, StaysCalm}
use Rattle.diva_machine.specs.Machine.{Machine}
use Rattle.diva_machine.specs.Staged.{AreChecked}

-- a cycle led from a machine to another, and this list was handed over in it
pub record IsCycle (m last : Machine) (list : List Record) : Type 0 where
  -- it is the cycle of the definition, in every part
  pub cycled : last.timed ≡ cycle_of m.timed list
  -- and that of a hart, which committed the records that the machine shows: the committed state is the table's after the counted
  -- instructions, each committed by an equal claim or by the checker alone, and each flush has its cause
  pub hart : IsHartCycle m.timed last.timed last.last
  -- its numbers are within their bounds again
  pub machine : IsMachine last.timed
  -- it goes on counting
  pub counts : WillCount last.timed
  -- and has counted since it was new
  pub paced : HasPace last.timed
  -- a right list leaves a calm machine calm, and leads to no flush
  pub calm : IsCalm m.timed → IsRight m.timed list → StaysCalm m.timed last.timed
  -- the stages have checked each pending claim as far as its age goes
  pub checked : AreChecked last.timed.arch last.timed.cycles last.entries
  -- an ended machine keeps what it noted
  pub stays : goes_on m.timed.arch ≡ false → last.entries ≡ m.entries
  -- nothing ready is held up for longer than until the port opens
  pub judges : WillJudge last.timed
  -- the oldest pending claim, where it is ready, commits or flushes; only a store is held up
  pub front : (p : PendingClaim) (rest : List PendingClaim)
      → goes_on m.timed.arch ≡ true
      → m.timed.under.solo ≡ None
      → m.timed.under.pending ≡ p ∷ rest
      → p.cycle + depth ≤ m.timed.cycles + 1
      → IsJudged m.timed last.timed p
  -- a solo instruction commits in its sixth cycle
  pub sixth : (start : ℕ)
      → goes_on m.timed.arch ≡ true
      → m.timed.under.solo ≡ Some start
      → m.timed.cycles + 1 ≡ start + depth
      → last.timed.count ≡ m.timed.count + 1

-- a turn led from a machine and a core to others, and this list was handed over in it
pub record IsTurn {C : Type 0} (gives : Meaning C) (m : Machine) (core : C) (list : List Record) (last : Machine) (final : C) : Type 0 where
  -- one cycle ran
  pub cycle : IsCycle m last list
  -- the core was asked, at what it is told and shown
  pub asked : goes_on m.timed.arch ≡ true → gives core (told_of m.timed) m.timed.arch list final
  -- that of an ended machine is not, and nothing changes but the records that the machine shows: there are none
  pub ended : goes_on m.timed.arch ≡ false → (last.timed ≡ m.timed) × (last.last ≡ []) × (final ≡ core) × (list ≡ [])
