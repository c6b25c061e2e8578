-- What a drive leaves of a machine and a core, whatever is handed over.
-- Cited by `drive`, `drive_to` and `drive_voted`.
use Rattle.std.specs.Prelude.{ℕ, ◌≡◌, ◌≤◌, ◌+◌, ◌↔◌, true, false}
use Rattle.diva_isa.specs.State.{goes_on}
use Rattle.diva_core.specs.History.{Meaning, Turns, lists_of}
use Rattle.diva_core.specs.Machine.{IsMachine}
use Rattle.diva_core.specs.Headline.{AddsRows, AreCommitted, HasPace, KeepsPace, Rises, WillCount, last_committed}
use Rattle.diva_core.specs.Right.{AreRight, IsCalm, StaysCalm}
use Rattle.diva_hart.specs.declared.ends.Drive.{Drive}
use Rattle.diva_hart.specs.declared.ends.Drive.TheVariants.{Budget, Ended}
use Rattle.diva_machine.specs.Machine.{Machine}

-- turns lead from a machine and a core to others
pub record Drives {C : Type 0} (gives : Meaning C) (m : Machine) (core : C) (last : Machine) (final : C) : Type 0 where
  -- one for each cycle, of whose lists the following holds
  pub turns : Turns gives m.timed core last.timed final
  -- what each cycle committed are equal claims, or the checker's own instruction
  pub commits : AreCommitted m.timed (lists_of turns.history)
  -- the machine shows the records of the last cycle; if no turn was taken, those that it showed before
  pub shows : last.last ≡ last_committed m.last m.timed (lists_of turns.history)
  -- each row that the log has more is that of a cycle, with its cause
  pub rows : AddsRows m.timed (lists_of turns.history) last.timed
  -- if each list is right for its machine, a calm machine is not flushed
  pub calm : IsCalm m.timed → AreRight m.timed (lists_of turns.history) → StaysCalm m.timed last.timed
  -- the committed state is the table's after the counted instructions
  pub rises : Rises m.timed last.timed
  -- its numbers are within their bounds
  pub machine : IsMachine last.timed
  -- until the end every W + 6 cycles count at least one instruction more, W being the watchdog's limit: in these turns,
  pub pace : KeepsPace m.timed last.timed
  -- since the machine was new,
  pub paced : HasPace last.timed
  -- and from now on
  pub counts : WillCount last.timed

-- a drive for so many cycles at most leads from a machine and a core to others, and this is its answer
pub record IsDrive {C : Type 0} (gives : Meaning C) (cycles : ℕ) (m : Machine) (core : C) (last : Machine) (final : C) (answer : Drive) : Type 0 where
  -- machine and core are reached by turns
  pub drives : Drives gives m core last final
  -- the machine has ended
  pub ended : (answer ≡ Ended) ↔ (goes_on last.timed.arch ≡ false)
  -- or all cycles were run, and it goes on
  pub budget : (answer ≡ Budget) ↔ ((last.timed.cycles ≡ m.timed.cycles + cycles) × (goes_on last.timed.arch ≡ true))
  -- there were no more
  pub within : last.timed.cycles ≤ m.timed.cycles + cycles
  -- an ended machine and its core stay as they are
  pub stays : goes_on m.timed.arch ≡ false → (last ≡ m) × (final ≡ core)
