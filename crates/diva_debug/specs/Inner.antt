-- What only private contracts of this crate cite. A reader of its promises can pass over it.
use Rattle.std.specs.Prelude.{ℕ, ◌≡◌, ◌≤◌, ◌<◌, ◌+◌, ◌-◌, ◌*◌, min, nat_le, if◌then◌else◌}
use Rattle.diva_isa.specs.Step.{steps}
use Rattle.diva_core.specs.History.{Meaning}
use Rattle.diva_core.specs.Timed.{depth}
use Rattle.diva_machine.specs.Counts.{StopsAtOnce}
use Rattle.diva_machine.specs.Inner.{TakesTurns}
use Rattle.diva_debug.specs.Moves.{Moves}
use Rattle.diva_debug.specs.Rewindable.{GoesBack, Rewindable, session_origin, kept_of}

-- n instructions more, each of whose undos is kept as long as there is room
pub record Advances {C : Type 0} (gives : Meaning C) (n : ℕ) (r : Rewindable) (core : C) (last : Rewindable) (final : C) : Type 0 where
  pub turns : TakesTurns gives r.machine core last.machine final
  pub moved : Moves n r.machine.timed last.machine.timed
  pub at_once : StopsAtOnce r.machine.timed last.machine.timed
  pub within : last.machine.timed.cycles ≤ r.machine.timed.cycles + n * (r.machine.timed.config.limit + depth)
  pub config : last.machine.timed.config ≡ r.machine.timed.config
  pub keep : last.keep ≡ r.keep
  pub kept : kept_of last ≡ min r.keep (kept_of r + n)
  -- the state that all undos restore stays, or is a step later for each that was dropped
  pub origin : session_origin last ≡ steps (kept_of r + n - kept_of last) (session_origin r)

-- k instructions back, where so many undos are kept, and else nothing is changed
pub record IsBack (k : ℕ) (r last : Rewindable) : Type 0 where
  pub back : GoesBack (if nat_le k (kept_of r) then k else 0) r last
  pub keep : last.keep ≡ r.keep
  pub stays : kept_of r < k → last ≡ r
