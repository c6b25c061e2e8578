-- What phase 2 does to the timed machine of a hart, part by part, and what it tells phase 4.
-- Only private contracts of the crates above cite this, each under its own rule: a reader of their promises can pass over it.
use Rattle.std.specs.Prelude.{ℕ, suc, ◌≡◌, ◌≤◌, ◌+◌, ◌==◌, ◌&&◌, Bool, true, length, None, if◌then◌else◌}
use Rattle.diva_isa.specs.State.{goes_on, GoesOn}
use Rattle.diva_core.specs.Timed.{Timed}
use Rattle.diva_core.specs.Cycle.{Rule, judged_under}
use Rattle.diva_core.specs.Headline.{Rises, SameLog}
use Rattle.diva_hart.specs.UnderWay.{takes_claims}

-- claims may be accepted behind phase 2 exactly where the hart goes on and has not flushed, m being the machine before that phase and n the one
-- behind it
abbrev pub Tells : (m n : Timed) → Type 0
Tells m n = takes_claims n ≡ (goes_on n.arch && (n.under.log.flushes == m.under.log.flushes))

-- what a part of phase 2 keeps of a machine, and how far its numbers go
pub record KeepsBounds (m last : Timed) : Type 0 where
  pub config : last.config ≡ m.config
  pub cycles : last.cycles ≡ m.cycles
  pub idle : last.under.idle ≡ m.under.idle
  pub owed : last.owed ≤ m.config.stores
  pub pending : length last.under.pending ≤ length m.under.pending
  pub flushes : last.under.log.flushes ≤ m.under.log.flushes + 1
  pub silent : last.under.log.silent ≤ m.under.log.silent + 1

-- the front claim of m was judged, which led to n; `further` says that it committed and the hart goes on, so that another may be judged
pub record JudgesFront (rule : Rule) (m n : Timed) (further : Bool) : Type 0 where
  pub judged : (k : ℕ) → judged_under rule (suc k) m ≡ (if further then judged_under rule k n else n)
  pub rises : Rises m n
  pub one : n.count ≤ m.count + 1
  pub tells : Tells m n
  pub on : further ≡ true → GoesOn n.arch
  pub running : further ≡ true → n.under.solo ≡ None
  pub same : further ≡ true → SameLog m n
  pub bounds : KeepsBounds m n

-- at most k ready claims of m were judged, oldest first, which led to n
pub record JudgesReady (rule : Rule) (k : ℕ) (m n : Timed) : Type 0 where
  pub judged : n ≡ judged_under rule k m
  pub rises : Rises m n
  pub few : n.count ≤ m.count + k
  pub tells : Tells m n
  pub bounds : KeepsBounds m n
