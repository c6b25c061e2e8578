-- What only private contracts of this crate cite. A reader of its promises can pass over it.
use Rattle.std.specs.Prelude.{ℕ, ◌≡◌, ◌≤◌, ◌+◌, List, [], length, None, false}
use Rattle.diva_isa.specs.State.{goes_on}
use Rattle.diva_core.specs.Timed.{PendingClaim, UnderWay, new_log}
use Rattle.diva_open.specs.Open.{Open}

-- what is under way in an open machine: claims are pending, and so many cycles have gone by since the last commit
abbrev pub open_under : List PendingClaim → (idle : ℕ) → UnderWay
open_under pending idle = record { pending = pending; solo = None; idle = idle; log = new_log; undos = 0 }

-- what an open machine keeps of its numbers where at most k claims leave, and how far the others go
pub record KeepsOpenBounds (k : ℕ) (o last : Open) : Type 0 where
  pub config : last.timed.config ≡ o.timed.config
  pub cycles : last.timed.cycles ≡ o.timed.cycles
  pub idle : last.timed.under.idle ≡ o.timed.under.idle
  pub log : last.timed.under.log ≡ o.timed.under.log
  pub counted : o.timed.count ≤ last.timed.count
  pub count : last.timed.count ≤ o.timed.count + k
  pub owed : last.timed.owed ≤ o.timed.config.stores
  pub pending : length last.timed.under.pending ≤ length o.timed.under.pending
  -- nothing is pending on an ended machine
  pub ended : goes_on last.timed.arch ≡ false → last.timed.under.pending ≡ []
