-- What holds of a machine between two cycles.
-- Cited by `Config::new` and `with_port`; by `Machine::cycle`, `undo`, `turn` and `drive` of diva_machine.
use Rattle.std.specs.Prelude.{ℕ, ◌≡◌, ◌≤◌, ◌+◌, ◌-◌, ◌*◌, ◌/◌, List, [], ◌∷◌, length, Option, Some, None, ⊤}
use Rattle.std.specs.Prelude.{Bool, ◌&&◌, nat_le, if◌then◌else◌}
use Rattle.diva_core.specs.Timed.{Timed, Config, PendingClaim, depth, rows_kept}

-- the least that each of a machine's numbers may be, and the most
abbrev pub least_config : Config
least_config = record { width = 1; window = 8; stores = 1; limit = 16; port = 1 }

abbrev pub most_config : Config
most_config = record { width = 4; window = 64; stores = 6; limit = 1024; port = 6 }

-- each of the numbers is in its range
pub record IsConfig (z : Config) : Type 0 where
  pub width_low : least_config.width ≤ z.width
  pub width_high : z.width ≤ most_config.width
  pub window_low : least_config.window ≤ z.window
  pub window_high : z.window ≤ most_config.window
  pub stores_low : least_config.stores ≤ z.stores
  pub stores_high : z.stores ≤ most_config.stores
  pub limit_low : least_config.limit ≤ z.limit
  pub limit_high : z.limit ≤ most_config.limit
  pub port_low : least_config.port ≤ z.port
  pub port_high : z.port ≤ most_config.port

-- the same as a test: no number is greater than the other's
abbrev pub config_le : Config → Config → Bool
config_le a b =
    nat_le a.width b.width && nat_le a.window b.window && nat_le a.stores b.stores && nat_le a.limit b.limit && nat_le a.port b.port

-- the numbers, where each is in its range
unfoldable pub config_in_range : Config → Option Config
config_in_range z = if config_le least_config z && config_le z most_config then Some z else None

-- an instruction runs solo since the cycle `start`
pub record IsSolo (m : Timed) (start : ℕ) : Type 0 where
  pub empty : m.under.pending ≡ []
  pub started : start ≤ m.cycles
  pub soon : m.cycles + 1 ≤ start + depth
  pub idled : m.under.idle ≤ m.config.limit + (m.cycles - start)
  -- the port has taken a store each time since, while one was owed; it did so once at least before the sixth cycle's commit
  pub drained : m.owed ≤ m.config.stores - (m.cycles / m.config.port - start / m.config.port)

-- how long the machine can have been without a commit
abbrev pub Lives : Timed → Option ℕ → Type 0
Lives m None = m.under.idle + 1 ≤ m.config.limit
Lives m (Some start) = IsSolo m start

-- no claim was accepted in a later cycle
abbrev pub ArePast : ℕ → List PendingClaim → Type 0
ArePast cycles [] = ⊤
ArePast cycles (p ∷ rest) = (p.cycle ≤ cycles) × ArePast cycles rest

-- the cycles that went by since the last commit, where a flush counts as the watchdog's limit
abbrev pub stalled_since : Timed → Option ℕ → ℕ
stalled_since m None = m.under.idle
stalled_since m (Some start) = m.config.limit + (m.cycles - start)

abbrev pub stalled : Timed → ℕ
stalled m = stalled_since m m.under.solo

pub record IsMachine (m : Timed) : Type 0 where
  pub config : IsConfig m.config
  -- the instructions that led to the committed state are those that were counted
  pub counted : m.arch.instret ≡ m.count
  pub lives : Lives m m.under.solo
  pub owed : m.owed ≤ m.config.stores
  pub rows : length m.under.log.rows ≤ rows_kept
  pub past : ArePast m.cycles m.under.pending
  pub window : length m.under.pending ≤ m.config.window
  pub flushes : m.under.log.flushes ≤ m.cycles
  pub silent : m.under.log.silent ≤ m.under.log.flushes
  pub count : m.count + m.under.undos ≤ m.config.width * m.cycles
  -- each instruction took W + depth cycles at most, W being the watchdog's limit, where none was taken back
  pub pace : m.under.undos ≡ 0 → m.cycles ≤ m.count * (m.config.limit + depth) + stalled m
