-- For how long nothing has committed, and for how long that may go on.
-- Cited by `Watchdog::tick`, `wait`, `rest` and the type `Watchdog`.
use Rattle.std.specs.Prelude.{ℕ, ◌+◌, ◌-◌, ◌^◌, ◌&&◌, min, nat_le, not, Bool, if◌then◌else◌}

-- the limit, and the cycles without a commit
pub record Watchdog : Type 0 where
  pub limit : ℕ
  pub idle : ℕ

-- one cycle more; the count stands still at its last value
abbrev pub raised : ℕ → ℕ
raised idle = min (idle + 1) (2 ^ 32 - 1)

-- after a cycle in which something committed, or nothing did
abbrev pub ticked : Watchdog → Bool → Watchdog
ticked w committed = record w { idle = if committed then 0 else raised w.idle }

-- the machine must flush: the limit is reached, and no instruction runs solo
abbrev pub barks : Watchdog → Bool → Bool
barks w solo = nat_le w.limit w.idle && not solo
