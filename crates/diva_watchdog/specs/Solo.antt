-- Since when an instruction runs solo.
-- Cited in `UnderWay.antt` of diva_hart, for `UnderWay::told` and `tick`.
use Rattle.std.specs.Prelude.{ℕ, Option, Some, None}
use Rattle.diva_watchdog.specs.declared.recover.Recover.{Recover}
use Rattle.diva_watchdog.specs.declared.recover.Recover.TheVariants.{Running, Solo}

-- the cycle in which an instruction was started solo
abbrev pub solo_of : Recover → Option ℕ
solo_of Running = None
solo_of (Solo start) = Some start
