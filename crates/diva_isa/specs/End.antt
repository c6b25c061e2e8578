-- How a state ends, as a word and as a number.
-- Cited by `End::of` and `number`; by `Machine::ended` of diva_machine.
use Rattle.std.specs.Prelude.{ℕ, ◌+◌, ◌-◌, ◌%◌, ◌^◌, ◌<◌, ◌≤◌, ◌==◌, nat_lt, if◌then◌else◌}
use Rattle.diva_isa.specs.Trap.{trap_number}
use Rattle.diva_isa.specs.declared.end.End.{End}
use Rattle.diva_isa.specs.declared.end.End.TheVariants.{GoesOn, Halt, Trap}
use Rattle.diva_isa.specs.declared.trap.Trap.{Trap as Cause}

-- a state's end as a number
abbrev pub end_number : End → ℕ
end_number GoesOn = 0
end_number (Trap n) = 1 + n
end_number (Halt status) = 256 + status

-- what a number says of a state's end
abbrev pub end_of : ℕ → End
end_of end = if end == 0 then GoesOn else (if nat_lt end 256 then Trap (end - 1) else Halt (end % 2 ^ 8))

-- the number of a state that this trap has ended
abbrev pub trap : Cause → ℕ
trap cause = 1 + trap_number cause

-- the number of a state that a halt with this status has ended
abbrev pub halt : ℕ → ℕ
halt status = 256 + status

-- the numbers that a record may have: 0, 1 and a trap's number, or 256 and a status
pub record IsEnd (end : ℕ) : Type 0 where
  pub halts : 10 < end → 256 ≤ end
  pub below : end < 512
