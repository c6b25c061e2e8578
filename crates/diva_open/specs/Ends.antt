-- How an open machine has ended, as a word and as a number.
-- Cited by `OpenMachine::ended` and `OpenEnd::of`.
use Rattle.std.specs.Prelude.{ℕ, ◌+◌, ◌==◌, if◌then◌else◌}
use Rattle.diva_isa.specs.End.{end_of}
use Rattle.diva_isa.specs.declared.end.End.{End}
use Rattle.diva_isa.specs.declared.end.End.TheVariants.{GoesOn as Running, Halt as Halted, Trap as Trapped}
use Rattle.diva_open.specs.declared.ends.OpenEnd.{OpenEnd}
use Rattle.diva_open.specs.declared.ends.OpenEnd.TheVariants.{GoesOn, Halt, Trap, Stray}
use Rattle.diva_open.specs.Open.{stray}

-- the same end of a machine that met no record that cannot be applied
abbrev pub open_end : End → OpenEnd
open_end Running = GoesOn
open_end (Halted status) = Halt status
open_end (Trapped number) = Trap number

-- what a number says of its end
abbrev pub open_end_of : ℕ → OpenEnd
open_end_of end = if end == stray then Stray else open_end (end_of end)

-- the number that says so
abbrev pub open_end_number : OpenEnd → ℕ
open_end_number GoesOn = 0
open_end_number (Trap n) = 1 + n
open_end_number (Halt status) = 256 + status
open_end_number Stray = stray
