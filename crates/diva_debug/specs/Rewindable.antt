-- A machine that can go back.
-- Cited by `Session::reply`, `reply_to` and the type `Rewindable`.
use Rattle.std.specs.Prelude.{ℕ, ◌≡◌, ◌≤◌, List, length, take, drop, nat_le, if◌then◌else◌}
use Rattle.diva_isa.specs.State.{State}
use Rattle.diva_isa.specs.declared.undo.Undo.{Undo}
use Rattle.diva_core.specs.History.{Meaning}
use Rattle.diva_core.specs.Undone.{CanUndoAll, undone_all}
use Rattle.diva_machine.specs.Drives.{Drives}
use Rattle.diva_machine.specs.Machine.{Machine}
use Rattle.diva_debug.specs.Moves.{Standing}
use Rattle.diva_debug.specs.Undos.{AreUndos, origin_of}
use Rattle.diva_debug.specs.declared.command.Command.{Command}
use Rattle.diva_debug.specs.declared.command.Command.TheVariants.{Step, Until, Back, Reg, Mem, Why}

-- a machine, the undos of its newest instructions, the newest first, and how many are kept at most
pub record Rewindable : Type 0 where
  pub machine : Machine
  pub undos : List Undo
  pub keep : ℕ

-- how many undos are kept
abbrev pub kept_of : Rewindable → ℕ
kept_of r = length r.undos

-- the state that all kept undos restore
abbrev pub session_origin : Rewindable → State
session_origin r = origin_of r.machine.timed.arch r.undos

-- where it stands
abbrev pub standing_of : Rewindable → Standing
standing_of r = record { place = r.machine.timed.count; kept = kept_of r }

-- what its type keeps: it can stop at any count, its undos are those of its newest instructions, and there are no more of them than
-- instructions, nor than there is room for
pub record IsRewindable (r : Rewindable) : Type 0 where
  pub width : r.machine.timed.config.width ≡ 1
  pub undos : AreUndos r.machine.timed.arch r.undos
  pub counted : kept_of r ≤ r.machine.timed.count
  pub room : kept_of r ≤ r.keep

-- the newest n undos were taken back by, and no other
pub record GoesBack (n : ℕ) (r last : Rewindable) : Type 0 where
  pub can : CanUndoAll r.machine.timed (take n r.undos)
  pub undone : last.machine.timed ≡ undone_all r.machine.timed (take n r.undos)
  pub shows : last.machine.last ≡ r.machine.last
  pub left : last.undos ≡ drop n r.undos

-- what a command makes of a machine and a core: one that goes back takes as many instructions back as it says, where so many undos
-- are kept, and else none, and the core stays; any other is a drive
abbrev pub IsLed : {C : Type 0} → Meaning C → Command → Rewindable → C → Rewindable → C → Type 0
IsLed gives (Step k) r core last final = Drives gives r.machine core last.machine final
IsLed gives (Until pc) r core last final = Drives gives r.machine core last.machine final
IsLed gives (Back k) r core last final = GoesBack (if nat_le k (kept_of r) then k else 0) r last × (final ≡ core)
IsLed gives (Reg n) r core last final = Drives gives r.machine core last.machine final
IsLed gives (Mem range) r core last final = Drives gives r.machine core last.machine final
IsLed gives Why r core last final = Drives gives r.machine core last.machine final
