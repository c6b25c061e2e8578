-- What a session holds.
-- Cited by `Session::new`, `with_back`, `reply` and `into_parts`.
use Rattle.std.specs.Prelude.{ℕ}
use Rattle.diva_machine.specs.Machine.{Machine}
use Rattle.diva_debug.specs.Rewindable.{Rewindable}
use Rattle.diva_debug.specs.declared.session.Session.{Session}

-- the machine with the undos of its newest instructions
abbrev pub rewindable_of : {C : Type 0} → Session C → Rewindable
rewindable_of s = s.rewindable

abbrev pub machine_of : {C : Type 0} → Session C → Machine
machine_of s = s.rewindable.machine

-- the core, as it is now
abbrev pub core_of : {C : Type 0} → Session C → C
core_of s = s.core.now

-- which core it is that was lent
abbrev pub lent_name : {C : Type 0} → Session C → ℕ
lent_name s = s.core.ghost_name
