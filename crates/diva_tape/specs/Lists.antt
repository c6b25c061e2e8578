-- What the simple cores hand over.
-- Cited by what `Lockstep`, `Flood` and `Echo` give.
use Rattle.std.specs.Prelude.{◌≡◌, ◌==◌, ◌&&◌, nat_lt, List, [], ◌∷◌, replicate, if◌then◌else◌}
use Rattle.diva_isa.specs.State.{State}
use Rattle.diva_isa.specs.Step.{record_of}
use Rattle.diva_isa.specs.declared.record.Record.{Record}
use Rattle.diva_core.specs.Timed.{Timed}
use Rattle.diva_core.specs.Told.{Told, told_of}
use Rattle.diva_core.specs.History.{Meaning}

-- Lockstep in one call: the due record where nothing is pending and there is room, else nothing
abbrev pub lockstep_call : Told → State → List Record
lockstep_call told s = if (told.pending == 0) && nat_lt 0 told.room then record_of s ∷ [] else []

-- the meaning of Lockstep: in each call its list, whatever it kept
abbrev pub IsLockstepCall : {C : Type 0} → Meaning C
IsLockstepCall before told s list after = list ≡ lockstep_call told s

-- Lockstep at each machine
abbrev pub lockstep_list : Timed → List Record
lockstep_list m = lockstep_call (told_of m) m.arch

-- Silent at each machine: nothing
abbrev pub silent_list : Timed → List Record
silent_list m = []

-- a claim whose fields are all 0
abbrev pub zeros : Record
zeros = record { pc = 0; word = 0; src1 = 0; src2 = 0; addr = 0; value = 0; next = 0; end = 0 }

-- Flood at each machine: eight claims of zeros
abbrev pub flood_list : Timed → List Record
flood_list m = replicate 8 zeros

-- the meaning of Flood: in each call that list
abbrev pub IsFloodCall : {C : Type 0} → Meaning C
IsFloodCall before told s list after = list ≡ replicate 8 zeros

-- Echo in one call: the due record where there is room, pending or not, else nothing
abbrev pub echo_call : Told → State → List Record
echo_call told s = if nat_lt 0 told.room then record_of s ∷ [] else []

-- the meaning of Echo: in each call its list, whatever it kept
abbrev pub IsEchoCall : {C : Type 0} → Meaning C
IsEchoCall before told s list after = list ≡ echo_call told s

-- Echo at each machine
abbrev pub echo_list : Timed → List Record
echo_list m = echo_call (told_of m) m.arch
