-- The traps by number.
-- Cited by `Trap::number`.
use Rattle.std.specs.Prelude.{ℕ}
use Rattle.diva_isa.specs.declared.trap.Trap.{Trap}
use Rattle.diva_isa.specs.declared.trap.Trap.TheVariants.{InstructionMisaligned, InstructionAccessFault, IllegalInstruction, Breakpoint, LoadMisaligned, LoadAccessFault, StoreMisaligned, StoreAccessFault, CallNotServed, OutputFull}

abbrev pub trap_number : Trap → ℕ
trap_number InstructionMisaligned = 0
trap_number InstructionAccessFault = 1
trap_number IllegalInstruction = 2
trap_number Breakpoint = 3
trap_number LoadMisaligned = 4
trap_number LoadAccessFault = 5
trap_number StoreMisaligned = 6
trap_number StoreAccessFault = 7
trap_number CallNotServed = 8
trap_number OutputFull = 9
