-- The record where a word says nothing, or is not there.
use Rattle.std.proofs.Common.{◌≡◌, ℕ, Option, Some, None, true, refl, ap, sym, ◌∙◌}
use Rattle.std.specs.Option.{option_and_then}
use Rattle.diva_decode.specs.Table.{row_of}
use Rattle.diva_decode.specs.declared.instr.Instr.{Instr}
use Rattle.diva_isa.specs.declared.trap.Trap.TheVariants.{InstructionAccessFault, IllegalInstruction}
use Rattle.diva_isa.specs.State.{State}
use Rattle.diva_isa.specs.End.{trap}
use Rattle.diva_isa.specs.Step.{ended, record_fetched, record_by, record_with}
use Rattle.diva_isa.specs.declared.record.Record.{Record}

-- its word, and the trap
abbrev pub unread_by : (pc : ℕ) → Option ℕ → Record
unread_by pc None = record_with pc 0 0 0 0 (ended pc (trap InstructionAccessFault))
unread_by pc (Some w) = record_with pc w 0 0 0 (ended pc (trap IllegalInstruction))

by_word : (s : State) (o : Option ℕ) → option_and_then row_of o ≡ None → record_fetched s o ≡ unread_by s.pc o
by_word s None none = refl
by_word s (Some w) none = ap (λ (f : Option Instr). record_by s true w f) none

pub unread : (s : State) (pc : ℕ) (o : Option ℕ) → option_and_then row_of o ≡ None → s.pc ≡ pc → unread_by pc o ≡ record_fetched s o
unread s pc o none at = ap (λ (n : ℕ). unread_by n o) (sym at) ∙ sym (by_word s o none)
