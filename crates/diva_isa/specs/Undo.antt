-- Taking an instruction back: what it overwrites, and putting that back.
-- Cited by `undo_of`; by `HartArch::restore` of diva_hart.
use Rattle.std.specs.Prelude.{◌≡◌, ◌-◌, ◌==◌, length, take, unwrap_or, if◌then◌else◌}
use Rattle.diva_memory.specs.Bytes.{put_all, low_bytes}
use Rattle.diva_isa.specs.State.{State, memory_of, number_of, reg_of}
use Rattle.diva_isa.specs.Kind.{size}
use Rattle.diva_isa.specs.Regs.{with_reg}
use Rattle.diva_isa.specs.Step.{record_of, effect_of, step}
use Rattle.diva_isa.specs.declared.record.Record.{Record}
use Rattle.diva_isa.specs.declared.undo.Undo.{Undo}
use Rattle.diva_isa.specs.declared.effect.Effect.{Effect}
use Rattle.diva_isa.specs.declared.effect.Effect.TheVariants.{Nothing, Writes, Stores, Puts}

-- what a record does that is applied: one that ends does nothing
abbrev pub applied : Record → Effect
applied r = if r.end == 0 then effect_of r else Nothing

-- the pc and the length of the output, where neither a register nor memory is overwritten
abbrev pub pc_alone : State → Undo
pc_alone s = record { pc = s.pc; out_len = length s.output; reg = 0; old = 0; addr = 0; width = 0; bytes = 0 }

-- what an effect overwrites
abbrev pub overwritten : State → Effect → Undo
overwritten s Nothing = pc_alone s
overwritten s (Writes rd value) = record (pc_alone s) { reg = rd; old = reg_of s rd }
overwritten s (Stores width addr value) =
    record (pc_alone s) { addr = addr; width = size width; bytes = unwrap_or (number_of s (size width) addr) 0 }
overwritten s (Puts byte) = pc_alone s

-- what the next instruction of a state overwrites
unfoldable pub undo_of : State → Undo
undo_of s = overwritten s (applied (record_of s))

-- a state with what was overwritten put back: it goes on, and one instruction fewer led to it
unfoldable pub restore : State → Undo → State
restore s u =
    record s {
      regs = with_reg s.regs u.reg u.old;
      pc = u.pc;
      bytes = (put_all (memory_of s) u.addr (low_bytes u.width u.bytes)).items;
      output = take u.out_len s.output;
      instret = s.instret - 1;
      end = 0;
    }

-- u is what the instruction overwrote that led to s
pub record IsUndo (s : State) (u : Undo) : Type 0 where
  pub stepped : step (restore s u) ≡ s
  pub overwrote : undo_of (restore s u) ≡ u
