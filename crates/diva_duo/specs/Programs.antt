-- A program for two harts that was worked out by hand, what is handed over as it runs, and what is looked at of the run.
-- Cited by `neither_hart_sees_the_other_store`.
use Rattle.std.specs.Prelude.{ℕ, zero, suc, ◌+◌, ◌-◌, ◌*◌, List, [], ◌∷◌, ◌++◌, length, flat_map, replicate, nat_lt, if◌then◌else◌}
use Rattle.std.specs.Int.{to_le_bytes, w32}
use Rattle.diva_isa.specs.State.{State, reg_of}
use Rattle.diva_isa.specs.Step.{record_of, steps}
use Rattle.diva_isa.specs.declared.record.Record.{Record}
use Rattle.diva_core.specs.Timed.{default_config}
use Rattle.diva_hart.specs.HartArch.{seen}
use Rattle.diva_duo.specs.Duo.{Duo, new_duo, duo_cycle_of, actions}
use Rattle.diva_duo.specs.Which.{First, Second, machine_at}
use Rattle.diva_duo.specs.declared.action.Action.{Action}

-- a machine at reset with a memory of 64 bytes: these words, and zeros behind them
abbrev pub loaded : List ℕ → State
loaded words = record { regs = replicate 32 0; pc = 0; base = 0; bytes = flat_map (to_le_bytes w32) (words ++ replicate (16 - length words) 0); output = []; instret = 0; end = 0 }

-- each hart stores 1 in its own word, 32 or 36, loads that of the other into x2, and halts with its number:
-- addi x1, x0, 1; slli x5, x10, 2; sub x6, x0, x5; addi x0, x0, 0; sw x1, 32(x5); lw x2, 36(x6); addi x17, x0, 93; ecall
abbrev pub store_load : Duo
store_load = new_duo default_config (loaded (0x00100093 ∷ 0x00251293 ∷ 0x40500333 ∷ 0x00000013 ∷ 0x0212a023 ∷ 0x02432103 ∷ 0x05d00893 ∷ 0x00000073 ∷ []))

-- in each of the first four cycles, counted from 0, the next two records that would be due in a state if there were no other hart
abbrev pub alone : State → (cycle : ℕ) → List Record
alone s cycle = if nat_lt cycle 4 then record_of (steps (2 * cycle) s) ∷ record_of (steps (2 * cycle + 1) s) ∷ [] else []

-- the duo after so many cycles in which each hart's core hands that over
abbrev pub by_twos : ℕ → Duo → Duo
by_twos zero d = d
by_twos (suc n) d =
    let before = by_twos n d in
    duo_cycle_of before (alone (seen d.memory d.first.state) n) (alone (seen d.memory d.second.state) n)

-- the actions of the last of these cycles
abbrev pub last_by_twos : ℕ → Duo → List Action
last_by_twos n d = actions (by_twos (n - 1) d) (by_twos n d)

-- what is looked at of both harts
pub record Summary : Type 0 where
  pub cycles : ℕ
  pub counts : List ℕ
  pub ends : List ℕ
  pub x2 : List ℕ

abbrev pub summary_of : Duo → Summary
summary_of d =
    record {
      cycles = d.cycles;
      counts = (machine_at First d).count ∷ (machine_at Second d).count ∷ [];
      ends = d.first.state.end ∷ d.second.state.end ∷ [];
      x2 = reg_of (machine_at First d).arch 2 ∷ reg_of (machine_at Second d).arch 2 ∷ [];
    }
