-- The future file: the registers as the oldest of the pending claims leave them, right ones and wrong ones.
-- Cited by `FutureFile::keep`, `leave`, `reset` and the type `FutureFile`.
use Rattle.std.specs.Prelude.{ℕ, ◌≡◌, ◌≤◌, ◌+◌, ◌-◌, ◌==◌, List, length, Option, Some, None, if◌then◌else◌}
use Rattle.diva_decode.specs.declared.instr.Instr.{Instr}
use Rattle.diva_decode.specs.Table.{row_of}
use Rattle.diva_isa.specs.State.{State}
use Rattle.diva_isa.specs.Regs.{with_reg}
use Rattle.diva_isa.specs.declared.record.Record.{Record}
use Rattle.diva_core.specs.declared.pending.Entry.{Entry}
use Rattle.diva_core.specs.Older.{older, with_claims}

pub record FutureFile : Type 0 where
  pub regs : List ℕ
  -- how many claims these are
  pub claims : ℕ

-- the register that an instruction writes, x0 where it writes none or where there is none
abbrev pub target_by : Option Instr → ℕ
target_by None = 0
target_by (Some i) = i.rd

-- the registers after no claim
abbrev pub committed_file : List ℕ → FutureFile
committed_file regs = record { regs = regs; claims = 0 }

-- after one claim more
abbrev pub with_result : FutureFile → Record → FutureFile
with_result f r = record { regs = with_reg f.regs (target_by (row_of r.word)) r.value; claims = f.claims + 1 }

-- where the oldest of the claims has committed, and these are the committed registers then
abbrev pub without_oldest : (regs : List ℕ) → FutureFile → FutureFile
without_oldest regs f = if f.claims == 0 then committed_file regs else record { regs = f.regs; claims = f.claims - 1 }

-- it is that of these pending claims, behind a committed state
pub record IsFuture (s : State) (entries : List Entry) (f : FutureFile) : Type 0 where
  pub within : f.claims ≤ length entries
  pub regs : f.regs ≡ (with_claims s (older entries f.claims)).regs
