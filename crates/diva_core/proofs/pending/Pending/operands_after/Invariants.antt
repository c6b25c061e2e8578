use Rattle.std.proofs.Common.{◌≡◌, ◌<◌, length}
use Rattle.diva_isa.specs.State.{State, reg_of}
use Rattle.diva_core.specs.Older.{older, with_claims}
use Rattle.diva_core.proofs.pending.Pending.operands_after.Given as goal

abbrev pub invariant-loop-place : goal.invariant-loop-place
invariant-loop-place l =
    (s : State) → l.first < length s.regs → l.second < length s.regs → reg_of s l.first ≡ l.fn.operands.first → reg_of s l.second ≡ l.fn.operands.second
    → (reg_of (with_claims s (older l.self.items l.place)) l.first ≡ l.latest.first) × (reg_of (with_claims s (older l.self.items l.place)) l.second ≡ l.latest.second)
