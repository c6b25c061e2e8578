use Rattle.std.proofs.Common.{◌≡◌, ◌<◌, length}
use Rattle.diva_isa.specs.State.{State, reg_of}
use Rattle.diva_core.specs.Older.{older, with_claims}
use Rattle.diva_core.proofs.pending.Pending.reg_after.Given as goal

abbrev pub invariant-loop-place : goal.invariant-loop-place
invariant-loop-place l = (s : State) → l.n < length s.regs → reg_of s l.n ≡ l.word → reg_of (with_claims s (older l.self.items l.place)) l.n ≡ l.latest
