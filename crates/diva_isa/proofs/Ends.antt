-- The end of the due record is 0, a trap's or a halt's.
use Rattle.std.proofs.Common.{◌≤◌, ◌<◌, ℕ, ◌+◌, ◌*◌, ◌/◌, ◌%◌, ◌^◌, ◌==◌, nat_lt, length, Option, Some, None, Bool, true, false, cond, arith, if◌then◌else◌}
use Rattle.diva_decode.specs.declared.instr.Instr.{Instr}
use Rattle.diva_decode.specs.declared.op.Op.{Op}
use Rattle.diva_decode.specs.Table.{row_of}
use Rattle.diva_isa.specs.declared.trap.Trap.TheVariants.{InstructionMisaligned, LoadMisaligned, StoreMisaligned, CallNotServed, OutputFull}
use Rattle.diva_isa.specs.Alu.{is_taken}
use Rattle.diva_isa.specs.Kind.{kind, size}
use Rattle.diva_isa.specs.State.{State, number_of, word_of, output_limit}
use Rattle.diva_isa.specs.End.{IsEnd, halt, trap}
use Rattle.diva_isa.specs.Step.{address_of, call, ended, record_fetched, continues, imm, loaded, outcome, outcome_of, record_of, source1_of, source2_of, stored, jumps_to}
use Rattle.diva_isa.specs.declared.kind.Kind.{Kind}
use Rattle.diva_isa.specs.declared.kind.Kind.TheVariants.{Lui, Auipc, Jal, Jalr, Branch, Load, Store, OpImm, OpReg, Fence, Ecall, Ebreak, Counter}
use Rattle.diva_isa.specs.declared.record.Outcome.{Outcome}

small : (n : ℕ) → n ≤ 10 → IsEnd n
small n h = record { halts = λ g. omega arith; below = omega arith }

halted : (n : ℕ) → n < 256 → IsEnd (halt n)
halted n h = record { halts = λ g. omega arith; below = omega arith }

-- of either outcome
either : (c : Bool) (x y : Outcome) → IsEnd x.end → IsEnd y.end → IsEnd (cond c x y).end
either true x y p q = p
either false x y p q = q

end_target : (pc v t : ℕ) → IsEnd (jumps_to pc v t).end
end_target pc v t = either (t % 4 == 0) (record { value = v; next = t; end = 0 }) (ended pc (trap InstructionMisaligned)) (small 0 (omega arith)) (small 1 (omega arith))

end_loaded : (pc : ℕ) (op : Op) (o : Option ℕ) → IsEnd (loaded pc op o).end
end_loaded pc op None = small 6 (omega arith)
end_loaded pc op (Some n) = small 0 (omega arith)

end_stored : (pc b n : ℕ) (o : Option ℕ) → IsEnd (stored pc b n o).end
end_stored pc b n None = small 8 (omega arith)
end_stored pc b n (Some v) = small 0 (omega arith)

end_call : (s : State) (pc a b : ℕ) → IsEnd (call s pc a b).end
end_call s pc a b =
    let put = continues pc (b % 2 ^ 8) in
    let full = ended pc (trap OutputFull) in
    let halts = ended pc (halt (b % 2 ^ 8)) in
    let unknown = ended pc (trap CallNotServed) in
    either (a == 1) (if nat_lt (length s.output) output_limit then put else full) (if a == 93 then halts else unknown)
    (either (nat_lt (length s.output) output_limit) put full (small 0 (omega arith)) (small 10 (omega arith)))
    (either (a == 93) halts unknown (halted (b % 2 ^ 8) (omega arith)) (small 9 (omega arith)))

end_outcome : (k : Kind) (s : State) (i : Instr) (pc a b addr : ℕ) → IsEnd (outcome k s i pc a b addr).end
end_outcome Lui s i pc a b addr = small 0 (omega arith)
end_outcome Auipc s i pc a b addr = small 0 (omega arith)
end_outcome Jal s i pc a b addr = end_target pc ((pc + 4) % 2 ^ 32) ((pc + imm i) % 2 ^ 32)
end_outcome Jalr s i pc a b addr = end_target pc ((pc + 4) % 2 ^ 32) ((a + imm i) % 2 ^ 32 / 2 * 2)
end_outcome Branch s i pc a b addr = either (is_taken i.op a b) (jumps_to pc 0 ((pc + imm i) % 2 ^ 32)) (continues pc 0) (end_target pc 0 ((pc + imm i) % 2 ^ 32)) (small 0 (omega arith))
end_outcome (Load w) s i pc a b addr = either (addr % size w == 0) (loaded pc i.op (number_of s (size w) addr)) (ended pc (trap LoadMisaligned)) (end_loaded pc i.op (number_of s (size w) addr)) (small 5 (omega arith))
end_outcome (Store w) s i pc a b addr = either (addr % size w == 0) (stored pc b (size w) (number_of s (size w) addr)) (ended pc (trap StoreMisaligned)) (end_stored pc b (size w) (number_of s (size w) addr)) (small 7 (omega arith))
end_outcome OpImm s i pc a b addr = small 0 (omega arith)
end_outcome OpReg s i pc a b addr = small 0 (omega arith)
end_outcome Fence s i pc a b addr = small 0 (omega arith)
end_outcome Ecall s i pc a b addr = end_call s pc a b
end_outcome Ebreak s i pc a b addr = small 4 (omega arith)
end_outcome Counter s i pc a b addr = small 0 (omega arith)

-- whatever a word says, and where there is none
pub end_outcome_of : (there : Bool) (decoded : Option Instr) (s : State) (pc a b addr : ℕ) → IsEnd (outcome_of there decoded s pc a b addr).end
end_outcome_of there (Some i) s pc a b addr = end_outcome (kind i.op) s i pc a b addr
end_outcome_of true None s pc a b addr = small 3 (omega arith)
end_outcome_of false None s pc a b addr = small 2 (omega arith)

end_fetched : (s : State) (o : Option ℕ) → IsEnd (record_fetched s o).end
end_fetched s None = small 2 (omega arith)
end_fetched s (Some w) =
    let decoded = row_of w in
    end_outcome_of true decoded s s.pc (source1_of decoded s) (source2_of decoded s) (address_of decoded (source1_of decoded s))

pub end_record_of : (s : State) → IsEnd (record_of s).end
unfolding record_of
end_record_of s = end_fetched s (word_of s s.pc)
