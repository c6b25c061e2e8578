-- Programs that were worked out by hand, what is handed over as they run, and what is looked at of a run.
-- Cited by the worked runs alone, as `three_instructions_in_lockstep`.
use Rattle.std.specs.Prelude.{ℕ, zero, suc, ◌+◌, ◌-◌, ◌==◌, ◌&&◌, List, [], ◌∷◌, ◌++◌, length, map, filter, flat_map, replicate, get_or, bit_xor, nat_lt, nat_le, if◌then◌else◌}
use Rattle.std.specs.Int.{to_le_bytes, w32}
use Rattle.diva_isa.specs.State.{State, reg_of}
use Rattle.diva_isa.specs.Step.{record_of, steps}
use Rattle.diva_isa.specs.declared.record.Record.{Record}
use Rattle.diva_core.specs.declared.differences.Field.{Field}
use Rattle.diva_core.specs.declared.flushes.Cause.TheVariants.{Differs, Silent}
use Rattle.diva_core.specs.declared.flushes.FlushRow.{FlushRow}
use Rattle.diva_core.specs.Timed.{Timed, PendingClaim, default_config, new_timed}
use Rattle.diva_core.specs.Cycle.{cycle_of}
use Rattle.diva_core.specs.Told.{told_of}
use Rattle.diva_ahead.specs.Ahead.{Ahead}
use Rattle.diva_tape.specs.Lists.{lockstep_list}
use Rattle.diva_tape.specs.Scalar.{new_scalar, scalar_call}

-- ---- programs

-- a machine at reset, with these words in memory from address 0 on
abbrev pub filled : List ℕ → State
filled words = record { regs = replicate 32 0; pc = 0; base = 0; bytes = flat_map (to_le_bytes w32) words; output = []; instret = 0; end = 0 }

-- a machine at reset with a memory of 64 bytes: these words, and zeros behind them
abbrev pub loaded : List ℕ → State
loaded words = filled (words ++ replicate (16 - length words) 0)

-- addi x1, x0, 5; addi x17, x0, 93; ecall: it halts with status 0
abbrev pub three_instructions : State
three_instructions = loaded (0x00500093 ∷ 0x05d00893 ∷ 0x00000073 ∷ [])

-- jal x0, 0
abbrev pub jump_to_itself : State
jump_to_itself = loaded (0x0000006f ∷ [])

-- addi x0, x0, 0, in a memory of four bytes
abbrev pub one_word : State
one_word = filled (0x00000013 ∷ [])

-- lw x2, 65(x0), which is misaligned and outside
abbrev pub misaligned_load_outside : State
misaligned_load_outside = loaded (0x04102103 ∷ [])

-- jalr x1, 6(x0)
abbrev pub jump_to_six : State
jump_to_six = loaded (0x006000e7 ∷ [])

-- addi x0, x0, 7; add x1, x0, x0; then a halt
abbrev pub write_to_x0 : State
write_to_x0 = loaded (0x00700013 ∷ 0x000000b3 ∷ 0x05d00893 ∷ 0x00000073 ∷ [])

-- addi x1, x0, 7; div x3, x1, x2, where x2 is 0
abbrev pub division_by_zero : State
division_by_zero = loaded (0x00700093 ∷ 0x0220c1b3 ∷ [])

-- lui x1, 0x80000; addi x2, x0, -1; div x3, x1, x2; rem x4, x1, x2
abbrev pub least_by_minus_one : State
least_by_minus_one = loaded (0x800000b7 ∷ 0xfff00113 ∷ 0x0220c1b3 ∷ 0x0220e233 ∷ [])

-- addi x1, x0, 85; sb x1, 33(x0); lw x2, 32(x0), where 44332211 stands at 32; then a halt
abbrev pub store_then_load : State
store_then_load = loaded (0x05500093 ∷ 0x021000a3 ∷ 0x02002103 ∷ 0x05d00893 ∷ 0x00000073 ∷ 0 ∷ 0 ∷ 0 ∷ 0x44332211 ∷ [])

-- addi x1, x0, 115; addi x17, x0, 93; sw x1, 12(x0), which writes ecall over the next word; addi x0, x0, 0
abbrev pub store_over_next_word : State
store_over_next_word = loaded (0x07300093 ∷ 0x05d00893 ∷ 0x00102623 ∷ 0x00000013 ∷ [])

-- sw x0, 32(x0); sw x0, 36(x0); then a halt
abbrev pub two_stores : State
two_stores = loaded (0x02002023 ∷ 0x02002223 ∷ 0x05d00893 ∷ 0x00000073 ∷ [])

-- some registers of a state
abbrev pub registers : List ℕ → State → List ℕ
registers numbers s = map (reg_of s) numbers

-- ---- the machine

-- the machine after n cycles in which a rule says what is handed over
abbrev pub led_by : (Timed → List Record) → ℕ → Timed → Timed
led_by rule zero m = m
led_by rule (suc n) m = led_by rule n (cycle_of m (rule m))

-- what is looked at of a machine
pub record Summary : Type 0 where
  pub end : ℕ
  pub count : ℕ
  pub cycles : ℕ
  pub flushes : ℕ
  pub silent : ℕ
  pub rows : List FlushRow

-- the summary of a machine
abbrev pub summary_of : Timed → Summary
summary_of m = record { end = m.arch.end; count = m.count; cycles = m.cycles; flushes = m.under.log.flushes; silent = m.under.log.silent; rows = m.under.log.rows }

-- the row of a flush in a cycle, after so many committed instructions: a field was claimed otherwise than was due
abbrev pub differed : (cycle at : ℕ) → Field → (claimed due : ℕ) → FlushRow
differed cycle at field claimed due = record { cycle = cycle; at = at; cause = Differs (record { field = field; claimed = claimed; due = due }) }

-- the same, where nothing was claimed for as many cycles as the watchdog's limit
abbrev pub was_silent : (cycle at limit : ℕ) → FlushRow
was_silent cycle at limit = record { cycle = cycle; at = at; cause = Silent limit }

-- the cycle in which a pending claim was accepted
abbrev pub cycle_accepted : PendingClaim → ℕ
cycle_accepted p = p.cycle

-- for each claim that is accepted within n cycles, the cycle in which it is
abbrev pub acceptances : (Timed → List Record) → ℕ → Timed → List ℕ
acceptances rule zero m = []
acceptances rule (suc n) m =
    let after = cycle_of m (rule m) in filter (λ cycle. nat_lt m.cycles cycle) (map cycle_accepted after.under.pending) ++ acceptances rule n after

-- for each instruction that commits within n cycles, the cycle in which it does
abbrev pub commitments : (Timed → List Record) → ℕ → Timed → List ℕ
commitments rule zero m = []
commitments rule (suc n) m = let after = cycle_of m (rule m) in replicate (after.count - m.count) after.cycles ++ commitments rule n after

-- ---- what is handed over

-- these lists, one in each cycle, and nothing after them
abbrev pub these_lists : List (List Record) → Timed → List Record
these_lists lists m = get_or lists m.cycles []

-- a rule that falls silent in the cycles from first to last
abbrev pub hushed : (first last : ℕ) → (Timed → List Record) → Timed → List Record
hushed first last rule m = if nat_le first (m.cycles + 1) && nat_le (m.cycles + 1) last then [] else rule m

-- a record with bit 0 of its value flipped
abbrev pub flipped : Record → Record
flipped r = record r { value = bit_xor r.value 1 }

-- Lockstep, where the value is flipped in the first cycle
abbrev pub flipped_first : Timed → List Record
flipped_first m = if m.cycles == 0 then map flipped (lockstep_list m) else lockstep_list m

-- the due record of the instruction behind k others
abbrev pub due_behind : ℕ → State → Record
due_behind k s = record_of (steps k s)

-- the first claim of three_instructions, the second one twice, the third
abbrev pub second_twice : List (List Record)
second_twice =
    let s = three_instructions in
    (due_behind 0 s ∷ []) ∷ (due_behind 1 s ∷ due_behind 1 s ∷ []) ∷ (due_behind 2 s ∷ []) ∷ []

-- right claims, but eight in a cycle, of which two are accepted: those of three_instructions, the first and the last of them many times
abbrev pub eight_at_once : List (List Record)
eight_at_once =
    let s = three_instructions in
    (due_behind 0 s ∷ due_behind 1 s ∷ replicate 6 (due_behind 0 s)) ∷ replicate 8 (due_behind 2 s) ∷ []

-- the claims of two_stores, two in each cycle
abbrev pub two_at_once : List (List Record)
two_at_once =
    let s = two_stores in
    (due_behind 0 s ∷ due_behind 1 s ∷ []) ∷ (due_behind 2 s ∷ due_behind 3 s ∷ []) ∷ []

-- the same, where the second claim has a wrong value
abbrev pub second_wrong : List (List Record)
second_wrong =
    let s = two_stores in
    (due_behind 0 s ∷ flipped (due_behind 1 s) ∷ []) ∷ (due_behind 2 s ∷ due_behind 3 s ∷ []) ∷ []

-- nothing for nine cycles, then the first claim of three_instructions with a wrong value
abbrev pub late_and_wrong : List (List Record)
late_and_wrong = replicate 9 [] ++ (flipped (due_behind 0 three_instructions) ∷ []) ∷ []

-- the claims of store_over_next_word in the third and the fourth cycle, the last of the word that stood there before
abbrev pub stale_word : List (List Record)
stale_word =
    let s = store_over_next_word in
    [] ∷ [] ∷ (due_behind 0 s ∷ due_behind 1 s ∷ []) ∷ (due_behind 2 s ∷ record { pc = 12; word = 0x00000013; src1 = 0; src2 = 0; addr = 0; value = 0; next = 16; end = 0 } ∷ []) ∷ []

-- ---- the core Scalar, and a machine

pub record Driven : Type 0 where
  pub machine : Timed
  pub core : Ahead

-- one turn: the machine's cycle with what the call hands over
abbrev pub turn_of : Driven → Driven
turn_of d =
    let call = scalar_call d.core (told_of d.machine) d.machine.arch in
    record { machine = cycle_of d.machine call.list; core = call.core }

abbrev pub turns_of : ℕ → Driven → Driven
turns_of zero d = d
turns_of (suc n) d = turns_of n (turn_of d)

-- a new machine with the numbers above, and a new core
abbrev pub new_driven : State → Driven
new_driven s = record { machine = new_timed default_config s; core = new_scalar }
