-- What a line of a log says of an instruction, and the record that is made of it with what is due.
-- Cited by `Said::filled`, by what `ClaimsCore` gives, and by its laws, as `right_lines_are_right`.
use Rattle.std.specs.Prelude.{◌≡◌, ◌==◌, ◌||◌, ℕ, Bool, true, false, not, List, Option, Some, None, IfSome, slice_get, if◌then◌else◌, ⊤}
use Rattle.std.specs.Option.{unwrap_or}
use Rattle.diva_storeq.specs.Stores.{entry_at}
use Rattle.diva_isa.specs.End.{end_of}
use Rattle.diva_isa.specs.Kind.{size}
use Rattle.diva_isa.specs.State.{State, goes_on}
use Rattle.diva_isa.specs.Step.{record_of, steps, effect_of}
use Rattle.diva_isa.specs.declared.effect.Effect.{Effect}
use Rattle.diva_isa.specs.declared.effect.Effect.TheVariants.{Nothing, Writes, Stores, Puts}
use Rattle.diva_isa.specs.declared.end.End.{End}
use Rattle.diva_isa.specs.declared.end.End.TheVariants.{GoesOn, Halt, Trap}
use Rattle.diva_isa.specs.declared.record.Record.{Record}
use Rattle.diva_claims.specs.declared.said.Said.{Said}
use Rattle.diva_claims.specs.declared.said.SaidEnd.{SaidEnd}
use Rattle.diva_claims.specs.declared.said.SaidEnd.TheVariants.{Number, SomeTrap}

-- ---- what a record does, as a line can say it

-- what a record does; one that ends does nothing
abbrev pub done_by : Record → Effect
done_by due = if due.end == 0 then effect_of due else Nothing

-- the register that is written, 0 if none is
abbrev pub register_written : Effect → ℕ
register_written Nothing = 0
register_written (Writes rd value) = rd
register_written (Stores width addr value) = 0
register_written (Puts byte) = 0

-- the bytes that are stored of the word in which they lie, the lowest in bit 0
abbrev pub mask_stored : Effect → ℕ
mask_stored Nothing = 0
mask_stored (Writes rd value) = 0
mask_stored (Stores width addr value) = (entry_at addr (size width) value).mask
mask_stored (Puts byte) = 0

abbrev pub is_trap : End → Bool
is_trap GoesOn = false
is_trap (Halt status) = false
is_trap (Trap number) = true

-- ---- what a line makes of the due record

-- a number is said, and is another one
abbrev pub differs : Option ℕ → ℕ → Bool
differs None due = false
differs (Some number) due = not (number == due)

-- another register is said to have been written, or other bytes
abbrev pub contradicts : Said → Record → Bool
contradicts said due = differs said.rd (register_written (done_by due)) || differs said.mask (mask_stored (done_by due))

-- an end that is never due
abbrev pub never : ℕ
never = 0xffffffff

-- the end that is said; some trap is the one that is due, if one is
abbrev pub end_said : Option SaidEnd → ℕ → ℕ
end_said None due = due
end_said (Some (Number end)) due = end
end_said (Some SomeTrap) due = if is_trap (end_of due) then due else never

-- what is said, and all else as it is due; if it contradicts that, the end is never due
abbrev pub filled : Said → Record → Record
filled said due =
    record {
      pc = unwrap_or said.pc due.pc;
      word = unwrap_or said.word due.word;
      src1 = unwrap_or said.src1 due.src1;
      src2 = unwrap_or said.src2 due.src2;
      addr = unwrap_or said.addr due.addr;
      value = unwrap_or said.value due.value;
      next = unwrap_or said.next due.next;
      end = if contradicts said due then never else end_said said.end due.end;
    }

-- ---- right lines

-- there is a line, and all that it says is due
abbrev pub IsLineOf : Option Said → Record → Type 0
IsLineOf None due = ⊥
IsLineOf (Some said) due = filled said due ≡ due

-- from a state on, each instruction up to the end has such a line
abbrev pub AreLinesOf : List Said → State → Type 0
AreLinesOf lines s = (k : ℕ) → goes_on (steps k s) ≡ true → IsLineOf (slice_get lines k) (record_of (steps k s))

-- what is said, if anything is, is this
abbrev pub IsSaid : Option ℕ → ℕ → Type 0
IsSaid said due = IfSome said (λ number. number ≡ due)

-- the end that is said is this one, or this one is some trap
abbrev pub IsEndSaid : Option SaidEnd → ℕ → Type 0
IsEndSaid None due = ⊤
IsEndSaid (Some (Number end)) due = end ≡ due
IsEndSaid (Some SomeTrap) due = is_trap (end_of due) ≡ true

-- all that is said is so of this record
pub record SaysOf (said : Said) (due : Record) : Type 0 where
  pub pc : IsSaid said.pc due.pc
  pub word : IsSaid said.word due.word
  pub src1 : IsSaid said.src1 due.src1
  pub src2 : IsSaid said.src2 due.src2
  pub addr : IsSaid said.addr due.addr
  pub value : IsSaid said.value due.value
  pub next : IsSaid said.next due.next
  pub end : IsEndSaid said.end due.end
  pub rd : IsSaid said.rd (register_written (done_by due))
  pub mask : IsSaid said.mask (mask_stored (done_by due))
