-- What is wrong with a line: the first of what it says that is not due, in the order of its words.
-- Cited by `Said::first_wrong`, and by the laws of this crate, as `a_flush_shows_what_is_wrong`.
use Rattle.std.specs.Prelude.{◌≡◌, ◌⊎◌, ◌==◌, ℕ, Option, Some, None, if◌then◌else◌}
use Rattle.std.specs.Option.{option_or}
use Rattle.diva_core.specs.declared.differences.Diff.{Diff}
use Rattle.diva_core.specs.declared.differences.Field.{Field as FieldName}
use Rattle.diva_core.specs.declared.differences.Field.TheVariants.{Pc, Word, Src1, Src2, Addr, Value, Next, End}
use Rattle.diva_isa.specs.End.{end_of}
use Rattle.diva_isa.specs.declared.record.Record.{Record}
use Rattle.diva_claims.specs.Said.{done_by, is_trap, mask_stored, never, register_written}
use Rattle.diva_claims.specs.declared.said.Said.{Said}
use Rattle.diva_claims.specs.declared.said.SaidEnd.{SaidEnd}
use Rattle.diva_claims.specs.declared.said.SaidEnd.TheVariants.{Number, SomeTrap}
use Rattle.diva_claims.specs.declared.wrong.Wrong.{Wrong}
use Rattle.diva_claims.specs.declared.wrong.Wrong.TheVariants.{Field, NoTrap, Register, Mask}

-- a number that is said and is another one than is due
abbrev pub other : (ℕ → Wrong) → Option ℕ → ℕ → Option Wrong
other wrong None due = None
other wrong (Some number) due = if number == due then None else Some (wrong number)

-- so it is with a field of the record
abbrev pub other_field : FieldName → Option ℕ → ℕ → Option Wrong
other_field field said due = other (λ number. Field (record { field = field; claimed = number; due = due })) said due

-- another register that is said to have been written
abbrev pub other_register : Option ℕ → ℕ → Option Wrong
other_register said due = other (λ number. Register number due) said due

-- other bytes
abbrev pub other_mask : Option ℕ → ℕ → Option Wrong
other_mask said due = other (λ number. Mask number due) said due

-- an end that is said and is another one; or some trap, if none is due
abbrev pub other_end : Option SaidEnd → ℕ → Option Wrong
other_end None due = None
other_end (Some (Number end)) due = other_field End (Some end) due
other_end (Some SomeTrap) due = if is_trap (end_of due) then None else Some (NoTrap due)

-- the first of these
unfoldable pub first_wrong : Said → Record → Option Wrong
first_wrong said due =
    option_or (other_field Pc said.pc due.pc)
    (option_or (other_field Word said.word due.word)
    (option_or (other_field Src1 said.src1 due.src1)
    (option_or (other_field Src2 said.src2 due.src2)
    (option_or (other_field Addr said.addr due.addr)
    (option_or (other_field Value said.value due.value)
    (option_or (other_field Next said.next due.next)
    (option_or (other_end said.end due.end)
    (option_or (other_register said.rd (register_written (done_by due)))
    (other_mask said.mask (mask_stored (done_by due)))))))))))

-- the first difference of the line's claim is in the same field; what is no field of a record (the trap, the register, the bytes) makes
-- the claim differ in its end, which is then one that is never due, also if the line says another end as well
abbrev pub ShowsAs : Wrong → Diff → Type 0
ShowsAs (Field wrong) d = (d ≡ wrong) ⊎ ((wrong.field ≡ End) × (d ≡ record wrong { claimed = never }))
ShowsAs (NoTrap due) d = d.field ≡ End
ShowsAs (Register said due) d = d.field ≡ End
ShowsAs (Mask said due) d = d.field ≡ End

-- a difference shows what is wrong, if anything is
abbrev pub IsShown : Option Wrong → Diff → Type 0
IsShown None d = ⊥
IsShown (Some wrong) d = ShowsAs wrong d
