-- What only private contracts of this crate cite. A reader of its promises can pass over it.
use Rattle.std.specs.Prelude.{◌≡◌, ℕ, ◌<◌, Bool, true, false, Option, find}
use Rattle.diva_decode.specs.Fields.{opcode, funct3, funct7}
use Rattle.diva_decode.specs.declared.op.Op.{Op}
use Rattle.diva_decode.specs.Table.{Format, R, Exact, Csr, format, table, has_codes}

-- the operation with these codes
abbrev pub op_at : ℕ → ℕ → ℕ → Option Op
op_at opcode funct3 funct7 = find (λ op. has_codes (format op) opcode funct3 funct7) table

-- it is of format R
abbrev pub is_r : Format → Bool
is_r (R f7 f3 o) = true
is_r s = false

-- its opcode is SYSTEM
abbrev pub is_system : Format → Bool
is_system (Exact word) = true
is_system (Csr number f3 o) = true
is_system s = false

-- a register that is used is below 32, and another one is 0
abbrev pub FitsUse : Bool → ℕ → Type 0
FitsUse true r = r < 32
FitsUse false r = r ≡ 0
