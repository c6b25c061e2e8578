-- What only private contracts of this crate cite. A reader of its promises can pass over it.
use Rattle.std.specs.Prelude.{Bool, true, get_or, ◌≡◌, ◌++◌, List, ℕ, ⊤, Result, Ok, Err, ◌%◌, ◌==◌, if◌then◌else◌, [], ◌∷◌, false}
use Rattle.std.specs.Fmt.{digit_glyph}
use Rattle.std.specs.List.{filter}
use Rattle.diva_outside.specs.Steps.{and_then}
use Rattle.diva_outside.specs.Text.{Text}
use Rattle.diva_outside.specs.declared.text_fault.LineStop.{LineStop}
use Rattle.diva_outside.specs.declared.text_fault.LineStop.TheVariants as stop
use Rattle.diva_asm.specs.Operands.{registers}
use Rattle.diva_asm.specs.declared.fault.Kind.{Kind}
use Rattle.diva_asm.specs.declared.operand.Operand.{Operand}
use Rattle.diva_asm.specs.declared.operand.Operand.TheVariants.{Memory}
use Rattle.diva_asm.specs.declared.operands.Operands.{Operands}

-- what is due comes behind the bytes
abbrev pub Appends : Result (List ℕ) Kind → List ℕ → List ℕ → Result (Unit {0}) (LineStop Kind) → Type 0
Appends due old new (Ok done) = and_then due (λ more. Ok (old ++ more)) ≡ Ok new
Appends due old new (Err (stop.Fault kind)) = due ≡ Err kind
Appends due old new (Err stop.Memory) = ⊤

-- the most bytes of an operand with what stands before it
abbrev pub width : Operand → ℕ
width Memory = 46
width operand = 23

-- the last hex digit of a number, or nothing where it is 0
abbrev pub lead : ℕ → Text
lead n = if n == 0 then [] else digit_glyph false (n % 16) ∷ []

-- what operands say that are due, where the texts have their shapes; where they do not, any fault
abbrev pub GivesOperands : Bool → Result Operands Kind → Result Operands Kind → Type 0
GivesOperands shaped due (Ok v) = (shaped ≡ true) × (due ≡ Ok v)
GivesOperands shaped due (Err kind) = shaped ≡ true → due ≡ Err kind

-- a text's first byte is b
abbrev pub begins_with : ℕ → Text → Bool
begins_with b text = get_or text 0 0 == b

-- the registers whose names begin with b
unfoldable pub registers_with : ℕ → List (Text × ℕ)
registers_with b = filter (λ name. begins_with b name.0) registers
