-- The text that is written of the lists that a core hands over, which is a tape of them.
-- Cited by `tape_piece`.
use Rattle.std.specs.Prelude.{◌≤◌, ◌<◌, ◌^◌, ℕ, Bool, true, false, List, [], ◌∷◌, ◌++◌, length, map, codes, if◌then◌else◌}
use Rattle.std.specs.List.{All, AllByRecursion, flat_map, join_with_byte}
use Rattle.diva_isa.specs.declared.record.Record.{Record}
use Rattle.diva_outside.specs.Text.{Text, hex_word}

-- the numbers of a claim, in the order of a record's fields
abbrev pub numbers_of : Record → List ℕ
numbers_of claim = claim.pc ∷ claim.word ∷ claim.src1 ∷ claim.src2 ∷ claim.addr ∷ claim.value ∷ claim.next ∷ claim.end ∷ []

-- a claim: eight digits for each number, and a space between two numbers
abbrev pub claim_text : Record → Text
claim_text claim = join_with_byte 32 (map hex_word (numbers_of claim))

-- a claim in its line: ` ; ` stands before each but the first
unfoldable pub piece_text : Record → (first : Bool) → Text
piece_text claim first = (if first then [] else codes " ; ") ++ claim_text claim

-- some claims in their line
abbrev pub pieces_text : (first : Bool) → List Record → Text
pieces_text first [] = []
pieces_text first (claim ∷ list) = piece_text claim first ++ pieces_text false list

-- the line of a list
abbrev pub list_text : List Record → Text
list_text list = pieces_text true list ++ codes "\n"

-- a line for each list
abbrev pub tape_text : List (List Record) → Text
tape_text lists = flat_map list_text lists

-- each number of a claim is one of 32 bits
abbrev pub IsClaim : Record → Type 0
IsClaim claim = AllByRecursion (λ number. number < 2 ^ 32) (numbers_of claim)

-- what a core can hand over in a call: at most eight claims of such numbers
pub record IsList (list : List Record) : Type 0 where
  pub most : length list ≤ 8
  pub claims : All IsClaim list
