-- Lines that are taken of a text one after the other are its first lines.
use Rattle.std.proofs.Common.{◌≡◌, ◌∙◌, ◌++◌, ◌<◌, inl, inr, ℕ, false, List, [], ◌∷◌, length, Option, Some, None, ap, sym, refl, arith, append-nil, append_assoc}
use Rattle.std.proofs.lemmas.Bool.{or_parts}
use Rattle.std.specs.Io.KnownBytes.{IsAtEnd}
use Rattle.std.specs.List.{list_any}
use Rattle.diva_outside.specs.Lines.{is_feed, lines_of}
use Rattle.diva_outside.specs.Text.{Text}
use Rattle.diva_source.specs.SourceLines.{IsInLine, TakesLine}
use Rattle.diva_judge.specs.Inner.{AreTaken}
use Rattle.diva_judge.specs.Judging.{AreAllLines, AreFirstLines}

-- the first line of a text, with its line feed
line_and_rest : (line rest : Text) → IsInLine line → lines_of (line ++ 10 ∷ rest) ≡ line ∷ lines_of rest
line_and_rest [] rest one = refl
line_and_rest (b ∷ line) rest one =
    let parts = or_parts (is_feed b) (list_any is_feed line) one in
    rw (parts.0, line_and_rest line rest parts.1) refl

-- and without one, at the end
last_line : (b : ℕ) (line : Text) → IsInLine (b ∷ line) → lines_of (b ∷ line) ≡ (b ∷ line) ∷ []
last_line b [] one = rw (or_parts (is_feed b) false one).0 refl
last_line b (c ∷ line) one =
    let parts = or_parts (is_feed b) (list_any is_feed (c ∷ line)) one in
    rw (parts.0, last_line c line parts.1) refl

last_of : (line : Text) → 0 < length line → IsInLine line → lines_of line ≡ line ∷ []
last_of [] some one = absurd (omega (arith, some))
last_of (b ∷ line) some one = last_line b line one

-- a line more
pub taken_more : (all before after : Option Text) (lines : List Text) (line : Text)
    → AreTaken all before lines → TakesLine before after line → AreTaken all after (lines ++ line ∷ [])
taken_more None before after lines line taken takes = tt
taken_more (Some text) None after lines line taken takes = absurd taken
taken_more (Some text) (Some b) None lines line taken takes = absurd takes.begins
taken_more (Some text) (Some b) (Some a) lines line taken takes =
    let one : lines_of b ≡ line ∷ lines_of a =
    elim takes.begins [
      | inl whole ↦ ap lines_of whole ∙ line_and_rest line a takes.one
      | inr last ↦ ap lines_of last.all ∙ last_of line last.some takes.one ∙ ap (λ (rest : Text). line ∷ lines_of rest) (sym last.none_left)
    ] in
    taken ∙ ap (λ (rest : List Text). lines ++ rest) one ∙ sym (append_assoc lines (line ∷ []) (lines_of a))

-- at the end they are all
pub taken_all : (all before : Option Text) (lines : List Text) → AreTaken all before lines → IsAtEnd before → AreAllLines all lines
taken_all None before lines taken ended = tt
taken_all (Some text) None lines taken ended = absurd taken
taken_all (Some text) (Some b) lines taken ended = taken ∙ ap (λ (rest : Text). lines ++ lines_of rest) ended ∙ append-nil lines

-- before it the first of them
pub taken_first : (all before : Option Text) (lines : List Text) → AreTaken all before lines → AreFirstLines all lines
taken_first None before lines taken = record { later = []; whole = tt }
taken_first (Some text) None lines taken = absurd taken
taken_first (Some text) (Some b) lines taken = record { later = lines_of b; whole = taken }

pub taken_none : (all : Option Text) → AreTaken all all []
taken_none None = tt
taken_none (Some text) = refl
