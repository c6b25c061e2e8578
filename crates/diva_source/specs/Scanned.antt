-- How the bytes of a line are read, one after the other, to the words that are kept of it.
-- Cited by `take_part`. A lemma shows that the words of a whole line are those that words_of gives.
use Rattle.std.specs.Prelude.{ℕ, List, [], ◌∷◌, ◌++◌, Bool, ◌||◌, if◌then◌else◌, length, nat_lt}
use Rattle.std.specs.List.{fold}
use Rattle.diva_outside.specs.Lines.{is_feed}
use Rattle.diva_outside.specs.Text.{Text}
use Rattle.diva_outside.specs.Words.{begins_comment, is_blank}
use Rattle.diva_source.specs.KeptWords.{lengthened}
use Rattle.diva_source.specs.declared.line_scan.Place.{Place}
use Rattle.diva_source.specs.declared.line_scan.Place.TheVariants.{Gap, Word, Rest}

-- what was read of a line: its words, as far as they are kept, and where its bytes so far end
pub record Scanned : Type 0 where
  pub words : List Text
  pub place : Place

-- nothing was read of the line
abbrev pub start : Scanned
start = record { words = []; place = Gap }

-- a word begins, if none had begun and there are fewer than eleven; nothing is kept of a further one, nor of what follows it
abbrev pub begun : List Text → Place → Scanned
begun words Gap = if nat_lt (length words) 11 then record { words = words ++ [] ∷ []; place = Word } else record { words = words; place = Rest }
begun words Word = record { words = words; place = Word }
begun words Rest = record { words = words; place = Rest }

-- the word goes on, if there is one
abbrev pub with_letters : List Text → Place → Text → Scanned
with_letters words Gap letters = record { words = words; place = Gap }
with_letters words Word letters = record { words = lengthened words letters; place = Word }
with_letters words Rest letters = record { words = words; place = Rest }

-- letters follow, of a word that has begun or begins with them
abbrev pub after_letters : Scanned → Text → Scanned
after_letters s letters = let b = begun s.words s.place in with_letters b.words b.place letters

-- a byte follows, if the line has not come to its rest
abbrev pub after_mark : Scanned → ℕ → Scanned
after_mark s b =
    if begins_comment b then record s { place = Rest }
    else if is_blank b then record s { place = Gap }
    else after_letters s (b ∷ [])

-- a byte follows
abbrev pub after_byte : Scanned → ℕ → Scanned
after_byte s b = by_place s.place
  where
    by_place : Place → Scanned
    by_place Gap = after_mark s b
    by_place Word = after_mark s b
    by_place Rest = s

-- bytes follow
abbrev pub after_bytes : Scanned → Text → Scanned
after_bytes s bytes = fold after_byte s bytes

-- a blank, a comment or the line's end ends a word
abbrev pub ends_word : ℕ → Bool
ends_word b = is_blank b || begins_comment b || is_feed b
