-- The lines of a text that is read piece by piece.
-- Cited by `SourceLines::next`, and by `reads_all_lines`.
use Rattle.std.specs.Prelude.{◌≡◌, ◌≤◌, ◌<◌, ◌+◌, ◌⊎◌, ℕ, List, [], ◌∷◌, ◌++◌, Bool, true, false, Option, Some, None, Result, Ok, Err, OnOk, OnErr, length, ⊤}
use Rattle.std.specs.Io.KnownBytes.{Consumes, IsAtEnd, Keeps, prepend_known}
use Rattle.std.specs.List.{list_any}
use Rattle.diva_outside.specs.Lent.{given, left}
use Rattle.diva_outside.specs.Lines.{is_feed}
use Rattle.diva_outside.specs.Text.{Text}
use Rattle.diva_outside.specs.Words.{words_of}
use Rattle.diva_source.specs.KeptWords.{kept_of}
use Rattle.diva_source.specs.Source.{SourceAccount, LentSource, HasFailed, IsUncounted}
use Rattle.diva_source.specs.declared.source_lines.SourceLines.{SourceLines}

-- ---- what lines tell of their source

-- what a source tells if these bytes were read of it already, and are yet to come
abbrev pub with_piece : Text → SourceAccount → SourceAccount
with_piece piece s = record s { rest = prepend_known piece s.rest; limit = length piece + s.limit }

-- what lines tell of themselves, as their source does
abbrev pub lines_account : {D : Type 0} → (D → SourceAccount) → SourceLines D → SourceAccount
lines_account account lines = with_piece lines.piece (account lines.source.now)

-- the source that was lent, and which reference it was
abbrev pub source_of : {D : Type 0} → SourceLines D → D
source_of lines = lines.source.now

abbrev pub lent_name : {D : Type 0} → SourceLines D → ℕ
lent_name lines = lines.source.ghost_name

-- ---- one line

-- no byte is a line feed
abbrev pub IsInLine : Text → Type 0
IsInLine bytes = list_any is_feed bytes ≡ false

-- a text ends with this line, which has bytes but no line feed at its end
pub record IsLastLine (text line rest : Text) : Type 0 where
  pub all : text ≡ line
  pub some : 0 < length line
  pub none_left : rest ≡ []

-- a text, if it is known, is a line with its line feed or without, and then this rest
abbrev pub BeginsWithLine : Option Text → Text → Option Text → Type 0
BeginsWithLine None line rest = ⊤
BeginsWithLine (Some text) line None = ⊥
BeginsWithLine (Some text) line (Some rest) = (text ≡ line ++ 10 ∷ rest) ⊎ IsLastLine text line rest

-- one line was read of what was left
pub record TakesLine (before after : Option Text) (line : Text) : Type 0 where
  pub one : IsInLine line
  pub begins : BeginsWithLine before line after

-- ---- what a call answers

-- a line was read, and these are its words, as far as they are kept; there is less to be read
pub record TakesWords {L : Type 0} (lines : LentSource L) (words : List Text) : Type 0 where
  pub line : Text
  pub taken : TakesLine (given lines).rest (left lines).rest line
  pub kept : words ≡ kept_of (words_of line)
  pub fewer : (left lines).limit < (given lines).limit

-- the text has ended
pub record HasEnded {L : Type 0} (lines : LentSource L) (words : List Text) : Type 0 where
  pub at_end : IsAtEnd (given lines).rest
  pub stays : Keeps (given lines).rest (left lines).rest
  pub none : words ≡ []

-- what was read of a line is lost
pub record LosesPart {L : Type 0} (lines : LentSource L) : Type 0 where
  pub part : Text
  pub one : IsInLine part
  pub lost : Consumes (given lines).rest (left lines).rest part

-- a line, the end, or a failure
abbrev pub IsAnswer : {L E : Type 0} → LentSource L → List Text → Result Bool E → Type 0
IsAnswer lines words (Ok true) = TakesWords lines words
IsAnswer lines words (Ok false) = HasEnded lines words
IsAnswer lines words (Err failed) = LosesPart lines

-- a call of `next`: a fault was counted exactly if it failed
pub record ReadsLine {L E : Type 0} (lines : LentSource L) (words : List Text) (result : Result Bool E) : Type 0 where
  pub stays : (left lines).contents ≡ (given lines).contents
  pub later : (given lines).faults ≤ (left lines).faults
  pub fewer : (left lines).limit ≤ (given lines).limit
  pub uncounted : OnOk result (IsUncounted lines)
  pub failed : OnErr result (HasFailed lines)
  pub answer : IsAnswer lines words result

-- ---- all lines

-- a line was read, and then others
pub record TakesFirst (before : Option Text) (line : Text) (TakesOthers : Option Text → Type 0) : Type 0 where
  pub after : Option Text
  pub first : TakesLine before after line
  pub others : TakesOthers after

-- lines were read one after the other, to the end
abbrev pub TakesLines : Option Text → List Text → Type 0
TakesLines before [] = IsAtEnd before
TakesLines before (line ∷ lines) = TakesFirst before line (λ after. TakesLines after lines)
