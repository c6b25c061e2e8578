-- A log: a text whose n-th line with words, from 0 on, says what a core did in the n-th instruction of a program.
-- Cited by `read_said` and `judge`.
use Rattle.std.specs.Prelude.{ℕ, ◌+◌, List, [], ◌∷◌, Option, Some, None, Result, Ok, Err, codes, if◌then◌else◌}
use Rattle.std.specs.Option.{ok_or}
use Rattle.std.specs.Str.{bytes_eq}
use Rattle.diva_outside.specs.Items.{if_words}
use Rattle.diva_outside.specs.Lines.{LineFault}
use Rattle.diva_outside.specs.NextWords.{with_first}
use Rattle.diva_outside.specs.Numbers.{hex_of}
use Rattle.diva_outside.specs.Steps.{and_then}
use Rattle.diva_outside.specs.Text.{Text}
use Rattle.diva_outside.specs.Words.{words_of}
use Rattle.diva_claims.specs.declared.said.Said.{Said}
use Rattle.diva_claims.specs.declared.said.SaidEnd.{SaidEnd}
use Rattle.diva_claims.specs.declared.said.SaidEnd.TheVariants.{Number, SomeTrap}
use Rattle.diva_judge.specs.declared.log_line.Kind.{Kind}
use Rattle.diva_judge.specs.declared.log_line.Kind.TheVariants.{Word, WordCount}

-- the kinds of faults have numbers
abbrev pub log_kind_number : Kind → ℕ
log_kind_number Word = 1
log_kind_number WordCount = 2

-- ---- a line

-- a word that is `-` says nothing; another is a hex number
abbrev pub number_said : Text → Result (Option ℕ) Kind
number_said word = if bytes_eq word (codes "-") then Ok None else and_then (ok_or (hex_of word) Word) (λ number. Ok (Some number))

-- the word for the end may also be `t`, some trap
abbrev pub end_number : Option ℕ → Option SaidEnd
end_number None = None
end_number (Some number) = Some (Number number)

abbrev pub end_said_by : Text → Result (Option SaidEnd) Kind
end_said_by word = if bytes_eq word (codes "t") then Ok (Some SomeTrap) else and_then (number_said word) (λ number. Ok (end_number number))

-- the first of some words by a rule; there has to be one
abbrev pub first_by : {A : Type 0} → (Text → Result A Kind) → List Text → Result A Kind
first_by rule [] = Err WordCount
first_by rule (word ∷ words) = rule word

abbrev pub unless_more : {A : Type 0} → A → List Text → Result A Kind
unless_more value [] = Ok value
unless_more value (word ∷ words) = Err WordCount

-- after the end: nothing, or the register and the bytes
abbrev pub with_effects : Said → List Text → Result Said Kind
with_effects said [] = Ok said
with_effects said (word ∷ words) =
    with_first (first_by number_said) (word ∷ words) (λ rd words.
    with_first (first_by number_said) words (λ mask words.
    unless_more (record said { rd = rd; mask = mask }) words))

-- the words of a line, from left to right
unfoldable pub said_in : List Text → Result Said Kind
said_in words =
    with_first (first_by number_said) words (λ pc words.
    with_first (first_by number_said) words (λ word words.
    with_first (first_by number_said) words (λ src1 words.
    with_first (first_by number_said) words (λ src2 words.
    with_first (first_by number_said) words (λ addr words.
    with_first (first_by number_said) words (λ value words.
    with_first (first_by number_said) words (λ next words.
    with_first (first_by end_said_by) words (λ end words.
    with_effects (record { pc = pc; word = word; src1 = src1; src2 = src2; addr = addr; value = value; next = next; end = end; rd = None; mask = None })
    words))))))))

-- the same, if there are words
abbrev pub said_of : List Text → Result (Option Said) Kind
said_of words = if_words (λ word words. said_in (word ∷ words)) words

-- ---- some lines

-- what the lines with words say, up to the first fault, if there is one
pub record Log : Type 0 where
  pub said : List Said
  pub fault : Option LineFault

abbrev pub onto_log : Said → Log → Log
onto_log said log = record log { said = said ∷ log.said }

-- what a line says, and what the lines after it say; a fault ends the log
abbrev pub log_of_said : (n : ℕ) → Result Said Kind → Log → Log
log_of_said n (Ok said) later = onto_log said later
log_of_said n (Err kind) later = record { said = []; fault = Some (record { line = n; kind = log_kind_number kind }) }

-- a line by its words, and what the lines after it say
abbrev pub log_line : (n : ℕ) → List Text → Log → Log
log_line n [] later = later
log_line n (word ∷ words) later = log_of_said n (said_in (word ∷ words)) later

-- lines from line n on, counted from 1
abbrev pub log_from : (n : ℕ) → List Text → Log
log_from n [] = record { said = []; fault = None }
log_from n (line ∷ lines) = log_line n (words_of line) (log_from (n + 1) lines)

abbrev pub log_of : List Text → Log
log_of lines = log_from 1 lines
