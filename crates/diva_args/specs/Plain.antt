-- A plain line: a command of a table, its positionals in order, then options and flags in any order, each at most once and an option
-- with its value as the next word, where no positional and no value is empty or begins with `-`.
-- Cited by `read_words`.
use Rattle.std.specs.Prelude.{◌≡◌, ◌==◌, Bool, true, false, not, ◌&&◌, List, [], ◌∷◌, ◌++◌, length, map}
use Rattle.std.specs.Prelude.{Option, codes}
use Rattle.std.specs.List.{Contains, flat_map, list_all, list_any, zip}
use Rattle.std.specs.Str.{bytes_eq}
use Rattle.clap.specs.Walk.{Text}
use Rattle.diva_args.specs.Command.{Leaf}
use Rattle.diva_args.specs.Line.{job_from}
use Rattle.diva_args.specs.Values.{named}
use Rattle.diva_args.specs.declared.job.Job.{Job}

-- an option with its value, or a flag
pub data Use : Type 0 where
  valued : (name value : Text) → Use
  flagged : (name : Text) → Use

-- a command, the words of its positionals, and its options and flags as they stand in the line
pub record PlainLine : Type 0 where
  pub command : Leaf
  pub positionals : List Text
  pub uses : List Use

-- `--name`
abbrev pub dashed : Text → Text
dashed name = 45 ∷ 45 ∷ name

-- `--name VALUE`, or `--name`
abbrev pub use_words : Use → List Text
use_words (valued name value) = dashed name ∷ value ∷ []
use_words (flagged name) = dashed name ∷ []

abbrev pub words_of : PlainLine → List Text
words_of line =
    line.command.name ∷ (line.positionals ++ flat_map use_words line.uses)

-- the names of the options and flags
abbrev pub name_of : Use → Text
name_of (valued name value) = name
name_of (flagged name) = name

abbrev pub names_in : List Use → List Text
names_in = map name_of

-- the values of the options
abbrev pub value_of : Use → List Text
value_of (valued name value) = value ∷ []
value_of (flagged name) = []

abbrev pub values_in : List Use → List Text
values_in = flat_map value_of

abbrev pub has_text : Text → List Text → Bool
has_text text = list_any (λ x. bytes_eq x text)

-- the word is neither empty nor begins with `-` (45)
abbrev pub is_plain_word : Text → Bool
is_plain_word [] = false
is_plain_word (first ∷ rest) = not (first == 45)

-- no text stands twice
abbrev pub are_distinct : List Text → Bool
are_distinct [] = true
are_distinct (x ∷ xs) = not (has_text x xs) && are_distinct xs

-- it is an option or a flag of the command
abbrev pub is_use_of : Leaf → Use → Bool
is_use_of command (valued name value) = has_text name command.options
is_use_of command (flagged name) = has_text name command.flags

-- the words are this plain line of a table's command
pub record IsPlainLine (table : List Leaf) (words : List Text) (line : PlainLine) : Type 0 where
  pub spelled : words ≡ words_of line
  pub listed : Contains table line.command
  pub complete : length line.positionals ≡ length line.command.positionals
  pub known : list_all (is_use_of line.command) line.uses ≡ true
  pub once : are_distinct (names_in line.uses) ≡ true
  pub plain : list_all is_plain_word (line.positionals ++ values_in line.uses) ≡ true

-- ---- what is read off it

-- a flag stands for the text `true`
abbrev pub given_by : Use → Text × Text
given_by (valued name value) = (name, value)
given_by (flagged name) = (name, codes "true")

-- each positional, option and flag with its text
abbrev pub given_in : PlainLine → List (Text × Text)
given_in line = zip line.command.positionals line.positionals ++ map given_by line.uses

abbrev pub job_on : PlainLine → Option Job
job_on line = job_from line.command.name (named (given_in line))
