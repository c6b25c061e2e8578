-- What the texts of a command line stand for: the rules on the values of options.
-- Cited in `Line.antt`, for `read_words`; by `number_of` and `liar`.
use Rattle.std.specs.Prelude.{ℕ, zero, suc, ◌+◌, ◌%◌, ◌==◌, Bool, false, nat_le, List, [], ◌∷◌, codes}
use Rattle.std.specs.Prelude.{Option, Some, None, option_and_then, option_map, if◌then◌else◌}
use Rattle.std.specs.List.{before_first, after_first}
use Rattle.std.specs.Str.{bytes_eq}
use Rattle.clap.specs.Walk.{Text}
use Rattle.diva_outside.specs.NextWords.{ranged}
use Rattle.diva_outside.specs.Numbers.{decimal_of, hex_of}
use Rattle.diva_args.specs.Options.{DumpRange, most_dumped}
use Rattle.diva_args.specs.Rows.{NumberRow, room_row}
use Rattle.diva_args.specs.declared.job.CoreChoice.{CoreChoice}
use Rattle.diva_args.specs.declared.job.HartCore.{HartCore}
use Rattle.diva_args.specs.declared.job.HartCore.TheVariants as hart
use Rattle.diva_args.specs.declared.job.LanePlace.{LanePlace}
use Rattle.diva_args.specs.declared.job.LanePlace.TheVariants.{First, Second, Third}
use Rattle.diva_args.specs.declared.job.CoreChoice.TheVariants.{Own, Lockstep, Scalar, Silent, Flood, Echo, Noise, Tape}

-- what stands beside this name in a list of rows
abbrev pub named : {A : Type 0} → List (Text × A) → Text → Option A
named [] name = None
named (row ∷ rows) name = if bytes_eq name row.0 then Some row.1 else named rows name

-- the cores that take no tape
abbrev pub cores : List (Text × CoreChoice)
cores =
    (codes "own", Own)
    ∷ (codes "lockstep", Lockstep)
    ∷ (codes "scalar", Scalar)
    ∷ (codes "silent", Silent)
    ∷ (codes "flood", Flood)
    ∷ (codes "echo", Echo)
    ∷ (codes "noise", Noise)
    ∷ []

-- the core of `--core` and `--tape`: a tape is given exactly where the core is `tape`
abbrev pub core_of : (core tape : Option Text) → Option CoreChoice
core_of None None = Some Own
core_of None (Some tape) = None
core_of (Some word) None = named cores word
core_of (Some word) (Some tape) =
    if bytes_eq word (codes "tape") then Some (Tape tape) else None

-- the cores that a hart takes
abbrev pub hart_cores : List (Text × HartCore)
hart_cores = (codes "scalar", hart.Scalar) ∷ (codes "lockstep", hart.Lockstep) ∷ (codes "silent", hart.Silent) ∷ []

-- the core of `--core` for harts: `scalar` where none is given
abbrev pub hart_core_of : Option Text → Option HartCore
hart_core_of None = Some hart.Scalar
hart_core_of (Some word) = named hart_cores word

-- whether a flag was given
abbrev pub is_set_by : Option Text → Bool
is_set_by None = false
is_set_by (Some word) = bytes_eq word (codes "true")

-- the number that the word spells, where it is within these bounds
abbrev pub number_in_range : ℕ → ℕ → Text → Option ℕ
number_in_range least most word = option_and_then (ranged least most) (decimal_of word)

-- the number that the word spells, or the default where there is no word
abbrev pub spelled_or : (default : Option ℕ) → Option Text → Option ℕ
spelled_or default None = default
spelled_or default (Some word) = decimal_of word

-- the number of a row whose word has this value, where it is within the row's range
abbrev pub number_by : NumberRow → Option Text → Option ℕ
number_by row word = option_and_then (ranged row.least row.most) (spelled_or row.default word)

abbrev pub number_of : NumberRow → (Text → Option Text) → Option ℕ
number_of row value = number_by row (value row.word)

-- the number, where it is a multiple of 4
abbrev pub in_words : ℕ → Option ℕ
in_words n = if n % 4 == 0 then Some n else None

-- how many bytes of memory follow those that an executable loads
abbrev pub room_behind : Option Text → Option ℕ
room_behind word = option_and_then in_words (number_by room_row word)

-- `:`
abbrev pub is_colon : ℕ → Bool
is_colon byte = byte == 58

-- these bytes, where they end at 2^32 at most
abbrev pub dump_at : ℕ → ℕ → Option DumpRange
dump_at addr len =
    if nat_le (addr + len) 4294967296 then Some (record { addr = addr; len = len }) else None

-- `ADDR:LEN`, a hex number and a decimal one from 1 to 4096
unfoldable pub dump_range_of : Text → Option DumpRange
dump_range_of word = option_and_then (λ addr. option_and_then (dump_at addr)
    (number_in_range 1 most_dumped (after_first is_colon word))) (hex_of (before_first is_colon word))

-- the memory of `--dump`, if it is given
abbrev pub dump_of : Option Text → Option (Option DumpRange)
dump_of None = Some None
dump_of (Some word) = option_map Some (dump_range_of word)

-- the place of this number, which is 0, 1 or 2
abbrev pub place_numbered : ℕ → LanePlace
place_numbered zero = First
place_numbered (suc zero) = Second
place_numbered (suc (suc n)) = Third

-- the place of `--liar`, 0, 1 or 2, if it is given
unfoldable pub liar_of : Option Text → Option (Option LanePlace)
liar_of None = Some None
liar_of (Some word) = option_map (λ n. Some (place_numbered n)) (number_in_range 0 2 word)
