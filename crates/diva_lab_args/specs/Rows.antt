-- The numbers that words of the workbench can give, a row for each.
-- Cited in `Commands.antt`, `Lab.antt` and `Inject.antt`, for `read_lab_words`.
use Rattle.std.specs.Prelude.{ℕ, Option, Some, None, option_map, codes}
use Rattle.clap.specs.Walk.{Text}
use Rattle.diva_args.specs.Rows.{NumberRow}
use Rattle.diva_args.specs.Values.{number_in_range}

-- the first and the last cycle that are drawn: all that a run can have, if the words give none
abbrev pub from_row : NumberRow
from_row = record { word = codes "from"; least = 1; most = 1000000000; default = Some 1 }

abbrev pub to_row : NumberRow
to_row = record { word = codes "to"; least = 1; most = 1000000000; default = Some 1000000000 }

-- how many faults a campaign has, and the number of the first one that is run
abbrev pub count_row : NumberRow
count_row = record { word = codes "COUNT"; least = 1; most = 4294967295; default = None }

abbrev pub first_row : NumberRow
first_row = record { word = codes "first"; least = 0; most = 4294967295; default = Some 0 }

-- ---- numbers that need not be given, which have no default

-- the number of a row whose word has this value, if it has one
abbrev pub optional_by : NumberRow → Option Text → Option (Option ℕ)
optional_by row None = Some None
optional_by row (Some word) = option_map Some (number_in_range row.least row.most word)

abbrev pub optional_of : NumberRow → (Text → Option Text) → Option (Option ℕ)
optional_of row value = optional_by row (value row.word)

-- after so many wrong lines of a log no further one is judged
abbrev pub stop_row : NumberRow
stop_row = record { word = codes "stop"; least = 1; most = 4294967295; default = None }

-- the first and the last cycle in which a fault can begin
abbrev pub earliest_row : NumberRow
earliest_row = record { word = codes "from"; least = 1; most = 1000000000; default = None }

abbrev pub latest_row : NumberRow
latest_row = record { word = codes "to"; least = 1; most = 1000000000; default = None }
