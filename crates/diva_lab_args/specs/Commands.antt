-- The commands of the workbench: those of `diva`, and its own.
-- Cited in `Lab.antt`, for `read_lab_words`.
use Rattle.std.specs.Prelude.{List, [], ◌∷◌, ◌++◌, codes}
use Rattle.clap.specs.Walk.{Text}
use Rattle.diva_args.specs.Command.{Leaf, leaves, machine_options, room_option, setup_options}
use Rattle.diva_args.specs.Rows.{cycles_row, seed_row, width_row}
use Rattle.diva_lab_args.specs.Rows.{count_row, earliest_row, first_row, from_row, latest_row, stop_row, to_row}

-- the options of a run that is drawn: those of `run`, but for the part of memory to show
abbrev pub drawn_options : List Text
drawn_options = setup_options ++ cycles_row.word ∷ codes "liar" ∷ []

abbrev pub log : Leaf
log = record { name = codes "log"; positionals = codes "IMAGE" ∷ []; options = drawn_options; flags = [] }

abbrev pub draw : Leaf
draw = record {
  name = codes "draw";
  positionals = codes "IMAGE" ∷ [];
  options = drawn_options ++ from_row.word ∷ to_row.word ∷ [];
  flags = [];
}

abbrev pub judge : Leaf
judge = record {
  name = codes "judge";
  positionals = codes "IMAGE" ∷ codes "LOG" ∷ [];
  options = width_row.word ∷ machine_options ++ room_option ++ stop_row.word ∷ [];
  flags = codes "answer" ∷ [];
}

abbrev pub inject : Leaf
inject = record {
  name = codes "inject";
  positionals = codes "IMAGE" ∷ count_row.word ∷ seed_row.word ∷ [];
  options =
      setup_options ++ cycles_row.word ∷ codes "model" ∷ codes "fields" ∷ earliest_row.word ∷ latest_row.word ∷ codes "part" ∷ first_row.word ∷ [];
  flags = [];
}

-- its own commands, but for `rate`
abbrev pub own_leaves : List Leaf
own_leaves = log ∷ draw ∷ judge ∷ inject ∷ []

-- all of them
abbrev pub lab_leaves : List Leaf
lab_leaves = leaves ++ own_leaves
