-- The commands of the program, and the command line as `clap` sees it.
-- Cited in `Line.antt`, for `read_words`; by `matches`.
use Rattle.std.specs.Prelude.{◌≡◌, true, List, [], ◌∷◌, ◌++◌, map, Some, codes}
use Rattle.clap.specs.Walk.{Rule, Text}
use Rattle.clap.specs.Simple.{App, Shape, new_rule, new_shape, with_subcommand}
use Rattle.clap.specs.Faults.{is_simple_and_free}
use Rattle.clap.specs.declared.builder.action.ArgAction.TheVariants.{SetTrue}
use Rattle.diva_args.specs.Rows.{campaign_cycles_row, cycles_row, last_row, length_row, room_row, seed_row}
use Rattle.diva_args.specs.Rows.{port_row, stores_row, watchdog_row, width_row, window_row}

-- a command: its name, the ids of its positionals in order, the names of its options, and those of its flags
pub record Leaf : Type 0 where
  pub name : Text
  pub positionals : List Text
  pub options : List Text
  pub flags : List Text

-- ---- the table

-- the options of what runs an image: those of its core, and those of its machine but for the width, of which those without
-- the port are a hart's
abbrev pub core_options : List Text
core_options = codes "core" ∷ codes "script" ∷ codes "tape" ∷ []

abbrev pub hart_options : List Text
hart_options = window_row.word ∷ stores_row.word ∷ watchdog_row.word ∷ []

abbrev pub machine_options : List Text
machine_options = hart_options ++ port_row.word ∷ []

-- that of what loads one: how much memory follows what an executable loads
abbrev pub room_option : List Text
room_option = room_row.word ∷ []

abbrev pub setup_options : List Text
setup_options = core_options ++ width_row.word ∷ machine_options ++ room_option

abbrev pub run : Leaf
run = record {
  name = codes "run";
  positionals = codes "IMAGE" ∷ [];
  options = setup_options ++ cycles_row.word ∷ codes "dump" ∷ codes "liar" ∷ [];
  flags = codes "trace" ∷ [];
}

abbrev pub tape : Leaf
tape = record {
  name = codes "tape";
  positionals = codes "IMAGE" ∷ [];
  options = setup_options ++ cycles_row.word ∷ [];
  flags = [];
}

abbrev pub duo : Leaf
duo = record {
  name = codes "duo";
  positionals = codes "IMAGE" ∷ [];
  options = codes "core" ∷ width_row.word ∷ hart_options ++ room_option ++ cycles_row.word ∷ codes "dump" ∷ [];
  flags = [];
}

abbrev pub debug : Leaf
debug = record {
  name = codes "debug";
  positionals = codes "IMAGE" ∷ codes "COMMANDS" ∷ [];
  options = core_options ++ machine_options ++ room_option;
  flags = [];
}

abbrev pub asm : Leaf
asm = record { name = codes "asm"; positionals = codes "SRC" ∷ []; options = []; flags = [] }

abbrev pub dis : Leaf
dis = record { name = codes "dis"; positionals = codes "IMAGE" ∷ []; options = []; flags = [] }

abbrev pub migrate : Leaf
migrate = record { name = codes "migrate"; positionals = codes "IMAGE" ∷ []; options = room_option; flags = [] }

abbrev pub soak : Leaf
soak = record { name = codes "soak"; positionals = seed_row.word ∷ length_row.word ∷ []; options = []; flags = [] }

abbrev pub campaign : Leaf
campaign = record {
  name = codes "campaign";
  positionals = codes "IMAGE" ∷ last_row.word ∷ [];
  options = campaign_cycles_row.word ∷ [];
  flags = [];
}

-- the commands of `diva`
abbrev pub leaves : List Leaf
leaves = run ∷ tape ∷ duo ∷ debug ∷ asm ∷ dis ∷ migrate ∷ soak ∷ campaign ∷ []

-- ---- the same for `clap`

-- a required word
abbrev pub positional_rule : Text → Rule
positional_rule id = record (new_rule id) { required = true }

-- `--name VALUE`
abbrev pub option_rule : Text → Rule
option_rule name = record (new_rule name) { long = Some name }

-- `--name`
abbrev pub flag_rule : Text → Rule
flag_rule name = record (new_rule name) { long = Some name; action = Some SetTrue }

abbrev pub leaf_shape : Leaf → Shape
leaf_shape l = record (new_shape l.name) {
  rules = map positional_rule l.positionals ++ map option_rule l.options ++ map flag_rule l.flags;
}

-- the command over words without the program's name, in which help words have no meaning, with no
-- subcommand yet
abbrev pub top_app : Text → App
top_app name = record {
  top = record (new_shape name) {
    no_binary_name = true;
    disable_help_flag = true;
    disable_help_subcommand = true;
    subcommand_required = true;
  };
  subs = [];
}

abbrev pub with_subcommands : App → List Leaf → App
with_subcommands a [] = a
with_subcommands a (l ∷ ls) = with_subcommands (with_subcommand a (leaf_shape l)) ls

-- the whole command of a table
unfoldable pub app_with : List Leaf → App
app_with table = with_subcommands (top_app (codes "diva")) table

-- what is said of `clap` says all that it makes of words by this table
abbrev pub IsExact : List Leaf → Type 0
IsExact table = is_simple_and_free (app_with table) ≡ true
