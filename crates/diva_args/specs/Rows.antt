-- The numbers that words can give, a row for each.
-- Cited in `Command.antt` and `Line.antt`, for `read_words`; by `width`, and by the types of options.
use Rattle.std.specs.Prelude.{ℕ, Option, Some, None, codes}
use Rattle.clap.specs.Walk.{Text}
use Rattle.diva_core.specs.Timed.{default_config}

-- a number: the name of its option or the id of its positional, the least and the most that it can be, and what it is if the
-- words do not give it; they have to give one without a default
pub record NumberRow : Type 0 where
  pub word : Text
  pub least : ℕ
  pub most : ℕ
  pub default : Option ℕ

-- the cycles to run at most
abbrev pub cycles_row : NumberRow
cycles_row = record { word = codes "cycles"; least = 1; most = 1000000000; default = Some 1000000 }

-- those of each run of a campaign
abbrev pub campaign_cycles_row : NumberRow
campaign_cycles_row = record { word = codes "cycles"; least = 1; most = 100000; default = Some 10000 }

-- the last cycle in which a campaign flips a bit
abbrev pub last_row : NumberRow
last_row = record { word = codes "LAST"; least = 1; most = 32; default = None }

-- how many bytes of memory follow those that an executable loads
abbrev pub room_row : NumberRow
room_row = record { word = codes "room"; least = 0; most = 16777212; default = Some 0 }

-- a seed: any number; and how many instructions are drawn from that of an image
abbrev pub seed_row : NumberRow
seed_row = record { word = codes "SEED"; least = 0; most = 4294967295; default = None }

abbrev pub length_row : NumberRow
length_row = record { word = codes "LENGTH"; least = 1; most = 65536; default = None }

-- a number of the machine, whose range `config_in_range` has
abbrev pub machine_row : Text → ℕ → NumberRow
machine_row word default = record { word = word; least = 0; most = 4294967295; default = Some default }

abbrev pub width_row : NumberRow
width_row = machine_row (codes "width") default_config.width

abbrev pub window_row : NumberRow
window_row = machine_row (codes "window") default_config.window

abbrev pub stores_row : NumberRow
stores_row = machine_row (codes "stores") default_config.stores

abbrev pub watchdog_row : NumberRow
watchdog_row = machine_row (codes "watchdog") default_config.limit

abbrev pub port_row : NumberRow
port_row = machine_row (codes "port") default_config.port
