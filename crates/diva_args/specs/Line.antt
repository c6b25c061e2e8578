-- What a command line asks for: the words as `clap` matches them, then the rules on the options' values.
-- Cited by `read_words`; by `matches` and `setup`, which serve other programs too.
use Rattle.std.specs.Prelude.{ℕ, Bool, List, [], ◌∷◌, Option, Some, None, codes}
use Rattle.std.specs.Prelude.{option_and_then, option_map}
use Rattle.clap.specs.Walk.{Row, Text, first_of}
use Rattle.clap.specs.Simple.{subcommand_of}
use Rattle.clap.specs.Faults.{fault_of}
use Rattle.clap.specs.Kinds.{Kinds}
use Rattle.diva_core.specs.Timed.{Config}
use Rattle.diva_core.specs.Machine.{config_in_range}
use Rattle.diva_args.specs.Command.{Leaf, app_with, leaves}
use Rattle.diva_args.specs.Options.{DebugOptions, DumpRange, DuoOptions, MigrateOptions, Setup}
use Rattle.diva_args.specs.Rows.{campaign_cycles_row, cycles_row, last_row, length_row, room_row, seed_row}
use Rattle.diva_args.specs.Rows.{port_row, stores_row, watchdog_row, width_row, window_row}
use Rattle.diva_args.specs.Values.{core_of, dump_of, hart_core_of, is_set_by, liar_of, named, number_of, room_behind}
use Rattle.diva_args.specs.declared.campaign.CampaignOptions.{CampaignOptions}
use Rattle.diva_args.specs.declared.job.CoreChoice.{CoreChoice}
use Rattle.diva_args.specs.declared.job.HartCore.{HartCore}
use Rattle.diva_args.specs.declared.job.LanePlace.{LanePlace}
use Rattle.diva_args.specs.declared.job.RunOptions.{RunOptions}
use Rattle.diva_args.specs.declared.job.SoakOptions.{SoakOptions}
use Rattle.diva_args.specs.declared.job.TapeOptions.{TapeOptions}
use Rattle.diva_args.specs.declared.job.Job.{Job}
use Rattle.diva_args.specs.declared.job.Job.TheVariants as job

-- what was found, where there is no fault
abbrev pub unless : Kinds → Option (Text × List Row) → Option (Text × List Row)
unless [] found = found
unless (fault ∷ faults) found = None

-- the command of a table and its matches, where `clap` takes the words
unfoldable pub taken : (table : List Leaf) → List Text → Option (Text × List Row)
taken table words = unless (fault_of (app_with table) words) (subcommand_of (app_with table) words)

-- ---- jobs, by the value of each positional, option and flag

abbrev pub config_with : (width window stores watchdog port : Option ℕ) → Option Config
config_with width window stores watchdog port =
    option_and_then (λ n. option_and_then (λ q. option_and_then (λ s. option_and_then (λ w. option_and_then (λ p. config_in_range (record {
      width = n;
      window = q;
      stores = s;
      limit = w;
      port = p;
    })) port) watchdog) stores) window) width

-- the numbers of a machine of this width and port, where they are in their ranges
unfoldable pub config_from : (width port : Option ℕ) → (Text → Option Text) → Option Config
config_from width port value =
    config_with width (number_of window_row value) (number_of stores_row value) (number_of watchdog_row value) port

-- how many bytes of memory follow those that an executable loads
unfoldable pub room_from : (Text → Option Text) → Option ℕ
room_from value = room_behind (value room_row.word)

abbrev pub setup_with : Option Text → (room : Option ℕ) → Option CoreChoice → (script : Option Text) → Option Config → Option Setup
setup_with image room core script config = option_and_then (λ i. option_and_then (λ r. option_and_then (λ c. option_map (λ z. record {
  image = i;
  room = r;
  core = c;
  script = script;
  config = z;
}) config) core) room) image

-- what commands have in common that run an image, on a machine of this width; files are named by the words as they are
unfoldable pub setup_from : (width : Option ℕ) → (Text → Option Text) → Option Setup
setup_from width value = setup_with
    (value (codes "IMAGE"))
    (room_from value)
    (core_of (value (codes "core")) (value (codes "tape")))
    (value (codes "script"))
    (config_from width (number_of port_row value) value)

-- the same on a machine of the width that the words ask for
abbrev pub wide_from : (Text → Option Text) → Option Setup
wide_from value = setup_from (number_of width_row value) value

abbrev pub run_with : Option Setup → Option ℕ → Bool → Option (Option DumpRange) → Option (Option LanePlace) → Option RunOptions
run_with setup cycles trace dump liar = option_and_then (λ s. option_and_then (λ c. option_and_then (λ d. option_map (λ l.
    record { setup = s; cycles = c; trace = trace; dump = d; liar = l }) liar) dump) cycles) setup

-- `run`
unfoldable pub run_from : (Text → Option Text) → Option RunOptions
run_from value = run_with (wide_from value) (number_of cycles_row value)
    (is_set_by (value (codes "trace"))) (dump_of (value (codes "dump"))) (liar_of (value (codes "liar")))

abbrev pub tape_with : Option Setup → Option ℕ → Option TapeOptions
tape_with setup cycles = option_and_then (λ s. option_map (λ c.
    record { setup = s; cycles = c }) cycles) setup

-- `tape`
unfoldable pub tape_from : (Text → Option Text) → Option TapeOptions
tape_from value = tape_with (wide_from value) (number_of cycles_row value)

abbrev pub duo_with : Option Text → (room : Option ℕ) → Option HartCore → Option Config → (cycles : Option ℕ)
    → Option (Option DumpRange) → Option DuoOptions
duo_with image room core config cycles dump =
    option_and_then (λ i. option_and_then (λ r. option_and_then (λ c. option_and_then (λ z. option_and_then (λ n. option_map (λ d.
    record { image = i; room = r; core = c; config = z; cycles = n; dump = d }) dump) cycles) config) core) room) image

-- `duo`, whose port takes a store in any cycle
unfoldable pub duo_from : (Text → Option Text) → Option DuoOptions
duo_from value = duo_with
    (value (codes "IMAGE"))
    (room_from value)
    (hart_core_of (value (codes "core")))
    (config_from (number_of width_row value) (Some 1) value)
    (number_of cycles_row value)
    (dump_of (value (codes "dump")))

abbrev pub debug_with : Option Setup → (commands : Option Text) → Option DebugOptions
debug_with setup commands = option_and_then (λ s. option_map (λ c.
    record { setup = s; commands = c }) commands) setup

-- `debug`, whose machine stops at any count
unfoldable pub debug_from : (Text → Option Text) → Option DebugOptions
debug_from value = debug_with (setup_from (Some 1) value) (value (codes "COMMANDS"))

abbrev pub migrate_with : (image : Option Text) → (room : Option ℕ) → Option MigrateOptions
migrate_with image room = option_and_then (λ i. option_map (λ r.
    record { image = i; room = r }) room) image

-- `migrate`
unfoldable pub migrate_from : (Text → Option Text) → Option MigrateOptions
migrate_from value = migrate_with (value (codes "IMAGE")) (room_from value)

abbrev pub soak_with : (seed instructions : Option ℕ) → Option SoakOptions
soak_with seed instructions = option_and_then (λ s. option_map (λ n.
    record { seed = s; instructions = n }) instructions) seed

-- `soak`
unfoldable pub soak_from : (Text → Option Text) → Option SoakOptions
soak_from value = soak_with (number_of seed_row value) (number_of length_row value)

abbrev pub campaign_with : (image : Option Text) → (last cycles : Option ℕ) → Option CampaignOptions
campaign_with image last cycles = option_and_then (λ i. option_and_then (λ l. option_map (λ c.
    record { image = i; last = l; cycles = c }) cycles) last) image

-- `campaign`
unfoldable pub campaign_from : (Text → Option Text) → Option CampaignOptions
campaign_from value = campaign_with (value (codes "IMAGE")) (number_of last_row value) (number_of campaign_cycles_row value)

-- what each command of `diva` asks for
abbrev pub jobs : (Text → Option Text) → List (Text × Option Job)
jobs value =
    (codes "run", option_map job.Run (run_from value))
    ∷ (codes "tape", option_map job.Tape (tape_from value))
    ∷ (codes "duo", option_map job.Duo (duo_from value))
    ∷ (codes "debug", option_map job.Debug (debug_from value))
    ∷ (codes "asm", option_map job.Asm (value (codes "SRC")))
    ∷ (codes "dis", option_map job.Dis (value (codes "IMAGE")))
    ∷ (codes "migrate", option_map job.Migrate (migrate_from value))
    ∷ (codes "soak", option_map job.Soak (soak_from value))
    ∷ (codes "campaign", option_map job.Campaign (campaign_from value))
    ∷ []

-- the job of the command of this name
unfoldable pub job_from : Text → (Text → Option Text) → Option Job
job_from name value = option_and_then (λ job. job) (named (jobs value) name)

-- the first value of each positional, option and flag in the matches
abbrev pub values_of : List Row → Text → Option Text
values_of rows = λ id. first_of id rows

abbrev pub job_of : Text × List Row → Option Job
job_of found = job_from found.0 (values_of found.1)

-- the job that the words ask for, or `None` where they are not a valid command line
unfoldable pub command_of : List Text → Option Job
command_of words = option_and_then job_of (taken leaves words)
