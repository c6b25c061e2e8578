-- The text that the command `soak` writes: what two runs of the image of a seed came to, the first under a new `Scalar`, the second
-- under the core that is handed in.
-- Cited in `Texts.antt`, for `top`; by `own_run_is_determined`.
use Rattle.std.specs.Prelude.{◌≡◌, ◌≤◌, ◌+◌, ◌*◌, ℕ, [], None, Result, IfOk}
use Rattle.diva_outside.specs.Text.{Text}
use Rattle.diva_isa.specs.State.{State}
use Rattle.diva_isa.specs.End.{halt}
use Rattle.diva_core.specs.Timed.{Timed, default_config, depth}
use Rattle.diva_core.specs.History.{Meaning}
use Rattle.diva_hart.specs.Start.{start_of}
use Rattle.diva_soak.specs.Soak.{soak_of}
use Rattle.diva_trace.specs.Text.{soak_text}
use Rattle.diva_args.specs.Options.{Setup}
use Rattle.diva_args.specs.declared.job.SoakOptions.{SoakOptions}
use Rattle.diva_args.specs.declared.job.CoreChoice.{CoreChoice}
use Rattle.diva_args.specs.declared.job.CoreChoice.TheVariants.{Own, Scalar}
use Rattle.diva_process.specs.declared.status.Status.{Status}
use Rattle.diva_process.specs.declared.status.Status.TheVariants.{Halted}
use Rattle.diva_cli.specs.Changes.{Change, change}
use Rattle.diva_cli.specs.Runs.{IsRunFrom}

-- ---- one run

-- the numbers of a machine where no option asks for others, and this core; no file is named
abbrev pub soak_setup : CoreChoice → Setup
soak_setup core = record { image = []; room = 0; core = core; script = None; config = default_config }

-- W + 6 cycles for each of n drawn instructions and the three behind them, W being the watchdog's limit
abbrev pub soak_cycles : (n : ℕ) → ℕ
soak_cycles n = (default_config.limit + depth) * (n + 3)

-- the state that the image starts
abbrev pub soak_start : SoakOptions → State
soak_start options = start_of (soak_of options.seed options.instructions)

-- a run from there by the core of a choice, for these cycles at most, without a script
abbrev pub IsSoakRun : {C : Type 0} → Meaning C → SoakOptions → CoreChoice → Change C → (last : Timed) → Type 0
IsSoakRun gives options choice core last =
    IsRunFrom gives (soak_setup choice) (soak_cycles options.instructions) [] [] (soak_start options) core last

-- ---- the command

-- the text of `soak`, and the status that goes with it where it was written whole. Both runs have ended by then
pub record HasSoaked {C : Type 0} (gives : Meaning C) (options : SoakOptions) (core : Change C) (ended : Result Status Text) (text : Text) : Type 0 where
  pub first : Timed
  pub under_scalar : IsSoakRun gives options Scalar (change core.before core.before) first
  pub second : Timed
  pub under_own : IsSoakRun gives options Own core second
  -- both halt with status 0, after three instructions more than were drawn at most, and leave the same
  pub halts : (first.arch.end ≡ halt 0) × (second.arch.end ≡ halt 0)
  pub few : first.count ≤ options.instructions + 3
  pub same : (second.arch ≡ first.arch) × (second.count ≡ first.count)
  -- the first counts an instruction in each cycle but the first six, and is never flushed
  pub paced : first.cycles ≡ first.count + depth
  pub unflushed : first.under.log.flushes ≡ 0
  pub lines : text ≡ soak_text first second
  pub whole : IfOk ended (λ s. s ≡ Halted)
