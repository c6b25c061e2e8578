-- The text that the command `campaign` writes: what became of the runs of an image in each of which one bit of one claim is flipped, and
-- what the run came to in which none is. The core of each run is a new lockstep, and its machine has the default numbers.
-- Cited in `Texts.antt`, for `top`.
use Rattle.std.specs.Prelude.{ℕ, zero, suc, ◌≡◌, ◌≤◌, ◌+◌, ◌*◌, ◌==◌, ◌&&◌, nat_lt, Bool, List, [], ◌∷◌, length, map, count_by, None, Result, IfOk}
use Rattle.std.specs.Str.{bytes_eq}
use Rattle.diva_outside.specs.Text.{Text}
use Rattle.diva_outside.specs.declared.files.What.TheVariants.{Image}
use Rattle.diva_image.specs.Programs.{image_in}
use Rattle.diva_isa.specs.State.{State}
use Rattle.diva_isa.specs.declared.record.Record.{Record}
use Rattle.diva_core.specs.Timed.{Timed, default_config, depth, new_timed}
use Rattle.diva_core.specs.Cycle.{cycle_of}
use Rattle.diva_core.specs.Headline.{EndsAfter}
use Rattle.diva_core.specs.History.{Meaning}
use Rattle.diva_hart.specs.Start.{start_of}
use Rattle.diva_faults.specs.Flips.{flips_to}
use Rattle.diva_faults.specs.declared.rows.Row.{Row}
use Rattle.diva_tape.specs.Lists.{lockstep_list}
use Rattle.diva_args.specs.Options.{Setup}
use Rattle.diva_args.specs.declared.campaign.CampaignOptions.{CampaignOptions}
use Rattle.diva_args.specs.declared.job.CoreChoice.TheVariants.{Lockstep}
use Rattle.diva_trace.specs.declared.report.Tally.{Tally}
use Rattle.diva_trace.specs.Text.{campaign_text}
use Rattle.diva_cli.specs.Changes.{Change}
use Rattle.diva_process.specs.declared.status.Status.{Status}
use Rattle.diva_process.specs.Programs.{FileBytes}
use Rattle.diva_cli.specs.Driven.{scripted_rule}
use Rattle.diva_cli.specs.Runs.{EndsWith, IsRunFrom, IsWhole}

-- ---- one run

-- the machine after so many cycles, in each of which it is handed what a rule gives; one that has ended stays as it is
abbrev pub ruled : (Timed → List Record) → (cycles : ℕ) → Timed → Timed
ruled rule zero m = m
ruled rule (suc n) m = ruled rule n (cycle_of m (rule m))

-- a run from a state for so many cycles, under lockstep with the rows of a script
abbrev pub run_under : (script : List Row) → (cycles : ℕ) → (start : State) → Timed
run_under script cycles start = ruled (scripted_rule script lockstep_list) cycles (new_timed default_config start)

-- the first run of a campaign, without a script
abbrev pub first_run : (cycles : ℕ) → (start : State) → Timed
first_run cycles start = run_under [] cycles start

-- the others: one for each bit of each field of the first claim of each cycle from 1 to `last`, with the one row that flips it
abbrev pub flipped_runs : (last cycles : ℕ) → (start : State) → List Timed
flipped_runs last cycles start = map (λ row. run_under (row ∷ []) cycles start) (flips_to last)

-- ---- what is counted

-- a run came to what the first one came to: how it ended, its count, its output, its registers and its pc
abbrev pub is_same : (first last : Timed) → Bool
is_same first last =
    (last.arch.end == first.arch.end)
    && ((last.count == first.count)
    && (bytes_eq last.arch.output first.arch.output
    && (bytes_eq last.arch.regs first.arch.regs
    && (last.arch.pc == first.arch.pc))))

abbrev pub has_flush : Timed → Bool
has_flush last = nat_lt 0 last.under.log.flushes

abbrev pub has_silent_flush : Timed → Bool
has_silent_flush last = nat_lt 0 last.under.log.silent

-- how many runs there are, and of how many each of these holds
abbrev pub tally_of : (first : Timed) → List Timed → Tally
tally_of first runs = record {
  runs = length runs;
  same = count_by (is_same first) runs;
  flushed = count_by has_flush runs;
  silent = count_by has_silent_flush runs;
}

abbrev pub campaign_tally : (last cycles : ℕ) → (start : State) → Tally
campaign_tally last cycles start = tally_of (first_run cycles start) (flipped_runs last cycles start)

-- ---- the command

-- the state that an image starts; no memory follows what an executable loads
abbrev pub campaign_start : FileBytes → State
campaign_start bytes = start_of (image_in 0 (bytes Image))

-- the setup of each run: no file but the image is named
abbrev pub campaign_setup : CampaignOptions → Setup
campaign_setup options = record { image = options.image; room = 0; core = Lockstep; script = None; config = default_config }

-- a run with these rows is one that was not broken off, and all that is promised of a run under lockstep holds of it
pub record IsCampaignRun {C : Type 0} (gives : Meaning C) (options : CampaignOptions) (start : State) (core : Change C) (script : List Row) : Type 0 where
  pub run : IsRunFrom gives (campaign_setup options) options.cycles [] script start core (run_under script options.cycles start)
  pub whole : IsWhole (campaign_setup options) options.cycles start (run_under script options.cycles start)

-- each run came to what the first one came to, and there are 256 for each cycle
pub record AreAllSame (last : ℕ) (tally : Tally) : Type 0 where
  pub same : tally.same ≡ tally.runs
  pub runs : tally.runs ≡ 256 * last

-- the text of `campaign` over a file with these bytes, and the status that goes with it where it was written whole, which is the first
-- run's. The core that is handed in is not asked
pub record HasCampaign {C : Type 0} (gives : Meaning C) (options : CampaignOptions) (bytes : FileBytes) (core : Change C)
    (ended : Result Status Text) (text : Text) : Type 0 where
  pub lines : text ≡ campaign_text (campaign_tally options.last options.cycles (campaign_start bytes)) (first_run options.cycles (campaign_start bytes))
  pub status : IfOk ended (EndsWith (first_run options.cycles (campaign_start bytes)) options.cycles)
  -- so it is of the first run, and of each with a flip
  pub runs : (script : List Row) → IsCampaignRun gives options (campaign_start bytes) core script
  -- where the table ends within the cycles of each run, no flip changes what a run comes to
  pub same : (n : ℕ) → EndsAfter n (campaign_start bytes) → n * (default_config.limit + depth) ≤ options.cycles
      → AreAllSame options.last (campaign_tally options.last options.cycles (campaign_start bytes))
  pub unasked : core.after ≡ core.before
