-- The text that the command `duo` writes: what a run of two harts over one memory came to, each hart under a new core of the kind
-- that is asked for.
-- Cited in `Texts.antt`, for `top`.
use Rattle.std.specs.Prelude.{ℕ, zero, suc, ◌≡◌, ◌==◌, List, [], Bool, true, false, Option, Some, Result, IfOk, if◌then◌else◌}
use Rattle.diva_outside.specs.Text.{Text}
use Rattle.diva_outside.specs.declared.files.What.TheVariants.{Image}
use Rattle.diva_image.specs.Programs.{image_in}
use Rattle.diva_isa.specs.End.{end_of}
use Rattle.diva_isa.specs.State.{State}
use Rattle.diva_isa.specs.declared.end.End.{End}
use Rattle.diva_isa.specs.declared.end.End.TheVariants.{Halt}
use Rattle.diva_isa.specs.declared.record.Record.{Record}
use Rattle.diva_core.specs.Told.{Told, told_of}
use Rattle.diva_hart.specs.Start.{start_of}
use Rattle.diva_duo.specs.Harts.{replay}
use Rattle.diva_duo.specs.Duo.{Duo, duo_cycle_of, harts_of, is_over, new_duo}
use Rattle.diva_duo.specs.Which.{Which, First, Second, hart_at, machine_at}
use Rattle.diva_duo.specs.Between.{HasGone, duo_run}
use Rattle.diva_duo.specs.Headline.{AddsRowsAt, AreCyclesAt}
use Rattle.diva_duo.specs.Turns.{acted_by}
use Rattle.diva_ahead.specs.Ahead.{Ahead}
use Rattle.diva_tape.specs.Lists.{lockstep_call}
use Rattle.diva_tape.specs.Scalar.{ScalarCall, new_scalar, scalar_call}
use Rattle.diva_args.specs.Options.{DuoOptions}
use Rattle.diva_args.specs.declared.job.HartCore.{HartCore}
use Rattle.diva_args.specs.declared.job.HartCore.TheVariants.{Scalar, Lockstep, Silent}
use Rattle.diva_trace.specs.declared.report.Dump.{Dump}
use Rattle.diva_trace.specs.Text.{harts_text}
use Rattle.diva_cli.specs.Changes.{Change}
use Rattle.diva_process.specs.declared.status.Status.{Status}
use Rattle.diva_process.specs.declared.status.Status.TheVariants as status
use Rattle.diva_process.specs.Programs.{FileBytes}
use Rattle.diva_cli.specs.Runs.{shown_dump}

-- ---- the run

-- what a core of this kind hands over in a call, and the core after it; Lockstep and Silent keep nothing
abbrev pub hart_call : HartCore → Ahead → Told → State → ScalarCall
hart_call Scalar core told s = scalar_call core told s
hart_call Lockstep core told s = record { list = lockstep_call told s; core = core }
hart_call Silent core told s = record { list = []; core = core }

-- the same for a hart that goes on; the core of an ended one is not asked, and its list is empty
abbrev pub call_by : (goes_on : Bool) → HartCore → Which → Duo → Ahead → ScalarCall
call_by true kind w d core = hart_call kind core (told_of (machine_at w d)) (machine_at w d).arch
call_by false kind w d core = record { list = []; core = core }

abbrev pub call_at : HartCore → Which → Duo → Ahead → ScalarCall
call_at kind w d core = call_by ((hart_at w d).state.end == 0) kind w d core

-- two harts after so many cycles, hart 0 under the core a and hart 1 under b
abbrev pub duo_under : HartCore → (cycles : ℕ) → Duo → (a b : Ahead) → Duo
duo_under kind zero d a b = d
duo_under kind (suc n) d a b =
    duo_under kind n (duo_cycle_of d (call_at kind First d a).list (call_at kind Second d b).list)
    (call_at kind First d a).core (call_at kind Second d b).core

-- a run of two harts from `start`, for these cycles at most
pub record IsDuoRun (kind : HartCore) (cycles : ℕ) (start last : Duo) : Type 0 where
  -- it is determined by where it starts
  pub driven : last ≡ duo_under kind cycles start new_scalar new_scalar
  -- the lists that were handed over in each cycle
  pub pairs : List (List Record × List Record)
  pub ran : last ≡ duo_run start pairs
  -- the actions of all cycles, one after the other, are possible on the store-buffer machine, and lead it from the one to the other
  pub replayed : replay (acted_by start pairs) (harts_of start) ≡ Some (harts_of last)
  -- in each cycle each hart committed equal claims that had waited, or the one instruction that ran solo for six cycles
  pub committed : (w : Which) → AreCyclesAt w start pairs
  -- each row of a hart's log is that of a cycle of the run in which a claim differed from the record that was due to its hart, or idle
  -- stood at the limit, and all are counted; with these flushes alone an instruction began to run solo
  pub rows : (w : Which) → AddsRowsAt w start pairs last
  -- until its end each hart counted an instruction in every W + 6 cycles at least, W being the watchdog's limit
  pub paced : HasGone First last × HasGone Second last
  -- it was not broken off
  pub all : is_over last ≡ false → last.cycles ≡ cycles

-- ---- the command

-- the two harts that an image starts
abbrev pub duo_start : DuoOptions → FileBytes → Duo
duo_start options bytes = new_duo options.config (start_of (image_in options.room (bytes Image)))

-- what is shown of two harts, and of the memory that they share
abbrev pub duo_text : Duo → Option Dump → Text
duo_text d dump = harts_text d.cycles (machine_at First d) (machine_at Second d) d.memory dump

-- how two harts that have ended did so: both halted, or one trapped
abbrev pub status_of_both : (first second : End) → Status
status_of_both (Halt a) (Halt b) = status.Halted
status_of_both first second = status.Trapped

-- the same of two harts; they go on until both have ended and both buffers are empty
abbrev pub duo_status : Duo → Status
duo_status d = if is_over d then status_of_both (end_of d.first.state.end) (end_of d.second.state.end) else status.GoesOn

-- the text of `duo` over a file with these bytes, and the status that goes with it where it was written whole. The core that is
-- handed in is not asked
pub record HasDuo {C : Type 0} (options : DuoOptions) (bytes : FileBytes) (core : Change C) (ended : Result Status Text) (text : Text) : Type 0 where
  pub last : Duo
  pub run : IsDuoRun options.core options.cycles (duo_start options bytes) last
  pub lines : text ≡ duo_text last (shown_dump options.dump)
  pub status : IfOk ended (λ s. s ≡ duo_status last)
  pub unasked : core.after ≡ core.before
