-- The text of `inject`: what became of the runs of an image under one fault each, with the checker and without it.
-- Cited in `Lab.antt`, for `lab_top`.
use Rattle.std.specs.Prelude.{ℕ, ◌≡◌, ◌≤◌, ◌*◌, ◌+◌, max, List, [], ◌∷◌, ◌++◌, true, Result, IfOk, IfErr, unwrap_or}
use Rattle.std.specs.List.{All}
use Rattle.diva_outside.specs.Text.{Text}
use Rattle.diva_isa.specs.State.{State}
use Rattle.diva_isa.specs.declared.record.Record.{Record}
use Rattle.diva_core.specs.Headline.{EndsAfter}
use Rattle.diva_core.specs.History.{Meaning}
use Rattle.diva_core.specs.Timed.{Timed, depth}
use Rattle.diva_faults.specs.declared.rows.Row.{Row}
use Rattle.diva_inject.specs.Parts.{numbers_of}
use Rattle.diva_inject.specs.Plans.{Plan, fault_at}
use Rattle.diva_inject.specs.declared.outcome.Outcome.{Outcome}
use Rattle.diva_open.specs.Open.{Open}
use Rattle.diva_ahead.specs.Ahead.{Ahead}
use Rattle.diva_tape.specs.Lists.{IsEchoCall, IsFloodCall, IsLockstepCall}
use Rattle.diva_tape.specs.Noise.{noise_call}
use Rattle.diva_tape.specs.Scalar.{IsScalarCall}
use Rattle.diva_tape.specs.TapeCalls.{tape_call}
use Rattle.diva_tape.specs.declared.echo.Echo.{Echo}
use Rattle.diva_tape.specs.declared.flood.Flood.{Flood}
use Rattle.diva_tape.specs.declared.lockstep.Lockstep.{Lockstep}
use Rattle.diva_tape.specs.declared.silent.Silent.{Silent}
use Rattle.diva_trial.specs.Lines.{AreOutcomes, before_last, trials_text}
use Rattle.diva_trial.specs.Trials.{IsTrial}
use Rattle.diva_args.specs.Options.{Setup}
use Rattle.diva_lab_args.specs.declared.inject.InjectOptions.{InjectOptions}
use Rattle.diva_process.specs.Programs.{FileBytes}
use Rattle.diva_process.specs.declared.status.Status.{Status}
use Rattle.diva_process.specs.declared.status.Status.TheVariants.{Halted}
use Rattle.diva_cli.specs.Changes.{change}
use Rattle.diva_cli.specs.Ready.{core_for}
use Rattle.diva_cli.specs.Runs.{IsRunFrom, IsWhole}
use Rattle.diva_cli.specs.Sessions.{OverFiles, start_in}
use Rattle.diva_cli.specs.declared.driving.CoreInUse.{CoreInUse}
use Rattle.diva_cli.specs.declared.driving.CoreInUse.TheVariants as used

-- ---- the faults

-- the first cycle in which a fault can begin, and the last: that of the words, or of the run without a fault, and no earlier than the first
abbrev pub earliest : InjectOptions → ℕ
earliest options = unwrap_or options.from 1

abbrev pub latest : InjectOptions → (free : Timed) → ℕ
latest options free = max (earliest options) (unwrap_or options.to free.cycles)

-- what the faults are drawn of, if this is the machine of the run without a fault, at its end
abbrev pub plan_by : InjectOptions → (free : Timed) → Plan
plan_by options free = record {
  seed = options.seed;
  models = options.models;
  fields = options.fields;
  from = earliest options;
  to = latest options free;
  width = options.setup.config.width;
  limit = options.setup.config.limit;
}

-- the fault of a number
abbrev pub fault_in : InjectOptions → (free : Timed) → (number : ℕ) → Row
fault_in options free number = fault_at (plan_by options free) number

-- the numbers of the faults that are run: those of the part, from the first one on
abbrev pub numbers_by : InjectOptions → List ℕ
numbers_by options = numbers_of options.part options.first options.count

-- ---- a run

-- all that is promised of a run of `run`, which was not broken off: for so many cycles, with these rows
pub record IsRunWith {C : Type 0} (gives : Meaning C) (setup : Setup) (cycles : ℕ) (tape : List (List Record)) (start : State) (core : C)
    (rows : List Row) (last : Timed) : Type 0 where
  pub final : C
  pub run : IsRunFrom gives setup cycles tape rows start (change core final) last
  pub whole : IsWhole setup cycles start last

-- this holds of what the core in use means, and of what it is at first: `core` is the one that is handed in
abbrev pub OfCore : {C : Type 0} → Meaning C → CoreInUse → (core : C) → (this : (D : Type 0) → Meaning D → D → Type 0) → Type 0
OfCore {C} gives used.Own core this = this C gives core
OfCore gives used.Lockstep core this = this Lockstep IsLockstepCall (record {})
OfCore gives (used.Scalar first) core this = this Ahead IsScalarCall first
OfCore gives used.Silent core this = this Silent (λ before told s list after. list ≡ []) (record {})
OfCore gives used.Flood core this = this Flood IsFloodCall (record {})
OfCore gives used.Echo core this = this Echo IsEchoCall (record {})
OfCore gives (used.Noise first) core this = this ℕ noise_call first
OfCore gives (used.Tape tape) core this = this (List (List Record)) tape_call tape

-- ---- the runs under a fault

-- this is what became of them: the one with the checker led to `last`, and the one without it to `left`
pub record IsInjected {C : Type 0} (gives : Meaning C) (options : InjectOptions) (tape : List (List Record)) (script : List Row) (start : State) (core : C)
    (free : Timed) (number : ℕ) (outcome : Outcome) : Type 0 where
  pub last : Timed
  pub left : Open
  pub trial : OfCore gives (core_for options.setup.core tape) core (λ D its first.
      IsTrial its options.setup.config start first script options.cycles free number (fault_in options free number) last left outcome)
  -- the one with the checker is a run of `run` with one row more
  pub run : IsRunWith gives options.setup options.cycles tape start core (script ++ fault_in options free number ∷ []) last

-- the lines are those of all numbers, or of the first of them if the sink failed
pub record HasLines {C : Type 0} (gives : Meaning C) (options : InjectOptions) (tape : List (List Record)) (script : List Row) (start : State) (core : C)
    (ended : Result Status Text) (text : Text) : Type 0 where
  -- the run without a fault
  pub free : Timed
  pub run : IsRunWith gives options.setup options.cycles tape start core script free
  -- those under faults
  pub done : List ℕ
  pub later : List ℕ
  pub in_order : numbers_by options ≡ done ++ later
  pub outcomes : List Outcome
  pub are : AreOutcomes (IsInjected gives options tape script start core free) done outcomes
  pub lines : text ≡ trials_text outcomes
  pub all : IfOk ended (λ ends. (ends ≡ Halted) × (later ≡ []))
  pub cut : IfErr ended (λ put. put ≡ before_last outcomes)
  -- where the table ends within the cycles of each run, no fault changes what a run with the checker comes to
  pub same : (n : ℕ) → EndsAfter n start → n * (options.setup.config.limit + depth) ≤ options.cycles
      → All (λ (outcome : Outcome). outcome.same ≡ true) outcomes

-- the text of `inject` over files with these bytes, and how the writing of it ended. The core that is handed in is copied, and not asked
abbrev pub HasInjected : {C : Type 0} → Meaning C → InjectOptions → FileBytes → (core : C) → (ended : Result Status Text) → Text → Type 0
HasInjected gives options bytes core ended text =
    OverFiles options.setup bytes (λ tape script. HasLines gives options tape script (start_in options.setup bytes) core ended text)
