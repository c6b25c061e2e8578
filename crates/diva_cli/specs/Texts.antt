-- The text of each command, and how the writing of it ended: with a status where it was written whole (`Ok`). Where the sink
-- failed, the text is what was to be written by that time, and the end has what of it had been put already (`Err`).
-- Cited in `Program.antt`, for `top`.
use Rattle.std.specs.Prelude.{◌≡◌, List, [], Option, None, Result}
use Rattle.diva_outside.specs.Text.{Text}
use Rattle.diva_core.specs.History.{Meaning}
use Rattle.diva_isa.specs.declared.record.Record.{Record}
use Rattle.diva_args.specs.declared.job.Job.{Job}
use Rattle.diva_args.specs.declared.job.Job.TheVariants.{Run, Tape, Duo, Debug, Asm, Dis, Migrate, Soak, Campaign}
use Rattle.diva_cli.specs.Changes.{Change, LanesAsked}
use Rattle.diva_args.specs.Options.{Setup}
use Rattle.diva_args.specs.declared.job.LanePlace.{LanePlace}
use Rattle.diva_core.specs.Timed.{new_timed}
use Rattle.diva_machine.specs.Asked.{asked_over}
use Rattle.diva_process.specs.declared.status.Status.{Status}
use Rattle.diva_process.specs.declared.status.Status.TheVariants.{Halted}
use Rattle.diva_process.specs.Programs.{FileBytes}
use Rattle.diva_process.specs.Answers.{IsDone}
use Rattle.diva_cli.specs.Runs.{HasRun}
use Rattle.diva_cli.specs.Sessions.{start_in}
use Rattle.diva_cli.specs.TapeTexts.{HasTape}
use Rattle.diva_cli.specs.DebugTexts.{HasReplies}
use Rattle.diva_cli.specs.ImageTexts.{HasAssembled, HasListing, HasMigrated}
use Rattle.diva_cli.specs.SoakTexts.{HasSoaked}
use Rattle.diva_cli.specs.DuoTexts.{HasDuo}
use Rattle.diva_cli.specs.CampaignTexts.{HasCampaign}

-- ---- a line for each command

abbrev pub HasText : {C : Type 0} → Meaning C → Job → FileBytes → Change C → (ended : Result Status Text) → Text → Type 0
HasText gives (Run options) bytes core ended text = HasRun gives options bytes core ended text
HasText gives (Tape options) bytes core ended text = HasTape gives options bytes core ended text
HasText gives (Duo options) bytes core ended text = HasDuo options bytes core ended text
HasText gives (Debug options) bytes core ended text = HasReplies gives options bytes core ended text
HasText gives (Asm name) bytes core ended text = HasAssembled bytes core ended text
HasText gives (Dis name) bytes core ended text = HasListing bytes core ended text
HasText gives (Migrate options) bytes core ended text = HasMigrated options.room bytes core ended text
HasText gives (Soak options) bytes core ended text = HasSoaked gives options core ended text
HasText gives (Campaign options) bytes core ended text = HasCampaign gives options bytes core ended text

-- ---- what lanes were asked for it

-- all that is asked in the cycles of a run over files, of the lists that were handed over: of three lanes, if one has a place
abbrev pub AsksInRun : Setup → (liar : Option LanePlace) → FileBytes → List (List Record) → LanesAsked → Type 0
AsksInRun setup liar bytes lists lanes = lanes liar (asked_over (new_timed setup.config (start_in setup bytes)) lists)

-- only a run asks lanes, where a place is given for a liar
abbrev pub AsksLanes : {C : Type 0} → (gives : Meaning C) (job : Job) (bytes : FileBytes) (core : Change C) (ended : Result Status Text) (text : Text)
    → HasText gives job bytes core ended text → LanesAsked → Type 0
AsksLanes gives (Run options) bytes core ended text means lanes =
    AsksInRun options.setup options.liar bytes means.of_files.holds.lists lanes
AsksLanes gives (Tape options) bytes core ended text means lanes = lanes None []
AsksLanes gives (Duo options) bytes core ended text means lanes = lanes None []
AsksLanes gives (Debug options) bytes core ended text means lanes = lanes None []
AsksLanes gives (Asm name) bytes core ended text means lanes = lanes None []
AsksLanes gives (Dis name) bytes core ended text means lanes = lanes None []
AsksLanes gives (Migrate options) bytes core ended text means lanes = lanes None []
AsksLanes gives (Soak options) bytes core ended text means lanes = lanes None []
AsksLanes gives (Campaign options) bytes core ended text means lanes = lanes None []

-- ---- how a command ends

-- the statuses of a command whose text was written whole
abbrev pub CanEnd : Job → Status → Type 0
CanEnd (Run options) ends = IsDone ends
CanEnd (Tape options) ends = IsDone ends
CanEnd (Duo options) ends = IsDone ends
CanEnd (Debug options) ends = ends ≡ Halted
CanEnd (Asm name) ends = ends ≡ Halted
CanEnd (Dis name) ends = ends ≡ Halted
CanEnd (Migrate options) ends = ends ≡ Halted
CanEnd (Soak options) ends = ends ≡ Halted
CanEnd (Campaign options) ends = IsDone ends
