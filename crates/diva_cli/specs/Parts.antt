-- What the parts of the program promise one another.
-- Only private contracts of this crate cite this: a reader of its promises can pass over it.
use Rattle.std.specs.Prelude.{◌≡◌, ◌≤◌, ℕ, true, List, length, Option, Some, None, Ok, Result}
use Rattle.std.specs.List.{All}
use Rattle.diva_outside.specs.Files.{Contents, LentFiles}
use Rattle.diva_outside.specs.Sink.{LentSink}
use Rattle.diva_outside.specs.declared.files.What.{What}
use Rattle.diva_outside.specs.declared.text_fault.TextFault.{TextFault}
use Rattle.diva_outside.specs.declared.files.What.TheVariants.{Script, Tape as TapeFile, Commands}
use Rattle.diva_isa.specs.State.{goes_on}
use Rattle.diva_core.specs.Timed.{Timed, default_config, new_timed}
use Rattle.diva_core.specs.History.{Meaning, Turns}
use Rattle.diva_faults.specs.declared.rows.Row.{Row}
use Rattle.diva_tape.specs.Scalar.{new_scalar}
use Rattle.diva_args.specs.Options.{DebugOptions, DuoOptions}
use Rattle.diva_args.specs.Rows.{length_row}
use Rattle.diva_args.specs.declared.job.SoakOptions.{SoakOptions}
use Rattle.diva_debug.specs.Moves.{IsShort}
use Rattle.diva_debug.specs.Reading.{commands_of}
use Rattle.diva_debug.specs.declared.command.Command.{Command}
use Rattle.diva_args.specs.declared.job.CoreChoice.{CoreChoice}
use Rattle.diva_args.specs.declared.job.HartCore.{HartCore}
use Rattle.diva_args.specs.declared.campaign.CampaignOptions.{CampaignOptions}
use Rattle.diva_args.specs.declared.job.Job.{Job}
use Rattle.diva_args.specs.declared.job.Job.TheVariants.{Campaign, Duo}
use Rattle.diva_cli.specs.declared.campaign.CampaignRuns.{CampaignRuns}
use Rattle.diva_cli.specs.declared.driving.CoreInUse.{CoreInUse}
use Rattle.diva_cli.specs.declared.duo.DuoReady.{DuoReady}
use Rattle.diva_cli.specs.declared.duo.HartCores.{HartCores}
use Rattle.diva_cli.specs.declared.loading.SessionReady.{SessionReady}
use Rattle.diva_cli.specs.declared.soak.SoakReady.{SoakReady}
use Rattle.diva_process.specs.declared.status.Status.{Status}
use Rattle.diva_process.specs.declared.stop.Failure.{Failure}
use Rattle.diva_process.specs.declared.stop.Stop.{Stop}
use Rattle.diva_process.specs.declared.stop.Stop.TheVariants.{Memory, Unread, Refused}
use Rattle.diva_process.specs.Programs.{FileBytes, Wanted, asked_for}
use Rattle.diva_process.specs.Promises.{KeepsPromises}
use Rattle.diva_process.specs.Stops.{AreSound, IsSound}
use Rattle.diva_process.specs.Writing.{WritesText}
use Rattle.diva_cli.specs.Changes.{Asking, Change, LanesAsked}
use Rattle.diva_cli.specs.Program.{diva, work_of}
use Rattle.diva_cli.specs.Wanted.{file_if, file_rules, first_fault, session_files, tape_name, wanted}
use Rattle.diva_cli.specs.Ready.{IsCore, IsReady}
use Rattle.diva_cli.specs.Sessions.{AreRows}
use Rattle.diva_cli.specs.DuoTexts.{duo_start}
use Rattle.diva_cli.specs.CampaignTexts.{campaign_start, campaign_tally, first_run}
use Rattle.diva_cli.specs.SoakTexts.{soak_cycles, soak_start}
use Rattle.diva_outside.specs.declared.text_fault.TextFault.TheVariants as text
use Rattle.diva_args.specs.declared.job.HartCore.TheVariants as hart
use Rattle.diva_cli.specs.declared.duo.HartCores.TheVariants as cores

-- ---- jobs

-- this came of a job, by the core and the lanes that it asked: what the program promises of it
abbrev pub DoesJob : {C F S : Type 0} → Meaning C → Job → Asking C → LentFiles F → LentSink S → Result Status Failure → Type 0
DoesJob gives job asks files sink result = KeepsPromises (asked_for diva job) (work_of gives asks) files sink result

-- the text of a job over files with these bytes was written
abbrev pub WritesJob : {C S : Type 0} → Meaning C → Job → Asking C → FileBytes → LentSink S → Result Status Failure → Type 0
WritesJob gives job asks bytes sink result = WritesText (work_of gives asks) job bytes sink result

-- ---- loading

-- the file is sound, and this holds of its bytes
pub record Holds (contents : Contents) (w : Wanted) (this : List ℕ → Type 0) : Type 0 where
  pub bytes : List ℕ
  pub sound : IsSound file_rules contents w bytes
  pub holds : this bytes

-- the same of a file that may not be named: then nothing is said of the file
pub record HoldsIf (contents : Contents) (what : What) (name : Option (List ℕ)) (this : List ℕ → Type 0) : Type 0 where
  pub bytes : List ℕ
  pub sound : AreSound file_rules contents (file_if what name) (λ _. bytes)
  pub holds : this bytes

-- the stop says the first fault of a file's bytes; or memory ran out, which says nothing of them
abbrev pub SaysFault : What → (room : ℕ) → List ℕ → Stop → Type 0
SaysFault what room bytes Memory = Unit {0}
SaysFault what room bytes (Unread said) = ⊥
SaysFault what room bytes (Refused said kind place) = (said ≡ what) × (first_fault what room bytes ≡ Some (record { kind = kind; place = place }))

-- a file of this kind is refused for the fault of its text; or memory ran out
abbrev pub stop_of : What → TextFault → Stop
stop_of what (text.Bad line kind) = Refused what kind line
stop_of what text.Memory = Memory

-- the commands are those of these bytes, no more than these are, and each is short
pub record AreCommands (bytes : List ℕ) (commands : List Command) : Type 0 where
  pub read : commands_of bytes ≡ Ok commands
  pub few : length commands ≤ length bytes
  pub short : All IsShort commands

-- the rows are those of the script of this name, and none where there is no name
abbrev pub HoldsRows : Contents → Option (List ℕ) → List Row → Type 0
HoldsRows contents name script = HoldsIf contents Script name (λ bytes. AreRows name bytes script)

-- the same, of the bytes of a sound file with the tape's name
abbrev pub HoldsCore : Contents → CoreChoice → CoreInUse → Type 0
HoldsCore contents asked core = HoldsIf contents TapeFile (tape_name asked) (λ bytes. IsCore asked bytes core)

-- the machine, the script and the core are those of a session's setup, and the commands those of these bytes
pub record IsSession (options : DebugOptions) (bytes : FileBytes) (session : SessionReady) : Type 0 where
  pub ready : IsReady options.setup bytes session.ready
  pub read : commands_of (bytes Commands) ≡ Ok session.commands.items

-- the same, of the bytes of sound files with these names
pub record HoldsSession (contents : Contents) (options : DebugOptions) (session : SessionReady) : Type 0 where
  pub bytes : FileBytes
  pub sound : AreSound file_rules contents (session_files options) bytes
  pub is : IsSession options bytes session

-- both machines are new and begin with the image of the seed, which is not too long, and the core of the first is new
pub record IsSoakReady (options : SoakOptions) (ready : SoakReady) : Type 0 where
  pub few : options.instructions ≤ length_row.most
  pub first : ready.first.timed ≡ new_timed default_config (soak_start options)
  pub second : ready.second.timed ≡ new_timed default_config (soak_start options)
  pub scalar : ready.scalar ≡ new_scalar

-- turns of a core led from a new machine with the image of the seed to one that has ended, or that has run all the cycles
pub record Soaks {D : Type 0} (gives : Meaning D) (options : SoakOptions) (core : Change D) (last : Timed) : Type 0 where
  pub turns : Turns gives (new_timed default_config (soak_start options)) core.before last core.after
  pub most : last.cycles ≤ soak_cycles options.instructions
  pub whole : goes_on last.arch ≡ true → last.cycles ≡ soak_cycles options.instructions

-- new cores of a kind, for both harts
abbrev pub new_cores : HartCore → HartCores
new_cores hart.Scalar = cores.Scalar new_scalar new_scalar
new_cores hart.Lockstep = cores.Lockstep
new_cores hart.Silent = cores.Silent

-- two harts begin with the image of these bytes, and their cores are new and of the kind that is asked for
pub record IsDuoReady (options : DuoOptions) (bytes : FileBytes) (ready : DuoReady) : Type 0 where
  pub begun : ready.duo.duo ≡ duo_start options bytes
  pub cores : ready.cores ≡ new_cores options.core

-- the same, of the bytes of a sound file with the image's name
pub record HoldsDuo (contents : Contents) (options : DuoOptions) (ready : DuoReady) : Type 0 where
  pub bytes : FileBytes
  pub sound : AreSound file_rules contents (wanted (Duo options)) bytes
  pub is : IsDuoReady options bytes ready

-- the runs are those of the image of these bytes
pub record AreCampaignRuns (options : CampaignOptions) (bytes : FileBytes) (runs : CampaignRuns) : Type 0 where
  pub first : runs.first.timed ≡ first_run options.cycles (campaign_start bytes)
  pub tally : runs.tally ≡ campaign_tally options.last options.cycles (campaign_start bytes)

-- the same, of the bytes of a sound file with the image's name
pub record HoldsCampaign (contents : Contents) (options : CampaignOptions) (runs : CampaignRuns) : Type 0 where
  pub bytes : FileBytes
  pub sound : AreSound file_rules contents (wanted (Campaign options)) bytes
  pub are : AreCampaignRuns options bytes runs

-- ---- lanes

-- no lane was asked anything
abbrev pub no_lanes : LanesAsked
no_lanes liar asked = liar ≡ None
