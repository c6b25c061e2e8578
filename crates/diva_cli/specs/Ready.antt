-- What a run begins with: a new machine, the core that drives it and the script that is laid over that core, as files have them; and what
-- they come to when they are driven.
-- Cited by `load_machine_files`, `make_ready` and `Watched::drive`.
use Rattle.std.specs.Prelude.{◌≡◌, ◌+◌, ℕ, List, [], ◌∷◌, length}
use Rattle.diva_outside.specs.Files.{Contents}
use Rattle.diva_outside.specs.declared.files.What.TheVariants.{Image, Script, Tape as TapeFile}
use Rattle.diva_image.specs.ImageLayout.{layout}
use Rattle.diva_image.specs.Programs.{image_in}
use Rattle.diva_isa.specs.declared.record.Record.{Record}
use Rattle.diva_core.specs.Timed.{Timed, new_timed}
use Rattle.diva_core.specs.History.{Meaning}
use Rattle.diva_core.specs.Legs.{Handed, Part, handed_in, run_parts}
use Rattle.diva_faults.specs.declared.rows.Row.{Row}
use Rattle.diva_faults.specs.Spoiled.{spoiled}
use Rattle.diva_tape.specs.Lists.{lockstep_list, silent_list, flood_list, echo_list}
use Rattle.diva_tape.specs.Noise.{noise_call}
use Rattle.diva_tape.specs.Scalar.{IsScalarCall, new_scalar}
use Rattle.diva_tape.specs.TapeCalls.{tape_call}
use Rattle.diva_args.specs.Options.{Setup}
use Rattle.diva_args.specs.declared.job.CoreChoice.{CoreChoice}
use Rattle.diva_process.specs.Programs.{FileBytes}
use Rattle.diva_process.specs.Stops.{AreSound}
use Rattle.diva_cli.specs.Changes.{Change}
use Rattle.diva_cli.specs.Driven.{ByLegs, ByOther, ByRule, scripted_rule}
use Rattle.diva_cli.specs.Sessions.{AreLists, AreRows, start_in}
use Rattle.diva_cli.specs.Wanted.{file_rules, machine_files, tape_name}
use Rattle.diva_cli.specs.declared.driving.CoreInUse.{CoreInUse}
use Rattle.diva_cli.specs.declared.driving.CoreInUse.TheVariants.{Own, Lockstep, Scalar, Silent, Flood, Echo, Noise, Tape}
use Rattle.diva_cli.specs.declared.loading.Loaded.{Loaded}
use Rattle.diva_cli.specs.declared.loading.Ready.{Ready}
use Rattle.diva_args.specs.declared.job.CoreChoice.TheVariants as choice

-- ---- what files have

-- the core that a choice asks for, with the lists of its tape
abbrev pub core_for : CoreChoice → (tape : List (List Record)) → CoreInUse
core_for choice.Own tape = Own
core_for choice.Lockstep tape = Lockstep
core_for choice.Scalar tape = Scalar new_scalar
core_for choice.Silent tape = Silent
core_for choice.Flood tape = Flood
core_for choice.Echo tape = Echo
core_for choice.Noise tape = Noise 0
core_for (choice.Tape name) tape = Tape tape

-- the core is the one that a choice asks for, and plays the tape with these bytes if there is one
pub record IsCore (asked : CoreChoice) (bytes : List ℕ) (core : CoreInUse) : Type 0 where
  pub tape : List (List Record)
  pub lists : AreLists (tape_name asked) bytes tape
  pub is : core ≡ core_for asked tape

-- the image is that of these bytes, the script has their rows, and the core is the one asked for
pub record IsLoaded (setup : Setup) (bytes : FileBytes) (loaded : Loaded) : Type 0 where
  pub image : layout loaded.image ≡ image_in setup.room (bytes Image)
  pub rows : AreRows setup.script (bytes Script) loaded.script
  pub core : IsCore setup.core (bytes TapeFile) loaded.core

-- the same, of the bytes of sound files with these names
pub record HoldsLoaded (contents : Contents) (setup : Setup) (loaded : Loaded) : Type 0 where
  pub bytes : FileBytes
  pub sound : AreSound file_rules contents (machine_files setup) bytes
  pub is : IsLoaded setup bytes loaded

-- the machine is new and begins with the image of these bytes, the script has their rows, and the core is the one asked for
pub record IsReady (setup : Setup) (bytes : FileBytes) (ready : Ready) : Type 0 where
  pub begun : ready.machine.timed ≡ new_timed setup.config (start_in setup bytes)
  pub rows : AreRows setup.script (bytes Script) ready.script
  pub core : IsCore setup.core (bytes TapeFile) ready.core

-- the same, of the bytes of sound files with these names
pub record HoldsReady (contents : Contents) (setup : Setup) (ready : Ready) : Type 0 where
  pub bytes : FileBytes
  pub sound : AreSound file_rules contents (machine_files setup) bytes
  pub is : IsReady setup bytes ready

-- ---- what is driven

-- it is one part: these lists are handed over, and this holds of them
pub record IsOnePart (this : List (List Record) → Type 0) (parts : List Part) : Type 0 where
  pub lists : List (List Record)
  pub one : parts ≡ Handed lists ∷ []
  pub done : this lists

-- where the lists of the parts come from, by the core in use
abbrev pub AreHandedBy : {C : Type 0} → Meaning C → CoreInUse → (script : List Row) → (machine : Change Timed) → (core : Change C)
    → List Part → Type 0
AreHandedBy gives Own script machine core parts = ByLegs (spoiled script gives) machine core parts
AreHandedBy gives Lockstep script machine core parts = ByRule (scripted_rule script lockstep_list) machine.before core parts
AreHandedBy gives (Scalar first) script machine core parts = ByOther IsScalarCall first script machine core parts
AreHandedBy gives Silent script machine core parts = ByRule (scripted_rule script silent_list) machine.before core parts
AreHandedBy gives Flood script machine core parts = ByRule (scripted_rule script flood_list) machine.before core parts
AreHandedBy gives Echo script machine core parts = ByRule (scripted_rule script echo_list) machine.before core parts
AreHandedBy gives (Noise first) script machine core parts = ByOther noise_call first script machine core parts
AreHandedBy gives (Tape tape) script machine core parts = ByOther tape_call tape script machine core parts

-- the core in use drove a machine in parts under a script, and this holds of the parts
pub record PlaysBy {C : Type 0} (gives : Meaning C) (used : CoreInUse) (script : List Row) (machine : Change Timed)
    (core : Change C) (this : List Part → Type 0) : Type 0 where
  pub parts : List Part
  pub ran : machine.after ≡ run_parts machine.before parts
  pub each : machine.after.cycles ≡ machine.before.cycles + length (handed_in parts)
  pub handed : AreHandedBy gives used script machine core parts
  pub done : this parts
