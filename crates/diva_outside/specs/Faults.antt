-- How often the files of each kind have failed.
-- Cited by `DiskFiles::new` and `MemFiles::new`.
use Rattle.std.specs.Prelude.{◌≡◌, ℕ, Result, Ok, Err}
use Rattle.diva_outside.specs.Causes.{raised}
use Rattle.diva_outside.specs.Files.{FilesAccount, unknown}
use Rattle.diva_outside.specs.declared.files.What.{What}
use Rattle.diva_outside.specs.declared.files.What.TheVariants.{Image, Script, Tape, Source, Commands}
use Rattle.diva_outside.specs.declared.files.LoadFault.{LoadFault}
use Rattle.diva_outside.specs.declared.files.LoadFault.TheVariants.{Failed, TooLong, Memory}
use Rattle.diva_outside.specs.declared.faults.Faults.{Faults}

-- how often the files of this kind have failed
abbrev pub faults_of : Faults → What → ℕ
faults_of f Image = f.image
faults_of f Script = f.script
faults_of f Tape = f.tape
faults_of f Source = f.source
faults_of f Commands = f.commands

-- what files tell of themselves that count so, and whose contents are not known
abbrev pub account_of : Faults → FilesAccount
account_of f = record { contents = unknown; faults = faults_of f }

abbrev pub no_faults : Faults
no_faults = record { image = 0; script = 0; tape = 0; source = 0; commands = 0 }

-- one more fault of this kind
abbrev pub raised_at : Faults → What → Faults
raised_at f Image = record f { image = raised f.image }
raised_at f Script = record f { script = raised f.script }
raised_at f Tape = record f { tape = raised f.tape }
raised_at f Source = record f { source = raised f.source }
raised_at f Commands = record f { commands = raised f.commands }

-- what a load leaves of the counts, by its answer: one more fault of its kind where that is `Failed`, else the same
abbrev pub Counts : {T : Type 0} → Faults → Faults → What → Result T LoadFault → Type 0
Counts old new what (Ok bytes) = new ≡ old
Counts old new what (Err Failed) = new ≡ raised_at old what
Counts old new what (Err TooLong) = new ≡ old
Counts old new what (Err Memory) = new ≡ old
