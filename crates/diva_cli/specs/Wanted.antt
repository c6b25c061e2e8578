-- The files that a job wants, in the order in which they are loaded, and what is wrong with their bytes.
-- Cited in `Program.antt`, for `top`; by `work`.
use Rattle.std.specs.Prelude.{ℕ, ◌+◌, ◌*◌, List, [], ◌∷◌, ◌++◌, Option, Some, None, Result, Ok, Err, option_map}
use Rattle.diva_outside.specs.Lines.{LineFault}
use Rattle.diva_outside.specs.declared.files.What.{What}
use Rattle.diva_outside.specs.declared.files.What.TheVariants.{Image, Script, Tape as TapeFile, Source, Commands}
use Rattle.diva_image.specs.Header.{header_size}
use Rattle.diva_image.specs.Layout.{most_size}
use Rattle.diva_image.specs.Programs.{fault_in}
use Rattle.diva_image.specs.Segments.{most_segments, pair_size}
use Rattle.diva_faults.specs.Reading.{script_of}
use Rattle.diva_tape.specs.Tapes.{tape_of}
use Rattle.diva_args.specs.Options.{DebugOptions, Setup}
use Rattle.diva_args.specs.declared.job.CoreChoice.{CoreChoice}
use Rattle.diva_args.specs.declared.job.CoreChoice.TheVariants.{Own, Lockstep, Scalar, Silent, Flood, Echo, Noise, Tape as OfTape}
use Rattle.diva_args.specs.declared.job.Job.{Job}
use Rattle.diva_args.specs.declared.job.Job.TheVariants.{Run, Tape, Duo, Debug, Asm, Dis, Migrate, Soak, Campaign}
use Rattle.diva_asm.specs.Sources.{source_of}
use Rattle.diva_debug.specs.Reading.{commands_of}
use Rattle.diva_process.specs.Programs.{Fault, FileRules, Wanted}

-- the most bytes that a file may have: those of the largest image
abbrev pub file_limit : ℕ
file_limit = header_size + pair_size * most_segments + most_size

abbrev pub file_with : (room : ℕ) → What → List ℕ → Wanted
file_with room what name = record { what = what; name = name; room = room }

-- a file without room, which only what is taken for an image can have
abbrev pub file : What → List ℕ → Wanted
file what name = file_with 0 what name

-- the same, where a name is given
abbrev pub file_if : What → Option (List ℕ) → List Wanted
file_if what None = []
file_if what (Some name) = file what name ∷ []

-- the name of the tape's file, where the core is a tape
abbrev pub tape_name : CoreChoice → Option (List ℕ)
tape_name Own = None
tape_name Lockstep = None
tape_name Scalar = None
tape_name Silent = None
tape_name Flood = None
tape_name Echo = None
tape_name Noise = None
tape_name (OfTape name) = Some name

-- what a machine begins with, then what is laid over its core, and then the tape that is its core
abbrev pub machine_files : Setup → List Wanted
machine_files setup =
    file_with setup.room Image setup.image ∷ (file_if Script setup.script ++ file_if TapeFile (tape_name setup.core))

-- the same, and then the commands of a session
abbrev pub session_files : DebugOptions → List Wanted
session_files options = machine_files options.setup ++ file Commands options.commands ∷ []

-- ---- the files of each command, in the order in which they are loaded
abbrev pub wanted : Job → List Wanted
wanted (Run options) = machine_files options.setup
wanted (Tape options) = machine_files options.setup
wanted (Duo options) = file_with options.room Image options.image ∷ []
wanted (Debug options) = session_files options
wanted (Asm name) = file Source name ∷ []
wanted (Dis name) = file Image name ∷ []
wanted (Migrate options) = file_with options.room Image options.image ∷ []
wanted (Soak options) = []
wanted (Campaign options) = file Image options.image ∷ []

-- ---- what is wrong with a file's bytes

-- of a text: a line, and the kind of its fault
abbrev pub text_fault : {A : Type 0} → Result A LineFault → Option Fault
text_fault (Ok read) = None
text_fault (Err fault) = Some (record { kind = fault.kind; place = fault.line })

-- the first fault, by what the file is for, and by its room where it is taken for an image
abbrev pub first_fault : What → (room : ℕ) → List ℕ → Option Fault
first_fault Image room bytes = option_map (λ fault. record { kind = fault.kind; place = fault.place }) (fault_in room bytes)
first_fault Script room bytes = text_fault (script_of bytes)
first_fault TapeFile room bytes = text_fault (tape_of bytes)
first_fault Source room bytes = text_fault (source_of bytes)
first_fault Commands room bytes = text_fault (commands_of bytes)

abbrev pub fault_of : Wanted → List ℕ → Option Fault
fault_of w bytes = first_fault w.what w.room bytes

abbrev pub file_rules : FileRules
file_rules = record { limit = file_limit; fault_of = fault_of }
