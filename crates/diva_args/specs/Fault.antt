-- Why the words give no job.
-- Cited by the type `ArgsFault`; by `or_usage`, `file_of` and `setup`.
use Rattle.std.specs.Prelude.{◌≡◌, Option, Some, None, Result, Err, IfOk}
use Rattle.clap.specs.declared.error.kind.ErrorKind.{ErrorKind}
use Rattle.clap.specs.declared.error.kind.ErrorKind.TheVariants.{OutOfMemory}
use Rattle.diva_args.specs.declared.fault.ArgsFault.{ArgsFault}
use Rattle.diva_args.specs.declared.fault.ArgsFault.TheVariants.{Usage, Memory}

-- an error of `clap` as a fault
abbrev pub fault_from : ErrorKind → ArgsFault
fault_from OutOfMemory = Memory
fault_from _ = Usage

-- the result is the value that is due, or `Usage` only if none is
abbrev pub Reads : {A : Type 0} → Option A → Result A ArgsFault → Type 0
Reads due result = IfOk result (λ value. due ≡ Some value) × (result ≡ Err Usage → due ≡ None)
