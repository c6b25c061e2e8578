-- Texts of the operating system.
-- Cited by the type `DiskSource`.
use Rattle.std.specs.Prelude.{◌≡◌, ℕ, Option, Some, None, Result, Ok, Err}
use Rattle.diva_outside.specs.Causes.{raised}
use Rattle.diva_outside.specs.Files.{unknown}
use Rattle.diva_outside.specs.Text.{Text}
use Rattle.diva_source.specs.Source.{SourceAccount}
use Rattle.diva_source.specs.declared.disk_source.Reader.{Reader}
use Rattle.diva_source.specs.declared.disk_source.Reader.TheVariants.{File, Input}

-- what is yet to be read of the text that is open, `None` if its reader doesn't tell or nothing is open; how many bytes at most are yet
-- to be read of it; and how many faults there were
pub record DiskSource : Type 0 where
  pub rest : Option Text
  pub limit : ℕ
  pub faults : ℕ

-- what it tells of itself: its contents are not known
abbrev pub account_of : DiskSource → SourceAccount
account_of s = record { contents = unknown; rest = s.rest; limit = s.limit; faults = s.faults }

-- what a call leaves of the count of faults, by its answer: one more if that is a failure, else the same
abbrev pub Counts : {T E : Type 0} → ℕ → ℕ → Result T E → Type 0
Counts before now (Ok value) = now ≡ before
Counts before now (Err failure) = now ≡ raised before

-- what is yet to be read of what is open, by what readers tell
abbrev pub rest_of : {F I : Type 0} → (F → Option Text) → (I → Option Text) → Option (Reader F I) → Option Text
rest_of file input None = None
rest_of file input (Some (File reader)) = file reader
rest_of file input (Some (Input reader)) = input reader
