-- What contracts see of a job, and the ranges that its numbers keep.
-- Cited by the types `Setup`, `DumpRange` and those of some commands' options.
use Rattle.std.specs.Prelude.{ℕ, ◌+◌, ◌%◌, ◌^◌, ◌≡◌, ◌≤◌, List, Option}
use Rattle.diva_core.specs.Timed.{Config}
use Rattle.diva_args.specs.Rows.{room_row}
use Rattle.diva_args.specs.declared.job.CoreChoice.{CoreChoice}
use Rattle.diva_args.specs.declared.job.HartCore.{HartCore}

-- a part of memory: the address of its first byte, and the number of its bytes
pub record DumpRange : Type 0 where
  pub addr : ℕ
  pub len : ℕ

-- the most bytes of memory that are shown
abbrev pub most_dumped : ℕ
most_dumped = 4096

-- 1 to 4,096 bytes, that end at 2^32 at most
pub record IsDump (addr len : ℕ) : Type 0 where
  pub len_low : 1 ≤ len
  pub len_high : len ≤ most_dumped
  pub end : addr + len ≤ 2 ^ 32

-- how many bytes of memory follow those that an executable loads: whole words
pub record IsRoomBehind (room : ℕ) : Type 0 where
  pub aligned : room % 4 ≡ 0
  pub high : room ≤ room_row.most

-- what commands have in common that run an image: the image, how many bytes of memory follow those that an executable loads,
-- the core, the script, and the numbers of the machine
pub record Setup : Type 0 where
  pub image : List ℕ
  pub room : ℕ
  pub core : CoreChoice
  pub script : Option (List ℕ)
  pub config : Config

-- `duo IMAGE` with its options
pub record DuoOptions : Type 0 where
  pub image : List ℕ
  pub room : ℕ
  pub core : HartCore
  pub config : Config
  pub cycles : ℕ
  pub dump : Option DumpRange

-- `debug IMAGE COMMANDS` with its options
pub record DebugOptions : Type 0 where
  pub setup : Setup
  pub commands : List ℕ

-- `migrate IMAGE` with its option
pub record MigrateOptions : Type 0 where
  pub image : List ℕ
  pub room : ℕ
