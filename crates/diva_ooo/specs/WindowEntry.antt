-- An instruction under way.
-- Cited in `Ooo.antt`, for what `Ooo` gives.
use Rattle.std.specs.Prelude.{ℕ, Option}
use Rattle.std.specs.Option.{option_and_then}
use Rattle.diva_decode.specs.Table.{row_of}
use Rattle.diva_isa.specs.declared.record.Record.{Record}
use Rattle.diva_ooo.specs.declared.entry.Progress.{Progress}
use Rattle.diva_ooo.specs.declared.profile.Profile.{Profile}
use Rattle.diva_ooo.specs.Profile.{profile_by}

-- where it was fetched; its word, none outside memory; where the next one was fetched; how far it is; and its record, once it has
-- begun
pub record WindowEntry : Type 0 where
  pub pc : ℕ
  pub word : Option ℕ
  pub predicted : ℕ
  pub progress : Progress
  pub result : Record

-- what its word says of how it runs
abbrev pub profile_of : WindowEntry → Profile
profile_of e = profile_by (option_and_then row_of e.word)
