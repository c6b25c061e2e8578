-- What the code keeps with each entry of a window, so that it is worked out once.
-- Only private contracts of this crate cite this: a reader of its promises can pass over it.
use Rattle.std.specs.Prelude.{◌≡◌, ◌<◌, IfSome, true, false}
use Rattle.std.specs.Option.{option_and_then}
use Rattle.diva_decode.specs.Table.{HasRegisters, row_of}
use Rattle.diva_isa.specs.Step.{HasRegister}
use Rattle.diva_core.specs.Cycle.{is_store}
use Rattle.diva_ahead.specs.Effects.{done_by}
use Rattle.diva_ooo.specs.declared.entry.WindowEntry.TheInside.{Inside}
use Rattle.diva_ooo.specs.declared.profile.Profile.{Profile}
use Rattle.diva_ooo.specs.Profile.{profile_by}
use Rattle.diva_ooo.specs.WindowEntry.{WindowEntry, profile_of}
use Rattle.diva_ooo.specs.Issue.{is_waiting}

-- its registers are below 32
pub record HasSources (s : Profile) : Type 0 where
  pub rs1 : s.rs1 < 32
  pub rs2 : s.rs2 < 32
  pub rd : s.rd < 32

-- what its word says is noted, and so is what its result does
pub record IsKnown (e : Inside) : Type 0 where
  pub decoded : e.decoded ≡ option_and_then row_of e.word
  pub registers : IfSome e.decoded HasRegisters
  pub profile : e.profile ≡ profile_by (option_and_then row_of e.word)
  pub sources : HasSources e.profile
  pub effect : e.effect ≡ done_by e.result
  pub register : HasRegister e.effect
  -- one that waits has no result yet
  pub fresh : is_waiting e.progress ≡ true → is_store e.effect ≡ false

-- an entry with all that is noted of it
abbrev pub noted : WindowEntry → Inside
noted e =
    record {
      pc = e.pc;
      decoded = option_and_then row_of e.word;
      word = e.word;
      profile = profile_of e;
      predicted = e.predicted;
      progress = e.progress;
      result = e.result;
      effect = done_by e.result;
    }
