-- What is noted with an entry follows from its word and its result.
use Rattle.std.proofs.Common.{◌≡◌, ℕ, Option, Some, None, refl, IfSome}
use Rattle.std.specs.Option.{option_and_then}
use Rattle.diva_decode.specs.declared.instr.Instr.{Instr}
use Rattle.diva_decode.specs.Table.{HasRegisters, row_of}
use Rattle.diva_isa.specs.State.{State}
use Rattle.diva_isa.specs.Step.{record_fetched}
use Rattle.diva_isa.specs.declared.effect.Effect.TheVariants.{Nothing}
use Rattle.diva_ahead.specs.Effects.{done_by}
use Rattle.diva_ooo.specs.declared.entry.WindowEntry.TheInside.{Inside}
use Rattle.diva_ooo.specs.declared.entry.Progress.TheVariants.{Waiting}
use Rattle.diva_ooo.specs.declared.profile.Profile.{Profile}
use Rattle.diva_ooo.specs.WindowEntry.{WindowEntry}
use Rattle.diva_ooo.specs.Known.{IsKnown, HasSources}
use Rattle.diva_ooo.specs.Ooo.{blank}
use Rattle.diva_ooo.specs.Profile.{profile_by}

-- what the definitions see of an entry
abbrev pub shown : Inside → WindowEntry
shown e = record { pc = e.pc; word = e.word; predicted = e.predicted; progress = e.progress; result = e.result }

blank_does : Nothing ≡ done_by blank
unfolding done_by row_of
blank_does = refl

-- an entry that was fetched
pub known_new : (pc predicted : ℕ) (word : Option ℕ) (decoded : Option Instr) (p : Profile) → decoded ≡ option_and_then row_of word → IfSome decoded HasRegisters → p ≡ profile_by decoded → HasSources p
    → IsKnown (record { pc = pc; decoded = decoded; word = word; profile = p; predicted = predicted; progress = Waiting; result = blank; effect = Nothing })
known_new pc predicted word decoded p is registers profile sources =
    record { decoded = is; registers = registers; profile = rw (← is) profile; sources = sources; effect = blank_does; register = search; fresh = λ waits. refl }

-- what the word of a record says
pub decoded_kept : (s : State) (word : Option ℕ) (decoded : Option Instr) → decoded ≡ option_and_then row_of word → decoded ≡ row_of (record_fetched s word).word
unfolding row_of
decoded_kept s None decoded is = is
decoded_kept s (Some w) decoded is = is
