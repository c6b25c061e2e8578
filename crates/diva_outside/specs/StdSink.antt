-- A sink over a writer.
-- Cited by the type `StdSink`.
use Rattle.std.specs.Prelude.{◌≡◌, ℕ, List, Option, None, Result, Ok, Err}
use Rattle.diva_outside.specs.Causes.{raised}
use Rattle.diva_outside.specs.Sink.{SinkAccount}

-- the contents of the writer, `None` where they are not known, and how many faults there were
pub record StdSink : Type 0 where
  pub bytes : Option (List ℕ)
  pub faults : ℕ

-- what it tells of itself as a sink, whose contents are not known
abbrev pub account_of : StdSink → SinkAccount
account_of s = record { contents = None; faults = s.faults }

-- the same with the contents of the writer, where they are known
abbrev pub writer_account : StdSink → SinkAccount
writer_account s = record { contents = s.bytes; faults = s.faults }

-- what a put leaves of the count of faults, by its answer: one more where that is a failure, else the same
abbrev pub CountsPut : {T E : Type 0} → ℕ → ℕ → Result T E → Type 0
CountsPut before now (Ok done) = now ≡ before
CountsPut before now (Err failure) = now ≡ raised before
