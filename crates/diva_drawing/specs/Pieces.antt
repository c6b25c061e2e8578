-- A text on its way to a sink, which takes it in pieces.
-- Only private contracts of this crate cite this: a reader of its promises can pass over it.
use Rattle.std.specs.Prelude.{ℕ, ◌≡◌, ◌≤◌, List, ◌++◌, Result, OnOk, OnErr}
use Rattle.std.specs.Io.KnownBytes.{Appends}
use Rattle.diva_outside.specs.Lent.{given, left}
use Rattle.diva_outside.specs.Sink.{LentSink, HasFailed, TakesPart}

-- a text was written behind what was held: of both, the sink took the front, with no fault, and the rest is held; or it failed, and
-- took a prefix
pub record Passes {S E : Type 0} (sink : LentSink S) (text held rest : List ℕ) (result : Result (Unit {0}) E) : Type 0 where
  pub later : (given sink).faults ≤ (left sink).faults
  pub taken : List ℕ
  pub whole : OnOk result (held ++ text ≡ taken ++ rest)
  pub ok : OnOk result (Appends (given sink).contents (left sink).contents taken)
  pub uncounted : OnOk result ((left sink).faults ≡ (given sink).faults)
  pub part : OnErr result (TakesPart sink (held ++ text))
  pub failed : OnErr result (HasFailed sink)
