-- What a sink tells of itself, and what becomes of one that is lent to a call.
-- Cited by `Sink::put`, `put_line` and `put_lines`; by `write_run` of diva_trace; by `top` of diva_cli.
use Rattle.std.specs.Prelude.{◌≡◌, ◌++◌, ◌≤◌, ℕ, List, Option, Result, OnOk, OnErr}
use Rattle.std.specs.Io.KnownBytes.{Appends}
use Rattle.diva_outside.specs.Causes.{Rose}
use Rattle.diva_outside.specs.Lent.{Lent, given, left}
use Rattle.diva_outside.specs.Text.{Text}

-- its contents, which are the bytes taken so far, where it tells them, and how often it has failed
pub record SinkAccount : Type 0 where
  pub contents : Option (List ℕ)
  pub faults : ℕ

-- a sink that was lent to a call
abbrev pub LentSink : Type 0 → Type 0
LentSink S = Lent S SinkAccount

-- where the contents are known, a prefix of the text was appended
pub record AppendsPart (old new : Option (List ℕ)) (text : Text) : Type 0 where
  pub front : List ℕ
  pub rest : List ℕ
  pub whole : text ≡ front ++ rest
  pub appended : Appends old new front

-- its count of faults rose
abbrev pub HasFailed : {S : Type 0} → LentSink S → Type 0
HasFailed sink = Rose (given sink).faults (left sink).faults

-- the text was appended, where the contents are known, and no fault was counted
pub record Takes {S : Type 0} (sink : LentSink S) (text : Text) : Type 0 where
  pub appended : Appends (given sink).contents (left sink).contents text
  pub uncounted : (left sink).faults ≡ (given sink).faults

-- a prefix of the text was appended
abbrev pub TakesPart : {S : Type 0} → LentSink S → Text → Type 0
TakesPart sink text = AppendsPart (given sink).contents (left sink).contents text

-- the same of a text that begins with what was put already: all of that was appended, and a prefix of what stands behind it
pub record TakesPast {S : Type 0} (sink : LentSink S) (put text : Text) : Type 0 where
  pub front : List ℕ
  pub rest : List ℕ
  pub whole : text ≡ put ++ front ++ rest
  pub appended : Appends (given sink).contents (left sink).contents (put ++ front)

-- the text was put: all of it and no fault was counted, or a prefix of it and one was
pub record PutsTo {S E : Type 0} (sink : LentSink S) (text : Text) (result : Result (Unit {0}) E) : Type 0 where
  pub later : (given sink).faults ≤ (left sink).faults
  pub ok : OnOk result (Appends (given sink).contents (left sink).contents text)
  pub uncounted : OnOk result ((left sink).faults ≡ (given sink).faults)
  pub part : OnErr result (TakesPart sink text)
  pub failed : OnErr result (HasFailed sink)
