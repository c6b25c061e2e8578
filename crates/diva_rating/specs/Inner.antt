-- What the parts of `rate_files` promise one another.
-- Only private contracts of this crate cite this: a reader of its promises can pass over it.
use Rattle.std.specs.Prelude.{ℕ, ◌≡◌, ◌⊎◌, List, Result, Err, ⊤}
use Rattle.diva_outside.specs.Files.{Contents, IsMissing}
use Rattle.diva_outside.specs.Lent.{given}
use Rattle.diva_outside.specs.Sink.{LentSink}
use Rattle.diva_outside.specs.Text.{Text}
use Rattle.diva_source.specs.Source.{HasFailed, LentSource}
use Rattle.diva_process.specs.Writing.{WritesLine}
use Rattle.diva_process.specs.declared.status.Status.{Status}
use Rattle.diva_process.specs.declared.status.Status.TheVariants as status
use Rattle.diva_process.specs.declared.stop.Failure.{Failure}
use Rattle.diva_rate.specs.Injections.{Injections, with_text}
use Rattle.diva_rate.specs.Rates.{Rates, rates_of}
use Rattle.diva_rating.specs.Rated.{HasKept, IsTextOf, StopsAt, no_memory_line, refused_line, unread_line}
use Rattle.diva_rating.specs.declared.rating.RateStop.{RateStop}
use Rattle.diva_rating.specs.declared.rating.RateStop.TheVariants as stop
use Rattle.diva_rating.specs.declared.rating.ReadStop.{ReadStop}
use Rattle.diva_rating.specs.declared.rating.ReadStop.TheVariants as read

-- a text was not read: a fault of the source was counted, or it is known that there is no such text; or memory ran out
abbrev pub CantRead : {D : Type 0} → LentSource D → (name : Text) → ReadStop → Type 0
CantRead source name read.Unread = HasFailed source ⊎ IsMissing (given source).contents name
CantRead source name read.Memory = ⊤

-- a file has a fault in a line
pub record HasFault (contents : Contents) (named name : Text) (line kind : ℕ) (kept : Injections) : Type 0 where
  pub same : named ≡ name
  pub bytes : Text
  pub read : IsTextOf contents name bytes
  pub first : with_text kept bytes ≡ Err (record { line = line; kind = kind })

-- the reading of files stopped at one of them
abbrev pub StopsReading : {D : Type 0} → LentSource D → (names : List Text) → RateStop → Type 0
StopsReading source names (stop.Unread named) =
    StopsAt (given source).contents names (λ name kept. (named.now ≡ name) × (HasFailed source ⊎ IsMissing (given source).contents name))
StopsReading source names (stop.Refused named line kind) =
    StopsAt (given source).contents names (λ name kept. HasFault (given source).contents named.now name line kind kept)
StopsReading source names stop.Memory = ⊤

-- these are the rates of the lines of some files
pub record HasRatesOf (contents : Contents) (names : List Text) (rates : Rates) : Type 0 where
  pub kept : Injections
  pub keeps : HasKept contents names kept
  pub are : rates ≡ rates_of kept

-- the line of a stop was written, with its status
abbrev pub WritesStop : {S : Type 0} → RateStop → LentSink S → Result Status Failure → Type 0
WritesStop (stop.Unread name) sink result = WritesLine (unread_line name.now) status.Unread sink result
WritesStop (stop.Refused name line kind) sink result = WritesLine (refused_line name.now (record { line = line; kind = kind })) status.Refused sink result
WritesStop stop.Memory sink result = WritesLine no_memory_line status.Unread sink result
