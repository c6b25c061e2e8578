-- What is read of a source into a piece, from which lines are taken.
-- Cited by `Piece::refill` and `SourceLines::has_more`.
use Rattle.std.specs.Prelude.{◌≡◌, ◌≤◌, ◌+◌, ◌==◌, Bool, not, [], Result, OnOk, OnErr, IfOk, length}
use Rattle.std.specs.Io.KnownBytes.{Consumes, IsAtEnd, Keeps}
use Rattle.diva_outside.specs.Lent.{given, left}
use Rattle.diva_outside.specs.Text.{Text}
use Rattle.diva_source.specs.Source.{LentSource, HasFailed, IsUncounted}

-- a piece was read of the source, which is empty only at the end; or nothing was, and a fault was counted
pub record Refills {D E : Type 0} (source : LentSource D) (piece : Text) (result : Result (Unit {0}) E) : Type 0 where
  pub stays : (left source).contents ≡ (given source).contents
  pub later : (given source).faults ≤ (left source).faults
  pub taken : Consumes (given source).rest (left source).rest piece
  pub fewer : length piece + (left source).limit ≤ (given source).limit
  pub at_end : OnOk result (length piece ≡ 0 → IsAtEnd (left source).rest)
  pub uncounted : OnOk result (IsUncounted source)
  pub none : OnErr result (piece ≡ [])
  pub failed : OnErr result (HasFailed source)

-- what is yet to come stays, and some of it is at hand, or it is known that there is nothing; or a fault was counted
pub record HasMore {L E : Type 0} (lines : LentSource L) (piece : Text) (result : Result Bool E) : Type 0 where
  pub stays : (left lines).contents ≡ (given lines).contents
  pub later : (given lines).faults ≤ (left lines).faults
  pub kept : Keeps (given lines).rest (left lines).rest
  pub fewer : (left lines).limit ≤ (given lines).limit
  pub some : IfOk result (λ more. more ≡ not (length piece == 0))
  pub at_end : IfOk result (λ more. length piece ≡ 0 → IsAtEnd (left lines).rest)
  pub uncounted : OnOk result (IsUncounted lines)
  pub failed : OnErr result (HasFailed lines)
