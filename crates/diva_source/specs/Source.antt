-- What a source tells of itself, and what becomes of one that is lent to a call.
-- Cited by `Source::open` and `Source::read`.
use Rattle.std.specs.Prelude.{◌≡◌, ◌≤◌, ◌<◌, ◌+◌, ◌^◌, ◌⊎◌, ℕ, Option, Some, None, Result, OnOk, OnErr, IfOk, IsErr, length, ⊤}
use Rattle.std.specs.Io.KnownBytes.{ReadConsumes}
use Rattle.diva_outside.specs.Causes.{Rose}
use Rattle.diva_outside.specs.Files.{Contents, IsMissing}
use Rattle.diva_outside.specs.Lent.{Lent, given, left}
use Rattle.diva_outside.specs.Text.{Text}

-- the contents of its texts, for each name its bytes, if they are known; what is yet to be read of the text that is open, `None` if that
-- is not known or nothing is open; how many bytes at most are yet to be read of it; and how often opening or reading has failed
pub record SourceAccount : Type 0 where
  pub contents : Contents
  pub rest : Option Text
  pub limit : ℕ
  pub faults : ℕ

-- a source that was lent to a call
abbrev pub LentSource : Type 0 → Type 0
LentSource D = Lent D SourceAccount

-- its count of faults rose
abbrev pub HasFailed : {D : Type 0} → LentSource D → Type 0
HasFailed source = Rose (given source).faults (left source).faults

-- no fault was counted
abbrev pub IsUncounted : {D : Type 0} → LentSource D → Type 0
IsUncounted source = (left source).faults ≡ (given source).faults

-- if the contents are known, the name has bytes, and these are yet to be read
abbrev pub IsAllOf : Contents → Text → Option Text → Type 0
IsAllOf None name rest = ⊤
IsAllOf (Some bytes_of) name None = ⊥
IsAllOf (Some bytes_of) name (Some bytes) = bytes_of name ≡ Some bytes

-- the text of that name was opened, all of which is yet to be read and no fault was counted; or nothing is open, and a fault was counted,
-- unless it is known that no text has the name
pub record Opens {D E : Type 0} (source : LentSource D) (name : Text) (result : Result (Unit {0}) E) : Type 0 where
  pub stays : (left source).contents ≡ (given source).contents
  pub later : (given source).faults ≤ (left source).faults
  pub opened : OnOk result (IsAllOf (given source).contents name (left source).rest)
  pub bounded : (left source).limit < 2 ^ 64
  pub uncounted : OnOk result (IsUncounted source)
  pub closed : OnErr result ((left source).rest ≡ None)
  pub failed : OnErr result (HasFailed source ⊎ IsMissing (given source).contents name)
  pub missing : IsMissing (given source).contents name → IsErr result × IsUncounted source

-- bytes that come next were read to the front of a buffer, none only at the end or if the buffer has no room, and no fault was counted; or
-- nothing was read, and one was
pub record Reads {D E : Type 0} (source : LentSource D) (buffer : Text) (result : Result ℕ E) : Type 0 where
  pub stays : (left source).contents ≡ (given source).contents
  pub later : (given source).faults ≤ (left source).faults
  pub bound : IfOk result (λ count. count ≤ length buffer)
  pub bytes : ReadConsumes (given source).rest (left source).rest result buffer
  pub fewer : IfOk result (λ count. count + (left source).limit ≤ (given source).limit)
  pub uncounted : OnOk result (IsUncounted source)
  pub none_fewer : OnErr result ((left source).limit ≤ (given source).limit)
  pub failed : OnErr result (HasFailed source)
