-- Texts in memory, which are read in pieces of a given size, and where calls fail as a test asks for it.
-- Cited by the type `MemSource`.
use Rattle.std.specs.Prelude.{ℕ, List, Option, Some, None, Bool, ◌==◌, ◌&&◌, drop, is_some, length, min, option_map, if◌then◌else◌}
use Rattle.std.specs.List.{list_any}
use Rattle.diva_outside.specs.Causes.{raised}
use Rattle.diva_outside.specs.Named.{named_bytes, or_empty}
use Rattle.diva_outside.specs.Text.{Text}
use Rattle.diva_source.specs.Source.{SourceAccount}

-- the texts by name; the numbers of the calls that are to fail; how many bytes a read gives at most; what is yet to be read of the text
-- that is open, `None` if nothing is open; and how many calls and faults there were
pub record MemSource : Type 0 where
  pub texts : List (Text × Text)
  pub fails : List ℕ
  pub piece : ℕ
  pub rest : Option Text
  pub calls : ℕ
  pub faults : ℕ

-- what it tells of itself: the contents, which are known, are the bytes of each name
abbrev pub account_of : MemSource → SourceAccount
account_of s = record { contents = Some (named_bytes s.texts); rest = s.rest; limit = length (or_empty s.rest); faults = s.faults }

-- whether the next call is to fail; calls are counted from 1
abbrev pub is_to_fail : MemSource → Bool
is_to_fail s = list_any (λ call. call == raised s.calls) s.fails

-- what is open after a call of `open`: the name is looked up before the call is
abbrev pub opened_by : MemSource → Text → Option Text
opened_by s name = if is_to_fail s then None else named_bytes s.texts name

-- the source after a call of `open`: one more call, and one more fault if the name was found and the call failed
abbrev pub after_open : MemSource → Text → MemSource
after_open s name = record s {
  rest = opened_by s name;
  calls = raised s.calls;
  faults = if is_to_fail s && is_some (named_bytes s.texts name) then raised s.faults else s.faults;
}

-- how many bytes a read with that much room gives, `None` if it fails: the call is to, or nothing is open
abbrev pub count_read : MemSource → ℕ → Option ℕ
count_read s room = if is_to_fail s then None else option_map (λ rest. min (min (length rest) s.piece) room) s.rest

-- the source after a read of that many bytes, or one that failed: one more call, and one more fault if it failed
abbrev pub after_read : MemSource → Option ℕ → MemSource
after_read s None = record s { calls = raised s.calls; faults = raised s.faults }
after_read s (Some count) = record s { rest = option_map (drop count) s.rest; calls = raised s.calls }
