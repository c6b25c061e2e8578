-- A sink in memory, where puts fail as a test asks for it.
-- Cited by the type `MemSink`.
use Rattle.std.specs.Prelude.{ℕ, ◌-◌, List, [], ◌∷◌, ◌++◌, length, take, min, ◌||◌, ◌==◌, nat_lt, Bool, Option, Some, None, is_some, unwrap_or, if◌then◌else◌}
use Rattle.diva_outside.specs.Causes.{raised}
use Rattle.diva_outside.specs.Sink.{SinkAccount}
use Rattle.diva_outside.specs.declared.mem_sink.Fail.{Fail}

-- what was taken, how many bytes there is room for, the calls that are to fail, and how many calls and faults there were
pub record MemSink : Type 0 where
  pub bytes : List ℕ
  pub room : ℕ
  pub fails : List Fail
  pub calls : ℕ
  pub faults : ℕ

-- what it tells of itself: its contents are known
abbrev pub account_of : MemSink → SinkAccount
account_of s = record { contents = Some s.bytes; faults = s.faults }

-- how many bytes the call takes at most, `None` where it is not to fail
abbrev pub takes_of : List Fail → ℕ → Option ℕ
takes_of [] call = None
takes_of (fail ∷ fails) call = if fail.call == call then Some fail.takes else takes_of fails call

-- the same of the next call; calls are counted from 1
abbrev pub next_takes : MemSink → Option ℕ
next_takes s = takes_of s.fails (raised s.calls)

-- how many bytes of a piece are taken: all of them, as far as the call takes them and they fit
abbrev pub count_taken : MemSink → List ℕ → ℕ
count_taken s piece = min (min (unwrap_or (next_takes s) (length piece)) (length piece)) (s.room - length s.bytes)

-- whether the call is to fail, or the piece is cut
abbrev pub is_fault : MemSink → List ℕ → Bool
is_fault s piece = is_some (next_takes s) || nat_lt (count_taken s piece) (length piece)

-- the sink after a put
abbrev pub after_put : MemSink → List ℕ → MemSink
after_put s piece = record s {
  bytes = s.bytes ++ take (count_taken s piece) piece;
  calls = raised s.calls;
  faults = if is_fault s piece then raised s.faults else s.faults;
}
