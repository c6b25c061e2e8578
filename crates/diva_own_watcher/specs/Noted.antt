-- What is noted of a turn: the word of the instruction that was flushed in it.
-- Cited by the type `FlushNotes`.
use Rattle.std.specs.Prelude.{ℕ, ◌==◌, ◌++◌, Bool, false, List, [], ◌∷◌, Option, Some, None, if◌then◌else◌}
use Rattle.diva_isa.specs.State.{word_of}
use Rattle.diva_core.specs.Timed.{Timed}
use Rattle.diva_core.specs.declared.flushes.FlushRow.{FlushRow}

-- whether the newest flush, if there is one, came in this cycle
abbrev pub came_in : (cycle : ℕ) → Option FlushRow → Bool
came_in cycle None = false
came_in cycle (Some row) = row.cycle == cycle

-- a list with one item more, if there is one
abbrev pub with_item : List ℕ → Option ℕ → List ℕ
with_item items None = items
with_item items (Some item) = items ++ item ∷ []

-- if the last cycle of a machine flushed, the words with the one at its pc, which is the instruction that is due
abbrev pub noted : List ℕ → Timed → List ℕ
noted words m = if came_in m.cycles m.under.log.newest then with_item words (word_of m.arch m.arch.pc) else words
