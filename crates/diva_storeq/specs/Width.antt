-- How many bytes a store has.
-- Only private contracts of this crate cite this: a reader of its promises can pass over it.
use Rattle.std.specs.Prelude.{ℕ, ◌==◌, ◌||◌, Bool}

-- one byte, a half word or a word
abbrev pub is_width : ℕ → Bool
is_width n = n == 1 || n == 2 || n == 4
