-- What the core keeps of the entries of its window.
-- Only private contracts of this crate cite this: a reader of its promises can pass over it.
use Rattle.std.specs.Prelude.{◌≡◌, ℕ, zero, suc, ◌<◌, ◌≤◌, ◌+◌, ◌==◌, ◌&&◌, ◌||◌, not, length, get_or, List, [], ◌∷◌, ◌++◌, Bool, true, false}
use Rattle.diva_core.specs.Cycle.{is_store}
use Rattle.diva_ooo.specs.WindowEntry.{WindowEntry, profile_of}
use Rattle.diva_ooo.specs.declared.board.Board.{Board}
use Rattle.diva_ooo.specs.declared.mark_set.MarkSet.{MarkSet}
use Rattle.diva_ooo.specs.declared.profile.Class.{Class}
use Rattle.diva_ooo.specs.declared.profile.Class.TheVariants.{Plain, Loads, Stores, Oldest}
use Rattle.diva_ooo.specs.Finish.{is_running}
use Rattle.diva_ooo.specs.Issue.{can_begin, is_available, is_done, is_storing, is_waiting}
use Rattle.diva_ahead.specs.Effects.{done_by}
use Rattle.diva_ooo.specs.MarkSets.{AreThose, has, holds_at}

-- an entry writes a register, or reads it; none does x0
abbrev pub writes : ℕ → WindowEntry → Bool
writes n e = ((profile_of e).rd == n) && not (n == 0)

abbrev pub reads : ℕ → WindowEntry → Bool
reads n e = (((profile_of e).rs1 == n) || ((profile_of e).rs2 == n)) && not (n == 0)

abbrev pub has_result : ℕ → WindowEntry → Bool
has_result n e = writes n e && is_done e.progress

-- a store that is not done
abbrev pub is_open_store : WindowEntry → Bool
is_open_store e = not (is_done e.progress) && is_storing (profile_of e).class

abbrev pub is_loading : Class → Bool
is_loading Plain = false
is_loading Loads = true
is_loading Stores = false
is_loading Oldest = false

abbrev pub is_load : WindowEntry → Bool
is_load e = is_loading (profile_of e).class

-- whether the entry at a place waits and has its sources, behind the older ones
abbrev pub could_at : (older : List WindowEntry) → List WindowEntry → ℕ → Bool
could_at older [] i = false
could_at older (e ∷ rest) zero = is_waiting e.progress && (is_available older (profile_of e).rs1 && is_available older (profile_of e).rs2)
could_at older (e ∷ rest) (suc i) = could_at (older ++ e ∷ []) rest i

abbrev pub no_mark : MarkSet
no_mark = record { bits = 0 }

-- the board is that of the entries
pub record IsBoard (w : List WindowEntry) (b : Board) : Type 0 where
  pub base : b.base ≤ 32
  pub waiting : AreThose (λ e. is_waiting e.progress) w b.base b.waiting
  pub running : AreThose (λ e. is_running e.progress) w b.base b.running
  pub done : AreThose (λ e. is_done e.progress) w b.base b.done
  -- those that are gone were done
  pub gone : (i : ℕ) → i < b.base → has b.done i ≡ true
  pub storing : AreThose is_open_store w b.base b.storing
  pub stored : AreThose (λ e. is_store (done_by e.result)) w b.base b.stored
  pub loads : AreThose is_load w b.base b.loads
  -- no other than a candidate could begin
  pub candidates : (i : ℕ) → has b.candidates (b.base + i) ≡ false → could_at [] w i ≡ false
  pub write_sets : length b.writers ≡ 32
  pub read_sets : length b.readers ≡ 32
  pub writers : (n : ℕ) → n < 32 → AreThose (writes n) w b.base (get_or b.writers n no_mark)
  pub readers : (n : ℕ) → n < 32 → AreThose (reads n) w b.base (get_or b.readers n no_mark)

-- whether the entry at a place can begin, behind the older ones
abbrev pub can_at : (older : List WindowEntry) → List WindowEntry → ℕ → Bool
can_at older [] i = false
can_at older (e ∷ rest) zero = can_begin older e
can_at older (e ∷ rest) (suc i) = can_at (older ++ e ∷ []) rest i

-- n is the first place from one on whose entry has a property
pub record IsNextOf (p : WindowEntry → Bool) (w : List WindowEntry) (from n : ℕ) : Type 0 where
  pub behind : from ≤ n
  pub there : holds_at p w n ≡ true
  pub first : (i : ℕ) → from ≤ i → i < n → holds_at p w i ≡ false

-- n is the last place before one whose entry has a property
pub record IsLastOf (p : WindowEntry → Bool) (w : List WindowEntry) (end n : ℕ) : Type 0 where
  pub before : n < end
  pub there : holds_at p w n ≡ true
  pub last : (i : ℕ) → n < i → i < end → holds_at p w i ≡ false

-- an entry between two places writes a register
pub record IsWrittenBetween (w : List WindowEntry) (r from to : ℕ) : Type 0 where
  pub place : ℕ
  pub behind : from < place
  pub before : place < to
  pub there : holds_at (writes r) w place ≡ true
