-- What a core hands over that plays a tape, seen as the lists that are yet to come.
-- Cited by what `TapeCore` gives, and `tape_core_plays`.
use Rattle.std.specs.Prelude.{◌≡◌, ℕ, List, [], ◌∷◌, ◌++◌, take, replicate}
use Rattle.diva_isa.specs.declared.record.Record.{Record}
use Rattle.diva_core.specs.History.{Meaning}

-- the list that comes next: an empty one past the last
abbrev pub next_list : List (List Record) → List Record
next_list [] = []
next_list (list ∷ lists) = list

-- the lists after that one
abbrev pub later_lists : List (List Record) → List (List Record)
later_lists [] = []
later_lists (list ∷ lists) = lists

-- the meaning of the core: in each call the next list, whatever it is told
pub record IsTapeCall (before : List (List Record)) (list : List Record) (after : List (List Record)) : Type 0 where
  pub next : list ≡ next_list before
  pub later : after ≡ later_lists before

abbrev pub tape_call : Meaning (List (List Record))
tape_call = λ before told s list after. IsTapeCall before list after

-- what n calls hand over: the lists of the tape, then empty ones
abbrev pub played : ℕ → List (List Record) → List (List Record)
played n lists = take n (lists ++ replicate n [])
