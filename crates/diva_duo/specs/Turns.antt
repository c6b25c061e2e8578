-- Turns of two harts and their cores, one for each cycle.
-- Cited by `drive2`.
use Rattle.std.specs.Prelude.{◌≡◌, ◌+◌, ◌==◌, List, [], ◌∷◌, ◌++◌, length, map, Bool, true, false, Some}
use Rattle.diva_isa.specs.declared.record.Record.{Record}
use Rattle.diva_core.specs.Told.{told_of}
use Rattle.diva_core.specs.History.{Meaning}
use Rattle.diva_duo.specs.Duo.{Duo, actions, duo_cycle_of, harts_of, is_over}
use Rattle.diva_duo.specs.Harts.{replay}
use Rattle.diva_duo.specs.Headline.{AddsRowsAt, AreCyclesAt}
use Rattle.diva_duo.specs.Shown.{Shown}
use Rattle.diva_duo.specs.Which.{Which, First, Second, hart_at, machine_at}
use Rattle.diva_duo.specs.declared.action.Action.{Action}

-- a core hands over the list of its hart, where that goes on: its `gives` says so at what the hart is told and at the state that it
-- sees. The core of an ended hart is not asked, and its list is empty
abbrev pub HandsOverBy : {C : Type 0} → Meaning C → (goes_on : Bool) → Which → Duo → C → List Record → C → Type 0
HandsOverBy gives true w d core list after = gives core (told_of (machine_at w d)) (machine_at w d).arch list after
HandsOverBy gives false w d core list after = (list ≡ []) × (after ≡ core)

abbrev pub HandsOver : {C : Type 0} → Meaning C → Which → Duo → C → List Record → C → Type 0
HandsOver gives w d core list after = HandsOverBy gives ((hart_at w d).state.end == 0) w d core list after

-- what is handed over in a cycle, and the cores after it
pub record DuoTurn (A B : Type 0) : Type 0 where
  pub first : List Record
  pub first_core : A
  pub second : List Record
  pub second_core : B

-- a history leads from two harts and their cores to others
abbrev pub IsDuoHistory : {A B : Type 0} → Meaning A → Meaning B → Duo → A → B → List (DuoTurn A B) → Duo → A → B → Type 0
IsDuoHistory gives_a gives_b d a b [] last final_a final_b = (last ≡ d) × (final_a ≡ a) × (final_b ≡ b)
IsDuoHistory gives_a gives_b d a b (t ∷ rest) last final_a final_b =
    (is_over d ≡ false)
    × HandsOver gives_a First d a t.first t.first_core
    × HandsOver gives_b Second d b t.second t.second_core
    × IsDuoHistory gives_a gives_b (duo_cycle_of d t.first t.second) t.first_core t.second_core rest last final_a final_b

-- turns lead from two harts and their cores to others, one for each cycle
pub record DuoTurns {A B : Type 0} (gives_a : Meaning A) (gives_b : Meaning B) (d : Duo) (a : A) (b : B) (last : Duo) (final_a : A) (final_b : B) : Type 0 where
  pub history : List (DuoTurn A B)
  pub good : IsDuoHistory gives_a gives_b d a b history last final_a final_b
  pub each : last.cycles ≡ d.cycles + length history

-- the pairs of lists of a history, in order
abbrev pub pairs_of : {A B : Type 0} → List (DuoTurn A B) → List (List Record × List Record)
pairs_of history = map (λ t. (t.first, t.second)) history

-- ---- the actions of these pairs of lists

-- all of them, in order
abbrev pub acted_by : Duo → List (List Record × List Record) → List Action
acted_by d [] = []
acted_by d (lists ∷ rest) = actions d (duo_cycle_of d lists.0 lists.1) ++ acted_by (duo_cycle_of d lists.0 lists.1) rest

-- those of the last cycle; where there is none, those before it
abbrev pub last_acted : (before : List Action) → Duo → List (List Record × List Record) → List Action
last_acted before d [] = before
last_acted before d (lists ∷ rest) = last_acted (actions d (duo_cycle_of d lists.0 lists.1)) (duo_cycle_of d lists.0 lists.1) rest

-- turns lead from a duo and its cores to others. Their actions, replayed, lead from the harts to the last ones, and the duo shows
-- those of the last cycle; where no turn was taken, those that it showed before. In each cycle each hart commits equal claims that had
-- waited, or the one instruction that ran solo for six cycles; and the rows that were added to its log are those of its flushes
pub record DrivesDuo {A B : Type 0} (gives_a : Meaning A) (gives_b : Meaning B) (d : Shown) (a : A) (b : B) (last : Shown) (final_a : A) (final_b : B) : Type 0 where
  pub turns : DuoTurns gives_a gives_b d.duo a b last.duo final_a final_b
  pub replayed : replay (acted_by d.duo (pairs_of turns.history)) (harts_of d.duo) ≡ Some (harts_of last.duo)
  pub shows : last.last ≡ last_acted d.last d.duo (pairs_of turns.history)
  pub committed : (w : Which) → AreCyclesAt w d.duo (pairs_of turns.history)
  pub rows : (w : Which) → AddsRowsAt w d.duo (pairs_of turns.history) last.duo
