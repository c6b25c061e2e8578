-- Turns of two harts, one after another.
use Rattle.std.proofs.Common.{◌≡◌, ◌+◌, List, [], ◌∷◌, ◌++◌, false, refl, ap, sym, ◌∙◌, arith, length-append, subst}
use Rattle.std.proofs.lemmas.List.{append-nil, append_assoc, map-append}
use Rattle.diva_isa.specs.declared.record.Record.{Record}
use Rattle.diva_core.specs.History.{Meaning}
use Rattle.diva_duo.specs.declared.action.Action.{Action}
use Rattle.diva_duo.specs.Harts.{replay}
use Rattle.diva_duo.specs.Duo.{Duo, actions, duo_cycle_of, harts_of, is_over}
use Rattle.diva_duo.specs.Which.{First, Second}
use Rattle.diva_duo.specs.Between.{IsDuo, duo_run}
use Rattle.diva_duo.specs.Shown.{Shown}
use Rattle.diva_duo.specs.Headline.{AddsRowsAt}
use Rattle.diva_duo.specs.Turns.{HandsOver, DrivesDuo, DuoTurn, DuoTurns, IsDuoHistory, acted_by, last_acted, pairs_of}
use Rattle.diva_duo.proofs.Cycles.{cycles_more, replays_actions}
use Rattle.diva_duo.proofs.Logging.{adds_rows, are_cycles}
use Rattle.diva_duo.proofs.Replaying.{replay_then}

abbrev Pair : Type 0
Pair = List Record × List Record

module _ {A B : Type 0} (gives_a : Meaning A) (gives_b : Meaning B) where
  history_more :
      (d : Duo) (a : A) (b : B) (history : List (DuoTurn A B)) (mid : Duo) (between_a : A) (between_b : B) (t : DuoTurn A B)
      → IsDuoHistory gives_a gives_b d a b history mid between_a between_b
      → is_over mid ≡ false
      → HandsOver gives_a First mid between_a t.first t.first_core
      → HandsOver gives_b Second mid between_b t.second t.second_core
      → IsDuoHistory gives_a gives_b d a b (history ++ t ∷ []) (duo_cycle_of mid t.first t.second) t.first_core t.second_core
  history_more d a b [] mid between_a between_b t h over x y = rw (← h.0, ← h.1, ← h.2) (over, x, y, (refl, refl, refl))
  history_more d a b (u ∷ rest) mid between_a between_b t h over x y =
      (h.0, h.1, h.2, history_more (duo_cycle_of d u.first u.second) u.first_core u.second_core rest mid between_a between_b t h.3 over x y)

  turns_more :
      (d : Duo) (a : A) (b : B) (mid : Duo) (between_a : A) (between_b : B) (t : DuoTurn A B)
      → DuoTurns gives_a gives_b d a b mid between_a between_b
      → is_over mid ≡ false
      → HandsOver gives_a First mid between_a t.first t.first_core
      → HandsOver gives_b Second mid between_b t.second t.second_core
      → (duo_cycle_of mid t.first t.second).cycles ≡ mid.cycles + 1
      → DuoTurns gives_a gives_b d a b (duo_cycle_of mid t.first t.second) t.first_core t.second_core
  turns_more d a b mid between_a between_b t turns over x y next =
      record {
        history = turns.history ++ t ∷ [];
        good = history_more d a b turns.history mid between_a between_b t turns.good over x y;
        each = rw length-append (let e = turns.each in omega arith);
      }

  -- a history leads to the run of its pairs
  pub history_run : (d : Duo) (a : A) (b : B) (history : List (DuoTurn A B)) (last : Duo) (final_a : A) (final_b : B)
      → IsDuoHistory gives_a gives_b d a b history last final_a final_b → last ≡ duo_run d (pairs_of history)
  history_run d a b [] last final_a final_b h = h.0
  history_run d a b (t ∷ rest) last final_a final_b h = history_run (duo_cycle_of d t.first t.second) t.first_core t.second_core rest last final_a final_b h.3

-- one pair more
acted_more : (d : Duo) (pairs : List Pair) (p : Pair) → acted_by d (pairs ++ p ∷ []) ≡ acted_by d pairs ++ actions (duo_run d pairs) (duo_cycle_of (duo_run d pairs) p.0 p.1)
acted_more d [] p = append-nil (actions d (duo_cycle_of d p.0 p.1))
acted_more d (q ∷ rest) p =
    let e = duo_cycle_of d q.0 q.1 in
    ap (λ (xs : List Action). actions d e ++ xs) (acted_more e rest p)
    ∙ sym (append_assoc (actions d e) (acted_by e rest) (actions (duo_run e rest) (duo_cycle_of (duo_run e rest) p.0 p.1)))

last_more : (before : List Action) (d : Duo) (pairs : List Pair) (p : Pair) → last_acted before d (pairs ++ p ∷ []) ≡ actions (duo_run d pairs) (duo_cycle_of (duo_run d pairs) p.0 p.1)
last_more before d [] p = refl
last_more before d (q ∷ rest) p = last_more (actions d (duo_cycle_of d q.0 q.1)) (duo_cycle_of d q.0 q.1) rest p

module _ {A B : Type 0} (gives_a : Meaning A) (gives_b : Meaning B) where
  pub drives_none : (d : Shown) (a : A) (b : B) → IsDuo d.duo → DrivesDuo gives_a gives_b d a b d a b
  drives_none d a b inv =
      record {
        turns = record { history = []; good = (refl, refl, refl); each = omega arith };
        replayed = refl;
        shows = refl;
        committed = λ w. tt;
        rows = λ w. adds_rows w [] d.duo inv;
      }

  -- one turn more
  pub drives_more :
      (d : Shown) (a : A) (b : B) (mid : Shown) (between_a : A) (between_b : B) (t : DuoTurn A B) (last : Shown)
      → DrivesDuo gives_a gives_b d a b mid between_a between_b
      → IsDuo d.duo
      → IsDuo mid.duo
      → is_over mid.duo ≡ false
      → HandsOver gives_a First mid.duo between_a t.first t.first_core
      → HandsOver gives_b Second mid.duo between_b t.second t.second_core
      → last.duo ≡ duo_cycle_of mid.duo t.first t.second
      → last.last ≡ actions mid.duo last.duo
      → DrivesDuo gives_a gives_b d a b last t.first_core t.second_core
  unfolding turns_more
  drives_more d a b mid between_a between_b t last drives began sound over x y is acts =
      let turns = drives.turns in
      let pairs = pairs_of turns.history in
      let e = duo_cycle_of mid.duo t.first t.second in
      let p : Pair = (t.first, t.second) in
      let at : mid.duo ≡ duo_run d.duo pairs = history_run gives_a gives_b d.duo a b turns.history mid.duo between_a between_b turns.good in
      let more : pairs_of (turns.history ++ t ∷ []) ≡ pairs ++ p ∷ [] = map-append (λ (u : DuoTurn A B). (u.first, u.second)) turns.history (t ∷ []) in
      let here : actions mid.duo e ≡ actions (duo_run d.duo pairs) (duo_cycle_of (duo_run d.duo pairs) t.first t.second) = ap (λ (z : Duo). actions z (duo_cycle_of z t.first t.second)) at in
      let acted : acted_by d.duo (pairs_of (turns.history ++ t ∷ [])) ≡ acted_by d.duo pairs ++ actions mid.duo e =
      ap (acted_by d.duo) more ∙ acted_more d.duo pairs p ∙ ap (λ (xs : List Action). acted_by d.duo pairs ++ xs) (sym here) in
      let step = replays_actions mid.duo sound t.first t.second in
      let further = turns_more gives_a gives_b d.duo a b mid.duo between_a between_b t turns over x y (cycles_more mid.duo sound t.first t.second over) in
      let reached = history_run gives_a gives_b d.duo a b further.history e t.first_core t.second_core further.good in
      rw is (record {
        turns = further;
        replayed = ap (λ (xs : List Action). replay xs (harts_of d.duo)) acted ∙ replay_then (acted_by d.duo pairs) (actions mid.duo e) (harts_of d.duo) (harts_of mid.duo) (harts_of e) drives.replayed step;
        shows = acts ∙ ap (actions mid.duo) is ∙ here ∙ sym (ap (last_acted d.last d.duo) more ∙ last_more d.last d.duo pairs p);
        committed = λ w. are_cycles w (pairs_of further.history) d.duo began;
        rows = λ w. subst (AddsRowsAt w d.duo (pairs_of further.history)) (sym reached) (adds_rows w (pairs_of further.history) d.duo began);
      })
