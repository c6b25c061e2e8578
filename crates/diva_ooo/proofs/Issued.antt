-- Entries are passed until one can begin.
use Rattle.std.proofs.Common.{◌≡◌, ◌<◌, ◌≤◌, ℕ, zero, suc, ◌+◌, ◌-◌, List, [], ◌∷◌, ◌++◌, length, take, drop, Some, Bool, true, false, ◌&&◌, ◌||◌, ◌==◌, not, refl, ap, sym, ◌∙◌, arith, slice_get, append_assoc, subst}
use Rattle.std.specs.Prelude.{slice_set, nat_lt}
use Rattle.std.proofs.lemmas.Bool.Decides.{nat_tests}
use Rattle.std.proofs.lemmas.Grind.{common_steps}
use Rattle.std.proofs.lemmas.List.{append-nil, take-append-drop}
use Rattle.diva_isa.specs.State.{State}
use Rattle.diva_ahead.specs.Ahead.{Ahead}
use Rattle.diva_ooo.specs.WindowEntry.{WindowEntry, profile_of}
use Rattle.diva_ooo.specs.declared.profile.Class.{Class}
use Rattle.diva_ooo.specs.declared.profile.Class.TheVariants.{Plain, Loads, Stores, Oldest}
use Rattle.diva_ooo.specs.declared.profile.Profile.{Profile}
use Rattle.diva_ooo.specs.Board.{can_at, is_load}
use Rattle.diva_ooo.specs.Issue.{are_stored, begins, can_begin, is_available, is_done, is_free, is_ready, is_storing, is_waiting, issued_from, started}
use Rattle.diva_ooo.specs.MarkSets.{holds_at}
use Rattle.diva_ooo.proofs.Boarding.{alike_more, staged_same, waits_only}
use Rattle.diva_ooo.proofs.Places.{drop_at, drop_more, take_more, take_set_at, drop_set_at}
use Rattle.diva_ooo.proofs.Windowing.{can_here}

waits_here : (w : List WindowEntry) (at : ℕ) (e : WindowEntry) → holds_at (λ x. is_waiting x.progress) w at ≡ true → slice_get w at ≡ Some e → is_waiting e.progress ≡ true
waits_here [] at e waits is = absurd (cc)
waits_here (x ∷ w) zero e waits is = let here : x ≡ e = cc in ap (λ (z : WindowEntry). is_waiting z.progress) (sym here) ∙ waits
waits_here (x ∷ w) (suc at) e waits is = waits_here w at e waits is

-- the entry at a place waits
pub waits_at : (w asked : List WindowEntry) (at : ℕ) (e : WindowEntry) → asked ≡ w → holds_at (λ x. is_waiting x.progress) w at ≡ true → slice_get asked at ≡ Some e → is_waiting e.progress ≡ true
waits_at w asked at e same waits is = waits_here w at e waits (ap (λ (z : List WindowEntry). slice_get z at) (sym same) ∙ is)

-- ---- those that are passed stay

and_off : (b : Bool) → (b && false) ≡ false
and_off true = refl
and_off false = refl

begins_not : (begun : ℕ) (older : List WindowEntry) (e : WindowEntry) → can_begin older e ≡ false → begins begun older e ≡ false
begins_not begun older e idle = rw idle (and_off (nat_lt begun 2))

stay_one : (ahead : Ahead) (s : State) (begun : ℕ) (older rest : List WindowEntry) (e : WindowEntry) → can_begin older e ≡ false → issued_from ahead s begun older (e ∷ rest) ≡ issued_from ahead s begun (older ++ e ∷ []) rest
stay_one ahead s begun older rest e idle = rw (begins_not begun older e idle) refl

stay : (ahead : Ahead) (s : State) (begun : ℕ) (older w : List WindowEntry) (n : ℕ) → ((i : ℕ) → i < n → can_at older w i ≡ false) → issued_from ahead s begun older w ≡ issued_from ahead s begun (older ++ take n w) (drop n w)
stay ahead s begun older w zero none = ap (λ (o : List WindowEntry). issued_from ahead s begun o w) (sym (append-nil older))
stay ahead s begun older [] (suc n) none = ap (λ (o : List WindowEntry). issued_from ahead s begun o []) (sym (append-nil older))
stay ahead s begun older (e ∷ w) (suc n) none =
    stay_one ahead s begun older w e (none 0 (omega arith))
    ∙ stay ahead s begun (older ++ e ∷ []) w n (λ i lt. none (suc i) (omega arith))
    ∙ ap (λ (o : List WindowEntry). issued_from ahead s begun o (drop n w)) (append_assoc older (e ∷ []) (take n w))

can_behind : (older w : List WindowEntry) (at i : ℕ) → can_at (older ++ take at w) (drop at w) i ≡ can_at older w (at + i)
can_behind older w zero i = let e : 0 + i ≡ i = omega arith in rw e (ap (λ (o : List WindowEntry). can_at o w i) (append-nil older))
can_behind older [] (suc at) i = refl
can_behind older (e ∷ w) (suc at) i =
    let e' : suc at + i ≡ suc (at + i) = omega arith in
    rw e' (ap (λ (o : List WindowEntry). can_at o (drop at w) i) (sym (append_assoc older (e ∷ []) (take at w))) ∙ can_behind (older ++ e ∷ []) w at i)

-- none can begin from one place on up to another
pub passed_stay : (ahead : Ahead) (s : State) (begun : ℕ) (w : List WindowEntry) (at n : ℕ) → at ≤ n → ((i : ℕ) → at ≤ i → i < n → can_at [] w i ≡ false) → issued_from ahead s begun (take at w) (drop at w) ≡ issued_from ahead s begun (take n w) (drop n w)
passed_stay ahead s begun w at n h none =
    let sum : at + (n - at) ≡ n = omega arith in
    stay ahead s begun (take at w) (drop at w) (n - at) (λ i lt. can_behind [] w at i ∙ none (at + i) (omega arith) (omega arith))
    ∙ rw (sym (take_more w at (n - at)), sym (drop_more w at (n - at)), sum) refl

-- the one at a place cannot begin
pub passed_one : (ahead : Ahead) (s : State) (begun : ℕ) (w : List WindowEntry) (at : ℕ) → at < length w → can_at [] w at ≡ false → issued_from ahead s begun (take at w) (drop at w) ≡ issued_from ahead s begun (take (at + 1) w) (drop (at + 1) w)
passed_one ahead s begun w at h idle = passed_stay ahead s begun w at (at + 1) (omega arith) (λ i a b. let same : i ≡ at = omega arith in ap (can_at [] w) same ∙ idle)

-- ---- one begins

begun_by : (ahead : Ahead) (s : State) (begun : ℕ) (older rest : List WindowEntry) (e : WindowEntry) → begun < 2 → can_begin older e ≡ true
    → issued_from ahead s begun older (e ∷ rest) ≡ issued_from ahead s (begun + 1) (older ++ started ahead s older e ∷ []) rest
begun_by ahead s begun older rest e few can = let test : nat_lt begun 2 ≡ true = grind (arith, nat_tests) in rw (test, can) refl

begun_one : (ahead : Ahead) (s : State) (begun : ℕ) (w new : List WindowEntry) (at : ℕ) (e : WindowEntry) → slice_get w at ≡ Some e → begun < 2 → can_begin (take at w) e ≡ true
    → new ≡ slice_set w at (started ahead s (take at w) e)
    → issued_from ahead s (begun + 1) (take (at + 1) new) (drop (at + 1) new) ≡ issued_from ahead s begun (take at w) (drop at w)
begun_one ahead s begun w new at e is few can n =
    rw (n, take_set_at w at e (started ahead s (take at w) e) is, drop_set_at w at (started ahead s (take at w) e), drop_at w at e is) (sym (begun_by ahead s begun (take at w) (drop (at + 1) w) e few can))

get_some : {X : Type 0} (xs : List X) (i : ℕ) → i < length xs → (P : Type 0) → ((x : X) → slice_get xs i ≡ Some x → P) → P
get_some [] i h P f = absurd (omega arith)
get_some (x ∷ xs) zero h P f = f x refl
get_some (x ∷ xs) (suc i) h P f = get_some xs i (omega arith) P f

-- the one at a place begins
pub begun_next : (ahead : Ahead) (s : State) (begun : ℕ) (w asked new : List WindowEntry) (at : ℕ) → begun < 2 → at < length w → can_at [] w at ≡ true → asked ≡ w
    → ((e : WindowEntry) → slice_get asked at ≡ Some e → new ≡ slice_set asked at (started ahead s (take at asked) e))
    → issued_from ahead s (begun + 1) (take (at + 1) new) (drop (at + 1) new) ≡ issued_from ahead s begun (take at w) (drop at w)
begun_next ahead s begun w asked new at few h can same sets =
    let sets_here : (e : WindowEntry) → slice_get w at ≡ Some e → new ≡ slice_set w at (started ahead s (take at w) e) =
    subst (λ (z : List WindowEntry). (e : WindowEntry) → slice_get z at ≡ Some e → new ≡ slice_set z at (started ahead s (take at z) e)) same sets in
    get_some w at h (issued_from ahead s (begun + 1) (take (at + 1) new) (drop (at + 1) new) ≡ issued_from ahead s begun (take at w) (drop at w))
    (λ e is. begun_one ahead s begun w new at e is few (sym (can_here w at e is) ∙ can) (sets_here e is))

-- ---- those behind one that begins

and_true : (a : Bool) → (a && true) ≡ (true && a)
and_true true = refl
and_true false = refl

and_more : (a b c : Bool) → (a && (b && c)) ≡ ((a && b) && c)
and_more true b c = refl
and_more false b c = refl

abbrev is_stored : WindowEntry → Bool
is_stored e = is_done e.progress || not (is_storing (profile_of e).class)

stored_more : (o : List WindowEntry) (x : WindowEntry) → are_stored (o ++ x ∷ []) ≡ (are_stored o && is_stored x)
stored_more [] x = and_true (is_stored x)
stored_more (e ∷ o) x = ap (λ (c : Bool). is_stored e && c) (stored_more o x) ∙ and_more (is_stored e) (are_stored o) (is_stored x)

-- behind both an entry can begin, or behind none
record AreLike (o1 o2 : List WindowEntry) : Type 0 where
  available : (n : ℕ) → is_available o1 n ≡ is_available o2 n
  stored : are_stored o1 ≡ are_stored o2
  long : length o1 ≡ length o2

like_more : (o1 o2 : List WindowEntry) (x : WindowEntry) → AreLike o1 o2 → AreLike (o1 ++ x ∷ []) (o2 ++ x ∷ [])
like_more o1 o2 x like =
    record {
      available = λ n. alike_more 0 o1 o2 x (λ k other. like.available k) n (and_off (n == 0));
      stored = stored_more o1 x ∙ ap (λ (c : Bool). c && is_stored x) like.stored ∙ sym (stored_more o2 x);
      long = let long = like.long in grind (arith, common_steps);
    }

like_staged : (o : List WindowEntry) (x y : WindowEntry) → profile_of y ≡ profile_of x → is_done y.progress ≡ is_done x.progress → AreLike (o ++ y ∷ []) (o ++ x ∷ [])
like_staged o x y profile progress =
    record {
      available = staged_same o x y profile progress;
      stored =
          stored_more o y
          ∙ ap (λ (p : Profile). are_stored o && (is_done y.progress || not (is_storing p.class))) profile
          ∙ ap (λ (c : Bool). are_stored o && (c || not (is_storing (profile_of x).class))) progress
          ∙ sym (stored_more o x);
      long = grind (arith, common_steps);
    }

free_like : (c : Class) (o1 o2 : List WindowEntry) → AreLike o1 o2 → is_free c o1 ≡ is_free c o2
free_like Plain o1 o2 like = refl
free_like Loads o1 o2 like = like.stored
free_like Stores o1 o2 like = refl
free_like Oldest o1 o2 like = ap (λ (n : ℕ). n == 0) like.long

can_like : (o1 o2 w : List WindowEntry) (i : ℕ) → AreLike o1 o2 → can_at o1 w i ≡ can_at o2 w i
unfolding is_ready
can_like o1 o2 [] i like = refl
can_like o1 o2 (e ∷ w) zero like = rw (like.available (profile_of e).rs1, like.available (profile_of e).rs2, free_like (profile_of e).class o1 o2 like) refl
can_like o1 o2 (e ∷ w) (suc i) like = can_like (o1 ++ e ∷ []) (o2 ++ e ∷ []) w i (like_more o1 o2 e like)

can_staged : (older w : List WindowEntry) (at i : ℕ) (x y : WindowEntry) → slice_get w at ≡ Some x → profile_of y ≡ profile_of x → is_done y.progress ≡ is_done x.progress → at < i → can_at older (slice_set w at y) i ≡ can_at older w i
can_staged older [] at i x y is profile progress h = refl
can_staged older (e ∷ w) zero zero x y is profile progress h = absurd (omega arith)
can_staged older (e ∷ w) zero (suc i) x y is profile progress h =
    let here : e ≡ x = cc in
    can_like (older ++ y ∷ []) (older ++ x ∷ []) w i (like_staged older x y profile progress) ∙ ap (λ (z : WindowEntry). can_at (older ++ z ∷ []) w i) (sym here)
can_staged older (e ∷ w) (suc at) zero x y is profile progress h = absurd (omega arith)
can_staged older (e ∷ w) (suc at) (suc i) x y is profile progress h = can_staged (older ++ e ∷ []) w at i x y is profile progress (omega arith)

holds_behind : (p : WindowEntry → Bool) (w : List WindowEntry) (at i : ℕ) (y : WindowEntry) → at < i → holds_at p (slice_set w at y) i ≡ holds_at p w i
holds_behind p [] at i y h = refl
holds_behind p (e ∷ w) zero zero y h = absurd (omega arith)
holds_behind p (e ∷ w) zero (suc i) y h = refl
holds_behind p (e ∷ w) (suc at) zero y h = absurd (omega arith)
holds_behind p (e ∷ w) (suc at) (suc i) y h = holds_behind p w at i y (omega arith)

stored_staged : (w : List WindowEntry) (at i : ℕ) (x y : WindowEntry) → slice_get w at ≡ Some x → profile_of y ≡ profile_of x → is_done y.progress ≡ is_done x.progress → are_stored (take i (slice_set w at y)) ≡ are_stored (take i w)
stored_staged [] at i x y is profile progress = refl
stored_staged (e ∷ w) zero zero x y is profile progress = refl
stored_staged (e ∷ w) zero (suc i) x y is profile progress =
    let here : e ≡ x = cc in
    ap (λ (p : Profile). (is_done y.progress || not (is_storing p.class)) && are_stored (take i w)) profile
    ∙ ap (λ (c : Bool). (c || not (is_storing (profile_of x).class)) && are_stored (take i w)) progress
    ∙ ap (λ (z : WindowEntry). is_stored z && are_stored (take i w)) (sym here)
stored_staged (e ∷ w) (suc at) zero x y is profile progress = refl
stored_staged (e ∷ w) (suc at) (suc i) x y is profile progress = ap (λ (c : Bool). is_stored e && c) (stored_staged w at i x y is profile progress)

-- what is asked of the entries behind one place has the same answers in two windows
pub record AreAsBefore (w new : List WindowEntry) (at : ℕ) : Type 0 where
  pub waits : (i : ℕ) → at < i → holds_at (λ e. is_waiting e.progress) new i ≡ holds_at (λ e. is_waiting e.progress) w i
  pub can : (i : ℕ) → at < i → can_at [] new i ≡ can_at [] w i
  pub loads : (i : ℕ) → at < i → holds_at is_load new i ≡ holds_at is_load w i
  pub stored : (i : ℕ) → are_stored (take i new) ≡ are_stored (take i w)

pub before_same : (w new : List WindowEntry) (at : ℕ) → new ≡ w → AreAsBefore w new at
before_same w new at same =
    record {
      waits = λ i h. ap (λ (x : List WindowEntry). holds_at (λ e. is_waiting e.progress) x i) same;
      can = λ i h. ap (λ (x : List WindowEntry). can_at [] x i) same;
      loads = λ i h. ap (λ (x : List WindowEntry). holds_at is_load x i) same;
      stored = λ i. ap (λ (x : List WindowEntry). are_stored (take i x)) same;
    }

before_begun : (w new : List WindowEntry) (at : ℕ) (e y : WindowEntry) → slice_get w at ≡ Some e → is_waiting e.progress ≡ true → profile_of y ≡ profile_of e → is_done y.progress ≡ false → new ≡ slice_set w at y → AreAsBefore w new at
before_begun w new at e y is waits profile not_done sets =
    let progress : is_done y.progress ≡ is_done e.progress = not_done ∙ sym (waits_only e.progress waits).1 in
    record {
      waits = λ i h. rw sets (holds_behind (λ x. is_waiting x.progress) w at i y h);
      can = λ i h. rw sets (can_staged [] w at i e y is profile progress h);
      loads = λ i h. rw sets (holds_behind is_load w at i y h);
      stored = λ i. rw sets (stored_staged w at i e y is profile progress);
    }

-- those behind the one that begins are asked as before
pub before_next : (ahead : Ahead) (s : State) (w asked new : List WindowEntry) (at : ℕ) → at < length w → holds_at (λ x. is_waiting x.progress) w at ≡ true → asked ≡ w
    → ((e : WindowEntry) → slice_get asked at ≡ Some e → new ≡ slice_set asked at (started ahead s (take at asked) e))
    → AreAsBefore w new at
unfolding started
before_next ahead s w asked new at h waits same sets =
    let sets_here : (e : WindowEntry) → slice_get w at ≡ Some e → new ≡ slice_set w at (started ahead s (take at w) e) =
    subst (λ (z : List WindowEntry). (e : WindowEntry) → slice_get z at ≡ Some e → new ≡ slice_set z at (started ahead s (take at z) e)) same sets in
    get_some w at h (AreAsBefore w new at) (λ e is. before_begun w new at e (started ahead s (take at w) e) is (waits_here w at e waits is) refl refl (sets_here e is))

-- ---- the end of the walk

-- where two have begun, the rest stays as it is
enough_one : (ahead : Ahead) (s : State) (older rest : List WindowEntry) (e : WindowEntry) → issued_from ahead s 2 older (e ∷ rest) ≡ issued_from ahead s 2 (older ++ e ∷ []) rest
enough_one ahead s older rest e = refl

issued_enough : (ahead : Ahead) (s : State) (older rest : List WindowEntry) → issued_from ahead s 2 older rest ≡ older ++ rest
issued_enough ahead s older [] = sym (append-nil older)
issued_enough ahead s older (e ∷ rest) = enough_one ahead s older rest e ∙ issued_enough ahead s (older ++ e ∷ []) rest ∙ append_assoc older (e ∷ []) rest

pub issued_two : (ahead : Ahead) (s : State) (begun at : ℕ) (w : List WindowEntry) → begun ≡ 2 → issued_from ahead s begun (take at w) (drop at w) ≡ w
issued_two ahead s begun at w two = ap (λ (n : ℕ). issued_from ahead s n (take at w) (drop at w)) two ∙ issued_enough ahead s (take at w) (drop at w) ∙ take-append-drop at w

-- behind the youngest nothing is left
pub issued_end : (ahead : Ahead) (s : State) (begun : ℕ) (w : List WindowEntry) (at : ℕ) → length w ≤ at → issued_from ahead s begun (take at w) (drop at w) ≡ w
issued_end ahead s begun w at h =
    let all : take at w ≡ w = grind (arith, common_steps) in
    let none : drop at w ≡ [] = grind (arith, common_steps) in
    rw (all, none) refl
