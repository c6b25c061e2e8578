-- What the board is asked.
use Rattle.std.proofs.Common.{◌≡◌, ◌<◌, ◌≤◌, ℕ, zero, suc, ◌+◌, ◌-◌, ◌==◌, Bool, true, false, not, ◌&&◌, ◌||◌, ◌⊎◌, inl, inr, List, [], ◌∷◌, ◌++◌, get_or, length, take, refl, ap, sym, ◌∙◌, arith, append_assoc, if◌then◌else◌}
use Rattle.std.specs.Prelude.{nat_lt, nat_le}
use Rattle.std.proofs.lemmas.Bool.Decides.{nat_tests}
use Rattle.std.proofs.lemmas.Grind.{common_steps}
use Rattle.std.proofs.lemmas.List.{append-nil}
use Rattle.diva_ooo.specs.WindowEntry.{WindowEntry, profile_of}
use Rattle.diva_ooo.specs.declared.board.Board.{Board}
use Rattle.diva_ooo.specs.declared.mark_set.MarkSet.{MarkSet}
use Rattle.diva_ooo.specs.declared.profile.Class.{Class}
use Rattle.diva_ooo.specs.declared.profile.Class.TheVariants.{Plain, Loads, Stores, Oldest}
use Rattle.diva_ooo.specs.Board.{IsBoard, IsLastOf, IsNextOf, IsWrittenBetween, can_at, could_at, has_result, is_load, is_loading, is_open_store, no_mark, reads, writes}
use Rattle.diva_ooo.specs.Issue.{are_stored, can_begin, is_available, is_awaited, is_done, is_free, is_ready, is_storing, is_waiting}
use Rattle.diva_ooo.specs.MarkSets.{AreThose, IsLast, IsNext, has, holds_at}
use Rattle.diva_ooo.proofs.Marking.{and_off, and_on, holds_end, holds_take, holds_within}
use Rattle.diva_ooo.proofs.Places.{take_all}
use Rattle.diva_ooo.proofs.Boarding.{could_waits}

-- ---- the next one

pub next_of : (p : WindowEntry → Bool) (w : List WindowEntry) (base : ℕ) (s : MarkSet) (from m : ℕ) → AreThose p w base s → IsNext s (base + from) m → IsNextOf p w from (m - base)
next_of p w base s from m those next =
    let behind = next.behind in
    let at : base + (m - base) ≡ m = omega arith in
    record {
      behind = omega arith;
      there = sym (those (m - base)) ∙ ap (has s) at ∙ next.there;
      first = λ i h k. sym (those i) ∙ next.first (base + i) (omega arith) (omega arith);
    }

pub none_of : (p : WindowEntry → Bool) (w : List WindowEntry) (base : ℕ) (s : MarkSet) (from i : ℕ) → AreThose p w base s → ((k : ℕ) → base + from ≤ k → has s k ≡ false) → from ≤ i → holds_at p w i ≡ false
none_of p w base s from i those none h = sym (those i) ∙ none (base + i) (omega arith)

-- ---- the readers up to the next writer

-- a set has a next mark from one on, or none among so many
next_or_last : (c : Bool) (s : MarkSet) (from k i : ℕ) → has s (from + k) ≡ false → ((j : ℕ) → from ≤ j → j < from + k → has s j ≡ false) → (i == from + k) ≡ c → from ≤ i → i < from + suc k → has s i ≡ false
next_or_last true s from k i is none last h lt = let here : i ≡ from + k = grind (arith, nat_tests) in ap (has s) here ∙ is
next_or_last false s from k i is none last h lt = let other : i ≡ from + k → ⊥ = λ at. absurd (grind (arith, nat_tests)) in none i h (omega (arith, other))

next_or_more : (c : Bool) (s : MarkSet) (from k : ℕ) → has s (from + k) ≡ c → ((n : ℕ) × IsNext s from n) ⊎ ((i : ℕ) → from ≤ i → i < from + k → has s i ≡ false)
    → ((n : ℕ) × IsNext s from n) ⊎ ((i : ℕ) → from ≤ i → i < from + suc k → has s i ≡ false)
next_or_more c s from k is (inl next) = inl next
next_or_more true s from k is (inr none) = inl (from + k, record { behind = omega arith; there = is; first = none })
next_or_more false s from k is (inr none) = inr (λ i h lt. next_or_last (i == from + k) s from k i is none refl h lt)

next_or_none : (s : MarkSet) (from k : ℕ) → ((n : ℕ) × IsNext s from n) ⊎ ((i : ℕ) → from ≤ i → i < from + k → has s i ≡ false)
next_or_none s from zero = inr (λ i h lt. absurd (omega arith))
next_or_none s from (suc k) = next_or_more (has s (from + k)) s from k refl (next_or_none s from k)

woken_all : (w : List WindowEntry) (b : Board) (r at i : ℕ) → IsBoard w b → r < 32 → has (get_or b.readers r no_mark) (b.base + i) ≡ false → (holds_at (reads r) w i ≡ false) ⊎ IsWrittenBetween w r at i
woken_all w b r at i board h none = inl (sym (board.readers r h i) ∙ none)

woken_by : (c : Bool) (w : List WindowEntry) (b : Board) (r at m i : ℕ) → IsBoard w b → r < 32 → nat_lt (b.base + i) (m + 1) ≡ c → IsNext (get_or b.writers r no_mark) (b.base + at + 1) m
    → (if c then has (get_or b.readers r no_mark) (b.base + i) else false) ≡ false → (holds_at (reads r) w i ≡ false) ⊎ IsWrittenBetween w r at i
woken_by true w b r at m i board h is next none = woken_all w b r at i board h none
woken_by false w b r at m i board h is next none =
    let far : m < b.base + i = grind (arith, nat_tests) in
    let behind = next.behind in
    let here : b.base + (m - b.base) ≡ m = omega arith in
    inr (record {
      place = m - b.base;
      behind = omega arith;
      before = omega arith;
      there = sym (board.writers r h (m - b.base)) ∙ ap (has (get_or b.writers r no_mark)) here ∙ next.there;
    })

woken_some : (w : List WindowEntry) (b : Board) (r at m i : ℕ) → IsBoard w b → r < 32 → IsNext (get_or b.writers r no_mark) (b.base + at + 1) m
    → (if nat_lt (b.base + i) (m + 1) then has (get_or b.readers r no_mark) (b.base + i) else false) ≡ false → (holds_at (reads r) w i ≡ false) ⊎ IsWrittenBetween w r at i
woken_some w b r at m i board h next none = woken_by (nat_lt (b.base + i) (m + 1)) w b r at m i board h refl next none

unwritten_from_by : (c : Bool) (w : List WindowEntry) (b : Board) (r from k : ℕ) → IsBoard w b → r < 32 → ((i : ℕ) → from ≤ i → i < from + length w → has (get_or b.writers r no_mark) i ≡ false)
    → b.base ≤ from → from ≤ k → nat_lt k (from + length w) ≡ c → has (get_or b.writers r no_mark) k ≡ false
unwritten_from_by true w b r from k board h none base behind is = none k behind (grind (arith, nat_tests))
unwritten_from_by false w b r from k board h none base behind is =
    let far : from + length w ≤ k = grind (arith, nat_tests) in
    let here : b.base + (k - b.base) ≡ k = omega arith in
    ap (has (get_or b.writers r no_mark)) (sym here) ∙ board.writers r h (k - b.base) ∙ holds_end (writes r) w (k - b.base) (omega arith)

woken_or : (w : List WindowEntry) (b : Board) (t : MarkSet) (r at i : ℕ) → IsBoard w b → r < 32
    → ((m : ℕ) → IsNext (get_or b.writers r no_mark) (b.base + at + 1) m → (k : ℕ) → has t k ≡ (if nat_lt k (m + 1) then has (get_or b.readers r no_mark) k else false))
    → (((k : ℕ) → b.base + at + 1 ≤ k → has (get_or b.writers r no_mark) k ≡ false) → (k : ℕ) → has t k ≡ has (get_or b.readers r no_mark) k)
    → has t (b.base + i) ≡ false
    → ((n : ℕ) × IsNext (get_or b.writers r no_mark) (b.base + at + 1) n) ⊎ ((k : ℕ) → b.base + at + 1 ≤ k → k < b.base + at + 1 + length w → has (get_or b.writers r no_mark) k ≡ false)
    → (holds_at (reads r) w i ≡ false) ⊎ IsWrittenBetween w r at i
woken_or w b t r at i board h some none off (inl next) = woken_some w b r at next.0 i board h next.1 (sym (some next.0 next.1 (b.base + i)) ∙ off)
woken_or w b t r at i board h some none off (inr few) =
    woken_all w b r at i board h
    (sym (none (λ k l. unwritten_from_by (nat_lt k (b.base + at + 1 + length w)) w b r (b.base + at + 1) k board h few (omega arith) l refl) (b.base + i)) ∙ off)

pub woken : (w : List WindowEntry) (b : Board) (t : MarkSet) (r at i : ℕ) → IsBoard w b → r < 32
    → ((m : ℕ) → IsNext (get_or b.writers r no_mark) (b.base + at + 1) m → (k : ℕ) → has t k ≡ (if nat_lt k (m + 1) then has (get_or b.readers r no_mark) k else false))
    → (((k : ℕ) → b.base + at + 1 ≤ k → has (get_or b.writers r no_mark) k ≡ false) → (k : ℕ) → has t k ≡ has (get_or b.readers r no_mark) k)
    → has t (b.base + i) ≡ false → (holds_at (reads r) w i ≡ false) ⊎ IsWrittenBetween w r at i
woken w b t r at i board h some none off = woken_or w b t r at i board h some none off (next_or_none (get_or b.writers r no_mark) (b.base + at + 1) (length w))

-- ---- a register

not_zero : (a b : Bool) → (a && not b) ≡ true → (a ≡ true) × (b ≡ false)
not_zero true true h = absurd (cc)
not_zero true false h = (refl, refl)
not_zero false b h = absurd (cc)

unwritten_by : (c : Bool) (n : ℕ) (e : WindowEntry) → ((profile_of e).rd == n) ≡ c → (n == 0) ≡ false → writes n e ≡ false → ((profile_of e).rd == n) ≡ false
unwritten_by true n e is some none =
    let both : (true && not false) ≡ false = ap (λ (k : Bool). k && not false) (sym is) ∙ ap (λ (k : Bool). ((profile_of e).rd == n) && not k) (sym some) ∙ none in
    absurd (cc)
unwritten_by false n e is some none = is

awaited_none : (so : Bool) (w : List WindowEntry) (n : ℕ) → (n == 0) ≡ false → ((i : ℕ) → holds_at (writes n) w i ≡ false) → is_awaited so w n ≡ so
awaited_none so [] n some none = refl
awaited_none so (e ∷ w) n some none =
    let other = unwritten_by ((profile_of e).rd == n) n e refl some (none 0) in
    rw other (awaited_none so w n some (λ i. none (suc i)))

awaited_last : (so : Bool) (w : List WindowEntry) (n j : ℕ) → (n == 0) ≡ false → holds_at (writes n) w j ≡ true → ((i : ℕ) → j < i → holds_at (writes n) w i ≡ false) → is_awaited so w n ≡ not (holds_at (λ e. is_done e.progress) w j)
awaited_last so [] n j some there last = absurd (cc)
awaited_last so (e ∷ w) n zero some there last =
    let here = not_zero ((profile_of e).rd == n) (n == 0) there in
    ap (λ (c : Bool). is_awaited (if c then not (is_done e.progress) else so) w n) here.0 ∙ awaited_none (not (is_done e.progress)) w n some (λ i. last (suc i) (omega arith))
awaited_last so (e ∷ w) n (suc j) some there last = awaited_last (if (profile_of e).rd == n then not (is_done e.progress) else so) w n j some there (λ i h. last (suc i) (omega arith))

available_by : (c : Bool) (w : List WindowEntry) (n : ℕ) → (n == 0) ≡ c → ((i : ℕ) → holds_at (writes n) w i ≡ false) → (c || not (is_awaited false w n)) ≡ true
available_by true w n is none = refl
available_by false w n is none = rw (awaited_none false w n is none) refl

available_none : (w : List WindowEntry) (n : ℕ) → ((i : ℕ) → holds_at (writes n) w i ≡ false) → is_available w n ≡ true
available_none w n none = available_by (n == 0) w n refl none

writes_some : (w : List WindowEntry) (n j : ℕ) → holds_at (writes n) w j ≡ true → (n == 0) ≡ false
writes_some [] n j there = absurd (cc)
writes_some (e ∷ w) n zero there = (not_zero ((profile_of e).rd == n) (n == 0) there).1
writes_some (e ∷ w) n (suc j) there = writes_some w n j there

twice : (b : Bool) → not (not b) ≡ b
twice true = refl
twice false = refl

available_last : (w : List WindowEntry) (n j : ℕ) → holds_at (writes n) w j ≡ true → ((i : ℕ) → j < i → holds_at (writes n) w i ≡ false) → is_available w n ≡ holds_at (λ e. is_done e.progress) w j
available_last w n j there last =
    let some = writes_some w n j there in
    rw (some, awaited_last false w n j some there last) (twice (holds_at (λ e. is_done e.progress) w j))

-- the entries before a place
before_by : (c : Bool) (p : WindowEntry → Bool) (w : List WindowEntry) (at i : ℕ) → nat_lt i at ≡ c → (i < at → holds_at p w i ≡ false) → holds_at p (take at w) i ≡ false
before_by true p w at i is none = let h : i < at = grind (arith, nat_tests) in holds_take p w at i h ∙ none h
before_by false p w at i is none =
    let h : at ≤ i = grind (arith, nat_tests) in
    holds_end p (take at w) i (grind (arith, common_steps))

pub before_none : (p : WindowEntry → Bool) (w : List WindowEntry) (at i : ℕ) → (i < at → holds_at p w i ≡ false) → holds_at p (take at w) i ≡ false
before_none p w at i none = before_by (nat_lt i at) p w at i refl none

pub available_free : (w : List WindowEntry) (b : Board) (at n : ℕ) → IsBoard w b → n < 32 → ((i : ℕ) → i < b.base + at → has (get_or b.writers n no_mark) i ≡ false) → true ≡ is_available (take at w) n
available_free w b at n board h none =
    sym (available_none (take at w) n (λ i. before_none (writes n) w at i (λ lt. sym (board.writers n h i) ∙ none (b.base + i) (omega arith))))

available_at_by : (c : Bool) (w : List WindowEntry) (b : Board) (at n m : ℕ) → IsBoard w b → n < 32 → IsLast (get_or b.writers n no_mark) (b.base + at) m → nat_lt m b.base ≡ c → has b.done m ≡ is_available (take at w) n
available_at_by true w b at n m board h last is =
    let old : m < b.base = grind (arith, nat_tests) in
    board.gone m old ∙ sym (available_none (take at w) n (λ i. before_none (writes n) w at i (λ lt. sym (board.writers n h i) ∙ last.last (b.base + i) (omega arith) (omega arith))))
available_at_by false w b at n m board h last is =
    let new : b.base ≤ m = grind (arith, nat_tests) in
    let here : b.base + (m - b.base) ≡ m = omega arith in
    let lt = last.before in
    let place : m - b.base < at = omega arith in
    let there : holds_at (writes n) w (m - b.base) ≡ true = sym (board.writers n h (m - b.base)) ∙ ap (has (get_or b.writers n no_mark)) here ∙ last.there in
    ap (has b.done) (sym here)
    ∙ board.done (m - b.base)
    ∙ sym (holds_take (λ e. is_done e.progress) w at (m - b.base) place)
    ∙ sym (available_last (take at w) n (m - b.base) (holds_take (writes n) w at (m - b.base) place ∙ there)
    (λ i k. before_none (writes n) w at i (λ l. sym (board.writers n h i) ∙ last.last (b.base + i) (omega arith) (omega arith))))

pub available_at : (w : List WindowEntry) (b : Board) (at n m : ℕ) → IsBoard w b → n < 32 → IsLast (get_or b.writers n no_mark) (b.base + at) m → has b.done m ≡ is_available (take at w) n
available_at w b at n m board h last = available_at_by (nat_lt m b.base) w b at n m board h last refl

-- behind all of them
pub behind_free : (w : List WindowEntry) (b : Board) (n : ℕ) → IsBoard w b → n < 32 → ((i : ℕ) → has (get_or b.writers n no_mark) i ≡ false) → true ≡ is_available w n
behind_free w b n board h none = sym (available_none w n (λ i. sym (board.writers n h i) ∙ none (b.base + i)))

highest_by : (c : Bool) (w : List WindowEntry) (b : Board) (n m : ℕ) → IsBoard w b → n < 32 → nat_lt m b.base ≡ c → has (get_or b.writers n no_mark) m ≡ true → m < b.base + length w
highest_by true w b n m board h is there = let old : m < b.base = grind (arith, nat_tests) in omega arith
highest_by false w b n m board h is there =
    let new : b.base ≤ m = grind (arith, nat_tests) in
    let here : b.base + (m - b.base) ≡ m = omega arith in
    let within = holds_within (writes n) w (m - b.base) (sym (board.writers n h (m - b.base)) ∙ ap (has (get_or b.writers n no_mark)) here ∙ there) in
    omega arith

pub behind_at : (w : List WindowEntry) (b : Board) (n m : ℕ) → IsBoard w b → n < 32 → IsLast (get_or b.writers n no_mark) 64 m → length w ≤ 32 → has b.done m ≡ is_available w n
behind_at w b n m board h last few =
    let base = board.base in
    let before : m < b.base + length w = highest_by (nat_lt m b.base) w b n m board h refl last.there in
    available_at w b (length w) n m board h (record { before = before; there = last.there; last = λ i lt below. last.last i lt (omega arith) })
    ∙ ap (λ (o : List WindowEntry). is_available o n) (take_all w (length w) (omega arith))

-- ---- the older stores

open_by : (d s : Bool) → (not d && s) ≡ false → (d || not s) ≡ true
open_by true s h = refl
open_by false true h = absurd (cc)
open_by false false h = refl

open_not : (d s : Bool) → (not d && s) ≡ true → (d || not s) ≡ false
open_not true s h = absurd (cc)
open_not false true h = refl
open_not false false h = absurd (cc)

open_store : (e : WindowEntry) → is_open_store e ≡ false → (is_done e.progress || not (is_storing (profile_of e).class)) ≡ true
open_store e none = open_by (is_done e.progress) (is_storing (profile_of e).class) none

stored_none : (w : List WindowEntry) → ((i : ℕ) → holds_at is_open_store w i ≡ false) → are_stored w ≡ true
stored_none [] none = refl
stored_none (e ∷ w) none = rw (open_store e (none 0)) (stored_none w (λ i. none (suc i)))

stored_some : (w : List WindowEntry) (j : ℕ) → holds_at is_open_store w j ≡ true → are_stored w ≡ false
stored_some [] j there = absurd (cc)
stored_some (e ∷ w) zero there = rw (open_not (is_done e.progress) (is_storing (profile_of e).class) there) refl
stored_some (e ∷ w) (suc j) there = rw (stored_some w j there) (and_off (is_done e.progress || not (is_storing (profile_of e).class)))

pub stored_free : (w : List WindowEntry) (b : Board) (at : ℕ) → IsBoard w b → ((i : ℕ) → b.base ≤ i → has b.storing i ≡ false) → true ≡ are_stored (take at w)
stored_free w b at board none = sym (stored_none (take at w) (λ i. before_none is_open_store w at i (λ lt. sym (board.storing i) ∙ none (b.base + i) (omega arith))))

stored_at_by : (c : Bool) (w : List WindowEntry) (b : Board) (at m : ℕ) → IsBoard w b → IsNext b.storing b.base m → nat_le (b.base + at) m ≡ c → c ≡ are_stored (take at w)
stored_at_by true w b at m board next is =
    let far : b.base + at ≤ m = grind (arith, nat_tests) in
    sym (stored_none (take at w) (λ i. before_none is_open_store w at i (λ lt. sym (board.storing i) ∙ next.first (b.base + i) (omega arith) (omega arith))))
stored_at_by false w b at m board next is =
    let near : m < b.base + at = grind (arith, nat_tests) in
    let behind = next.behind in
    let here : b.base + (m - b.base) ≡ m = omega arith in
    let place : m - b.base < at = omega arith in
    sym (stored_some (take at w) (m - b.base) (holds_take is_open_store w at (m - b.base) place ∙ sym (board.storing (m - b.base)) ∙ ap (has b.storing) here ∙ next.there))

pub stored_at : (w : List WindowEntry) (b : Board) (at m : ℕ) → IsBoard w b → IsNext b.storing b.base m → nat_le (b.base + at) m ≡ are_stored (take at w)
stored_at w b at m board next = stored_at_by (nat_le (b.base + at) m) w b at m board next refl

-- ---- the last result

and_right : (a b : Bool) → (a && b) ≡ true → b ≡ true
and_right true b h = h
and_right false b h = absurd (cc)

and_left : (a b : Bool) → (a && b) ≡ true → a ≡ true
and_left true b h = refl
and_left false b h = absurd (cc)

holds_both : (p q : WindowEntry → Bool) (w : List WindowEntry) (i : ℕ) → (holds_at p w i && holds_at q w i) ≡ holds_at (λ e. p e && q e) w i
holds_both p q [] i = refl
holds_both p q (e ∷ w) zero = refl
holds_both p q (e ∷ w) (suc i) = holds_both p q w i

-- the set is that of the writers before a place that are done
abbrev AreResults : Board → (s writers : MarkSet) → (at : ℕ) → Type 0
AreResults b s ws at = (k : ℕ) → has s k ≡ (has ws k && ((if nat_lt k (b.base + at) then has b.done k else false) && nat_le b.base k))

pub are_results : (b : Board) (s ws older below : MarkSet) (at : ℕ) → ((k : ℕ) → has s k ≡ (has ws k && has older k)) → ((k : ℕ) → has older k ≡ (has below k && nat_le b.base k))
    → ((k : ℕ) → has below k ≡ (if nat_lt k (b.base + at) then has b.done k else false)) → AreResults b s ws at
are_results b s ws older below at both from under = λ k.
    both k
    ∙ ap (λ (c : Bool). has ws k && c) (from k ∙ ap (λ (c : Bool). c && nat_le b.base k) (under k))

within_by : (c d : Bool) (base i at : ℕ) → nat_lt (base + i) (base + at) ≡ c → i < at → (if c then d else false) ≡ d
within_by true d base i at is h = refl
within_by false d base i at is h = let far : at ≤ i = grind (arith, nat_tests) in absurd (omega arith)

results_among : (w : List WindowEntry) (b : Board) (s : MarkSet) (at n i : ℕ) → IsBoard w b → n < 32
    → AreResults b s (get_or b.writers n no_mark) at
    → i < at → has s (b.base + i) ≡ holds_at (has_result n) w i
results_among w b s at n i board h both lt =
    let behind : nat_le b.base (b.base + i) ≡ true = grind (arith, nat_tests) in
    both (b.base + i)
    ∙ ap (λ (c : Bool). has (get_or b.writers n no_mark) (b.base + i) && ((if nat_lt (b.base + i) (b.base + at) then has b.done (b.base + i) else false) && c)) behind
    ∙ ap (λ (c : Bool). has (get_or b.writers n no_mark) (b.base + i) && c) (and_on (if nat_lt (b.base + i) (b.base + at) then has b.done (b.base + i) else false))
    ∙ ap (λ (c : Bool). has (get_or b.writers n no_mark) (b.base + i) && c) (within_by (nat_lt (b.base + i) (b.base + at)) (has b.done (b.base + i)) b.base i at refl lt)
    ∙ ap (λ (c : Bool). c && has b.done (b.base + i)) (board.writers n h i)
    ∙ ap (λ (c : Bool). holds_at (writes n) w i && c) (board.done i)
    ∙ holds_both (writes n) (λ e. is_done e.progress) w i

if_both : (c d : Bool) → (if c then d else false) ≡ true → c ≡ true
if_both true d h = refl
if_both false d h = absurd (cc)

-- a mark of theirs is that of an entry before the place
pub result_within : (b : Board) (s ws : MarkSet) (at m : ℕ) → AreResults b s ws at
    → has s m ≡ true → (b.base ≤ m) × (m < b.base + at)
result_within b s ws at m both there =
    let older : ((if nat_lt m (b.base + at) then has b.done m else false) && nat_le b.base m) ≡ true = and_right (has ws m) ((if nat_lt m (b.base + at) then has b.done m else false) && nat_le b.base m) (sym (both m) ∙ there) in
    let behind : nat_le b.base m ≡ true = and_right (if nat_lt m (b.base + at) then has b.done m else false) (nat_le b.base m) older in
    let below : nat_lt m (b.base + at) ≡ true = if_both (nat_lt m (b.base + at)) (has b.done m) (and_left (if nat_lt m (b.base + at) then has b.done m else false) (nat_le b.base m) older) in
    (grind (arith, nat_tests), grind (arith, nat_tests))

pub last_result_of : (w : List WindowEntry) (b : Board) (s : MarkSet) (at n m : ℕ) → IsBoard w b → n < 32 → at ≤ 32
    → AreResults b s (get_or b.writers n no_mark) at
    → IsLast s 64 m → IsLastOf (has_result n) w at (m - b.base)
last_result_of w b s at n m board h few both last =
    let within = result_within b s (get_or b.writers n no_mark) at m both last.there in
    let behind = within.0 in
    let before = within.1 in
    let base = board.base in
    let here : b.base + (m - b.base) ≡ m = omega arith in
    record {
      before = omega arith;
      there = sym (results_among w b s at n (m - b.base) board h both (omega arith)) ∙ ap (has s) here ∙ last.there;
      last = λ i k l. sym (results_among w b s at n i board h both l) ∙ last.last (b.base + i) (omega arith) (omega arith);
    }

pub no_result_of : (w : List WindowEntry) (b : Board) (s : MarkSet) (at n i : ℕ) → IsBoard w b → n < 32
    → AreResults b s (get_or b.writers n no_mark) at
    → ((k : ℕ) → has s k ≡ false) → i < at → holds_at (has_result n) w i ≡ false
no_result_of w b s at n i board h both none lt = sym (results_among w b s at n i board h both lt) ∙ none (b.base + i)

-- ---- those that may begin

not_le : (c : Bool) (m n : ℕ) → nat_le m n ≡ c → not c ≡ false → m ≤ n
not_le true m n is h = grind (arith, nat_tests)
not_le false m n is h = absurd (cc)

stalled_by : (a b : Bool) → (a && (b && false)) ≡ false
stalled_by true true = refl
stalled_by true false = refl
stalled_by false b = refl

stalled : (e : WindowEntry) (older : List WindowEntry) (c : Class) → (profile_of e).class ≡ c → is_loading c ≡ true → are_stored older ≡ false → can_begin older e ≡ false
unfolding is_ready
stalled e older Plain is load open' = absurd (cc)
stalled e older Loads is load open' = rw (is, open') (stalled_by (is_waiting e.progress) (is_available older (profile_of e).rs1 && is_available older (profile_of e).rs2))
stalled e older Stores is load open' = absurd (cc)
stalled e older Oldest is load open' = absurd (cc)

abbrev could : List WindowEntry → WindowEntry → Bool
could older e = is_waiting e.progress && (is_available older (profile_of e).rs1 && is_available older (profile_of e).rs2)

never_waits : (a b d : Bool) → (a && b) ≡ false → (a && (b && d)) ≡ false
never_waits true true d h = absurd (cc)
never_waits true false d h = refl
never_waits false b d h = refl

could_can : (older : List WindowEntry) (e : WindowEntry) → could older e ≡ false → can_begin older e ≡ false
unfolding is_ready
could_can older e none = never_waits (is_waiting e.progress) (is_available older (profile_of e).rs1 && is_available older (profile_of e).rs2) (is_free (profile_of e).class older) none

could_can_at : (older w : List WindowEntry) (i : ℕ) → could_at older w i ≡ false → can_at older w i ≡ false
could_can_at older [] i none = refl
could_can_at older (e ∷ w) zero none = could_can older e none
could_can_at older (e ∷ w) (suc i) none = could_can_at (older ++ e ∷ []) w i none

not_candidate : (a : Bool) (w : List WindowEntry) (b : Board) (i : ℕ) → IsBoard w b → has b.candidates (b.base + i) ≡ a → (a && has b.waiting (b.base + i)) ≡ false → could_at [] w i ≡ false
not_candidate true w b i board is none = could_waits [] w i (sym (board.waiting i) ∙ none)
not_candidate false w b i board is none = board.candidates i is

load_stalls : (older w : List WindowEntry) (i : ℕ) → holds_at is_load w i ≡ true → are_stored (older ++ take i w) ≡ false → can_at older w i ≡ false
load_stalls older [] i load open' = refl
load_stalls older (e ∷ w) zero load open' = stalled e older (profile_of e).class refl load (ap are_stored (sym (append-nil older)) ∙ open')
load_stalls older (e ∷ w) (suc i) load open' = load_stalls (older ++ e ∷ []) w i load (ap are_stored (append_assoc older (e ∷ []) (take i w)) ∙ open')

-- a load and a store are not the same
apart_by : (c : Class) → is_loading c ≡ true → is_storing c ≡ false
apart_by Plain h = refl
apart_by Loads h = refl
apart_by Stores h = absurd (cc)
apart_by Oldest h = refl

load_open : (w : List WindowEntry) (i : ℕ) → holds_at is_load w i ≡ true → holds_at is_open_store w i ≡ true → ⊥
load_open [] i load open' = absurd (cc)
load_open (e ∷ w) zero load open' = let none = apart_by (profile_of e).class load in let some = and_right (not (is_done e.progress)) (is_storing (profile_of e).class) open' in absurd (cc)
load_open (e ∷ w) (suc i) load open' = load_open w i load open'

waits_behind : (w : List WindowEntry) (b : Board) (m i : ℕ) → IsBoard w b → IsNext b.storing b.base m → has b.loads (b.base + i) ≡ true → m ≤ b.base + i → can_at [] w i ≡ false
waits_behind w b m i board next load h =
    let behind = next.behind in
    let here : b.base + (m - b.base) ≡ m = omega arith in
    let is_load' : holds_at is_load w i ≡ true = sym (board.loads i) ∙ load in
    let open' : holds_at is_open_store w (m - b.base) ≡ true = sym (board.storing (m - b.base)) ∙ ap (has b.storing) here ∙ next.there in
    let other : i ≡ m - b.base → ⊥ = λ is. load_open w i is_load' (ap (holds_at is_open_store w) is ∙ open') in
    let before : m - b.base < i = omega (arith, other) in
    load_stalls [] w i is_load' (stored_some (take i w) (m - b.base) (holds_take is_open_store w i (m - b.base) before ∙ open'))

pub eligible_all : (w : List WindowEntry) (b : Board) (s : MarkSet) (i : ℕ) → IsBoard w b → ((k : ℕ) → has s k ≡ (has b.candidates k && has b.waiting k)) → has s (b.base + i) ≡ false → can_at [] w i ≡ false
eligible_all w b s i board both none = could_can_at [] w i (not_candidate (has b.candidates (b.base + i)) w b i board refl (sym (both (b.base + i)) ∙ none))

pub eligible_waits : (w : List WindowEntry) (b : Board) (s : MarkSet) (i : ℕ) → IsBoard w b → ((k : ℕ) → has s k ≡ (has b.candidates k && has b.waiting k)) → has s (b.base + i) ≡ true → holds_at (λ e. is_waiting e.progress) w i ≡ true
eligible_waits w b s i board both there = sym (board.waiting i) ∙ and_right (has b.candidates (b.base + i)) (has b.waiting (b.base + i)) (sym (both (b.base + i)) ∙ there)

except_by : (a l : Bool) (w : List WindowEntry) (b : Board) (s : MarkSet) (m i : ℕ) → IsBoard w b → ((k : ℕ) → has s k ≡ (has b.candidates k && has b.waiting k)) → IsNext b.storing b.base m
    → has s (b.base + i) ≡ a → has b.loads (b.base + i) ≡ l → (a && not (l && nat_le m (b.base + i))) ≡ false → can_at [] w i ≡ false
except_by false l w b s m i board both next is load none = eligible_all w b s i board both is
except_by true false w b s m i board both next is load none = absurd (cc)
except_by true true w b s m i board both next is load none =
    let h : m ≤ b.base + i = not_le (nat_le m (b.base + i)) m (b.base + i) refl none in
    waits_behind w b m i board next load h

pub eligible_but : (w : List WindowEntry) (b : Board) (s t : MarkSet) (m i : ℕ) → IsBoard w b → ((k : ℕ) → has s k ≡ (has b.candidates k && has b.waiting k)) → IsNext b.storing b.base m
    → ((k : ℕ) → has t k ≡ (has s k && not (has b.loads k && nat_le m k))) → has t (b.base + i) ≡ false → can_at [] w i ≡ false
eligible_but w b s t m i board both next but none = except_by (has s (b.base + i)) (has b.loads (b.base + i)) w b s m i board both next refl refl (sym (but (b.base + i)) ∙ none)

pub eligible_but_waits : (w : List WindowEntry) (b : Board) (s t : MarkSet) (m i : ℕ) → IsBoard w b → ((k : ℕ) → has s k ≡ (has b.candidates k && has b.waiting k))
    → ((k : ℕ) → has t k ≡ (has s k && not (has b.loads k && nat_le m k))) → has t (b.base + i) ≡ true → holds_at (λ e. is_waiting e.progress) w i ≡ true
eligible_but_waits w b s t m i board both but there = eligible_waits w b s i board both (and_left (has s (b.base + i)) (not (has b.loads (b.base + i) && nat_le m (b.base + i))) (sym (but (b.base + i)) ∙ there))

not_behind : (l c : Bool) → l ≡ true → not (l && c) ≡ true → c ≡ false
not_behind true true load h = absurd (cc)
not_behind true false load h = refl
not_behind false c load h = absurd (cc)

-- a load is among them only where each older store is done
pub eligible_stored : (w : List WindowEntry) (b : Board) (s t : MarkSet) (m i : ℕ) → IsBoard w b → IsNext b.storing b.base m
    → ((k : ℕ) → has t k ≡ (has s k && not (has b.loads k && nat_le m k))) → has t (b.base + i) ≡ true → holds_at is_load w i ≡ true → are_stored (take i w) ≡ true
eligible_stored w b s t m i board next but there load =
    let apart : not (has b.loads (b.base + i) && nat_le m (b.base + i)) ≡ true = and_right (has s (b.base + i)) (not (has b.loads (b.base + i) && nat_le m (b.base + i))) (sym (but (b.base + i)) ∙ there) in
    let near : nat_le m (b.base + i) ≡ false = not_behind (has b.loads (b.base + i)) (nat_le m (b.base + i)) (board.loads i ∙ load) apart in
    let before : nat_le (b.base + i) m ≡ true = grind (arith, nat_tests) in
    sym (stored_at w b i m board next) ∙ before
