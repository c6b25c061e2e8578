-- A window's entries, and what is written and can begin behind them.
use Rattle.std.proofs.Common.{◌≡◌, ◌<◌, ℕ, zero, suc, ◌==◌, Bool, true, false, not, ◌&&◌, List, [], ◌∷◌, ◌++◌, length, take, drop, Option, Some, None, is_some, refl, ap, sym, ◌∙◌, arith, slice_get, append_assoc, if◌then◌else◌}
use Rattle.std.specs.Prelude.{slice_set, slice_index}
use Rattle.std.proofs.lemmas.Bool.Decides.{nat_tests}
use Rattle.std.proofs.lemmas.List.{append-nil}
use Rattle.diva_isa.specs.Regs.{with_reg}
use Rattle.diva_ooo.specs.WindowEntry.{WindowEntry, profile_of}
use Rattle.diva_ooo.specs.declared.board.Board.{Board}
use Rattle.diva_ooo.specs.declared.profile.Profile.{Profile}
use Rattle.diva_ooo.specs.Board.{IsBoard, IsLastOf, can_at, could_at, has_result, writes}
use Rattle.diva_ooo.specs.Issue.{can_begin, is_available, is_done, is_free, is_ready, is_waiting, written}
use Rattle.diva_ooo.specs.MarkSets.{holds_at}
use Rattle.diva_ooo.proofs.Asking.{before_none}
use Rattle.diva_ooo.proofs.Marking.{and_off, holds_take}

-- ---- the registers behind some entries

set_index : (xs : List ℕ) (i n v : ℕ) → n < length xs → slice_index (slice_set xs i v) n ≡ (if i == n then v else slice_index xs n)
set_index [] i n v h = absurd (omega arith)
set_index (x ∷ xs) zero zero v h = refl
set_index (x ∷ xs) zero (suc n) v h = let other : (0 == suc n) ≡ false = grind (arith, nat_tests) in rw other refl
set_index (x ∷ xs) (suc i) zero v h = let other : (suc i == 0) ≡ false = grind (arith, nat_tests) in rw other refl
set_index (x ∷ xs) (suc i) (suc n) v h = let same : (suc i == suc n) ≡ (i == n) = grind (arith, nat_tests) in rw same (set_index xs i n v (omega arith))

set_long : (xs : List ℕ) (i v : ℕ) → length (slice_set xs i v) ≡ length xs
set_long [] i v = refl
set_long (x ∷ xs) zero v = refl
set_long (x ∷ xs) (suc i) v = ap suc (set_long xs i v)

reg_long_by : (z : Bool) (regs : List ℕ) (rd v : ℕ) → length (if z then regs else slice_set regs rd v) ≡ length regs
reg_long_by true regs rd v = refl
reg_long_by false regs rd v = set_long regs rd v

reg_apart : (c : Bool) (regs : List ℕ) (rd v n : ℕ) → (rd == n) ≡ c → (rd == 0) ≡ false → ((rd == n) && not (n == 0)) ≡ false → (if rd == n then v else slice_index regs n) ≡ slice_index regs n
reg_apart true regs rd v n is some other =
    let same : rd ≡ n = grind (arith, nat_tests) in
    let positive : (n == 0) ≡ false = ap (λ (m : ℕ). m == 0) (sym same) ∙ some in
    let both : (true && not false) ≡ false = ap (λ (k : Bool). k && not false) (sym is) ∙ ap (λ (k : Bool). (rd == n) && not k) (sym positive) ∙ other in
    absurd (cc)
reg_apart false regs rd v n is some other = rw is refl

reg_left : (a b : Bool) → (a && b) ≡ true → a ≡ true
reg_left true b h = refl
reg_left false b h = absurd (cc)

and_never : (a : Bool) → (a && false) ≡ true → ⊥
and_never true h = absurd (cc)
and_never false h = absurd (cc)

reg_none : (c z : Bool) (rd n : ℕ) → (rd == n) ≡ c → (n == 0) ≡ z → (rd == 0) ≡ true → ((rd == n) && not (n == 0)) ≡ true → ⊥
reg_none c true rd n is zero' none there = and_never (rd == n) (ap (λ (k : Bool). (rd == n) && not k) (sym zero') ∙ there)
reg_none c false rd n is zero' none there =
    let same : (rd == n) ≡ true = reg_left (rd == n) (not (n == 0)) there in
    let equal : rd ≡ n = grind (arith, nat_tests) in
    let both : true ≡ false = sym none ∙ ap (λ (m : ℕ). m == 0) equal ∙ zero' in
    absurd (cc)

reg_other_by : (z : Bool) (regs : List ℕ) (rd v n : ℕ) → (rd == 0) ≡ z → n < length regs → ((rd == n) && not (n == 0)) ≡ false → slice_index (if z then regs else slice_set regs rd v) n ≡ slice_index regs n
reg_other_by true regs rd v n is h other = refl
reg_other_by false regs rd v n is h other = set_index regs rd n v h ∙ reg_apart (rd == n) regs rd v n refl is other

reg_same_by : (z : Bool) (regs : List ℕ) (rd v n : ℕ) → (rd == 0) ≡ z → n < length regs → ((rd == n) && not (n == 0)) ≡ true → slice_index (if z then regs else slice_set regs rd v) n ≡ v
reg_same_by true regs rd v n is h there = absurd (reg_none (rd == n) (n == 0) rd n refl refl is there)
reg_same_by false regs rd v n is h there = set_index regs rd n v h ∙ ap (λ (c : Bool). if c then v else slice_index regs n) (reg_left (rd == n) (not (n == 0)) there)

no_result : (d c : Bool) → (c && d) ≡ false → d ≡ true → c ≡ false
no_result true true h is = absurd (cc)
no_result true false h is = refl
no_result false c h is = absurd (cc)

written_step : (d : Bool) (regs : List ℕ) (e : WindowEntry) (n : ℕ) → is_done e.progress ≡ d → n < length regs → has_result n e ≡ false
    → slice_index (if d then with_reg regs (profile_of e).rd e.result.value else regs) n ≡ slice_index regs n
written_step true regs e n is h none = reg_other_by ((profile_of e).rd == 0) regs (profile_of e).rd e.result.value n refl h (no_result (is_done e.progress) (writes n e) none is)
written_step false regs e n is h none = refl

written_long : (d : Bool) (regs : List ℕ) (e : WindowEntry) → length (if d then with_reg regs (profile_of e).rd e.result.value else regs) ≡ length regs
written_long true regs e = reg_long_by ((profile_of e).rd == 0) regs (profile_of e).rd e.result.value
written_long false regs e = refl

written_none : (regs : List ℕ) (w : List WindowEntry) (n : ℕ) → n < length regs → ((i : ℕ) → holds_at (has_result n) w i ≡ false) → slice_index (written regs w) n ≡ slice_index regs n
written_none regs [] n h none = refl
written_none regs (e ∷ w) n h none =
    let long = written_long (is_done e.progress) regs e in
    written_none (if is_done e.progress then with_reg regs (profile_of e).rd e.result.value else regs) w n (omega arith) (λ i. none (suc i))
    ∙ written_step (is_done e.progress) regs e n refl h (none 0)

result_by : (d : Bool) (regs : List ℕ) (e : WindowEntry) (n : ℕ) → is_done e.progress ≡ d → n < length regs → (writes n e && d) ≡ true
    → slice_index (if d then with_reg regs (profile_of e).rd e.result.value else regs) n ≡ e.result.value
result_by true regs e n is h there = reg_same_by ((profile_of e).rd == 0) regs (profile_of e).rd e.result.value n refl h (reg_left (writes n e) true there)
result_by false regs e n is h there = absurd (and_never (writes n e) there)

written_last : (regs : List ℕ) (w : List WindowEntry) (n j : ℕ) (x : WindowEntry) → n < length regs → slice_get w j ≡ Some x → holds_at (has_result n) w j ≡ true → ((i : ℕ) → j < i → holds_at (has_result n) w i ≡ false)
    → slice_index (written regs w) n ≡ x.result.value
written_last regs [] n j x h is there last = absurd (cc)
written_last regs (e ∷ w) n zero x h is there last =
    let here : e ≡ x = cc in
    let long = written_long (is_done e.progress) regs e in
    written_none (if is_done e.progress then with_reg regs (profile_of e).rd e.result.value else regs) w n (omega arith) (λ i. last (suc i) (omega arith))
    ∙ result_by (is_done e.progress) regs e n refl h there
    ∙ ap (λ (z : WindowEntry). z.result.value) here
written_last regs (e ∷ w) n (suc j) x h is there last =
    let long = written_long (is_done e.progress) regs e in
    written_last (if is_done e.progress then with_reg regs (profile_of e).rd e.result.value else regs) w n j x (omega arith) is there (λ i k. last (suc i) (omega arith))

get_take : (w : List WindowEntry) (at j : ℕ) → j < at → slice_get (take at w) j ≡ slice_get w j
get_take [] zero j h = refl
get_take [] (suc at) j h = refl
get_take (e ∷ w) zero j h = absurd (omega arith)
get_take (e ∷ w) (suc at) zero h = refl
get_take (e ∷ w) (suc at) (suc j) h = get_take w at j (omega arith)

pub reg_none_of : (regs : List ℕ) (w : List WindowEntry) (at n : ℕ) → n < length regs → ((i : ℕ) → i < at → holds_at (has_result n) w i ≡ false) → slice_index regs n ≡ slice_index (written regs (take at w)) n
reg_none_of regs w at n h none = sym (written_none regs (take at w) n h (λ i. before_none (has_result n) w at i (none i)))

pub reg_last_of : (regs : List ℕ) (w : List WindowEntry) (at n j : ℕ) (x : WindowEntry) → n < length regs → slice_get w j ≡ Some x → IsLastOf (has_result n) w at j → x.result.value ≡ slice_index (written regs (take at w)) n
reg_last_of regs w at n j x h is last =
    let before = last.before in
    sym (written_last regs (take at w) n j x h (get_take w at j before ∙ is) (holds_take (has_result n) w at j before ∙ last.there)
    (λ i k. before_none (has_result n) w at i (λ lt. last.last i k lt)))

-- ---- who can begin

can_here_of : (older w : List WindowEntry) (at : ℕ) (e : WindowEntry) → slice_get w at ≡ Some e → can_at older w at ≡ can_begin (older ++ take at w) e
can_here_of older [] at e is = absurd (cc)
can_here_of older (x ∷ w) zero e is = let here : x ≡ e = cc in ap (can_begin older) here ∙ ap (λ (o : List WindowEntry). can_begin o e) (sym (append-nil older))
can_here_of older (x ∷ w) (suc at) e is = can_here_of (older ++ x ∷ []) w at e is ∙ ap (λ (o : List WindowEntry). can_begin o e) (append_assoc older (x ∷ []) (take at w))

pub can_here : (w : List WindowEntry) (at : ℕ) (e : WindowEntry) → slice_get w at ≡ Some e → can_at [] w at ≡ can_begin (take at w) e
can_here w at e is = can_here_of [] w at e is

abbrev could : List WindowEntry → WindowEntry → Bool
could older e = is_waiting e.progress && (is_available older (profile_of e).rs1 && is_available older (profile_of e).rs2)

could_here_of : (older w : List WindowEntry) (at : ℕ) (e : WindowEntry) → slice_get w at ≡ Some e → could_at older w at ≡ could (older ++ take at w) e
could_here_of older [] at e is = absurd (cc)
could_here_of older (x ∷ w) zero e is = let here : x ≡ e = cc in ap (could older) here ∙ ap (λ (o : List WindowEntry). could o e) (sym (append-nil older))
could_here_of older (x ∷ w) (suc at) e is = could_here_of (older ++ x ∷ []) w at e is ∙ ap (λ (o : List WindowEntry). could o e) (append_assoc older (x ∷ []) (take at w))

no_sources : (a b c d : Bool) → (b && c) ≡ false → (a && ((b && c) && d)) ≡ false
no_sources a b c d none = rw none (and_off a)

all_sources : (a b c d : Bool) → a ≡ true → (b && c) ≡ true → d ≡ (a && ((b && c) && d))
all_sources a b c d is h = rw (is, h) refl

-- the entry at a place, whose profile is noted, and whether it was found to have its sources
module _ (w : List WindowEntry) (at : ℕ) (e : WindowEntry) (here : slice_get w at ≡ Some e) (noted : Profile) (profile : noted ≡ profile_of e)
    (found : Bool) (asked : found ≡ (is_available (take at w) noted.rs1 && is_available (take at w) noted.rs2)) where
  sources : (is_available (take at w) (profile_of e).rs1 && is_available (take at w) (profile_of e).rs2) ≡ found
  sources = ap (λ (p : Profile). is_available (take at w) p.rs1 && is_available (take at w) p.rs2) (sym profile) ∙ sym asked

  pub could_not : found ≡ false → could_at [] w at ≡ false
  could_not lacks = could_here_of [] w at e here ∙ rw (sources ∙ lacks) (and_off (is_waiting e.progress))

  pub can_not : found ≡ false → can_at [] w at ≡ false
  unfolding is_ready
  can_not lacks = can_here w at e here ∙ no_sources (is_waiting e.progress) (is_available (take at w) (profile_of e).rs1) (is_available (take at w) (profile_of e).rs2) (is_free (profile_of e).class (take at w)) (sources ∙ lacks)

  pub can_if_free : is_waiting e.progress ≡ true → found ≡ true → is_free noted.class (take at w) ≡ can_at [] w at
  unfolding is_ready
  can_if_free waits some =
      ap (λ (p : Profile). is_free p.class (take at w)) profile
      ∙ all_sources (is_waiting e.progress) (is_available (take at w) (profile_of e).rs1) (is_available (take at w) (profile_of e).rs2) (is_free (profile_of e).class (take at w)) waits (sources ∙ some)
      ∙ sym (can_here w at e here)

-- ---- the oldest goes

absent : (o : Option WindowEntry) → o ≡ None → is_some o ≡ true → ⊥
absent None is some = absurd (cc)
absent (Some e) is some = absurd (cc)

pub popped : (w : List WindowEntry) (o : Option WindowEntry) (b new : Board) → o ≡ slice_get w 0 → is_some o ≡ true → IsBoard w b → ((e : WindowEntry) → slice_get w 0 ≡ Some e → is_done e.progress ≡ true)
    → ((v : List WindowEntry) (e : WindowEntry) → IsBoard (e ∷ v) b → is_done e.progress ≡ true → IsBoard v new) → IsBoard (drop 1 w) new
popped [] o b new is some i done pops = absurd (absent o is some)
popped (e ∷ w) o b new is some i done pops = pops w e i (done e refl)
