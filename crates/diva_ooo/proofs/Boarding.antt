-- The board follows the entries of its window.
use Rattle.std.proofs.Common.{◌≡◌, ℕ, ◌<◌, zero, suc, ◌+◌, ◌==◌, Bool, true, false, not, ◌&&◌, ◌||◌, ◌⊎◌, inl, inr, List, [], ◌∷◌, ◌++◌, length, get_or, replicate, take, Some, refl, ap, sym, ◌∙◌, arith, slice_get, subst, append_assoc, if◌then◌else◌}
use Rattle.std.specs.Prelude.{slice_set, nat_lt}
use Rattle.std.proofs.lemmas.Bool.Decides.{nat_tests}
use Rattle.std.proofs.Math.ListN.{length-set}
use Rattle.std.proofs.lemmas.List.{append-nil}
use Rattle.std.proofs.lemmas.Nat.Bits.{bit_at-zero}
use Rattle.diva_core.specs.Cycle.{is_store}
use Rattle.diva_ooo.specs.WindowEntry.{WindowEntry, profile_of}
use Rattle.diva_ooo.specs.declared.entry.Progress.{Progress}
use Rattle.diva_ooo.specs.declared.entry.Progress.TheVariants.{Waiting, Running, Done}
use Rattle.diva_ooo.specs.declared.board.Board.{Board}
use Rattle.diva_ooo.specs.declared.mark_set.MarkSet.{MarkSet}
use Rattle.diva_ooo.specs.declared.profile.Class.{Class}
use Rattle.diva_ooo.specs.declared.profile.Profile.{Profile}
use Rattle.diva_ooo.specs.Board.{IsBoard, IsWrittenBetween, could_at, is_load, is_loading, is_open_store, no_mark, reads, writes}
use Rattle.diva_ooo.specs.Finish.{is_running}
use Rattle.diva_ooo.specs.Issue.{is_available, is_awaited, is_done, is_storing, is_waiting}
use Rattle.diva_ooo.specs.MarkSets.{AreThose, has, holds_at}
use Rattle.diva_ahead.specs.Effects.{done_by}
use Rattle.diva_ooo.proofs.Marking.{and_off, holds_here, those_kept, those_lowered, those_none, those_pop, those_push, those_same, those_set}

-- ---- what holds by how far an entry is

pub waits_only : (s : Progress) → is_waiting s ≡ true → (is_running s ≡ false) × (is_done s ≡ false)
waits_only Waiting is = (refl, refl)
waits_only (Running left) is = absurd (cc)
waits_only Done is = absurd (cc)

pub runs_only : (s : Progress) → is_running s ≡ true → (is_waiting s ≡ false) × (is_done s ≡ false)
runs_only Waiting is = absurd (cc)
runs_only (Running left) is = (refl, refl)
runs_only Done is = absurd (cc)

pub done_only : (s : Progress) → is_done s ≡ true → (is_waiting s ≡ false) × (is_running s ≡ false)
done_only Waiting is = absurd (cc)
done_only (Running left) is = absurd (cc)
done_only Done is = (refl, refl)

-- ---- what is available

awaited_more : (older : List WindowEntry) (e : WindowEntry) (so : Bool) (n : ℕ) → is_awaited so (older ++ e ∷ []) n ≡ (if (profile_of e).rd == n then not (is_done e.progress) else is_awaited so older n)
awaited_more [] e so n = refl
awaited_more (x ∷ older) e so n = awaited_more older e (if (profile_of x).rd == n then not (is_done x.progress) else so) n

available_more : (o : List WindowEntry) (e : WindowEntry) (n : ℕ) → is_available (o ++ e ∷ []) n ≡ ((n == 0) || not (if (profile_of e).rd == n then not (is_done e.progress) else is_awaited false o n))
available_more o e n = ap (λ (b : Bool). (n == 0) || not b) (awaited_more o e false n)

more_by : (c z d a b : Bool) → (z || not a) ≡ (z || not b) → (z || not (if c then not d else a)) ≡ (z || not (if c then not d else b))
more_by true z d a b h = refl
more_by false z d a b h = h

-- the same is available behind both, but maybe for one register
abbrev AreAlike : (r : ℕ) → List WindowEntry → List WindowEntry → Type 0
AreAlike r o1 o2 = (n : ℕ) → ((n == r) && not (r == 0)) ≡ false → is_available o1 n ≡ is_available o2 n

pub alike_more : (r : ℕ) (o1 o2 : List WindowEntry) (x : WindowEntry) → AreAlike r o1 o2 → AreAlike r (o1 ++ x ∷ []) (o2 ++ x ∷ [])
alike_more r o1 o2 x alike = λ n other.
    available_more o1 x n
    ∙ more_by ((profile_of x).rd == n) (n == 0) (is_done x.progress) (is_awaited false o1 n) (is_awaited false o2 n) (alike n other)
    ∙ sym (available_more o2 x n)

unread : (a b z : Bool) → ((a || b) && z) ≡ false → ((a && z) ≡ false) × ((b && z) ≡ false)
unread true true true h = absurd (cc)
unread true false true h = absurd (cc)
unread false true true h = absurd (cc)
unread false false true h = (refl, refl)
unread true true false h = (refl, refl)
unread true false false h = (refl, refl)
unread false true false h = (refl, refl)
unread false false false h = (refl, refl)

could_alike : (r : ℕ) (o1 o2 w : List WindowEntry) (i : ℕ) → AreAlike r o1 o2 → holds_at (reads r) w i ≡ false → could_at o1 w i ≡ could_at o2 w i
could_alike r o1 o2 [] i alike not_read = refl
could_alike r o1 o2 (e ∷ w) zero alike not_read =
    let both = unread ((profile_of e).rs1 == r) ((profile_of e).rs2 == r) (not (r == 0)) not_read in
    ap (λ (b : Bool). is_waiting e.progress && (b && is_available o1 (profile_of e).rs2)) (alike (profile_of e).rs1 both.0)
    ∙ ap (λ (b : Bool). is_waiting e.progress && (is_available o2 (profile_of e).rs1 && b)) (alike (profile_of e).rs2 both.1)
could_alike r o1 o2 (e ∷ w) (suc i) alike not_read = could_alike r (o1 ++ e ∷ []) (o2 ++ e ∷ []) w i (alike_more r o1 o2 e alike) not_read

none_reads : (w : List WindowEntry) (i : ℕ) → holds_at (reads 0) w i ≡ false
none_reads [] i = refl
none_reads (e ∷ w) zero = and_off (((profile_of e).rs1 == 0) || ((profile_of e).rs2 == 0))
none_reads (e ∷ w) (suc i) = none_reads w i

could_same : (o1 o2 w : List WindowEntry) (i : ℕ) → ((n : ℕ) → is_available o1 n ≡ is_available o2 n) → could_at o1 w i ≡ could_at o2 w i
could_same o1 o2 w i same = could_alike 0 o1 o2 w i (λ n other. same n) (none_reads w i)

-- ---- an entry that is further

pub staged_same : (o : List WindowEntry) (x y : WindowEntry) → profile_of y ≡ profile_of x → is_done y.progress ≡ is_done x.progress → (n : ℕ) → is_available (o ++ y ∷ []) n ≡ is_available (o ++ x ∷ []) n
staged_same o x y profile progress n =
    available_more o y n
    ∙ ap (λ (p : Profile). (n == 0) || not (if p.rd == n then not (is_done y.progress) else is_awaited false o n)) profile
    ∙ ap (λ (b : Bool). (n == 0) || not (if (profile_of x).rd == n then not b else is_awaited false o n)) progress
    ∙ sym (available_more o x n)

waits_not : (older w : List WindowEntry) (y : WindowEntry) → is_waiting y.progress ≡ false → could_at older (y ∷ w) 0 ≡ false
waits_not older w y idle = rw idle refl

could_begun : (older w : List WindowEntry) (at i : ℕ) (x y : WindowEntry) → slice_get w at ≡ Some x → profile_of y ≡ profile_of x → is_done y.progress ≡ is_done x.progress → is_waiting y.progress ≡ false
    → could_at older w i ≡ false → could_at older (slice_set w at y) i ≡ false
could_begun older [] at i x y is profile progress idle h = h
could_begun older (e ∷ w) zero zero x y is profile progress idle h = waits_not older w y idle
could_begun older (e ∷ w) zero (suc i) x y is profile progress idle h =
    let here : e ≡ x = cc in
    could_same (older ++ y ∷ []) (older ++ x ∷ []) w i (staged_same older x y profile progress) ∙ ap (λ (z : WindowEntry). could_at (older ++ z ∷ []) w i) (sym here) ∙ h
could_begun older (e ∷ w) (suc at) zero x y is profile progress idle h = h
could_begun older (e ∷ w) (suc at) (suc i) x y is profile progress idle h = could_begun (older ++ e ∷ []) w at i x y is profile progress idle h

zero_by : (b : Bool) (n r : ℕ) → (n == 0) ≡ b → r ≡ n → ((n == r) && not (r == 0)) ≡ false → (n == 0) ≡ true
zero_by true n r is same other = is
zero_by false n r is same other =
    let equal : (n == r) ≡ true = grind (arith, nat_tests) in
    let some : (r == 0) ≡ false = grind (arith, nat_tests) in
    let off : (true && not false) ≡ false = ap (λ (c : Bool). c && not false) (sym equal) ∙ ap (λ (c : Bool). (n == r) && not c) (sym some) ∙ other in
    absurd (cc)

finished_by : (c : Bool) (o : List WindowEntry) (x y : WindowEntry) (n : ℕ) → profile_of y ≡ profile_of x → ((profile_of x).rd == n) ≡ c → ((n == (profile_of x).rd) && not ((profile_of x).rd == 0)) ≡ false
    → is_available (o ++ y ∷ []) n ≡ is_available (o ++ x ∷ []) n
finished_by true o x y n profile is other =
    let same : (profile_of x).rd ≡ n = grind (arith, nat_tests) in
    let none : (n == 0) ≡ true = zero_by (n == 0) n ((profile_of x).rd) refl same other in
    rw none refl
finished_by false o x y n profile is other =
    available_more o y n
    ∙ ap (λ (p : Profile). (n == 0) || not (if p.rd == n then not (is_done y.progress) else is_awaited false o n)) profile
    ∙ rw is refl
    ∙ ap (λ (c : Bool). (n == 0) || not (if c then not (is_done x.progress) else is_awaited false o n)) (sym is)
    ∙ sym (available_more o x n)

could_finished : (older w : List WindowEntry) (at i : ℕ) (x y : WindowEntry) → slice_get w at ≡ Some x → profile_of y ≡ profile_of x → is_waiting y.progress ≡ false → holds_at (reads (profile_of x).rd) w i ≡ false
    → could_at older w i ≡ false → could_at older (slice_set w at y) i ≡ false
could_finished older [] at i x y is profile idle unread' h = h
could_finished older (e ∷ w) zero zero x y is profile idle unread' h = waits_not older w y idle
could_finished older (e ∷ w) zero (suc i) x y is profile idle unread' h =
    let here : e ≡ x = cc in
    could_alike (profile_of x).rd (older ++ y ∷ []) (older ++ x ∷ []) w i (λ n other. finished_by ((profile_of x).rd == n) older x y n profile refl other) unread'
    ∙ ap (λ (z : WindowEntry). could_at (older ++ z ∷ []) w i) (sym here)
    ∙ h
could_finished older (e ∷ w) (suc at) zero x y is profile idle unread' h = h
could_finished older (e ∷ w) (suc at) (suc i) x y is profile idle unread' h = could_finished (older ++ e ∷ []) w at i x y is profile idle unread' h

-- behind an entry that writes the register the same is available
covered_by : (c : Bool) (o1 o2 : List WindowEntry) (r n : ℕ) (e : WindowEntry) → AreAlike r o1 o2 → (profile_of e).rd ≡ r → ((profile_of e).rd == n) ≡ c → is_available (o1 ++ e ∷ []) n ≡ is_available (o2 ++ e ∷ []) n
covered_by true o1 o2 r n e alike writes' is =
    available_more o1 e n
    ∙ ap (λ (c : Bool). (n == 0) || not (if c then not (is_done e.progress) else is_awaited false o1 n)) is
    ∙ ap (λ (c : Bool). (n == 0) || not (if c then not (is_done e.progress) else is_awaited false o2 n)) (sym is)
    ∙ sym (available_more o2 e n)
covered_by false o1 o2 r n e alike writes' is =
    let other : (n == r) ≡ false = grind (arith, nat_tests) in
    alike_more r o1 o2 e alike n (rw other refl)

writes_it : (e : WindowEntry) (r : ℕ) (c : Bool) → ((profile_of e).rd == r) ≡ c → (c && not (r == 0)) ≡ true → (profile_of e).rd ≡ r
writes_it e r true is there = grind (arith, nat_tests)
writes_it e r false is there = absurd (cc)

could_between : (r : ℕ) (o1 o2 w : List WindowEntry) (j i : ℕ) → AreAlike r o1 o2 → holds_at (writes r) w j ≡ true → j < i → could_at o1 w i ≡ could_at o2 w i
could_between r o1 o2 [] j i alike there h = refl
could_between r o1 o2 (e ∷ w) j zero alike there h = absurd (omega arith)
could_between r o1 o2 (e ∷ w) zero (suc i) alike there h =
    could_same (o1 ++ e ∷ []) (o2 ++ e ∷ []) w i (λ n. covered_by ((profile_of e).rd == n) o1 o2 r n e alike (writes_it e r ((profile_of e).rd == r) refl there) refl)
could_between r o1 o2 (e ∷ w) (suc j) (suc i) alike there h = could_between r (o1 ++ e ∷ []) (o2 ++ e ∷ []) w j i (alike_more r o1 o2 e alike) there (omega arith)

could_covered : (older w : List WindowEntry) (at j i : ℕ) (x y : WindowEntry) → slice_get w at ≡ Some x → profile_of y ≡ profile_of x → holds_at (writes (profile_of x).rd) w j ≡ true → at < j → j < i
    → could_at older w i ≡ false → could_at older (slice_set w at y) i ≡ false
could_covered older [] at j i x y is profile there h k none = refl
could_covered older (e ∷ w) at j zero x y is profile there h k none = absurd (omega arith)
could_covered older (e ∷ w) at zero (suc i) x y is profile there h k none = absurd (omega arith)
could_covered older (e ∷ w) zero (suc j) (suc i) x y is profile there h k none =
    let here : e ≡ x = cc in
    could_between (profile_of x).rd (older ++ y ∷ []) (older ++ x ∷ []) w j i (λ n other. finished_by ((profile_of x).rd == n) older x y n profile refl other) there (omega arith)
    ∙ ap (λ (z : WindowEntry). could_at (older ++ z ∷ []) w i) (sym here)
    ∙ none
could_covered older (e ∷ w) (suc at) (suc j) (suc i) x y is profile there h k none = could_covered (older ++ e ∷ []) w at j i x y is profile there (omega arith) (omega arith) none

could_done : (w : List WindowEntry) (at i : ℕ) (x y : WindowEntry) → slice_get w at ≡ Some x → profile_of y ≡ profile_of x → is_waiting y.progress ≡ false
    → (holds_at (reads (profile_of x).rd) w i ≡ false) ⊎ IsWrittenBetween w (profile_of x).rd at i → could_at [] w i ≡ false → could_at [] (slice_set w at y) i ≡ false
could_done w at i x y is profile idle (inl unread') h = could_finished [] w at i x y is profile idle unread' h
could_done w at i x y is profile idle (inr between) h = could_covered [] w at between.place i x y is profile between.there between.behind between.before h

-- ---- the window gets longer and shorter

gone_by : (c z : Bool) → (z || not (if c then false else false)) ≡ (z || true)
gone_by true z = refl
gone_by false z = refl

gone_same : (e : WindowEntry) → is_done e.progress ≡ true → (n : ℕ) → is_available (e ∷ []) n ≡ is_available [] n
gone_same e done n = rw done (gone_by ((profile_of e).rd == n) (n == 0))

could_pushed : (older w : List WindowEntry) (e : WindowEntry) (i : ℕ) → (i ≡ length w → ⊥) → could_at older (w ++ e ∷ []) i ≡ could_at older w i
could_pushed older [] e zero other = absurd (other refl)
could_pushed older [] e (suc i) other = refl
could_pushed older (x ∷ w) e zero other = refl
could_pushed older (x ∷ w) e (suc i) other = could_pushed (older ++ x ∷ []) w e i (λ is. other (omega arith))

could_taken : (older w : List WindowEntry) (most i : ℕ) → could_at older w i ≡ false → could_at older (take most w) i ≡ false
could_taken older [] zero i h = refl
could_taken older [] (suc most) i h = refl
could_taken older (e ∷ w) zero i h = refl
could_taken older (e ∷ w) (suc most) zero h = h
could_taken older (e ∷ w) (suc most) (suc i) h = could_taken (older ++ e ∷ []) w most i h

pub could_waits : (older w : List WindowEntry) (i : ℕ) → holds_at (λ e. is_waiting e.progress) w i ≡ false → could_at older w i ≡ false
could_waits older [] i h = refl
could_waits older (e ∷ w) zero h = waits_not older w e h
could_waits older (e ∷ w) (suc i) h = could_waits (older ++ e ∷ []) w i h

-- ---- the board

get_blank : (k n : ℕ) → get_or (replicate k no_mark) n no_mark ≡ no_mark
get_blank zero n = refl
get_blank (suc k) zero = refl
get_blank (suc k) (suc n) = get_blank k n

pub blank_those : (p : WindowEntry → Bool) (n : ℕ) → AreThose p [] 0 (get_or (replicate 32 no_mark) n no_mark)
blank_those p n = λ i. ap (λ (s : MarkSet). has s (0 + i)) (get_blank 32 n) ∙ those_none p 0 i

gone_one : (c : Bool) (w : List WindowEntry) (e : WindowEntry) (b : Board) (n : ℕ) → IsBoard (e ∷ w) b → is_done e.progress ≡ true → nat_lt n b.base ≡ c → n < b.base + 1 → has b.done n ≡ true
gone_one true w e b n i is less h = let before : n < b.base = grind (arith, nat_tests) in i.gone n before
gone_one false w e b n i is less h =
    let here : n ≡ b.base + 0 = grind (arith, nat_tests) in
    ap (has b.done) here ∙ i.done 0 ∙ is

apart_mark : (base at n : ℕ) → n < base → (n == base + at) ≡ false
apart_mark base at n h = grind (arith, nat_tests)

pub board_pop : (w : List WindowEntry) (e : WindowEntry) (b : Board) → b.base < 32 → IsBoard (e ∷ w) b → is_done e.progress ≡ true → IsBoard w (record b { base = b.base + 1 })
board_pop w e b few i is =
    record {
      base = omega arith;
      waiting = those_pop (λ x. is_waiting x.progress) w e b.base b.waiting i.waiting;
      running = those_pop (λ x. is_running x.progress) w e b.base b.running i.running;
      done = those_pop (λ x. is_done x.progress) w e b.base b.done i.done;
      gone = λ n h. gone_one (nat_lt n b.base) w e b n i is refl h;
      storing = those_pop is_open_store w e b.base b.storing i.storing;
      stored = those_pop (λ x. is_store (done_by x.result)) w e b.base b.stored i.stored;
      loads = those_pop is_load w e b.base b.loads i.loads;
      candidates = λ n none.
          let at : b.base + 1 + n ≡ b.base + suc n = omega arith in
          sym (could_same (e ∷ []) [] w n (gone_same e is)) ∙ i.candidates (suc n) (ap (has b.candidates) (sym at) ∙ none);
      write_sets = i.write_sets;
      read_sets = i.read_sets;
      writers = λ n h. those_pop (writes n) w e b.base (get_or b.writers n no_mark) (i.writers n h);
      readers = λ n h. those_pop (reads n) w e b.base (get_or b.readers n no_mark) (i.readers n h);
    }

not_open : (x y : WindowEntry) → profile_of y ≡ profile_of x → is_done y.progress ≡ is_done x.progress → is_open_store y ≡ is_open_store x
not_open x y profile progress = ap (λ (p : Profile). not (is_done y.progress) && is_storing p.class) profile ∙ ap (λ (c : Bool). not c && is_storing (profile_of x).class) progress

load_same : (x y : WindowEntry) → profile_of y ≡ profile_of x → is_load y ≡ is_load x
load_same x y profile = ap (λ (p : Profile). is_loading p.class) profile

written_same : (n : ℕ) (x y : WindowEntry) → profile_of y ≡ profile_of x → writes n y ≡ writes n x
written_same n x y profile = ap (λ (p : Profile). (p.rd == n) && not (n == 0)) profile

read_same : (n : ℕ) (x y : WindowEntry) → profile_of y ≡ profile_of x → reads n y ≡ reads n x
read_same n x y profile = ap (λ (p : Profile). ((p.rs1 == n) || (p.rs2 == n)) && not (n == 0)) profile

-- an entry that runs goes on
pub board_runs : (w : List WindowEntry) (at : ℕ) (x y : WindowEntry) (b : Board) → IsBoard w b → slice_get w at ≡ Some x → is_running x.progress ≡ true → is_running y.progress ≡ true → profile_of y ≡ profile_of x → done_by y.result ≡ done_by x.result → IsBoard (slice_set w at y) b
board_runs w at x y b i is was now profile effect =
    let before = runs_only x.progress was in
    let after = runs_only y.progress now in
    record {
      base = i.base;
      waiting = those_same (λ e. is_waiting e.progress) w at x y b.base b.waiting i.waiting is (after.0 ∙ sym before.0);
      running = those_same (λ e. is_running e.progress) w at x y b.base b.running i.running is (now ∙ sym was);
      done = those_same (λ e. is_done e.progress) w at x y b.base b.done i.done is (after.1 ∙ sym before.1);
      gone = i.gone;
      storing = those_same is_open_store w at x y b.base b.storing i.storing is (not_open x y profile (after.1 ∙ sym before.1));
      stored = those_same (λ e. is_store (done_by e.result)) w at x y b.base b.stored i.stored is (ap is_store effect);
      loads = those_same is_load w at x y b.base b.loads i.loads is (load_same x y profile);
      candidates = λ n none. could_begun [] w at n x y is profile (after.1 ∙ sym before.1) after.0 (i.candidates n none);
      write_sets = i.write_sets;
      read_sets = i.read_sets;
      writers = λ n h. those_same (writes n) w at x y b.base (get_or b.writers n no_mark) (i.writers n h) is (written_same n x y profile);
      readers = λ n h. those_same (reads n) w at x y b.base (get_or b.readers n no_mark) (i.readers n h) is (read_same n x y profile);
    }

-- an entry begins
or_off_right : (b : Bool) → (b || false) ≡ b
or_off_right true = refl
or_off_right false = refl

pub board_begun : (w : List WindowEntry) (at : ℕ) (x y : WindowEntry) (b : Board) (waiting running stored : MarkSet) (stores : Bool) → IsBoard w b → slice_get w at ≡ Some x → is_waiting x.progress ≡ true → is_running y.progress ≡ true → profile_of y ≡ profile_of x → is_store (done_by x.result) ≡ false → is_store (done_by y.result) ≡ stores
    → ((i : ℕ) → has waiting i ≡ (if i == b.base + at then false else has b.waiting i))
    → ((i : ℕ) → has running i ≡ (if i == b.base + at then true else has b.running i))
    → ((i : ℕ) → has stored i ≡ (if i == b.base + at then stores || has b.stored (b.base + at) else has b.stored i))
    → IsBoard (slice_set w at y) (record b { waiting = waiting; running = running; stored = stored })
board_begun w at x y b waiting running stored stores i is was now profile none does takes puts adds =
    let before = waits_only x.progress was in
    let after = runs_only y.progress now in
    record {
      base = i.base;
      waiting = those_set (λ e. is_waiting e.progress) w at x y b.base false b.waiting waiting i.waiting is after.0 takes;
      running = those_set (λ e. is_running e.progress) w at x y b.base true b.running running i.running is now puts;
      done = those_same (λ e. is_done e.progress) w at x y b.base b.done i.done is (after.1 ∙ sym before.1);
      gone = i.gone;
      storing = those_same is_open_store w at x y b.base b.storing i.storing is (not_open x y profile (after.1 ∙ sym before.1));
      stored =
          those_set (λ e. is_store (done_by e.result)) w at x y b.base stores b.stored stored i.stored is does
          (λ k. adds k ∙ ap (λ (c : Bool). if k == b.base + at then c else has b.stored k) (ap (λ (c : Bool). stores || c) (i.stored at ∙ holds_here (λ e. is_store (done_by e.result)) w at x is ∙ none) ∙ or_off_right stores));
      loads = those_same is_load w at x y b.base b.loads i.loads is (load_same x y profile);
      candidates = λ n none. could_begun [] w at n x y is profile (after.1 ∙ sym before.1) after.0 (i.candidates n none);
      write_sets = i.write_sets;
      read_sets = i.read_sets;
      writers = λ n h. those_same (writes n) w at x y b.base (get_or b.writers n no_mark) (i.writers n h) is (written_same n x y profile);
      readers = λ n h. those_same (reads n) w at x y b.base (get_or b.readers n no_mark) (i.readers n h) is (read_same n x y profile);
    }

closed : (y : WindowEntry) → is_done y.progress ≡ true → is_open_store y ≡ false
closed y is = rw is refl

or_off : (a b : Bool) → (a || b) ≡ false → (a ≡ false) × (b ≡ false)
or_off true b h = absurd (cc)
or_off false true h = absurd (cc)
or_off false false h = (refl, refl)

-- an entry is done
pub board_done : (w : List WindowEntry) (at : ℕ) (x y : WindowEntry) (b : Board) (running done storing candidates waiting : MarkSet) → IsBoard w b → slice_get w at ≡ Some x → is_running x.progress ≡ true → is_done y.progress ≡ true → profile_of y ≡ profile_of x → done_by y.result ≡ done_by x.result
    → ((i : ℕ) → has running i ≡ (if i == b.base + at then false else has b.running i))
    → ((i : ℕ) → has done i ≡ (if i == b.base + at then true else has b.done i))
    → ((i : ℕ) → has storing i ≡ (if i == b.base + at then false else has b.storing i))
    → ((i : ℕ) → has candidates i ≡ (has b.candidates i || has waiting i))
    → ((i : ℕ) → has waiting (b.base + i) ≡ false → (holds_at (reads (profile_of x).rd) w i ≡ false) ⊎ IsWrittenBetween w (profile_of x).rd at i)
    → IsBoard (slice_set w at y) (record b { running = running; done = done; storing = storing; candidates = candidates })
board_done w at x y b running done storing candidates waiting i is was now profile effect takes puts closes adds others =
    let before = runs_only x.progress was in
    let after = done_only y.progress now in
    record {
      base = i.base;
      waiting = those_same (λ e. is_waiting e.progress) w at x y b.base b.waiting i.waiting is (after.0 ∙ sym before.0);
      running = those_set (λ e. is_running e.progress) w at x y b.base false b.running running i.running is after.1 takes;
      done = those_set (λ e. is_done e.progress) w at x y b.base true b.done done i.done is now puts;
      gone = λ n h. puts n ∙ ap (λ (c : Bool). if c then true else has b.done n) (apart_mark b.base at n h) ∙ i.gone n h;
      storing = those_set is_open_store w at x y b.base false b.storing storing i.storing is (closed y now) closes;
      stored = those_same (λ e. is_store (done_by e.result)) w at x y b.base b.stored i.stored is (ap is_store effect);
      loads = those_same is_load w at x y b.base b.loads i.loads is (load_same x y profile);
      candidates = λ n none.
          let neither = or_off (has b.candidates (b.base + n)) (has waiting (b.base + n)) (sym (adds (b.base + n)) ∙ none) in
          could_done w at n x y is profile after.0 (others n neither.1) (i.candidates n neither.0);
      write_sets = i.write_sets;
      read_sets = i.read_sets;
      writers = λ n h. those_same (writes n) w at x y b.base (get_or b.writers n no_mark) (i.writers n h) is (written_same n x y profile);
      readers = λ n h. those_same (reads n) w at x y b.base (get_or b.readers n no_mark) (i.readers n h) is (read_same n x y profile);
    }

passed_by : (c : Bool) (w : List WindowEntry) (at n : ℕ) (b : Board) → IsBoard w b → could_at [] w at ≡ false → (b.base + n == b.base + at) ≡ c → (if c then false else has b.candidates (b.base + n)) ≡ false → could_at [] w n ≡ false
passed_by true w at n b i idle is none = let same : n ≡ at = grind (arith, nat_tests) in ap (could_at [] w) same ∙ idle
passed_by false w at n b i idle is none = i.candidates n none

-- an entry is no candidate
pub board_passed : (w : List WindowEntry) (at : ℕ) (b : Board) (candidates : MarkSet) → IsBoard w b → could_at [] w at ≡ false
    → ((i : ℕ) → has candidates i ≡ (if i == b.base + at then false else has b.candidates i)) → IsBoard w (record b { candidates = candidates })
board_passed w at b candidates i idle takes =
    record {
      base = i.base;
      waiting = i.waiting;
      running = i.running;
      done = i.done;
      gone = i.gone;
      storing = i.storing;
      stored = i.stored;
      loads = i.loads;
      candidates = λ n none. passed_by (b.base + n == b.base + at) w at n b i idle refl (sym (takes (b.base + n)) ∙ none);
      write_sets = i.write_sets;
      read_sets = i.read_sets;
      writers = i.writers;
      readers = i.readers;
    }

-- ---- the sets by register

get_set : (xs : List MarkSet) (k n : ℕ) (t : MarkSet) → n < length xs → get_or (slice_set xs k t) n no_mark ≡ (if k == n then t else get_or xs n no_mark)
get_set [] k n t h = absurd (omega arith)
get_set (x ∷ xs) zero zero t h = refl
get_set (x ∷ xs) zero (suc n) t h = let other : (0 == suc n) ≡ false = grind (arith, nat_tests) in rw other refl
get_set (x ∷ xs) (suc k) zero t h = let other : (suc k == 0) ≡ false = grind (arith, nat_tests) in rw other refl
get_set (x ∷ xs) (suc k) (suc n) t h = let same : (suc k == suc n) ≡ (k == n) = grind (arith, nat_tests) in rw same (get_set xs k n t (omega arith))

as_was : (c : Bool) (s : MarkSet) (mark i : ℕ) → (i == mark) ≡ c → has s i ≡ (if c then has s mark else has s i)
as_was true s mark i is = let same : i ≡ mark = grind (arith, nat_tests) in ap (has s) same
as_was false s mark i is = refl

-- a mark was put into a set, if it was to be a member
abbrev pub IsPut : (member : Bool) (mark : ℕ) → (before after : MarkSet) → Type 0
IsPut member mark before after = (i : ℕ) → has after i ≡ (if i == mark then member || has before mark else has before i)

pub put_if : (member : Bool) (mark : ℕ) (s t : MarkSet) → member ≡ true → IsPut true mark s t → IsPut member mark s t
put_if member mark s t is puts = λ i. puts i ∙ ap (λ (c : Bool). if i == mark then c || has s mark else has s i) (sym is)

pub put_else : (member : Bool) (mark : ℕ) (s : MarkSet) → member ≡ false → IsPut member mark s s
put_else member mark s is = λ i. as_was (i == mark) s mark i refl ∙ ap (λ (c : Bool). if i == mark then c || has s mark else has s i) (sym is)

-- a mark was put into the set of a register
abbrev ArePut : (before after : List MarkSet) → (r mark : ℕ) → Type 0
ArePut before after r mark = (n : ℕ) → n < 32 → IsPut (r == n) mark (get_or before n no_mark) (get_or after n no_mark)

put_sets_by : (c : Bool) (xs : List MarkSet) (r mark : ℕ) (t : MarkSet) (n : ℕ) → (r == n) ≡ c → IsPut true mark (get_or xs r no_mark) t → IsPut c mark (get_or xs n no_mark) (if c then t else get_or xs n no_mark)
put_sets_by true xs r mark t n is puts = let same : r ≡ n = grind (arith, nat_tests) in λ i. puts i ∙ ap (λ (m : ℕ). if i == mark then true else has (get_or xs m no_mark) i) same
put_sets_by false xs r mark t n is puts = λ i. as_was (i == mark) (get_or xs n no_mark) mark i refl

put_sets : (xs : List MarkSet) (r mark : ℕ) (t : MarkSet) → length xs ≡ 32 → IsPut true mark (get_or xs r no_mark) t → ArePut xs (slice_set xs r t) r mark
put_sets xs r mark t long puts = λ n h i. ap (λ (s : MarkSet). has s i) (get_set xs r n t (omega arith)) ∙ put_sets_by (r == n) xs r mark t n refl puts i

none_writes : (w : List WindowEntry) (i : ℕ) → holds_at (writes 0) w i ≡ false
none_writes [] i = refl
none_writes (e ∷ w) zero = and_off ((profile_of e).rd == 0)
none_writes (e ∷ w) (suc i) = none_writes w i

-- those of x0 were taken out, of which there are none
those_cleared : (c : Bool) (p : ℕ → WindowEntry → Bool) (w : List WindowEntry) (base : ℕ) (xs : List MarkSet) (n : ℕ) → (0 == n) ≡ c → n < length xs → ((i : ℕ) → holds_at (p 0) w i ≡ false)
    → ((n == 0) ≡ false → AreThose (p n) w base (get_or xs n no_mark)) → AreThose (p n) w base (get_or (slice_set xs 0 no_mark) n no_mark)
those_cleared true p w base xs n is h none those = λ i.
    let same : 0 ≡ n = grind (arith, nat_tests) in
    ap (λ (s : MarkSet). has s (base + i)) (get_set xs 0 n no_mark h ∙ ap (λ (c : Bool). if c then no_mark else get_or xs n no_mark) is)
    ∙ ap (λ (z : ℕ). z == 1) (bit_at-zero (base + i))
    ∙ sym (ap (λ (m : ℕ). holds_at (p m) w i) (sym same) ∙ none i)
those_cleared false p w base xs n is h none those = λ i.
    let some : (n == 0) ≡ false = grind (arith, nat_tests) in
    ap (λ (s : MarkSet). has s (base + i)) (get_set xs 0 n no_mark h ∙ ap (λ (c : Bool). if c then no_mark else get_or xs n no_mark) is)
    ∙ those some i

not_x0 : (a z : Bool) → z ≡ false → a ≡ (a && not z)
not_x0 true z is = rw is refl
not_x0 false z is = refl

writers_push : (w : List WindowEntry) (e : WindowEntry) (base : ℕ) (xs : List MarkSet) (t : MarkSet) (r : ℕ) → r ≡ (profile_of e).rd → length xs ≡ 32
    → IsPut true (base + length w) (get_or xs r no_mark) t
    → ((n : ℕ) → n < 32 → AreThose (writes n) w base (get_or xs n no_mark))
    → (n : ℕ) → n < 32 → AreThose (writes n) (w ++ e ∷ []) base (get_or (slice_set (slice_set xs r t) 0 no_mark) n no_mark)
writers_push w e base xs t r is long puts those n h =
    let ys = slice_set xs r t in
    let same : length ys ≡ length xs = length-set xs r t in
    those_cleared (0 == n) writes (w ++ e ∷ []) base ys n refl (omega arith) (none_writes (w ++ e ∷ []))
    (λ some.
    those_push (writes n) w e base (get_or xs n no_mark) (get_or ys n no_mark) (r == n) (those n h)
    (ap (λ (m : ℕ). m == n) is ∙ not_x0 ((profile_of e).rd == n) (n == 0) some)
    (put_sets xs r (base + length w) t long puts n h))

either : (a b c : Bool) → (a || (b || c)) ≡ ((a || b) || c)
either true b c = refl
either false b c = refl

turned : (a b : Bool) → (a || b) ≡ (b || a)
turned true true = refl
turned true false = refl
turned false true = refl
turned false false = refl

joint : (c a b : Bool) (i mark : ℕ) (s : MarkSet) → (i == mark) ≡ c → (if c then a || (if mark == mark then b || has s mark else has s mark) else (if i == mark then b || has s mark else has s i)) ≡ (if c then (a || b) || has s mark else has s i)
joint true a b i mark s is = let same : (mark == mark) ≡ true = grind (arith, nat_tests) in rw same (either a b (has s mark))
joint false a b i mark s is = rw is refl

-- one mark and then another
put_both : (a b : Bool) (mark : ℕ) (s t u : MarkSet) → IsPut b mark s t → IsPut a mark t u → IsPut (a || b) mark s u
put_both a b mark s t u first second = λ i.
    second i
    ∙ ap (λ (c : Bool). if i == mark then a || c else has t i) (first mark)
    ∙ ap (λ (c : Bool). if i == mark then a || (if mark == mark then b || has s mark else has s mark) else c) (first i)
    ∙ joint (i == mark) a b i mark s refl

readers_push : (w : List WindowEntry) (e : WindowEntry) (base : ℕ) (xs : List MarkSet) (t u : MarkSet) (r1 r2 : ℕ) → r1 ≡ (profile_of e).rs1 → r2 ≡ (profile_of e).rs2 → length xs ≡ 32
    → IsPut true (base + length w) (get_or xs r1 no_mark) t → IsPut true (base + length w) (get_or (slice_set xs r1 t) r2 no_mark) u
    → ((n : ℕ) → n < 32 → AreThose (reads n) w base (get_or xs n no_mark))
    → (n : ℕ) → n < 32 → AreThose (reads n) (w ++ e ∷ []) base (get_or (slice_set (slice_set (slice_set xs r1 t) r2 u) 0 no_mark) n no_mark)
readers_push w e base xs t u r1 r2 is1 is2 long first second those n h =
    let mark = base + length w in
    let ys = slice_set xs r1 t in
    let zs = slice_set ys r2 u in
    let once : length ys ≡ length xs = length-set xs r1 t in
    let twice : length zs ≡ length ys = length-set ys r2 u in
    those_cleared (0 == n) reads (w ++ e ∷ []) base zs n refl (omega arith) (none_reads (w ++ e ∷ []))
    (λ some.
    those_push (reads n) w e base (get_or xs n no_mark) (get_or zs n no_mark) ((r2 == n) || (r1 == n)) (those n h)
    (turned (r2 == n) (r1 == n)
    ∙ ap (λ (m : ℕ). (m == n) || (r2 == n)) is1
    ∙ ap (λ (m : ℕ). ((profile_of e).rs1 == n) || (m == n)) is2
    ∙ not_x0 (((profile_of e).rs1 == n) || ((profile_of e).rs2 == n)) (n == 0) some)
    (put_both (r2 == n) (r1 == n) mark (get_or xs n no_mark) (get_or ys n no_mark) (get_or zs n no_mark) (put_sets xs r1 mark t long first n h) (put_sets ys r2 mark u (once ∙ long) second n h)))

-- ---- an entry more, and an entry less

could_last : (older w : List WindowEntry) (e : WindowEntry) (n : ℕ) → n ≡ length w → (is_available (older ++ w) (profile_of e).rs1 && is_available (older ++ w) (profile_of e).rs2) ≡ false → could_at older (w ++ e ∷ []) n ≡ false
could_last older [] e zero is none =
    let here : (is_available older (profile_of e).rs1 && is_available older (profile_of e).rs2) ≡ false = ap (λ (o : List WindowEntry). is_available o (profile_of e).rs1 && is_available o (profile_of e).rs2) (sym (append-nil older)) ∙ none in
    rw here (and_off (is_waiting e.progress))
could_last older [] e (suc n) is none = absurd (omega arith)
could_last older (x ∷ w) e zero is none = absurd (omega arith)
could_last older (x ∷ w) e (suc n) is none =
    could_last (older ++ x ∷ []) w e n (omega arith) (ap (λ (o : List WindowEntry). is_available o (profile_of e).rs1 && is_available o (profile_of e).rs2) (append_assoc older (x ∷ []) w) ∙ none)

pushed_by : (c ready : Bool) (w : List WindowEntry) (e : WindowEntry) (n : ℕ) (b : Board) → IsBoard w b → ready ≡ (is_available w (profile_of e).rs1 && is_available w (profile_of e).rs2)
    → (b.base + n == b.base + length w) ≡ c → (if c then ready || has b.candidates (b.base + length w) else has b.candidates (b.base + n)) ≡ false → could_at [] (w ++ e ∷ []) n ≡ false
pushed_by true ready w e n b i sources is none =
    let at : n ≡ length w = grind (arith, nat_tests) in
    let neither = or_off ready (has b.candidates (b.base + length w)) none in
    could_last [] w e n at (sym sources ∙ neither.0)
pushed_by false ready w e n b i sources is none =
    let other : n ≡ length w → ⊥ = λ at. absurd (grind (arith, nat_tests)) in
    could_pushed [] w e n other ∙ i.candidates n none

open_by_stage : (s : Progress) (c : Class) → is_waiting s ≡ true → is_storing c ≡ (not (is_done s) && is_storing c)
open_by_stage Waiting c waits = refl
open_by_stage (Running left) c waits = absurd (cc)
open_by_stage Done c waits = absurd (cc)

-- a store that waits is not done
pub open_waiting : (e : WindowEntry) (p : Profile) → p ≡ profile_of e → is_waiting e.progress ≡ true → is_storing p.class ≡ is_open_store e
open_waiting e p is waits = ap (λ (q : Profile). is_storing q.class) is ∙ open_by_stage e.progress (profile_of e).class waits

-- the sets by register behind an entry more
abbrev with_registers : Board → (rd r1 r2 : ℕ) (writers first second : MarkSet) → Board
with_registers b rd r1 r2 writers first second = record b {
  writers = slice_set (slice_set b.writers rd writers) 0 no_mark;
  readers = slice_set (slice_set (slice_set b.readers r1 first) r2 second) 0 no_mark;
}

board_more : (w : List WindowEntry) (e : WindowEntry) (b : Board) (candidates waiting storing loads writers first second : MarkSet) (rd r1 r2 : ℕ) (ready stores loading : Bool)
    → IsBoard w b → is_waiting e.progress ≡ true → is_store (done_by e.result) ≡ false → rd ≡ (profile_of e).rd → r1 ≡ (profile_of e).rs1 → r2 ≡ (profile_of e).rs2
    → ready ≡ (is_available w (profile_of e).rs1 && is_available w (profile_of e).rs2) → stores ≡ is_open_store e → loading ≡ is_load e
    → IsPut ready (b.base + length w) b.candidates candidates → IsPut true (b.base + length w) b.waiting waiting
    → IsPut stores (b.base + length w) b.storing storing → IsPut loading (b.base + length w) b.loads loads
    → IsPut true (b.base + length w) (get_or b.writers rd no_mark) writers
    → IsPut true (b.base + length w) (get_or b.readers r1 no_mark) first
    → IsPut true (b.base + length w) (get_or (slice_set b.readers r1 first) r2 no_mark) second
    → IsBoard (w ++ e ∷ []) (with_registers (record b { candidates = candidates; waiting = waiting; storing = storing; loads = loads }) rd r1 r2 writers first second)
board_more w e b candidates waiting storing loads writers first second rd r1 r2 ready stores loading i waits none isd is1 is2 sources iss isl putc putw puts putl put1 put2 put3 =
    let idle = waits_only e.progress waits in
    let mark = b.base + length w in
    record {
      base = i.base;
      waiting = those_push (λ x. is_waiting x.progress) w e b.base b.waiting waiting true i.waiting (sym waits) putw;
      running = those_push (λ x. is_running x.progress) w e b.base b.running b.running false i.running (sym idle.0) (put_else false mark b.running refl);
      done = those_push (λ x. is_done x.progress) w e b.base b.done b.done false i.done (sym idle.1) (put_else false mark b.done refl);
      gone = i.gone;
      storing = those_push is_open_store w e b.base b.storing storing stores i.storing iss puts;
      stored = those_push (λ x. is_store (done_by x.result)) w e b.base b.stored b.stored false i.stored (sym none) (put_else false mark b.stored refl);
      loads = those_push is_load w e b.base b.loads loads loading i.loads isl putl;
      candidates = λ n no. pushed_by (b.base + n == b.base + length w) ready w e n b i sources refl (sym (putc (b.base + n)) ∙ no);
      write_sets = length-set (slice_set b.writers rd writers) 0 no_mark ∙ length-set b.writers rd writers ∙ i.write_sets;
      read_sets =
          length-set (slice_set (slice_set b.readers r1 first) r2 second) 0 no_mark
          ∙ length-set (slice_set b.readers r1 first) r2 second
          ∙ length-set b.readers r1 first
          ∙ i.read_sets;
      writers = writers_push w e b.base b.writers writers rd isd i.write_sets put1 i.writers;
      readers = readers_push w e b.base b.readers first second r1 r2 is1 is2 i.read_sets put2 put3 i.readers;
    }

pub board_pushed : (w : List WindowEntry) (e : WindowEntry) (b c : Board) (candidates waiting storing loads writers first second : MarkSet) (rd r1 r2 : ℕ) (ready stores loading : Bool)
    → IsBoard w b → is_waiting e.progress ≡ true → is_store (done_by e.result) ≡ false → rd ≡ (profile_of e).rd → r1 ≡ (profile_of e).rs1 → r2 ≡ (profile_of e).rs2
    → ready ≡ (is_available w (profile_of e).rs1 && is_available w (profile_of e).rs2) → stores ≡ is_open_store e → loading ≡ is_load e
    → c ≡ record b { candidates = candidates; waiting = waiting; storing = storing; loads = loads }
    → IsPut ready (b.base + length w) b.candidates candidates → IsPut true (b.base + length w) b.waiting waiting
    → IsPut stores (b.base + length w) b.storing storing → IsPut loading (b.base + length w) b.loads loads
    → IsPut true (b.base + length w) (get_or c.writers rd no_mark) writers
    → IsPut true (b.base + length w) (get_or c.readers r1 no_mark) first
    → IsPut true (b.base + length w) (get_or (slice_set c.readers r1 first) r2 no_mark) second
    → IsBoard (w ++ e ∷ []) (with_registers c rd r1 r2 writers first second)
board_pushed w e b c candidates waiting storing loads writers first second rd r1 r2 ready stores loading i waits none isd is1 is2 sources iss isl is putc putw puts putl =
    subst (λ (s : Board). IsPut true (b.base + length w) (get_or s.writers rd no_mark) writers
    → IsPut true (b.base + length w) (get_or s.readers r1 no_mark) first
    → IsPut true (b.base + length w) (get_or (slice_set s.readers r1 first) r2 no_mark) second
    → IsBoard (w ++ e ∷ []) (with_registers s rd r1 r2 writers first second)) (sym is)
    (board_more w e b candidates waiting storing loads writers first second rd r1 r2 ready stores loading i waits none isd is1 is2 sources iss isl putc putw puts putl)

within_end : (base most n : ℕ) → n < base → nat_lt n (base + most) ≡ true
within_end base most n h = grind (arith, nat_tests)

pub board_kept : (w : List WindowEntry) (b c : Board) (most : ℕ) → IsBoard w b
    → ((i : ℕ) → has c.waiting i ≡ (if nat_lt i (b.base + most) then has b.waiting i else false))
    → ((i : ℕ) → has c.running i ≡ (if nat_lt i (b.base + most) then has b.running i else false))
    → ((i : ℕ) → has c.done i ≡ (if nat_lt i (b.base + most) then has b.done i else false))
    → ((i : ℕ) → has c.storing i ≡ (if nat_lt i (b.base + most) then has b.storing i else false))
    → ((i : ℕ) → has c.stored i ≡ (if nat_lt i (b.base + most) then has b.stored i else false))
    → ((i : ℕ) → has c.loads i ≡ (if nat_lt i (b.base + most) then has b.loads i else false))
    → length c.writers ≡ 32 → length c.readers ≡ 32
    → ((n : ℕ) → n < 32 → (i : ℕ) → has (get_or c.writers n no_mark) i ≡ (if nat_lt i (b.base + most) then has (get_or b.writers n no_mark) i else false))
    → ((n : ℕ) → n < 32 → (i : ℕ) → has (get_or c.readers n no_mark) i ≡ (if nat_lt i (b.base + most) then has (get_or b.readers n no_mark) i else false))
    → IsBoard (take most w) (record c { base = b.base; candidates = b.candidates })
board_kept w b c most i keepw keepr keepd keeps keepe keepl ws rs writers readers =
    record {
      base = i.base;
      waiting = those_kept (λ x. is_waiting x.progress) w b.base most b.waiting c.waiting i.waiting keepw;
      running = those_kept (λ x. is_running x.progress) w b.base most b.running c.running i.running keepr;
      done = those_kept (λ x. is_done x.progress) w b.base most b.done c.done i.done keepd;
      gone = λ n h. keepd n ∙ ap (λ (k : Bool). if k then has b.done n else false) (within_end b.base most n h) ∙ i.gone n h;
      storing = those_kept is_open_store w b.base most b.storing c.storing i.storing keeps;
      stored = those_kept (λ x. is_store (done_by x.result)) w b.base most b.stored c.stored i.stored keepe;
      loads = those_kept is_load w b.base most b.loads c.loads i.loads keepl;
      candidates = λ n none. could_taken [] w most n (i.candidates n none);
      write_sets = ws;
      read_sets = rs;
      writers = λ n h. those_kept (writes n) w b.base most (get_or b.writers n no_mark) (get_or c.writers n no_mark) (i.writers n h) (writers n h);
      readers = λ n h. those_kept (reads n) w b.base most (get_or b.readers n no_mark) (get_or c.readers n no_mark) (i.readers n h) (readers n h);
    }

-- ---- the marks are lower by 32

pub board_lowered : (w : List WindowEntry) (b c : Board) → b.base ≡ 32 → IsBoard w b
    → ((i : ℕ) → has c.waiting i ≡ has b.waiting (32 + i))
    → ((i : ℕ) → has c.running i ≡ has b.running (32 + i))
    → ((i : ℕ) → has c.done i ≡ has b.done (32 + i))
    → ((i : ℕ) → has c.storing i ≡ has b.storing (32 + i))
    → ((i : ℕ) → has c.stored i ≡ has b.stored (32 + i))
    → ((i : ℕ) → has c.loads i ≡ has b.loads (32 + i))
    → ((i : ℕ) → has c.candidates i ≡ has b.candidates (32 + i))
    → length c.writers ≡ 32 → length c.readers ≡ 32
    → ((n : ℕ) → n < 32 → (i : ℕ) → has (get_or c.writers n no_mark) i ≡ has (get_or b.writers n no_mark) (32 + i))
    → ((n : ℕ) → n < 32 → (i : ℕ) → has (get_or c.readers n no_mark) i ≡ has (get_or b.readers n no_mark) (32 + i))
    → IsBoard w (record c { base = 0 })
board_lowered w b c is i lowerw lowerr lowerd lowers lowere lowerl lowerc ws rs writers readers =
    record {
      base = omega arith;
      waiting = those_lowered (λ x. is_waiting x.progress) w b.base b.waiting c.waiting is i.waiting lowerw;
      running = those_lowered (λ x. is_running x.progress) w b.base b.running c.running is i.running lowerr;
      done = those_lowered (λ x. is_done x.progress) w b.base b.done c.done is i.done lowerd;
      gone = λ n h. absurd (omega arith);
      storing = those_lowered is_open_store w b.base b.storing c.storing is i.storing lowers;
      stored = those_lowered (λ x. is_store (done_by x.result)) w b.base b.stored c.stored is i.stored lowere;
      loads = those_lowered is_load w b.base b.loads c.loads is i.loads lowerl;
      candidates = λ n none.
          let at : b.base + n ≡ 32 + (0 + n) = omega arith in
          i.candidates n (ap (has b.candidates) at ∙ sym (lowerc (0 + n)) ∙ none);
      write_sets = ws;
      read_sets = rs;
      writers = λ n h. those_lowered (writes n) w b.base (get_or b.writers n no_mark) (get_or c.writers n no_mark) is (i.writers n h) (writers n h);
      readers = λ n h. those_lowered (reads n) w b.base (get_or b.readers n no_mark) (get_or c.readers n no_mark) is (i.readers n h) (readers n h);
    }
