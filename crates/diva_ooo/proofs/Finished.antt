-- One entry after the other finishes.
use Rattle.std.proofs.Common.{◌≡◌, ◌<◌, ◌≤◌, ℕ, zero, ◌+◌, ◌-◌, nat_le, suc, length, true, false, arith, append_assoc, List, [], ◌∷◌, ◌++◌, take, drop, Some, refl, ap, sym, ◌∙◌, slice_get}
use Rattle.std.specs.Prelude.{slice_set}
use Rattle.std.proofs.lemmas.Bool.Decides.{nat_tests}
use Rattle.std.proofs.lemmas.Bool.{true≢false}
use Rattle.std.proofs.lemmas.List.{append-nil}
use Rattle.std.proofs.lemmas.Grind.{common_steps}
use Rattle.diva_ooo.specs.WindowEntry.{WindowEntry}
use Rattle.diva_ooo.specs.declared.entry.Progress.{Progress}
use Rattle.diva_ooo.specs.declared.entry.Progress.TheVariants.{Waiting, Running, Done}
use Rattle.diva_ooo.specs.declared.finishing.Redirect.{Redirect}
use Rattle.diva_ooo.specs.declared.finishing.Redirect.TheVariants.{On}
use Rattle.diva_ooo.specs.Finish.{finished_from, is_running, later, ran, redirect_by, redirect_of, redirected}
use Rattle.diva_ooo.specs.MarkSets.{holds_at}
use Rattle.diva_ooo.proofs.Marking.{holds_drop}
use Rattle.diva_ooo.proofs.Places.{drop_at, drop_more, take_more, take_set_at, drop_set_at, set_same}

finish_one : (w : List WindowEntry) (at : ℕ) (e : WindowEntry) → slice_get w at ≡ Some e
    → redirected (take (at + 1) (slice_set w at (ran e))) (redirect_of e) (finished_from (take (at + 1) (slice_set w at (ran e))) (drop (at + 1) (slice_set w at (ran e))))
    ≡ finished_from (take at w) (drop at w)
finish_one w at e is = rw (take_set_at w at e (ran e) is, drop_set_at w at (ran e), drop_at w at e is) refl

-- an entry that runs or becomes done
finish_step : (w new : List WindowEntry) (at : ℕ) (e : WindowEntry) (progress : Progress) (t : Redirect) → slice_get w at ≡ Some e → new ≡ slice_set w at (record e { progress = progress }) → progress ≡ later e.progress → t ≡ redirect_of e
    → redirected (take (at + 1) new) t (finished_from (take (at + 1) new) (drop (at + 1) new)) ≡ finished_from (take at w) (drop at w)
finish_step w new at e progress t is n q u = rw (n, q, u) (finish_one w at e is)

-- an entry that does not run stays
finish_same : (w : List WindowEntry) (at : ℕ) (e : WindowEntry) → slice_get w at ≡ Some e → later e.progress ≡ e.progress → redirect_of e ≡ On
    → finished_from (take (at + 1) w) (drop (at + 1) w) ≡ finished_from (take at w) (drop at w)
finish_same w at e is stays on =
    let same : slice_set w at (ran e) ≡ w = ap (λ (progress : Progress). slice_set w at (record e { progress = progress })) stays ∙ set_same w at e is in
    sym (ap (λ (x : List WindowEntry). redirected (take (at + 1) x) On (finished_from (take (at + 1) x) (drop (at + 1) x))) same)
    ∙ ap (λ (t : Redirect). redirected (take (at + 1) (slice_set w at (ran e))) t (finished_from (take (at + 1) (slice_set w at (ran e))) (drop (at + 1) (slice_set w at (ran e))))) (sym on)
    ∙ finish_one w at e is

pub finish_waiting : (w : List WindowEntry) (at : ℕ) (e : WindowEntry) → slice_get w at ≡ Some e → e.progress ≡ Waiting → finished_from (take (at + 1) w) (drop (at + 1) w) ≡ finished_from (take at w) (drop at w)
finish_waiting w at e is here = finish_same w at e is (rw here refl) (rw here refl)

pub finish_done : (w : List WindowEntry) (at : ℕ) (e : WindowEntry) → slice_get w at ≡ Some e → e.progress ≡ Done → finished_from (take (at + 1) w) (drop (at + 1) w) ≡ finished_from (take at w) (drop at w)
finish_done w at e is here = finish_same w at e is (rw here refl) (rw here refl)

pub finish_running : (w new : List WindowEntry) (at : ℕ) (e : WindowEntry) (left : ℕ) → slice_get w at ≡ Some e → e.progress ≡ Running left → 1 < left → new ≡ slice_set w at (record e { progress = Running (left - 1) })
    → finished_from (take (at + 1) new) (drop (at + 1) new) ≡ finished_from (take at w) (drop at w)
finish_running w new at e left is here more n =
    let test : nat_le left 1 ≡ false = grind (arith, nat_tests) in
    finish_step w new at e (Running (left - 1)) On is n (rw (here, test) refl) (rw (here, test) refl)

pub finish_ends : (w new : List WindowEntry) (at : ℕ) (e : WindowEntry) (left : ℕ) (t : Redirect) → slice_get w at ≡ Some e → e.progress ≡ Running left → left ≤ 1 → new ≡ slice_set w at (record e { progress = Done }) → t ≡ redirect_by e.result e.predicted
    → redirected (take (at + 1) new) t (finished_from (take (at + 1) new) (drop (at + 1) new)) ≡ finished_from (take at w) (drop at w)
finish_ends w new at e left t is here last n redirect =
    let test : nat_le left 1 ≡ true = grind (arith, nat_tests) in
    finish_step w new at e Done t is n (rw (here, test) refl) (rw (here, test) redirect)

-- ---- entries that do not run

idle_one : (older rest : List WindowEntry) (e : WindowEntry) (progress : Progress) → e.progress ≡ progress → is_running progress ≡ false → finished_from older (e ∷ rest) ≡ finished_from (older ++ e ∷ []) rest
idle_one older rest e Waiting is idle = rw is refl
idle_one older rest e (Running left) is idle = absurd (true≢false idle)
idle_one older rest e Done is idle = rw is refl

idle_to : (older w : List WindowEntry) (n : ℕ) → ((i : ℕ) → i < n → holds_at (λ e. is_running e.progress) w i ≡ false) → finished_from older w ≡ finished_from (older ++ take n w) (drop n w)
idle_to older w zero none = ap (λ (x : List WindowEntry). finished_from x w) (sym (append-nil older))
idle_to older [] (suc n) none = ap (λ (x : List WindowEntry). finished_from x []) (sym (append-nil older))
idle_to older (e ∷ w) (suc n) none =
    idle_one older w e e.progress refl (none 0 (omega arith))
    ∙ idle_to (older ++ e ∷ []) w n (λ i lt. none (suc i) (omega arith))
    ∙ ap (λ (x : List WindowEntry). finished_from x (drop n w)) (append_assoc older (e ∷ []) (take n w))

-- none runs from one place on up to another
pub passed : (w : List WindowEntry) (at n : ℕ) → at ≤ n → ((i : ℕ) → at ≤ i → i < n → holds_at (λ e. is_running e.progress) w i ≡ false) → finished_from (take at w) (drop at w) ≡ finished_from (take n w) (drop n w)
passed w at n h none =
    let sum : at + (n - at) ≡ n = omega arith in
    idle_to (take at w) (drop at w) (n - at) (λ i lt. holds_drop (λ e. is_running e.progress) w at i ∙ none (at + i) (omega arith) (omega arith))
    ∙ rw (sym (take_more w at (n - at)), sym (drop_more w at (n - at)), sum) refl

-- behind the youngest nothing is left
pub finished_end : (w : List WindowEntry) (at : ℕ) → length w ≤ at → finished_from (take at w) (drop at w) ≡ record { window = w; redirect = On }
finished_end w at h =
    let all : take at w ≡ w = grind (arith, common_steps) in
    let none : drop at w ≡ [] = grind (arith, common_steps) in
    rw (all, none) refl

-- an entry behind the one that was looked at is as it was
pub runs_behind : (w new : List WindowEntry) (at i : ℕ) → drop at new ≡ drop at w → at ≤ i → holds_at (λ e. is_running e.progress) new i ≡ holds_at (λ e. is_running e.progress) w i
runs_behind w new at i same h =
    let sum : at + (i - at) ≡ i = omega arith in
    ap (holds_at (λ e. is_running e.progress) new) (sym sum)
    ∙ sym (holds_drop (λ e. is_running e.progress) new at (i - at))
    ∙ ap (λ (x : List WindowEntry). holds_at (λ e. is_running e.progress) x (i - at)) same
    ∙ holds_drop (λ e. is_running e.progress) w at (i - at)
    ∙ ap (holds_at (λ e. is_running e.progress) w) sum
