-- The entries, as they pass through the stages, as claims come, and as the front one goes.
use Rattle.std.proofs.Common.{◌≡◌, ◌≢◌, ℕ, zero, suc, ◌+◌, ◌-◌, ◌==◌, ◌≤◌, ◌<◌, List, [], ◌∷◌, ◌++◌, length, map, drop, take, slice_get, Option, Some, None, Bool, true, false, refl, sym, ap, ◌∙◌, arith, subst, inl, inr}
use Rattle.std.specs.Prelude.{slice_set}
use Rattle.std.proofs.lemmas.Bool.{true≢false, cases_lt, le-leb, lt-leb}
use Rattle.std.proofs.lemmas.Bool.Decides.{eqb_tells}
use Rattle.std.specs.Option.{is_some, option_or}
use Rattle.std.proofs.lemmas.List.{length-map}
use Rattle.std.proofs.lemmas.Option.{none-some, same_Some}
use Rattle.diva_decode.specs.Table.{row_of}
use Rattle.diva_isa.specs.State.{State}
use Rattle.diva_isa.specs.Step.{apply, record_of}
use Rattle.diva_isa.specs.declared.record.Record.{Record}
use Rattle.diva_core.specs.declared.pending.Entry.{Entry}
use Rattle.diva_core.specs.Entries.{fresh, pending_claim_of}
use Rattle.diva_core.specs.declared.differences.Diff.{Diff}
use Rattle.diva_core.specs.declared.flushes.Cause.{Cause}
use Rattle.diva_core.specs.Cycle.{accepted_in, begun, drained, flushed, number}
use Rattle.diva_core.specs.Difference.{first_difference}
use Rattle.diva_core.specs.Future.{FutureFile, IsFuture, committed_file}
use Rattle.diva_core.specs.Older.{after, before_entry, older, with_claims}
use Rattle.diva_core.specs.Stages.{Answers, HasVerdict, StageRow, fields_at}
use Rattle.diva_core.specs.Timed.{Timed, PendingClaim}
use Rattle.diva_core.specs.Undone.{undone}
use Rattle.diva_isa.specs.declared.undo.Undo.{Undo}
use Rattle.diva_core.proofs.Bypassing.{after_goes, before_is}
use Rattle.diva_core.proofs.Leaving.{claims_alike, future_begun, older_more}
use Rattle.diva_vote.specs.declared.stage.Stage.{Stage}
use Rattle.diva_machine.specs.Staged.{AreChecked, AreInOrder, IsChecked, IsFilled, IsSoloFilled, IsStaged, Parts, last_stage, passed_by}
use Rattle.diva_vote.specs.Questions.{stage_row}
use Rattle.diva_machine.specs.Inner.{IsAdvanced}
use Rattle.diva_machine.proofs.Verdicts.{age_from, before_of, decodes_none, form_kept, form_whole, found_by, stays_found, verdict_past, whole_verdict}

-- ---- entries by place

pub checked_none : (arch : State) (now : ℕ) → AreChecked arch now []
checked_none arch now k e h = absurd (none-some _ h)

-- the front entry, past the last stage: its verdict is the first difference from the record that is due
pub front_verdict : (arch : State) (now : ℕ) (entries : List Entry) (e : Entry) → AreChecked arch now entries → slice_get entries 0 ≡ Some e
    → e.cycle + last_stage ≤ now → arch.end ≡ 0 → e.verdict ≡ first_difference e.claim (record_of arch)
front_verdict arch now entries e all first old on = whole_verdict arch e (now - e.cycle) (omega arith) on (all 0 e first).verdict

pub front_form : (arch : State) (now : ℕ) (entries : List Entry) (e : Entry) → AreChecked arch now entries → slice_get entries 0 ≡ Some e
    → e.cycle + last_stage ≤ now → e.decoded ≡ row_of e.claim.word
front_form arch now entries e all first old = (all 0 e first).decoded ∙ form_whole (now - e.cycle) e.claim.word (omega arith)

-- it goes, and the others stand one place further to the front
pub checked_rest : (arch : State) (now : ℕ) (entries : List Entry) (e : Entry) → AreChecked arch now entries → slice_get entries 0 ≡ Some e → AreChecked (apply arch e.claim) now (drop 1 entries)
checked_rest arch now [] e all first = absurd (none-some _ first)
checked_rest arch now (x ∷ entries) e all first = subst (λ (y : Entry). AreChecked (apply arch y.claim) now entries) (same_Some _ _ first) (λ k f h. all (suc k) f h)

-- entries come
before_more : (arch : State) (entries more : List Entry) (k : ℕ) → k ≤ length entries → before_entry arch (entries ++ more) k ≡ before_entry arch entries k
before_more arch entries more k h = ap (after arch) (older_more entries more k h)

-- an entry of a longer list is an old one or a new one
get_more : (entries more : List Entry) (k : ℕ) (e : Entry) (P : Type 0) → slice_get (entries ++ more) k ≡ Some e
    → (k < length entries → slice_get entries k ≡ Some e → P) → ((j : ℕ) → slice_get more j ≡ Some e → P) → P
get_more [] more k e P h old new = new k h
get_more (x ∷ entries) more zero e P h old new = old (omega arith) h
get_more (x ∷ entries) more (suc k) e P h old new = get_more entries more k e P h (λ lt at. old (omega arith) at) new

-- a claim that is accepted
fresh_checked : (s : State) (now age : ℕ) (claim : Record) → age ≡ 0 → IsChecked s age (fresh now claim)
unfolding fields_at
fresh_checked s now zero claim is = record { verdict = λ on. refl; decoded = refl }
fresh_checked s now (suc age) claim is = absurd (omega arith)

accepted_checked : (s : State) (now : ℕ) (claims : List Record) (k : ℕ) (e : Entry) → slice_get (map (fresh now) claims) k ≡ Some e → IsChecked s (now - e.cycle) e
accepted_checked s now [] k e h = absurd (none-some _ h)
accepted_checked s now (r ∷ claims) zero e h = subst (λ (x : Entry). IsChecked s (now - x.cycle) x) (same_Some _ _ h) (fresh_checked s now (now - now) r (omega arith))
accepted_checked s now (r ∷ claims) (suc k) e h = accepted_checked s now claims k e h

pub checked_more : (arch : State) (now : ℕ) (entries : List Entry) (claims : List Record) → AreChecked arch now entries → AreChecked arch now (entries ++ map (fresh now) claims)
checked_more arch now entries claims all k e h =
    get_more entries (map (fresh now) claims) k e (IsChecked (before_entry arch (entries ++ map (fresh now) claims) k) (now - e.cycle) e) h
    (λ lt at. subst (λ s. IsChecked s (now - e.cycle) e) (sym (before_more arch entries (map (fresh now) claims) k (omega arith))) (all k e at))
    (λ j at. accepted_checked (before_entry arch (entries ++ map (fresh now) claims) k) now claims j e at)

-- as the timed machine has them
-- ---- one entry is changed

get_set_same : (xs : List Entry) (i : ℕ) (old new : Entry) → slice_get xs i ≡ Some old → slice_get (slice_set xs i new) i ≡ Some new
get_set_same [] i old new h = absurd (none-some _ h)
get_set_same (x ∷ xs) zero old new h = refl
get_set_same (x ∷ xs) (suc i) old new h = get_set_same xs i old new h

get_set_other : (xs : List Entry) (i k : ℕ) (new : Entry) → k ≢ i → slice_get (slice_set xs i new) k ≡ slice_get xs k
get_set_other [] i k new h = refl
get_set_other (x ∷ xs) zero zero new h = absurd (h refl)
get_set_other (x ∷ xs) zero (suc k) new h = refl
get_set_other (x ∷ xs) (suc i) zero new h = refl
get_set_other (x ∷ xs) (suc i) (suc k) new h = get_set_other xs i k new (λ e. h (omega arith))

pub set_same : (xs : List Entry) (i : ℕ) (e : Entry) → slice_get xs i ≡ Some e → slice_set xs i e ≡ xs
set_same [] i e h = refl
set_same (x ∷ xs) zero e h = ap (λ (y : Entry). y ∷ xs) (sym (same_Some _ _ h))
set_same (x ∷ xs) (suc i) e h = ap (λ (ys : List Entry). x ∷ ys) (set_same xs i e h)

-- the entry that stands at a place
pub entry_at : (xs : List Entry) (i : ℕ) → i < length xs → (e : Entry) × (slice_get xs i ≡ Some e)
entry_at [] i h = elim h [ ]
entry_at (x ∷ xs) zero h = (x, refl)
entry_at (x ∷ xs) (suc i) h = entry_at xs i (omega arith)

pub waiting_set : (xs : List Entry) (i : ℕ) (old new : Entry) → slice_get xs i ≡ Some old → pending_claim_of new ≡ pending_claim_of old → map pending_claim_of (slice_set xs i new) ≡ map pending_claim_of xs
waiting_set [] i old new h e = refl
waiting_set (x ∷ xs) zero old new h e = let is : x ≡ old = same_Some _ _ h in ap (λ w. w ∷ map pending_claim_of xs) (e ∙ ap (λ (y : Entry). pending_claim_of y) (sym is))
waiting_set (x ∷ xs) (suc i) old new h e = ap (λ ws. pending_claim_of x ∷ ws) (waiting_set xs i old new h e)

pub get_mapped : (xs : List Entry) (i : ℕ) (e : Entry) → slice_get xs i ≡ Some e → slice_get (map pending_claim_of xs) i ≡ Some (pending_claim_of e)
get_mapped [] i e h = absurd (none-some _ h)
get_mapped (x ∷ xs) zero e h = ap (λ (y : Entry). Some (pending_claim_of y)) (same_Some _ _ h)
get_mapped (x ∷ xs) (suc i) e h = get_mapped xs i e h

older_set : (xs : List Entry) (i k : ℕ) (old new : Entry) → slice_get xs i ≡ Some old → new.claim ≡ old.claim → older (slice_set xs i new) k ≡ older xs k
older_set [] i k old new h e = refl
older_set (x ∷ xs) zero zero old new h e = refl
older_set (x ∷ xs) (suc i) zero old new h e = refl
older_set (x ∷ xs) zero (suc k) old new h e = let is : x ≡ old = same_Some _ _ h in ap (λ (r : Record). r ∷ older xs k) (e ∙ ap (λ (y : Entry). y.claim) (sym is))
older_set (x ∷ xs) (suc i) (suc k) old new h e = ap (λ (rs : List Record). x.claim ∷ rs) (older_set xs i k old new h e)

by_place : (k at : ℕ) (P : Type 0) → (k ≡ at → P) → (k ≢ at → P) → P
by_place zero zero P same other = same refl
by_place zero (suc at) P same other = other (λ e. omega arith)
by_place (suc k) zero P same other = other (λ e. omega arith)
by_place (suc k) (suc at) P same other = by_place k at P (λ e. same (omega arith)) (λ f. other (λ e. f (omega arith)))

pub get_within : (xs : List Entry) (k : ℕ) (e : Entry) → slice_get xs k ≡ Some e → k < length xs
get_within [] k e h = absurd (none-some _ h)
get_within (x ∷ xs) zero e h = omega arith
get_within (x ∷ xs) (suc k) e h = let w = get_within xs k e h in omega arith

-- ---- the entries advance, one after the other

pub advanced_more : (arch : State) (now at : ℕ) (entries : List Entry) (old new : Entry)
    → slice_get entries at ≡ Some old → new.claim ≡ old.claim → new.cycle ≡ old.cycle
    → (IsChecked (before_entry arch entries at) (now - old.cycle) old → IsChecked (before_entry arch entries at) (now + 1 - old.cycle) new)
    → IsAdvanced arch now at entries → IsAdvanced arch now (at + 1) (slice_set entries at new)
advanced_more arch now at entries old new here claim cycle next a =
    let same : (k : ℕ) → before_entry arch (slice_set entries at new) k ≡ before_entry arch entries k = λ k. ap (after arch) (older_set entries at k old new here claim) in
    let got : slice_get (slice_set entries at new) at ≡ Some new = get_set_same entries at old new here in
    record {
      below = λ k e lt h. subst (λ s. IsChecked s (now + 1 - e.cycle) e) (sym (same k)) (by_place k at (IsChecked (before_entry arch entries k) (now + 1 - e.cycle) e)
          (λ is. let one : new ≡ e = same_Some _ _ (sym got ∙ ap (slice_get (slice_set entries at new)) (sym is) ∙ h) in
          subst (λ (x : Entry). IsChecked (before_entry arch entries k) (now + 1 - x.cycle) x) one
          (subst (λ j. IsChecked (before_entry arch entries j) (now + 1 - new.cycle) new) (sym is)
          (subst (λ (c : ℕ). IsChecked (before_entry arch entries at) (now + 1 - c) new) (sym cycle) (next (a.from at old (omega arith) here)))))
          (λ f. a.below k e (omega arith) (sym (get_set_other entries at k new f) ∙ h)));
      from = λ k e le h. let f : k ≢ at = λ is. omega arith in subst (λ s. IsChecked s (now - e.cycle) e) (sym (same k)) (a.from k e (omega arith) (sym (get_set_other entries at k new f) ∙ h));
    }

-- an entry behind the last stage stays as it is
checked_past : (s : State) (a b : ℕ) (e : Entry) → last_stage ≤ a → b ≡ suc a → IsChecked s a e → IsChecked s b e
checked_past s a b e old is c =
    subst (λ (n : ℕ). IsChecked s n e) (sym is) (record { verdict = verdict_past s e a old c.verdict; decoded = c.decoded ∙ sym (form_kept a e.claim.word (λ z. omega arith)) })

-- at first only those behind the last stage have advanced
pub advanced_first : (arch : State) (now at : ℕ) (entries : List Entry) → ((k : ℕ) (e : Entry) → k < at → slice_get entries k ≡ Some e → e.cycle + last_stage ≤ now) → AreChecked arch now entries → IsAdvanced arch now at entries
advanced_first arch now at entries old all =
    record {
      below = λ k e lt h. let o = old k e lt h in checked_past (before_entry arch entries k) (now - e.cycle) (now + 1 - e.cycle) e (omega arith) (omega arith) (all k e h);
      from = λ k e le h. all k e h;
    }

pub advanced_all : (arch : State) (now n : ℕ) (entries : List Entry) → length entries ≤ n → IsAdvanced arch now n entries → AreChecked arch (now + 1) entries
advanced_all arch now n entries le a k e h = a.below k e (let w = get_within entries k e h in omega arith) h

-- ---- a stage looks at the committed state as if it went on

pub goes_view : (s v : State) → v ≡ record s { end = 0 } → s.end ≡ 0 → v ≡ s
goes_view s v is on = is ∙ ap (λ (n : ℕ). record s { end = n }) (sym on)

pub answers_there : (arch view : State) (entries : List Entry) (at : ℕ) (stage : StageRow) (p : Record) (v : Option Diff)
    → view ≡ record arch { end = 0 } → Answers stage (before_entry view entries at) p v → Answers stage (before_entry arch entries at) p v
answers_there arch view entries at stage p v is answer = λ on.
    let same : view ≡ arch = goes_view arch view is (after_goes arch (older entries at) on) in
    subst (λ (s : State). Answers stage (before_entry s entries at) p v) same answer on

-- what its stage answers of an entry without a verdict is its verdict
stage_passed :
    (arch view : State) (entries new : List Entry) (now at a : ℕ) (e : Entry) (stage : StageRow) (v : Option Diff)
    → slice_get entries at ≡ Some e → new ≡ slice_set entries at (record e { verdict = v }) → view ≡ record arch { end = 0 } → now + 1 ≡ suc a + e.cycle → a ≢ 1
    → Answers stage (before_entry view entries at) e.claim v
    → ((s : State) → Answers stage s e.claim v → HasVerdict s a e → HasVerdict s (suc a) (record e { verdict = v }))
    → IsAdvanced arch now at entries → IsAdvanced arch now (at + 1) new
stage_passed arch view entries new now at a e stage v here is shows age other answer found adv =
    let before : now - e.cycle ≡ a = omega arith in
    let behind : now + 1 - e.cycle ≡ suc a = omega arith in
    let s = before_entry arch entries at in
    subst (λ (es : List Entry). IsAdvanced arch now (at + 1) es) (sym is)
    (advanced_more arch now at entries e (record e { verdict = v }) here refl refl
    (λ c. let d : IsChecked s a e = subst (λ (n : ℕ). IsChecked s n e) before c in
    subst (λ (n : ℕ). IsChecked s n (record e { verdict = v })) (sym behind)
    (record { verdict = found s (answers_there arch view entries at stage e.claim v shows answer) d.verdict; decoded = d.decoded ∙ sym (form_kept a e.claim.word other) }))
    adv)

-- the decode stage
pub decode_passed :
    (arch : State) (entries new : List Entry) (now at : ℕ) (e : Entry) → slice_get entries at ≡ Some e → new ≡ slice_set entries at (record e { decoded = row_of e.claim.word }) → now + 1 ≡ 2 + e.cycle
    → IsAdvanced arch now at entries → IsAdvanced arch now (at + 1) new
unfolding fields_at
decode_passed arch entries new now at e here is age adv =
    let before : now - e.cycle ≡ 1 = omega arith in
    let behind : now + 1 - e.cycle ≡ 2 = omega arith in
    let s = before_entry arch entries at in
    subst (λ (es : List Entry). IsAdvanced arch now (at + 1) es) (sym is)
    (advanced_more arch now at entries e (record e { decoded = row_of e.claim.word }) here refl refl
    (λ c. let d : IsChecked s 1 e = subst (λ (n : ℕ). IsChecked s n e) before c in
    subst (λ (n : ℕ). IsChecked s n (record e { decoded = row_of e.claim.word })) (sym behind) (record { verdict = d.verdict; decoded = refl }))
    adv)

-- an entry that stays as it is
advanced_same : (arch : State) (now at : ℕ) (entries : List Entry) (e : Entry) → slice_get entries at ≡ Some e
    → (IsChecked (before_entry arch entries at) (now - e.cycle) e → IsChecked (before_entry arch entries at) (now + 1 - e.cycle) e)
    → IsAdvanced arch now at entries → IsAdvanced arch now (at + 1) entries
advanced_same arch now at entries e here next adv =
    subst (λ (es : List Entry). IsAdvanced arch now (at + 1) es) (set_same entries at e here) (advanced_more arch now at entries e e here refl refl next adv)

-- it has a verdict
pub verdict_kept : (arch : State) (entries : List Entry) (now at a : ℕ) (e : Entry) → slice_get entries at ≡ Some e → is_some e.verdict ≡ true → now + 1 ≡ suc a + e.cycle → a ≢ 1
    → IsAdvanced arch now at entries → IsAdvanced arch now (at + 1) entries
verdict_kept arch entries now at a e here found age other adv =
    let before : now - e.cycle ≡ a = omega arith in
    let behind : now + 1 - e.cycle ≡ suc a = omega arith in
    let s = before_entry arch entries at in
    advanced_same arch now at entries e here
    (λ c. let k : IsChecked s a e = subst (λ (n : ℕ). IsChecked s n e) before c in
    subst (λ (n : ℕ). IsChecked s n e) (sym behind) (record { verdict = stays_found s e a found k.verdict; decoded = k.decoded ∙ sym (form_kept a e.claim.word other) }))
    adv

-- what its stage answers of an entry is its verdict, unless it has one
stage_noted :
    (arch view : State) (entries new : List Entry) (now at a : ℕ) (e : Entry) (stage : StageRow) (v : Option Diff)
    → slice_get entries at ≡ Some e → new ≡ slice_set entries at (record e { verdict = option_or e.verdict v }) → view ≡ record arch { end = 0 } → now + 1 ≡ suc a + e.cycle → a ≢ 1
    → Answers stage (before_entry view entries at) e.claim v
    → (e.verdict ≡ None → (s : State) → Answers stage s e.claim v → HasVerdict s a e → HasVerdict s (suc a) (record e { verdict = v }))
    → IsAdvanced arch now at entries → IsAdvanced arch now (at + 1) new
stage_noted arch view entries new now at a e stage v here is shows age other answer found adv = by_verdict e.verdict refl
  where
    by_verdict : (w : Option Diff) → e.verdict ≡ w → IsAdvanced arch now (at + 1) new
    by_verdict None p =
        stage_passed arch view entries new now at a e stage v here (is ∙ ap (λ (w : Option Diff). slice_set entries at (record e { verdict = option_or w v })) p) shows age other answer (found p) adv
    by_verdict (Some d) p =
        let kept : new ≡ slice_set entries at e = is ∙ ap (λ (w : Option Diff). slice_set entries at (record e { verdict = option_or w v })) p ∙ ap (λ (w : Option Diff). slice_set entries at (record e { verdict = w })) (sym p) in
        subst (λ (es : List Entry). IsAdvanced arch now (at + 1) es) (sym (kept ∙ set_same entries at e here)) (verdict_kept arch entries now at a e here (ap is_some p) age other adv)

-- the first of two verdicts, where one is known
pub or_none : (w : Option Diff) → option_or w None ≡ w
or_none None = refl
or_none (Some d) = refl

pub or_first : (w v : Option Diff) → is_some w ≡ true → option_or w v ≡ w
or_first None v h = absurd (true≢false (sym h))
or_first (Some d) v h = refl

-- where that is no difference, it stays as it is
stage_agreed :
    (arch view : State) (entries : List Entry) (now at a : ℕ) (e : Entry) (stage : StageRow) (v : Option Diff)
    → slice_get entries at ≡ Some e → is_some v ≡ false → view ≡ record arch { end = 0 } → now + 1 ≡ suc a + e.cycle → a ≢ 1
    → Answers stage (before_entry view entries at) e.claim v
    → (e.verdict ≡ None → (s : State) → Answers stage s e.claim v → HasVerdict s a e → HasVerdict s (suc a) (record e { verdict = v }))
    → IsAdvanced arch now at entries → IsAdvanced arch now (at + 1) entries
stage_agreed arch view entries now at a e stage None here none shows age other answer found adv =
    stage_noted arch view entries entries now at a e stage None here
    (sym (ap (λ (w : Option Diff). slice_set entries at (record e { verdict = w })) (or_none e.verdict) ∙ set_same entries at e here))
    shows age other answer found adv
stage_agreed arch view entries now at a e stage (Some d) here none shows age other answer found adv = absurd (true≢false none)

-- the same of a stage that compares
module _ (arch view : State) (entries : List Entry) (now at : ℕ) (stage : Stage) (e : Entry) (v : Option Diff) where
  age_before : now + 1 ≡ (stage_row stage).age + e.cycle → now + 1 ≡ suc (before_of stage) + e.cycle
  age_before age = age ∙ ap (λ (n : ℕ). n + e.cycle) (age_from stage)

  pub check_noted : (new : List Entry) → slice_get entries at ≡ Some e → new ≡ slice_set entries at (record e { verdict = option_or e.verdict v }) → view ≡ record arch { end = 0 }
      → now + 1 ≡ (stage_row stage).age + e.cycle → Answers (stage_row stage) (before_entry view entries at) e.claim v
      → IsAdvanced arch now at entries → IsAdvanced arch now (at + 1) new
  check_noted new here is shows age answer =
      stage_noted arch view entries new now at (before_of stage) e (stage_row stage) v here is shows (age_before age) (decodes_none stage) answer (λ none s. found_by s e stage v none)

  pub check_agreed : slice_get entries at ≡ Some e → is_some v ≡ false → view ≡ record arch { end = 0 }
      → now + 1 ≡ (stage_row stage).age + e.cycle → Answers (stage_row stage) (before_entry view entries at) e.claim v
      → IsAdvanced arch now at entries → IsAdvanced arch now (at + 1) entries
  check_agreed here none shows age answer =
      stage_agreed arch view entries now at (before_of stage) e (stage_row stage) v here none shows (age_before age) (decodes_none stage) answer (λ none s. found_by s e stage v none)

-- ---- claims in the order in which they were accepted

order_ends : (from now : ℕ) (xs : List PendingClaim) → AreInOrder from now xs → from ≤ now
order_ends from now [] h = h
order_ends from now (p ∷ xs) h = let e = order_ends p.cycle now xs h.1 in let b = h.0 in omega arith

pub order_at : (from now : ℕ) (es : List Entry) (k : ℕ) (e : Entry) → AreInOrder from now (map pending_claim_of es) → slice_get es k ≡ Some e → (from ≤ e.cycle) × (e.cycle ≤ now)
order_at from now [] k e h at = absurd (none-some _ at)
order_at from now (x ∷ es) zero e h at =
    let one : x ≡ e = same_Some _ _ at in
    let ends = order_ends x.cycle now (map pending_claim_of es) h.1 in
    subst (λ (y : Entry). (from ≤ y.cycle) × (y.cycle ≤ now)) one (h.0, ends)
order_at from now (x ∷ es) (suc k) e h at = let rest = order_at x.cycle now es k e h.1 at in let low = h.0 in let r = rest.0 in (omega arith, rest.1)

order_from : (from low now : ℕ) (xs : List PendingClaim) → low ≤ from → AreInOrder from now xs → AreInOrder low now xs
order_from from low now [] le h = omega arith
order_from from low now (p ∷ xs) le h = let b = h.0 in (omega arith, h.1)

pub order_rest : (from now : ℕ) (xs : List PendingClaim) → AreInOrder from now xs → AreInOrder from now (drop 1 xs)
order_rest from now [] h = h
order_rest from now (p ∷ xs) h = order_from p.cycle from now xs h.0 h.1

pub order_later : (from now later : ℕ) (xs : List PendingClaim) → now ≤ later → AreInOrder from now xs → AreInOrder from later xs
order_later from now later [] le h = omega arith
order_later from now later (p ∷ xs) le h = (h.0, order_later p.cycle now later xs le h.1)

order_new : (from now : ℕ) (claims : List Record) → from ≤ now → AreInOrder from now (map (accepted_in now) claims)
order_new from now [] h = h
order_new from now (r ∷ claims) h = (h, order_new now now claims (omega arith))

pub order_more : (from now : ℕ) (xs : List PendingClaim) (claims : List Record) → AreInOrder from now xs → AreInOrder from now (xs ++ map (accepted_in now) claims)
order_more from now [] claims h = order_new from now claims h
order_more from now (p ∷ xs) claims h = (h.0, order_more p.cycle now xs claims h.1)

-- ---- how many are past the last stage

passed_new : (now : ℕ) (claims : List Record) → passed_by now (map (accepted_in now) claims) ≡ 0
passed_new now [] = refl
passed_new now (r ∷ claims) = rw (lt-leb (now + last_stage) now (omega arith)) refl

pub passed_more : (now : ℕ) (xs : List PendingClaim) (claims : List Record) → passed_by now (xs ++ map (accepted_in now) claims) ≡ passed_by now xs
passed_more now [] claims = passed_new now claims
passed_more now (p ∷ xs) claims = rw (passed_more now xs claims) refl

pub passed_length : (now : ℕ) (es : List Entry) → passed_by now (map pending_claim_of es) ≤ length es
passed_length now [] = omega arith
passed_length now (x ∷ es) =
    let rest = passed_length now es in
    elim (cases_lt now (x.cycle + last_stage)) [
      | inl young ↦ rw (lt-leb _ _ young) (omega arith)
      | inr old ↦ rw (le-leb _ _ old) (omega arith)
    ]

pub passed_later : (now : ℕ) (es : List Entry) → passed_by now (map pending_claim_of es) ≤ passed_by (now + 1) (map pending_claim_of es)
passed_later now [] = omega arith
passed_later now (x ∷ es) =
    let rest = passed_later now es in
    elim (cases_lt now (x.cycle + last_stage)) [
      | inl young ↦ rw (lt-leb _ _ young) (omega arith)
      | inr old ↦ rw (le-leb _ _ old, le-leb (x.cycle + last_stage) (now + 1) (omega arith)) (omega arith)
    ]

pub passed_at : (now : ℕ) (es : List Entry) (k : ℕ) (e : Entry) → k < passed_by now (map pending_claim_of es) → slice_get es k ≡ Some e → e.cycle + last_stage ≤ now
passed_at now [] k e lt h = absurd (none-some _ h)
passed_at now (x ∷ es) k e lt h =
    elim (cases_lt now (x.cycle + last_stage)) [
      | inl young ↦ absurd (none_below k (rw (lt-leb _ _ young) at lt))
      | inr old ↦ at_place (λ j. passed_at now es j e) k (rw (le-leb _ _ old) at lt) h old
    ]
  where
    none_below : (k : ℕ) → k < 0 → ⊥
    none_below k h = omega arith

    at_place : ((j : ℕ) → j < passed_by now (map pending_claim_of es) → slice_get es j ≡ Some e → e.cycle + last_stage ≤ now) → (k : ℕ) → k < suc (passed_by now (map pending_claim_of es)) → slice_get (x ∷ es) k ≡ Some e → x.cycle + last_stage ≤ now → e.cycle + last_stage ≤ now
    at_place rest zero lt h old = subst (λ (y : Entry). y.cycle + last_stage ≤ now) (same_Some _ _ h) old
    at_place rest (suc k) lt h old = rest k (omega arith) h

pub unpassed_at : (from now later : ℕ) (es : List Entry) (k : ℕ) (e : Entry) → AreInOrder from later (map pending_claim_of es) → passed_by now (map pending_claim_of es) ≤ k → slice_get es k ≡ Some e → now < e.cycle + last_stage
unpassed_at from now later [] k e o le h = absurd (none-some _ h)
unpassed_at from now later (x ∷ es) k e o le h =
    elim (cases_lt now (x.cycle + last_stage)) [
      | inl young ↦ (let low = order_at x.cycle later (x ∷ es) k e (omega arith, o.1) h in let l = low.0 in omega arith)
      | inr old ↦ at_place (λ j. unpassed_at x.cycle now later es j e o.1) k (rw (le-leb _ _ old) at le) h
    ]
  where
    at_place : ((j : ℕ) → passed_by now (map pending_claim_of es) ≤ j → slice_get es j ≡ Some e → now < e.cycle + last_stage) → (k : ℕ) → suc (passed_by now (map pending_claim_of es)) ≤ k → slice_get (x ∷ es) k ≡ Some e → now < e.cycle + last_stage
    at_place rest zero le h = absurd (omega arith)
    at_place rest (suc k) le h = rest k (omega arith) h

pub passed_rest : (now : ℕ) (es : List Entry) → 0 < passed_by now (map pending_claim_of es) → passed_by now (map pending_claim_of (drop 1 es)) ≡ passed_by now (map pending_claim_of es) - 1
passed_rest now [] h = refl
passed_rest now (x ∷ es) h =
    elim (cases_lt now (x.cycle + last_stage)) [
      | inl young ↦ absurd (nothing (rw (lt-leb _ _ young) at h))
      | inr old ↦ rw (le-leb _ _ old) (omega arith)
    ]
  where
    nothing : 0 < 0 → ⊥
    nothing h = omega arith

-- one claim more has passed through the stage of its age, and none before it is still to
pub passed_next : (cycles at passed next : ℕ) (es : List Entry) (e : Entry) → slice_get es at ≡ Some e → AreInOrder 0 cycles (map pending_claim_of es)
    → cycles ≤ e.cycle + last_stage → next ≡ passed + number (cycles == e.cycle + last_stage) → passed ≤ at
    → (at ≤ passed_by cycles (map pending_claim_of es) → passed ≡ at)
    → (passed_by cycles (map pending_claim_of es) ≤ at → passed ≡ passed_by cycles (map pending_claim_of es))
    → (next ≤ at + 1)
    × ((at + 1 ≤ passed_by cycles (map pending_claim_of es) → next ≡ at + 1)
    × (passed_by cycles (map pending_claim_of es) ≤ at + 1 → next ≡ passed_by cycles (map pending_claim_of es)))
passed_next cycles at passed next es e here order young is below early late =
    elim (eqb_tells cycles (e.cycle + last_stage)) [
      | inl same ↦
          let one : next ≡ passed + 1 = is ∙ ap (λ (b : Bool). passed + number b) same.0 in
          let cycle = same.1 in
          elim (cases_lt at (passed_by cycles (map pending_claim_of es))) [
            | inl first ↦ (let p = early (omega arith) in (omega arith, (λ h. omega arith, λ h. omega arith)))
            | inr behind ↦ absurd (let u = unpassed_at 0 cycles cycles es at e order behind here in omega arith)
          ]
      | inr other ↦
          let zero_more : next ≡ passed + 0 = is ∙ ap (λ (b : Bool). passed + number b) other.0 in
          let none : next ≡ passed = omega arith in
          let differs = other.1 in
          elim (cases_lt at (passed_by cycles (map pending_claim_of es))) [
            | inl first ↦ absurd (let u = passed_at cycles es at e first here in differs (omega arith))
            | inr behind ↦ (let p = late behind in (omega arith, (λ h. omega arith, λ h. omega arith)))
          ]
    ]

-- ---- the parts of a machine

-- the stages begin with the first claim that is not past the last one
pub stages_begin : (w : Parts) → 1 ≤ w.timed.cycles → IsStaged (w.timed.cycles - 1) w
    → IsAdvanced w.timed.arch (w.timed.cycles - 1) w.passed w.entries × (w.passed ≤ passed_by w.timed.cycles w.timed.under.pending)
stages_begin w some s =
    let now = w.timed.cycles - 1 in
    let cycle : now + 1 ≡ w.timed.cycles = omega arith in
    let is : w.passed ≡ passed_by now (map pending_claim_of w.entries) = s.passed ∙ ap (passed_by now) s.waits in
    let more : passed_by now (map pending_claim_of w.entries) ≤ passed_by w.timed.cycles (map pending_claim_of w.entries) = subst (λ (n : ℕ). passed_by now (map pending_claim_of w.entries) ≤ passed_by n (map pending_claim_of w.entries)) cycle (passed_later now w.entries) in (
      advanced_first w.timed.arch now w.passed w.entries (λ k e lt here. passed_at now w.entries k e (subst (λ (n : ℕ). k < n) is lt) here) s.checked,
      subst (λ (xs : List PendingClaim). w.passed ≤ passed_by w.timed.cycles xs) (sym s.waits) (omega arith),
    )

-- the claim at a place is still to pass through a stage
pub still_young : (w : Parts) (at : ℕ) (e : Entry) (es : List Entry) → 1 ≤ w.timed.cycles → IsStaged (w.timed.cycles - 1) w → map pending_claim_of es ≡ w.timed.under.pending → w.passed ≤ at → slice_get es at ≡ Some e
    → (e.cycle < w.timed.cycles) × (w.timed.cycles ≤ e.cycle + last_stage)
still_young w at e es some s waits behind here =
    let now = w.timed.cycles - 1 in
    let order : AreInOrder 0 now (map pending_claim_of es) = subst (λ (xs : List PendingClaim). AreInOrder 0 now xs) (sym waits) s.ordered in
    let is : w.passed ≡ passed_by now (map pending_claim_of es) = s.passed ∙ ap (passed_by now) (sym waits) in
    let low = order_at 0 now es at e order here in
    let bound = low.1 in
    let high = unpassed_at 0 now now es at e order (omega arith) here in
    (omega arith, omega arith)

pub same_length : (xs ys : List Entry) → map pending_claim_of xs ≡ map pending_claim_of ys → length xs ≡ length ys
same_length xs ys same = sym (length-map xs pending_claim_of) ∙ ap (λ (ws : List PendingClaim). length ws) same ∙ length-map ys pending_claim_of

pub get_there : (xs : List Entry) (k : ℕ) (P : Type 0) → k < length xs → ((e : Entry) → slice_get xs k ≡ Some e → P) → P
get_there [] k P h found = absurd (omega arith)
get_there (x ∷ xs) zero P h found = found x refl
get_there (x ∷ xs) (suc k) P h found = get_there xs k P (omega arith) found

-- the claim at a place has passed through its stage: z is what is passed then
pub stage_next : (w y z : Parts) (at : ℕ) → 1 ≤ w.timed.cycles → IsStaged (w.timed.cycles - 1) w → y.timed ≡ w.timed → map pending_claim_of y.entries ≡ w.timed.under.pending → w.passed ≤ at → at < length y.entries
    → ((e : Entry) → slice_get y.entries at ≡ Some e → z.passed ≡ y.passed + number (y.timed.cycles == e.cycle + last_stage))
    → y.passed ≤ at
    → (at ≤ passed_by w.timed.cycles w.timed.under.pending → y.passed ≡ at)
    → (passed_by w.timed.cycles w.timed.under.pending ≤ at → y.passed ≡ passed_by w.timed.cycles w.timed.under.pending)
    → (z.passed ≤ at + 1)
    × ((at + 1 ≤ passed_by w.timed.cycles w.timed.under.pending → z.passed ≡ at + 1)
    × (passed_by w.timed.cycles w.timed.under.pending ≤ at + 1 → z.passed ≡ passed_by w.timed.cycles w.timed.under.pending))
stage_next w y z at some s same waits behind within is below early late =
    let P = λ (n : ℕ). (z.passed ≤ at + 1) × ((at + 1 ≤ n → z.passed ≡ at + 1) × (n ≤ at + 1 → z.passed ≡ n)) in
    let cycles = w.timed.cycles in
    let count = ap (passed_by cycles) waits in
    get_there y.entries at (P (passed_by cycles w.timed.under.pending)) within
    (λ e here.
    let young = (still_young w at e y.entries some s waits behind here).1 in
    let order : AreInOrder 0 cycles (map pending_claim_of y.entries) = subst (λ (xs : List PendingClaim). AreInOrder 0 cycles xs) (sym waits) (order_later 0 (cycles - 1) cycles w.timed.under.pending (omega arith) s.ordered) in
    let next : z.passed ≡ y.passed + number (cycles == e.cycle + last_stage) = is e here ∙ ap (λ (m : Timed). y.passed + number (m.cycles == e.cycle + last_stage)) same in
    subst P count
    (passed_next cycles at y.passed z.passed y.entries e here order young next below
    (subst (λ (n : ℕ). at ≤ n → y.passed ≡ at) (sym count) early)
    (subst (λ (n : ℕ). n ≤ at → y.passed ≡ n) (sym count) late)))

-- what is noted of pending claims is of no matter to the future file
claims_waiting : (es : List Entry) → map (λ (e : Entry). e.claim) es ≡ map (λ (p : PendingClaim). p.claim) (map pending_claim_of es)
claims_waiting [] = refl
claims_waiting (x ∷ es) = ap (λ (rs : List Record). x.claim ∷ rs) (claims_waiting es)

pub future_same : (s : State) (es ds : List Entry) (f : FutureFile) → map pending_claim_of ds ≡ map pending_claim_of es → IsFuture s es f → IsFuture s ds f
future_same s es ds f same is =
    record {
      within = (let long = same_length ds es same in let w = is.within in omega arith);
      regs = is.regs
          ∙ ap (λ (rs : List Record). (with_claims s (take f.claims rs)).regs)
          (claims_waiting es ∙ sym (ap (λ (ps : List PendingClaim). map (λ (p : PendingClaim). p.claim) ps) same) ∙ sym (claims_waiting ds));
    }

-- the registers of the state in which the next claim stands
pub future_there : (arch : State) (entries : List Entry) (f : FutureFile) (at : ℕ) → IsFuture arch entries f → f.claims ≡ at → (before_entry (record arch { end = 0 }) entries at).end ≡ 0
    → (before_entry (record arch { end = 0 }) entries at).regs ≡ f.regs
future_there arch entries f at is here on =
    sym (ap (λ (t : State). t.regs) (before_is (record arch { end = 0 }) entries at on))
    ∙ claims_alike (record arch { end = 0 }) arch (older entries at) refl
    ∙ ap (λ (k : ℕ). (with_claims arch (older entries k)).regs) (sym here)
    ∙ sym is.regs

-- all of them have passed through the stage of their age
pub stages_end : (w z : Parts) (n : ℕ) → 1 ≤ w.timed.cycles → z ≡ record w { entries = z.entries; passed = z.passed; future = z.future } → map pending_claim_of z.entries ≡ w.timed.under.pending → IsStaged (w.timed.cycles - 1) w
    → length z.entries ≤ n → IsAdvanced w.timed.arch (w.timed.cycles - 1) n z.entries
    → (passed_by w.timed.cycles w.timed.under.pending ≤ n → z.passed ≡ passed_by w.timed.cycles w.timed.under.pending)
    → IsFuture w.timed.arch z.entries z.future
    → IsStaged z.timed.cycles z
stages_end w z n some is waits s whole advanced late future =
    let now = w.timed.cycles - 1 in
    let cycle : now + 1 ≡ w.timed.cycles = omega arith in
    let all : AreChecked w.timed.arch w.timed.cycles z.entries = subst (λ (c : ℕ). AreChecked w.timed.arch c z.entries) cycle (advanced_all w.timed.arch now n z.entries whole advanced) in
    let most : passed_by w.timed.cycles w.timed.under.pending ≤ length z.entries = subst (λ (xs : List PendingClaim). passed_by w.timed.cycles xs ≤ length z.entries) waits (passed_length w.timed.cycles z.entries) in
    let same : w.timed ≡ z.timed = sym (ap (λ (x : Parts). x.timed) is) in
    record {
      waits = sym (ap (λ (m : Timed). m.under.pending) same) ∙ sym waits;
      checked = subst (λ (m : Timed). AreChecked m.arch m.cycles z.entries) same all;
      ordered = subst (λ (m : Timed). AreInOrder 0 m.cycles m.under.pending) same (order_later 0 now w.timed.cycles w.timed.under.pending (omega arith) s.ordered);
      passed = subst (λ (m : Timed). z.passed ≡ passed_by m.cycles m.under.pending) same (late (omega arith));
      future = subst (λ (m : Timed). IsFuture m.arch z.entries z.future) same future;
    }

-- a flush
pub staged_flushed : (now : ℕ) (w : Parts) (cause : Cause) → IsStaged now (record w { timed = flushed w.timed cause; entries = []; passed = 0; future = committed_file w.timed.arch.regs })
unfolding flushed
staged_flushed now w cause = record { waits = refl; checked = checked_none w.timed.arch now; ordered = omega arith; passed = refl; future = future_begun w.timed.arch [] }

pub filled_young : (s : State) (age : ℕ) (r : Record) → age ≡ 0 → IsFilled s age r
unfolding fields_at
filled_young s zero r h = refl
filled_young s (suc age) r h = absurd (omega arith)

pub solo_flushed : (w : Parts) (cause : Cause) → (let z = record w { timed = flushed w.timed cause; entries = []; passed = 0; future = committed_file w.timed.arch.regs } in IsSoloFilled z.timed.cycles z)
unfolding flushed
solo_flushed w cause = filled_young w.timed.arch (w.timed.cycles - w.timed.cycles) w.filled (omega arith)

-- the last instruction is taken back
abbrev pub undone_parts : Parts → Undo → Parts
undone_parts w u =
    record w { timed = undone w.timed u; entries = []; passed = 0; future = committed_file (undone w.timed u).arch.regs }

pub staged_undone : (now : ℕ) (w : Parts) (u : Undo) → IsStaged now (undone_parts w u)
unfolding undone
staged_undone now w u =
    record { waits = refl; checked = checked_none (undone w.timed u).arch now; ordered = omega arith; passed = refl; future = future_begun (undone w.timed u).arch [] }

pub solo_undone : (now : ℕ) (w : Parts) (u : Undo) → IsSoloFilled now (undone_parts w u)
unfolding undone
solo_undone now w u = tt

-- a cycle begins, and the oldest store is drained
pub staged_begun : (w : Parts) → IsStaged w.timed.cycles w → IsStaged ((drained (begun w.timed)).cycles - 1) (record w { timed = drained (begun w.timed); last = [] })
unfolding drained
staged_begun w s =
    let same : w.timed.cycles + 1 - 1 ≡ w.timed.cycles = omega arith in
    subst (λ (n : ℕ). IsStaged n (record w { timed = drained (begun w.timed); last = [] })) (sym same) (record { waits = s.waits; checked = s.checked; ordered = s.ordered; passed = s.passed; future = s.future })
