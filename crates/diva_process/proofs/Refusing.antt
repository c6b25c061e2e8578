-- Known files, the first of which that can't be used is refused or is not there.
use Rattle.std.proofs.Common.{◌≡◌, ◌⊎◌, ℕ, List, [], ◌∷◌, length, Option, Some, None, Ok, IsSome, inl, inr, sym, ◌∙◌, refl, ap, arith, subst}
use Rattle.std.proofs.lemmas.Bool.{true≢false}
use Rattle.diva_outside.specs.Files.{Contents, IsMissing, LentFiles}
use Rattle.diva_outside.specs.Lent.{given, left}
use Rattle.diva_outside.specs.Sink.{LentSink, Takes}
use Rattle.diva_outside.specs.Text.{Text}
use Rattle.diva_process.specs.declared.status.Status.{Status}
use Rattle.diva_process.specs.declared.status.Status.TheVariants.{Refused}
use Rattle.diva_process.specs.Programs.{Asked, Doing, Fault, FileBytes, FileRules, Wanted}
use Rattle.diva_process.specs.Stops.{AreSound, CanBeUsed, HasFirstFault, IsRefused, IsTooLong, StopsAt, StopsLoading}
use Rattle.diva_process.specs.Answers.{IsAnswer, misused, unread, refused, done}
use Rattle.diva_process.specs.Statuses.{HasMissing, IsHindered, MustRefuse}
use Rattle.diva_process.proofs.Completing.{known-refused, some_same}

-- ---- files that are known

module _ (rules : FileRules) (bytes_of : List ℕ → Option (List ℕ)) where
  abbrev known : Contents
  known = Some bytes_of

  usable-refused : (text : Text) (w : Wanted) → CanBeUsed rules known w → IsRefused rules known text w → ⊥
  usable-refused text w u r =
      known-refused rules known text w (record { bytes = u.bytes; known = u.sound.has; short = u.sound.short; faultless = u.sound.faultless }) r

  usable-missing : (w : Wanted) → CanBeUsed rules known w → IsMissing known w.name → ⊥
  usable-missing w u m = let e = sym u.sound.has ∙ m in cc

  missing-refused : (text : Text) (w : Wanted) → IsMissing known w.name → IsRefused rules known text w → ⊥
  missing-refused text w m r = go r.cause
    where
      go : IsTooLong rules known w r.kind r.place ⊎ HasFirstFault rules known w r.kind r.place → ⊥
      go (inl long) = let e = sym m ∙ long.longer.1 in cc
      go (inr f) = let e = sym m ∙ f.has in cc

  record Same (kind place kind' place' : ℕ) : Type 0 where
    kinds : kind ≡ kind'
    places : place ≡ place'

  one_refusal : (text text' : Text) (w : Wanted) → IsRefused rules known text w → IsRefused rules known text' w → text ≡ text'
  one_refusal text text' w r r' =
      let s = go r.cause r'.cause in let k = s.kinds in let p = s.places in let l = r.line in let l' = r'.line in cc
    where
      long-short : (k p k' p' : ℕ) → IsTooLong rules known w k p → HasFirstFault rules known w k' p' → ⊥
      long-short k p k' p' long f =
          let same : long.longer.0 ≡ f.bytes = some_same (bytes_of w.name) long.longer.0 f.bytes long.longer.1 f.has in
          let n = ap (λ (b : List ℕ). length b) same in let a = f.short in let b = long.longer.2 in omega arith

      go : IsTooLong rules known w r.kind r.place ⊎ HasFirstFault rules known w r.kind r.place
          → IsTooLong rules known w r'.kind r'.place ⊎ HasFirstFault rules known w r'.kind r'.place → Same r.kind r.place r'.kind r'.place
      go (inl a) (inl b) = record { kinds = a.numbered ∙ sym b.numbered; places = a.placed ∙ sym b.placed }
      go (inl a) (inr b) = absurd (long-short r.kind r.place r'.kind r'.place a b)
      go (inr a) (inl b) = absurd (long-short r'.kind r'.place r.kind r.place b a)
      go (inr a) (inr b) =
          let same : a.bytes ≡ b.bytes = some_same (bytes_of w.name) a.bytes b.bytes a.has b.has in
          let first : rules.fault_of w b.bytes ≡ Some (record { kind = r.kind; place = r.place }) =
          subst (λ (z : List ℕ). rules.fault_of w z ≡ Some (record { kind = r.kind; place = r.place })) same a.first in
          let e = some_same (rules.fault_of w b.bytes) _ _ first b.first in
          record { kinds = ap (λ (f : Fault). f.kind) e; places = ap (λ (f : Fault). f.place) e }

  -- two stops, each at a file that can't be used, are at the same one
  both_stop : (this that : Wanted → List Wanted → Type 0) (So : Type 0)
      → ((w : Wanted) (later : List Wanted) → CanBeUsed rules known w → this w later → ⊥)
      → ((w : Wanted) (later : List Wanted) → CanBeUsed rules known w → that w later → ⊥)
      → ((w : Wanted) (later : List Wanted) → this w later → that w later → So)
      → (ws : List Wanted) → StopsAt rules known this ws → StopsAt rules known that ws → So
  both_stop this that So never never' so [] s t = absurd s
  both_stop this that So never never' so (w ∷ ws) (inl a) (inl b) = so w ws a b
  both_stop this that So never never' so (w ∷ ws) (inl a) (inr t) = absurd (never w ws t.0 a)
  both_stop this that So never never' so (w ∷ ws) (inr s) (inl b) = absurd (never' w ws s.0 b)
  both_stop this that So never never' so (w ∷ ws) (inr s) (inr t) = both_stop this that So never never' so ws s.1 t.1

  sound-stops : (this : Wanted → List Wanted → Type 0) → ((w : Wanted) (later : List Wanted) → CanBeUsed rules known w → this w later → ⊥)
      → (ws : List Wanted) (bytes : FileBytes) → AreSound rules known ws bytes → StopsAt rules known this ws → ⊥
  sound-stops this never [] bytes sound s = s
  sound-stops this never (w ∷ ws) bytes sound (inl here) = never w ws (record { bytes = bytes w.what; sound = sound.0 }) here
  sound-stops this never (w ∷ ws) bytes sound (inr later) = sound-stops this never ws bytes sound.1 later.1

-- ---- what is answered

module _ {J F S : Type 0} (asked : Asked J) (work : Doing J) (files : LentFiles F) (sink : LentSink S) (job : J) (named : asked.job ≡ Some job)
    (bytes_of : List ℕ → Option (List ℕ)) (told : (given files).contents ≡ Some bytes_of) where
  abbrev rules : FileRules
  rules = asked.program.rules

  -- the same of the contents as they are known
  first_of : (this : Wanted → List Wanted → Type 0) (other : J) → asked.job ≡ Some other
      → StopsAt rules (given files).contents this (asked.program.wanted job) → StopsAt rules (Some bytes_of) this (asked.program.wanted other)
  first_of this other e s =
      subst (λ (c : Contents). StopsAt rules c this (asked.program.wanted other)) told
      (subst (λ (j : J). StopsAt rules (given files).contents this (asked.program.wanted j)) (some_same asked.job job other named e) s)

  abbrev Refusal : Text → Wanted → List Wanted → Type 0
  Refusal text w later = IsRefused rules (given files).contents text w

  refused_known : (text : Text) (w : Wanted) → IsRefused rules (given files).contents text w → IsRefused rules (Some bytes_of) text w
  refused_known text w r = subst (λ (c : Contents). IsRefused rules c text w) told r

  missing_known : (w : Wanted) → IsMissing (given files).contents w.name → IsMissing (Some bytes_of) w.name
  missing_known w m = subst (λ (c : Contents). IsMissing c w.name) told m

  abbrev Stopped : Text → Wanted → List Wanted → Type 0
  Stopped line = StopsLoading rules (given files) (left files) line

  answered_refused : (text : Text) → StopsAt rules (given files).contents (Refusal text) (asked.program.wanted job)
      → (ends : Status) (line : Text) → IsAnswer asked work files (Ok ends) line → Takes sink line → ((ends ≡ Refused) × Takes sink text) ⊎ IsHindered ends
  answered_refused text first status line (misused m same s) w = absurd (let e = sym named ∙ m.none in cc)
  answered_refused text first status line (unread u same s) w = inr (inl s)
  answered_refused text first status line (refused r same s) w =
      let one : line ≡ text = both_stop rules bytes_of (Stopped line) (Refusal text) (line ≡ text)
      (λ w later u s. usable-refused rules bytes_of line w u (refused_known line w s.refused))
      (λ w later u s. usable-refused rules bytes_of text w u (refused_known text w s))
      (λ w later s t. one_refusal rules bytes_of line text w (refused_known line w s.refused) (refused_known text w t))
      (asked.program.wanted r.job) (subst (λ (c : Contents). StopsAt rules c (Stopped line) (asked.program.wanted r.job)) told r.first) (first_of (Refusal text) r.job r.named first) in
      inl (s, subst (λ (t : Text). Takes sink t) one w)
  answered_refused text first status line (done d) w =
      absurd (sound-stops rules bytes_of (Refusal text) (λ w later u s. usable-refused rules bytes_of text w u (refused_known text w s)) (asked.program.wanted d.job) d.bytes
      (subst (λ (c : Contents). AreSound rules c (asked.program.wanted d.job) d.bytes) told d.sound) (first_of (Refusal text) d.job d.named first))

  abbrev Missing : Wanted → List Wanted → Type 0
  Missing w later = IsMissing (given files).contents w.name

  answered_missing : StopsAt rules (given files).contents Missing (asked.program.wanted job)
      → (ends : Status) (line : Text) → IsAnswer asked work files (Ok ends) line → IsHindered ends
  answered_missing first status line (misused m same s) = absurd (let e = sym named ∙ m.none in cc)
  answered_missing first status line (unread u same s) = inl s
  answered_missing first status line (refused r same s) =
      absurd (both_stop rules bytes_of Missing (Stopped line) ⊥
      (λ w later u m. usable-missing rules bytes_of w u (missing_known w m))
      (λ w later u s. usable-refused rules bytes_of line w u (refused_known line w s.refused))
      (λ w later m s. missing-refused rules bytes_of line w (missing_known w m) (refused_known line w s.refused))
      (asked.program.wanted r.job) (first_of Missing r.job r.named first) (subst (λ (c : Contents). StopsAt rules c (Stopped line) (asked.program.wanted r.job)) told r.first))
  answered_missing first status line (done d) =
      absurd (sound-stops rules bytes_of Missing (λ w later u m. usable-missing rules bytes_of w u (missing_known w m)) (asked.program.wanted d.job) d.bytes
      (subst (λ (c : Contents). AreSound rules c (asked.program.wanted d.job) d.bytes) told d.sound) (first_of Missing d.job d.named first))

nothing-stops : (it : FileRules) (contents : Contents) (ws : List Wanted) → contents ≡ None → StopsAt it contents (λ w later. IsMissing contents w.name) ws → ⊥
nothing-stops it contents [] e s = s
nothing-stops it contents (w ∷ ws) e (inl here) = subst (λ (c : Contents). IsMissing c w.name) e here
nothing-stops it contents (w ∷ ws) e (inr later) = nothing-stops it contents ws e later.1

module _ {J F S : Type 0} (asked : Asked J) (work : Doing J) (files : LentFiles F) (sink : LentSink S)
    (ends : Status) (line : Text) (answer : IsAnswer asked work files (Ok ends) line) where
  pub refuses : Takes sink line → (text : Text) → MustRefuse asked files text → ((ends ≡ Refused) × Takes sink text) ⊎ IsHindered ends
  refuses written text must = go (given files).contents refl
    where
      go : (c : Contents) → (given files).contents ≡ c → ((ends ≡ Refused) × Takes sink text) ⊎ IsHindered ends
      go None e = absurd (true≢false (sym (subst IsSome e must.known)))
      go (Some bytes_of) e =
          answered_refused asked work files sink must.refused.job must.refused.named bytes_of e text must.refused.first ends line answer written

  pub misses : HasMissing asked files → IsHindered ends
  misses missing = go (given files).contents refl
    where
      go : (c : Contents) → (given files).contents ≡ c → IsHindered ends
      go None e = absurd (nothing-stops asked.program.rules (given files).contents (asked.program.wanted missing.job) e missing.first)
      go (Some bytes_of) e = answered_missing asked work files sink missing.job missing.named bytes_of e missing.first ends line answer
