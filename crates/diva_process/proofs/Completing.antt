-- A job all of whose files are known and sound is done.
use Rattle.std.proofs.Common.{◌≡◌, ◌⊎◌, ℕ, List, [], ◌∷◌, length, Option, Some, None, Ok, inl, inr, sym, ◌∙◌, ap, arith, subst}
use Rattle.diva_outside.specs.Causes.{Rose}
use Rattle.diva_outside.specs.Files.{Contents, FilesAccount, IsMissing, LentFiles}
use Rattle.diva_outside.specs.Lent.{given, left}
use Rattle.diva_outside.specs.Sink.{HasFailed, LentSink, Takes}
use Rattle.diva_outside.specs.Text.{Text}
use Rattle.diva_outside.specs.declared.files.What.{What}
use Rattle.diva_process.specs.declared.status.Status.{Status}
use Rattle.diva_process.specs.Programs.{Asked, Doing, FileRules, Wanted}
use Rattle.diva_process.specs.Stops.{HasFirstFault, IsRefused, IsTooLong, IsUnread, StopsAt, StopsLoading}
use Rattle.diva_process.specs.Answers.{IsAnswer, misused, unread, refused, done}
use Rattle.diva_process.specs.Statuses.{AreKnownSound, CanWork, HasEnded, IsKnownSound}

-- ---- a file that is known and sound is no cause to stop

pub some_same : {A : Type 0} (r : Option A) (x y : A) → r ≡ Some x → r ≡ Some y → x ≡ y
some_same r x y a b = cc

module _ (rules : FileRules) where
  pub known-refused : (contents : Contents) (text : Text) (w : Wanted) → IsKnownSound rules contents w → IsRefused rules contents text w → ⊥
  known-refused None text w h r = h.known
  known-refused (Some bytes_of) text w h r = go r.cause
    where
      go : IsTooLong rules (Some bytes_of) w r.kind r.place ⊎ HasFirstFault rules (Some bytes_of) w r.kind r.place → ⊥
      go (inl long) =
          let same : h.bytes ≡ long.longer.0 = some_same (bytes_of w.name) h.bytes long.longer.0 h.known long.longer.1 in
          let n = ap (λ (b : List ℕ). length b) same in let a = h.short in let b = long.longer.2 in omega arith
      go (inr f) =
          let same : h.bytes ≡ f.bytes = some_same (bytes_of w.name) h.bytes f.bytes h.known f.has in
          let none : rules.fault_of w f.bytes ≡ None = subst (λ (b : List ℕ). rules.fault_of w b ≡ None) same h.faultless in
          let e = sym none ∙ f.first in cc

  pub known-unread : (before now : FilesAccount) (text : Text) (w : Wanted) (later : List Wanted) → ((what : What) → Rose (before.faults what) (now.faults what) → ⊥)
      → IsKnownSound rules before.contents w → IsUnread before now text w later → ⊥
  known-unread before now text w later none h r = go before.contents h r.cause
    where
      go : (contents : Contents) → IsKnownSound rules contents w → Rose (before.faults w.what) (now.faults w.what) ⊎ IsMissing contents w.name → ⊥
      go contents k (inl rose) = none w.what rose
      go None k (inr missing) = missing
      go (Some bytes_of) k (inr missing) = let e = sym k.known ∙ missing in cc

  known-stops : (contents : Contents) (this : Wanted → List Wanted → Type 0) → ((w : Wanted) (later : List Wanted) → IsKnownSound rules contents w → this w later → ⊥)
      → (ws : List Wanted) → AreKnownSound rules contents ws → StopsAt rules contents this ws → ⊥
  known-stops contents this never [] h s = s
  known-stops contents this never (w ∷ ws) h (inl here) = never w ws h.0 here
  known-stops contents this never (w ∷ ws) h (inr later) = known-stops contents this never ws h.1 later.1

-- ---- so it is done

module _ {J F S : Type 0} (asked : Asked J) (work : Doing J) (files : LentFiles F) (sink : LentSink S) where
  module _ (can : CanWork asked files) (files_well : (what : What) → Rose ((given files).faults what) ((left files).faults what) → ⊥) (sink_well : HasFailed sink → ⊥) where
    known_of : (job : J) → asked.job ≡ Some job → AreKnownSound asked.program.rules (given files).contents (asked.program.wanted job)
    known_of job named =
        subst (λ (j : J). AreKnownSound asked.program.rules (given files).contents (asked.program.wanted j)) (some_same asked.job can.job job can.named named) can.known

    pub completed : (ends : Status) (text : Text) → IsAnswer asked work files (Ok ends) text → Takes sink text → HasEnded asked work files sink ends
    completed status text (misused m same s) w = absurd (let e = sym can.named ∙ m.none in cc)
    completed status text (unread u same s) w =
        absurd (known-stops asked.program.rules (given files).contents (IsUnread (given files) (left files) text)
        (λ w later. known-unread asked.program.rules (given files) (left files) text w later files_well) (asked.program.wanted u.job) (known_of u.job u.named) u.first)
    completed status text (refused r same s) w =
        absurd (known-stops asked.program.rules (given files).contents (StopsLoading asked.program.rules (given files) (left files) text)
        (λ w later h s. known-refused asked.program.rules (given files).contents text w h s.refused) (asked.program.wanted r.job) (known_of r.job r.named) r.first)
    completed status text (done d) w =
        record { job = d.job; named = d.named; can = d.ends.can; worked = record { text = text; done = d; written = w } }
