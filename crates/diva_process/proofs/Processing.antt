-- What a program promises of its words, of what its job answered.
use Rattle.std.proofs.Common.{◌≡◌, ◌≢◌, ◌⊎◌, None, Result, Ok, Err, inl, inr, refl}
use Rattle.diva_outside.specs.Files.{LentFiles}
use Rattle.diva_outside.specs.Sink.{LentSink, Takes}
use Rattle.diva_outside.specs.Text.{Text}
use Rattle.diva_process.specs.declared.status.Status.{Status}
use Rattle.diva_process.specs.declared.status.Status.TheVariants as status
use Rattle.diva_process.specs.declared.stop.Failure.{Failure}
use Rattle.diva_process.specs.declared.stop.Failure.TheVariants.{Cut, Memory}
use Rattle.diva_process.specs.Programs.{Asked, Doing}
use Rattle.diva_process.specs.Answers.{HasDone, HasRefused, HasUnread, IsAnswer, IsDone, IsJudged, IsMisused, misused, unread, refused, done}
use Rattle.diva_process.specs.Process.{IsProcess}
use Rattle.diva_process.specs.Promises.{KeepsPromises, status_of}
use Rattle.diva_process.specs.Statuses.{HasEnded, HasLine, HasWorked, LoadsNothing}
use Rattle.diva_process.proofs.Completing.{completed}
use Rattle.diva_process.proofs.Refusing.{misses, refuses}

-- a job that is done ends with none of the others
not_done : (ends : Status) → IsDone ends
    → (ends ≢ status.Misused) × (ends ≢ status.Refused) × (ends ≢ status.Unread) × (ends ≢ status.Cut) × (ends ≢ status.NoMemory)
not_done ends (inl e) = ((λ f. cc), (λ f. cc), (λ f. cc), (λ f. cc), (λ f. cc))
not_done ends (inr (inl e)) = ((λ f. cc), (λ f. cc), (λ f. cc), (λ f. cc), (λ f. cc))
not_done ends (inr (inr e)) = ((λ f. cc), (λ f. cc), (λ f. cc), (λ f. cc), (λ f. cc))

-- nor does one that judges a text
not_judged : (ends : Status) → IsDone ends ⊎ IsJudged ends → (ends ≢ status.Misused) × (ends ≢ status.Cut) × (ends ≢ status.NoMemory)
not_judged ends (inl d) = ((not_done ends d).0, (not_done ends d).3, (not_done ends d).4)
not_judged ends (inr (inl e)) = ((λ f. cc), (λ f. cc), (λ f. cc))
not_judged ends (inr (inr (inl e))) = ((λ f. cc), (λ f. cc), (λ f. cc))
not_judged ends (inr (inr (inr e))) = ((λ f. cc), (λ f. cc), (λ f. cc))

-- ---- the text was written whole, with this status

module _ {J F S : Type 0} (asked : Asked J) (work : Doing J) (files : LentFiles F) (sink : LentSink S) (ends : Status) (text : Text) (written : Takes sink text) where
  worked_whole : IsAnswer asked work files (Ok ends) text → IsDone ends → HasWorked asked work files sink ends
  worked_whole (misused m u s) d = absurd ((not_done ends d).0 s)
  worked_whole (unread m u s) d = absurd ((not_done ends d).2 s)
  worked_whole (refused m u s) d = absurd ((not_done ends d).1 s)
  worked_whole (done h) d = record { text = text; done = h; written = written }

  misused_whole : IsAnswer asked work files (Ok ends) text → ends ≡ status.Misused → HasLine (IsMisused asked files) work sink
  misused_whole (misused m u s) e = record { text = text; caused = m; unused = u; written = written }
  misused_whole (unread m u s) e = cc
  misused_whole (refused m u s) e = cc
  misused_whole (done h) e = absurd ((not_judged ends h.ends.done).0 e)

  ended : HasDone asked work files (Ok ends) text → HasEnded asked work files sink ends
  ended h = record { job = h.job; named = h.named; can = h.ends.can; worked = record { text = text; done = h; written = written } }

  refused_whole : IsAnswer asked work files (Ok ends) text → ends ≡ status.Refused → HasLine (HasRefused asked files) work sink ⊎ HasEnded asked work files sink ends
  refused_whole (misused m u s) e = cc
  refused_whole (unread m u s) e = cc
  refused_whole (refused m u s) e = inl (record { text = text; caused = m; unused = u; written = written })
  refused_whole (done h) e = inr (ended h)

  unread_whole : IsAnswer asked work files (Ok ends) text → ends ≡ status.Unread → HasLine (HasUnread asked files) work sink ⊎ HasEnded asked work files sink ends
  unread_whole (misused m u s) e = cc
  unread_whole (unread m u s) e = inl (record { text = text; caused = m; unused = u; written = written })
  unread_whole (refused m u s) e = cc
  unread_whole (done h) e = inr (ended h)

  wrong_whole : IsAnswer asked work files (Ok ends) text → ends ≡ status.Wrong → HasEnded asked work files sink ends
  wrong_whole (misused m u s) e = cc
  wrong_whole (unread m u s) e = cc
  wrong_whole (refused m u s) e = cc
  wrong_whole (done h) e = ended h

  never_cut : IsAnswer asked work files (Ok ends) text → ends ≢ status.Cut
  never_cut (misused m u s) e = cc
  never_cut (unread m u s) e = cc
  never_cut (refused m u s) e = cc
  never_cut (done h) e = (not_judged ends h.ends.done).1 e

  never_out : IsAnswer asked work files (Ok ends) text → ends ≢ status.NoMemory
  never_out (misused m u s) e = cc
  never_out (unread m u s) e = cc
  never_out (refused m u s) e = cc
  never_out (done h) e = (not_judged ends h.ends.done).2 e

  usage_whole : IsAnswer asked work files (Ok ends) text → asked.job ≡ None → ends ≡ status.Misused
  usage_whole (misused m u s) e = s
  usage_whole (unread m u s) e = let named = m.named in cc
  usage_whole (refused m u s) e = let named = m.named in cc
  usage_whole (done h) e = let named = h.named in cc

-- ---- whatever was answered

module _ {J F S : Type 0} (asked : Asked J) (work : Doing J) (files : LentFiles F) (sink : LentSink S) where
  pub process_of : (result : Result Status Failure) → KeepsPromises asked work files sink result
      → (LoadsNothing asked.program asked.job → files.after ≡ files.before) → IsProcess asked work files sink (status_of result)
  process_of (Ok ends) a none =
      record {
        worked = worked_whole asked work files sink ends a.text a.written a.answer;
        misused = misused_whole asked work files sink ends a.text a.written a.answer;
        refused = refused_whole asked work files sink ends a.text a.written a.answer;
        unread = unread_whole asked work files sink ends a.text a.written a.answer;
        wrong = wrong_whole asked work files sink ends a.text a.written a.answer;
        cut = λ e. absurd (never_cut asked work files sink ends a.text a.written a.answer e);
        memory = λ e. absurd (never_out asked work files sink ends a.text a.written a.answer e);
        unloaded = none;
        usage = λ e. inl (usage_whole asked work files sink ends a.text a.written a.answer e);
        refuses = refuses asked work files sink ends a.text a.answer a.written;
        misses = misses asked work files sink ends a.text a.answer;
        complete = λ can files_well sink_well. inl (completed asked work files sink can files_well sink_well ends a.text a.answer a.written);
      }
  process_of (Err Cut) a none =
      record {
        worked = λ d. absurd ((not_done status.Cut d).3 refl);
        misused = λ e. cc;
        refused = λ e. cc;
        unread = λ e. cc;
        wrong = λ e. cc;
        cut = λ e. a;
        memory = λ e. cc;
        unloaded = none;
        usage = λ e. inr (inl refl);
        refuses = λ text must. inr (inr (inl refl));
        misses = λ missing. inr (inl refl);
        complete = λ can files_well sink_well. absurd (sink_well a.rose);
      }
  process_of (Err Memory) a none =
      record {
        worked = λ d. absurd ((not_done status.NoMemory d).4 refl);
        misused = λ e. cc;
        refused = λ e. cc;
        unread = λ e. cc;
        wrong = λ e. cc;
        cut = λ e. cc;
        memory = λ e. a;
        unloaded = none;
        usage = λ e. inr (inr refl);
        refuses = λ text must. inr (inr (inr refl));
        misses = λ missing. inr (inr refl);
        complete = λ can files_well sink_well. inr refl;
      }
