-- What a job answers, from what was loaded for it and what was written of it.
use Rattle.std.proofs.Common.{◌≡◌, List, [], None, Some, Result, Ok, Err, IfOk, refl, sym, subst}
use Rattle.diva_outside.specs.Files.{IsUncounted, LentFiles}
use Rattle.diva_outside.specs.Lent.{given, left}
use Rattle.diva_outside.specs.Sink.{LentSink}
use Rattle.diva_outside.specs.Text.{Text}
use Rattle.diva_outside.proofs.Sinks.{past_nothing}
use Rattle.diva_process.specs.declared.stop.Failure.{Failure}
use Rattle.diva_process.specs.declared.stop.Failure.TheVariants.{Cut, Memory as NoMemory}
use Rattle.diva_process.specs.declared.status.Status.{Status}
use Rattle.diva_process.specs.declared.status.Status.TheVariants.{Misused}
use Rattle.diva_process.specs.declared.stop.Stop.{Stop}
use Rattle.diva_process.specs.declared.stop.Stop.TheVariants.{Memory, Unread, Refused}
use Rattle.diva_process.specs.Programs.{Asked, Doing, FileBytes, FileRules, Program, Wanted, asked_for}
use Rattle.diva_process.specs.Stops.{AreSound, IsUnread, StopsAt, StopsLoading}
use Rattle.diva_process.specs.Answers.{EndsSo, IsAnswer, misused, unread, refused, done}
use Rattle.diva_process.specs.Promises.{KeepsPromises}
use Rattle.diva_process.specs.Writing.{Stops, WritesLine, WritesStop, WritesText}

module _ {J F S : Type 0} (program : Program J) (work : Doing J) (files : LentFiles F) (sink : LentSink S) where
  -- the files are sound, and the job's text was written
  pub done_answers : (job : J) (bytes : FileBytes) (result : Result Status Failure)
      → AreSound program.rules (given files).contents (program.wanted job) bytes
      → IsUncounted files
      → ((ends : Status) (text : Text) → work.done job bytes (Ok ends) text → EndsSo work job ends)
      → WritesText work job bytes sink result
      → KeepsPromises (asked_for program job) work files sink result
  done_answers job bytes (Ok status) sound none can w =
      record {
        text = w.text;
        answer = done (record { job = job; named = refl; bytes = bytes; sound = sound; uncounted = none; means = w.means; ends = can status w.text w.means });
        written = w.written;
      }
  done_answers job bytes (Err Cut) sound none can w =
      record {
        rose = w.rose;
        put = w.put;
        text = w.text;
        answer = done (record { job = job; named = refl; bytes = bytes; sound = sound; uncounted = none; means = w.means; ends = tt });
        written = w.written;
      }
  done_answers job bytes (Err NoMemory) sound none can w = absurd w

  -- the loading stopped, and a line was written of it
  pub stop_answers : (job : J) (stop : Stop) (result : Result Status Failure)
      → work.unused
      → Stops program.rules (given files) (left files) (program.wanted job) stop
      → WritesStop stop sink result
      → KeepsPromises (asked_for program job) work files sink result
  stop_answers job Memory (Ok status) u s w = (let e = w.0 in cc)
  stop_answers job Memory (Err Cut) u s w = (let e = w.0 in cc)
  stop_answers job Memory (Err NoMemory) u s w = record { uncounted = s; unused = u; unput = w.1 }
  stop_answers job (Unread what) (Ok status) u s w =
      record { text = _; answer = unread (record { job = job; named = refl; first = s }) u w.0; written = w.1 }
  stop_answers job (Unread what) (Err Cut) u s w =
      record { rose = w.0; put = []; text = _; answer = unread (record { job = job; named = refl; first = s }) u tt; written = past_nothing sink _ w.1 }
  stop_answers job (Unread what) (Err NoMemory) u s w = absurd w
  stop_answers job (Refused what kind place) (Ok status) u s w =
      record { text = _; answer = refused (record { job = job; named = refl; first = s }) u w.0; written = w.1 }
  stop_answers job (Refused what kind place) (Err Cut) u s w =
      record { rose = w.0; put = []; text = _; answer = refused (record { job = job; named = refl; first = s }) u tt; written = past_nothing sink _ w.1 }
  stop_answers job (Refused what kind place) (Err NoMemory) u s w = absurd w

-- the words ask for no job, and the usage line was written
module _ {J F S : Type 0} (asked : Asked J) (work : Doing J) (files : LentFiles F) (sink : LentSink S) where
  pub misused_answers : (line : Text) (result : Result Status Failure)
      → work.unused
      → asked.job ≡ None → line ≡ asked.program.usage → IsUncounted files
      → WritesLine line Misused sink result
      → KeepsPromises asked work files sink result
  misused_answers line (Ok status) u none is same w =
      record { text = line; answer = misused (record { none = none; line = is; uncounted = same }) u w.0; written = w.1 }
  misused_answers line (Err Cut) u none is same w =
      record { rose = w.0; put = []; text = line; answer = misused (record { none = none; line = is; uncounted = same }) u tt; written = past_nothing sink line w.1 }
  misused_answers line (Err NoMemory) u none is same w = absurd w

-- what is promised of a job is promised of a program that wants the same files for one of its own, and what its job came to follows
module _ {J J' F S : Type 0} (program : Program J) (other : Program J') (job : J) (its : J') (work : Doing J) (that : Doing J')
    (files : LentFiles F) (sink : LentSink S)
    (wants : other.wanted its ≡ program.wanted job) (rules : other.rules ≡ program.rules) (unused : work.unused → that.unused)
    (so : (bytes : FileBytes) (ended : Result Status Text) (text : Text) → work.done job bytes ended text → that.done its bytes ended text)
    (can : (ends : Status) → work.can_end job ends → that.can_end its ends) where
  stopped_so : (this : FileRules → Wanted → List Wanted → Type 0) → StopsAt program.rules (given files).contents (this program.rules) (program.wanted job)
      → StopsAt other.rules (given files).contents (this other.rules) (other.wanted its)
  stopped_so this s =
      subst (λ (r : FileRules). StopsAt r (given files).contents (this r) (other.wanted its)) (sym rules)
      (subst (λ (ws : List Wanted). StopsAt program.rules (given files).contents (this program.rules) ws) (sym wants) s)

  same_job : (k : J) → Some job ≡ Some k → k ≡ job
  same_job k e = cc

  ends_so : (ended : Result Status Text) (k : J) → k ≡ job → IfOk ended (EndsSo work k) → IfOk ended (EndsSo that its)
  ends_so (Ok status) k e h = record { done = h.done; can = can status (subst (λ (x : J). work.can_end x status) e h.can) }
  ends_so (Err put) k e h = tt

  answer_so : (ended : Result Status Text) (text : Text) → IsAnswer (asked_for program job) work files ended text → IsAnswer (asked_for other its) that files ended text
  answer_so ended text (misused m u s) = absurd (let e = m.none in cc)
  answer_so ended text (unread m u s) =
      unread (record {
        job = its;
        named = refl;
        first = stopped_so (λ r. IsUnread (given files) (left files) text)
            (subst (λ (x : J). StopsAt program.rules (given files).contents (IsUnread (given files) (left files) text) (program.wanted x)) (same_job m.job m.named) m.first);
      }) (unused u) s
  answer_so ended text (refused m u s) =
      refused (record {
        job = its;
        named = refl;
        first = stopped_so (λ r. StopsLoading r (given files) (left files) text)
            (subst (λ (x : J). StopsAt program.rules (given files).contents (StopsLoading program.rules (given files) (left files) text) (program.wanted x)) (same_job m.job m.named) m.first);
      }) (unused u) s
  answer_so ended text (done d) =
      let e = same_job d.job d.named in
      done (record {
        job = its;
        named = refl;
        bytes = d.bytes;
        sound = subst (λ (r : FileRules). AreSound r (given files).contents (other.wanted its) d.bytes) (sym rules)
            (subst (λ (ws : List Wanted). AreSound program.rules (given files).contents ws d.bytes) (sym wants)
            (subst (λ (x : J). AreSound program.rules (given files).contents (program.wanted x) d.bytes) e d.sound));
        uncounted = d.uncounted;
        means = so d.bytes ended text (subst (λ (x : J). work.done x d.bytes ended text) e d.means);
        ends = ends_so ended d.job e d.ends;
      })

  pub promises_so : (result : Result Status Failure) → KeepsPromises (asked_for program job) work files sink result → KeepsPromises (asked_for other its) that files sink result
  promises_so (Ok status) w = record { text = w.text; answer = answer_so (Ok status) w.text w.answer; written = w.written }
  promises_so (Err Cut) w = record { rose = w.rose; put = w.put; text = w.text; answer = answer_so (Err w.put) w.text w.answer; written = w.written }
  promises_so (Err NoMemory) w = record { uncounted = w.uncounted; unused = unused w.unused; unput = w.unput }
