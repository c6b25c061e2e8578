-- What is promised of the lines of a source is promised of the source.
use Rattle.std.proofs.Common.{◌≡◌, ◌∙◌, ◌⊎◌, inl, inr, ℕ, List, Option, Result, Ok, Err, ap, sym, subst}
use Rattle.diva_isa.specs.State.{State}
use Rattle.diva_core.specs.Timed.{Timed}
use Rattle.diva_outside.specs.Causes.{Rose}
use Rattle.diva_outside.specs.Lent.{lent}
use Rattle.diva_outside.specs.Sink.{LentSink}
use Rattle.diva_outside.specs.Text.{Text}
use Rattle.diva_outside.specs.declared.sink.SinkFailed.{SinkFailed}
use Rattle.diva_source.specs.Source.{SourceAccount}
use Rattle.diva_source.specs.SourceLines.{lines_account, source_of}
use Rattle.diva_source.specs.declared.source_lines.SourceLines.{SourceLines}
use Rattle.diva_judge.specs.Judging.{AreAllLines, AreFirstLines, Ends, IsAnswer, whole, refused, unread, IsCutAmid, IsCutLast, IsJudging}
use Rattle.diva_judge.specs.declared.terms.Terms.{Terms}
use Rattle.diva_judge.specs.declared.verdict.Verdict.{Verdict}

module _ {D : Type 0} (a : D → SourceAccount) (terms : Terms) (s : State) (log0 log1 : SourceLines D) (d0 d1 : D)
    (began : lines_account a log0 ≡ a d0) (same : source_of log1 ≡ d1) where
  rest_is : (lines_account a log0).rest ≡ (a d0).rest
  rest_is = ap (λ (account : SourceAccount). account.rest) began

  faults0_is : (lines_account a log0).faults ≡ (a d0).faults
  faults0_is = ap (λ (account : SourceAccount). account.faults) began

  faults1_is : (lines_account a log1).faults ≡ (a d1).faults
  faults1_is = ap (λ (d : D). (a d).faults) same

  all_of : (lines : List Text) → AreAllLines (lines_account a log0).rest lines → AreAllLines (a d0).rest lines
  all_of lines all = subst (λ (rest : Option Text). AreAllLines rest lines) rest_is all

  first_of : (lines : List Text) → AreFirstLines (lines_account a log0).rest lines → AreFirstLines (a d0).rest lines
  first_of lines first = subst (λ (rest : Option Text). AreFirstLines rest lines) rest_is first

  uncounted_of : (lines_account a log1).faults ≡ (lines_account a log0).faults → (a d1).faults ≡ (a d0).faults
  uncounted_of none = sym faults1_is ∙ none ∙ faults0_is

  rose_of : Rose (lines_account a log0).faults (lines_account a log1).faults → Rose (a d0).faults (a d1).faults
  rose_of rose = subst (λ (n : ℕ). Rose n (a d1).faults) faults0_is (subst (λ (n : ℕ). Rose (lines_account a log0).faults n) faults1_is rose)

  answer_of : (lines : List Text) (ends : Verdict) (text : Text) → IsAnswer terms s (lent (lines_account a) log0 log1) lines ends text → IsAnswer terms s (lent a d0 d1) lines ends text
  answer_of lines ends text (whole w) =
      whole (record { read = all_of lines w.read; uncounted = uncounted_of w.uncounted; faultless = w.faultless; is = w.is; written = w.written })
  answer_of lines ends text (refused r) =
      refused (record { read = first_of lines r.read; uncounted = uncounted_of r.uncounted; fault = r.fault; first = r.first; last = r.last; is = r.is; written = r.written })
  answer_of lines ends text (unread u) =
      unread (record { read = first_of lines u.read; failed = rose_of u.failed; faultless = u.faultless; is = u.is; written = u.written })

  cut_of : (lines : List Text) (put text : Text)
      → IsCutAmid terms s (lent (lines_account a) log0 log1) lines put text ⊎ IsCutLast terms s (lent (lines_account a) log0 log1) lines put text
      → IsCutAmid terms s (lent a d0 d1) lines put text ⊎ IsCutLast terms s (lent a d0 d1) lines put text
  cut_of lines put text (inl c) =
      inl (record {
        earlier = c.earlier;
        line = c.line;
        all = c.all;
        read = first_of lines c.read;
        uncounted = uncounted_of c.uncounted;
        had = c.had;
        written = c.written;
      })
  cut_of lines put text (inr c) = inr (record { ends = c.ends; answer = answer_of lines c.ends text c.answer; had = c.had })

  ends_of : {S : Type 0} (sink : LentSink S) (lines : List Text) (result : Result Verdict SinkFailed)
      → Ends terms s (lent (lines_account a) log0 log1) lines sink result → Ends terms s (lent a d0 d1) lines sink result
  ends_of sink lines (Ok ends) e = record { text = e.text; answer = answer_of lines ends e.text e.answer; written = e.written }
  ends_of sink lines (Err failed) e = record { rose = e.rose; put = e.put; text = e.text; cut = cut_of lines e.put e.text e.cut; written = e.written }

  pub of_source : {S : Type 0} (sink : LentSink S) (last : Timed) (result : Result Verdict SinkFailed)
      → IsJudging terms s (lent (lines_account a) log0 log1) sink last result → IsJudging terms s (lent a d0 d1) sink last result
  of_source sink last result j = record { lines = j.lines; answered = ends_of sink j.lines result j.answered; machine = j.machine; says = j.says }
