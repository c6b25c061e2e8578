-- How a log is judged line by line: what holds of the lines so far, and what is then promised of all that were read.
use Rattle.std.proofs.Common.{◌≡◌, ◌∙◌, inl, inr, ◌++◌, ◌+◌, ◌≤◌, ℕ, true, false, List, [], ◌∷◌, length, Option, Some, None, Result, Ok, Err, ap, sym, refl, subst, arith, length-append}
use Rattle.diva_isa.specs.State.{State}
use Rattle.diva_core.specs.Machine.{IsMachine}
use Rattle.diva_core.specs.Timed.{Timed, new_timed}
use Rattle.diva_outside.specs.Causes.{Rose}
use Rattle.diva_outside.specs.Lent.{lent}
use Rattle.diva_outside.specs.Sink.{HasFailed as HasSinkFailed, LentSink, PutsTo, SinkAccount, Takes, TakesPast}
use Rattle.diva_outside.specs.Text.{Text}
use Rattle.diva_outside.specs.Words.{words_of}
use Rattle.diva_outside.specs.declared.sink.SinkFailed.{SinkFailed}
use Rattle.diva_outside.proofs.Sinks.{puts_nothing, puts_past, puts_then}
use Rattle.diva_source.specs.KeptWords.{kept_of}
use Rattle.diva_source.specs.Source.{SourceAccount}
use Rattle.diva_source.specs.SourceLines.{ReadsLine}
use Rattle.diva_source.specs.declared.source.SourceFailed.{SourceFailed}
use Rattle.diva_claims.specs.declared.said.Said.{Said}
use Rattle.diva_judge.specs.Inner.{AreTaken, IsKept, IsSoFar, judged_by}
use Rattle.diva_judge.specs.Judgement.{Judged, none_judged, verdict_of, with_said}
use Rattle.diva_judge.specs.Judging.{IsAnswer, whole, refused, unread, IsJudging, IsWhereJudged, SaysWhat, front_text, judged_of}
use Rattle.diva_judge.specs.Logs.{Log, log_of, said_of}
use Rattle.diva_judge.specs.Texts.{last_text, refused_text, said_text, unreadable_text}
use Rattle.diva_judge.specs.declared.log_line.Kind.{Kind}
use Rattle.diva_judge.specs.declared.terms.Terms.{Terms}
use Rattle.diva_judge.specs.declared.verdict.Verdict.{Verdict}
use Rattle.diva_judge.specs.declared.verdict.Verdict.TheVariants as verdict
use Rattle.diva_judge.proofs.Adding.{text_more, with_more}
use Rattle.diva_judge.proofs.Logging.{fault_at, more_fault, more_nothing, more_said}
use Rattle.diva_judge.proofs.Sentences.{halted_right, kind, trapped_right, wrong_found}
use Rattle.diva_judge.proofs.Taking.{taken_all, taken_first, taken_more, taken_none}

-- ---- a new machine

pub new_kept : (m : Timed) → m ≡ new_timed m.config m.arch → IsMachine m → IsKept m
new_kept m is machine = record {
  rests = record {
    machine = machine;
    empty = ap (λ (m : Timed). m.under.pending) is;
    alone = ap (λ (m : Timed). m.under.solo) is;
    fresh = ap (λ (m : Timed). m.under.idle) is;
  };
  silent = ap (λ (m : Timed). m.under.log.silent) is;
  soon = omega (arith, ap (λ (m : Timed). m.cycles) is);
}

new_judged : (m : Timed) → m ≡ new_timed m.config m.arch → judged_by m ≡ none_judged m.arch
new_judged m is = ap (λ (t : Timed). record { lines = t.count; wrong = t.under.log.flushes; state = m.arch }) is

-- ---- what is put

takes_put : {S : Type 0} (sink : LentSink S) (text : Text) → Takes sink text → PutsTo {E = SinkFailed} sink text (Ok tt)
takes_put sink text takes = record { later = omega (arith, takes.uncounted); ok = takes.appended; uncounted = takes.uncounted; part = tt; failed = tt }

put_takes : {S : Type 0} (sink : LentSink S) (text : Text) → PutsTo {E = SinkFailed} sink text (Ok tt) → Takes sink text
put_takes sink text puts = record { appended = puts.ok; uncounted = puts.uncounted }

module _ {S : Type 0} (k : S → SinkAccount) (t0 t1 t2 : S) (front more : Text) (had : Takes (lent k t0 t1) front) where
  takes_more : PutsTo {E = SinkFailed} (lent k t1 t2) more (Ok tt) → Takes (lent k t0 t2) (front ++ more)
  takes_more puts = put_takes (lent k t0 t2) (front ++ more) (puts_then k front more t0 t1 t2 (Ok tt) (takes_put (lent k t0 t1) front had) puts)

  takes_past : (failed : SinkFailed) → PutsTo (lent k t1 t2) more (Err failed) → TakesPast (lent k t0 t2) front (front ++ more)
  takes_past failed puts = puts_past k front more t0 t1 t2 failed (takes_put (lent k t0 t1) front had) puts

  has_failed : (failed : SinkFailed) → PutsTo (lent k t1 t2) more (Err failed) → HasSinkFailed (lent k t0 t2)
  has_failed failed puts = (puts_then k front more t0 t1 t2 (Err failed) (takes_put (lent k t0 t1) front had) puts).failed

-- ---- what a verdict says

abbrev Answer : Type 0
Answer = Result Verdict SinkFailed

abbrev verdict_in : Answer → Verdict
verdict_in (Ok ends) = ends
verdict_in (Err failed) = verdict.Unread

-- one that says nothing of the lines
says_nothing : (s : State) (lines : List Text) (result : Answer) → 4 ≤ kind (verdict_in result) → SaysWhat s lines result
says_nothing s lines result other = record {
  halted = λ is. let e : kind (verdict_in result) ≡ 0 = ap (λ (r : Answer). kind (verdict_in r)) is in absurd (omega (arith, e, other));
  trapped = λ is. let e : kind (verdict_in result) ≡ 1 = ap (λ (r : Answer). kind (verdict_in r)) is in absurd (omega (arith, e, other));
  wrong = λ is. let e : kind (verdict_in result) ≡ 3 = ap (λ (r : Answer). kind (verdict_in r)) is in absurd (omega (arith, e, other));
}

-- the verdict on a whole log
says_whole : (terms : Terms) (s : State) (lines : List Text) (ends : Verdict) → ends ≡ verdict_of (length (log_of lines).said) (judged_of terms s (log_of lines))
    → SaysWhat {E = SinkFailed} s lines (Ok ends)
says_whole terms s lines ends is = record {
  halted = λ e. halted_right terms s lines (sym is ∙ ap verdict_in e);
  trapped = λ e. trapped_right terms s lines (sym is ∙ ap verdict_in e);
  wrong = λ e. wrong_found terms s lines (sym is ∙ ap verdict_in e);
}

-- ---- the lines so far

pub begins : {D S : Type 0} (a : D → SourceAccount) (k : S → SinkAccount) (terms : Terms) (m : Timed) (d : D) (t : S)
    → m ≡ new_timed m.config m.arch → IsKept m → IsSoFar terms m.arch (lent a d d) (lent k t t) m 0 0
begins a k terms m d t new kept = record {
  lines = [];
  taken = taken_none (a d).rest;
  uncounted = refl;
  numbered = refl;
  fewer = omega arith;
  faultless = refl;
  counted = refl;
  few = omega arith;
  kept = kept;
  judged = new_judged m new;
  put = put_takes (lent k t t) [] (puts_nothing k t);
}

where_judged : (terms : Terms) (s : State) (lines : List Text) (now : Timed) → IsKept now → judged_by now ≡ judged_of terms s (log_of lines) → IsWhereJudged terms s lines now
where_judged terms s lines now kept judged = record {
  rests = kept.rests;
  arch = ap (λ (j : Judged). j.state) judged;
  count = ap (λ (j : Judged). j.lines) judged;
  flushes = ap (λ (j : Judged). j.wrong) judged;
  silent = kept.silent;
}

module _ {D S : Type 0} (a : D → SourceAccount) (k : S → SinkAccount) (terms : Terms) (s : State)
    (d0 d1 d2 : D) (t0 t1 : S) (now : Timed) (number count : ℕ) (so : IsSoFar terms s (lent a d0 d1) (lent k t0 t1) now number count) where
  -- what is written last was put, or the sink failed in it
  module _ (lines : List Text) (machine : IsWhereJudged terms s lines now) (front : front_text terms s (log_of so.lines) ≡ front_text terms s (log_of lines))
      (more : Text) (ends : Verdict) (answer : IsAnswer terms s (lent a d0 d2) lines ends (front_text terms s (log_of lines) ++ more))
      (says : SaysWhat {E = SinkFailed} s lines (Ok ends)) (t2 : S) where
    had : Takes (lent k t0 t1) (front_text terms s (log_of lines))
    had = subst (λ (text : Text). Takes (lent k t0 t1) text) front so.put

    put_last : PutsTo {E = SinkFailed} (lent k t1 t2) more (Ok tt) → IsJudging {E = SinkFailed} terms s (lent a d0 d2) (lent k t0 t2) now (Ok ends)
    put_last puts = record {
      lines = lines;
      answered = record {
        text = front_text terms s (log_of lines) ++ more;
        answer = answer;
        written = takes_more k t0 t1 t2 (front_text terms s (log_of lines)) more had puts;
      };
      machine = machine;
      says = says;
    }

    cut_last : (failed : SinkFailed) → PutsTo (lent k t1 t2) more (Err failed) → IsJudging terms s (lent a d0 d2) (lent k t0 t2) now (Err failed)
    cut_last failed puts = record {
      lines = lines;
      answered = record {
        rose = has_failed k t0 t1 t2 (front_text terms s (log_of lines)) more had failed puts;
        put = front_text terms s (log_of lines);
        text = front_text terms s (log_of lines) ++ more;
        cut = inr (record { ends = ends; answer = answer; had = refl });
        written = takes_past k t0 t1 t2 (front_text terms s (log_of lines)) more had failed puts;
      };
      machine = machine;
      says = says_nothing s lines (Err failed) (omega arith);
    }

  machine_so : IsWhereJudged terms s so.lines now
  machine_so = where_judged terms s so.lines now so.kept so.judged

  -- ---- the log has ended
  module _ (words : List Text) (reads : ReadsLine {E = SourceFailed} (lent a d1 d2) words (Ok false)) (t2 : S) where
    abbrev ends : Verdict
    ends = verdict_of count (judged_by now)

    ends_is : ends ≡ verdict_of (length (log_of so.lines).said) (judged_of terms s (log_of so.lines))
    ends_is =
        ap (λ (n : ℕ). verdict_of n (judged_by now)) (sym so.counted)
        ∙ ap (λ (j : Judged). verdict_of (length (log_of so.lines).said) j) so.judged

    last_is : last_text terms count (judged_by now) ≡ last_text terms (length (log_of so.lines).said) (judged_of terms s (log_of so.lines))
    last_is =
        ap (λ (n : ℕ). last_text terms n (judged_by now)) (sym so.counted)
        ∙ ap (λ (j : Judged). last_text terms (length (log_of so.lines).said) j) so.judged

    whole_answer : IsAnswer terms s (lent a d0 d2) so.lines ends (front_text terms s (log_of so.lines) ++ last_text terms count (judged_by now))
    whole_answer = whole (record {
      read = taken_all (a d0).rest (a d1).rest so.lines so.taken reads.answer.at_end;
      uncounted = reads.uncounted ∙ so.uncounted;
      faultless = so.faultless;
      is = ends_is;
      written = ap (λ (text : Text). front_text terms s (log_of so.lines) ++ text) last_is;
    })

    pub judged_whole : PutsTo {E = SinkFailed} (lent k t1 t2) (last_text terms count (judged_by now)) (Ok tt)
        → IsJudging {E = SinkFailed} terms s (lent a d0 d2) (lent k t0 t2) now (Ok (verdict_of count (judged_by now)))
    judged_whole puts = put_last so.lines machine_so refl (last_text terms count (judged_by now)) ends whole_answer (says_whole terms s so.lines ends ends_is) t2 puts

    pub cut_whole : (failed : SinkFailed) → PutsTo (lent k t1 t2) (last_text terms count (judged_by now)) (Err failed)
        → IsJudging terms s (lent a d0 d2) (lent k t0 t2) now (Err failed)
    cut_whole failed puts = cut_last so.lines machine_so refl (last_text terms count (judged_by now)) ends whole_answer (says_whole terms s so.lines ends ends_is) t2 failed puts

  -- ---- the log could not be read any further
  module _ (words : List Text) (failure : SourceFailed) (reads : ReadsLine (lent a d1 d2) words (Err failure)) (t2 : S) where
    unread_answer : IsAnswer terms s (lent a d0 d2) so.lines verdict.Unread (front_text terms s (log_of so.lines) ++ unreadable_text)
    unread_answer = unread (record {
      read = taken_first (a d0).rest (a d1).rest so.lines so.taken;
      failed = subst (λ (faults : ℕ). Rose faults (a d2).faults) so.uncounted reads.failed;
      faultless = so.faultless;
      is = refl;
      written = refl;
    })

    pub judged_unread : PutsTo {E = SinkFailed} (lent k t1 t2) unreadable_text (Ok tt) → IsJudging {E = SinkFailed} terms s (lent a d0 d2) (lent k t0 t2) now (Ok verdict.Unread)
    judged_unread puts = put_last so.lines machine_so refl unreadable_text verdict.Unread unread_answer (says_nothing s so.lines (Ok verdict.Unread) (omega arith)) t2 puts

    pub cut_unread : (failed : SinkFailed) → PutsTo (lent k t1 t2) unreadable_text (Err failed) → IsJudging terms s (lent a d0 d2) (lent k t0 t2) now (Err failed)
    cut_unread failed puts = cut_last so.lines machine_so refl unreadable_text verdict.Unread unread_answer (says_nothing s so.lines (Ok verdict.Unread) (omega arith)) t2 failed puts

  -- ---- a line more was read
  module _ (words : List Text) (reads : ReadsLine {E = SourceFailed} (lent a d1 d2) words (Ok true)) where
    abbrev line : Text
    line = reads.answer.line

    abbrev lines : List Text
    lines = so.lines ++ line ∷ []

    taken : AreTaken (a d0).rest (a d2).rest lines
    taken = taken_more (a d0).rest (a d1).rest (a d2).rest so.lines line so.taken reads.answer.taken

    numbered : length lines ≡ number + 1
    numbered = omega (arith, length-append so.lines (line ∷ []), so.numbered)

    -- what the words that are kept say is what the line says
    pub said_is : (result : Result (Option Said) Kind) → ((all : List Text) → words ≡ kept_of all → result ≡ said_of all) → said_of (words_of line) ≡ result
    said_is result is = sym (is (words_of line) reads.answer.kept)

    -- it has no words
    pub after_nothing : said_of (words_of line) ≡ Ok None → IsSoFar terms s (lent a d0 d2) (lent k t0 t1) now (number + 1) count
    after_nothing is =
        let e : log_of lines ≡ record { said = (log_of so.lines).said; fault = None } = more_nothing so.lines line so.faultless is in
        record {
          lines = lines;
          taken = taken;
          uncounted = reads.uncounted ∙ so.uncounted;
          numbered = numbered;
          fewer = omega (arith, so.fewer, reads.answer.fewer);
          faultless = ap (λ (log : Log). log.fault) e;
          counted = ap (λ (log : Log). length log.said) e ∙ so.counted;
          few = omega (arith, so.few);
          kept = so.kept;
          judged = so.judged ∙ sym (ap (judged_of terms s) e);
          put = subst (λ (text : Text). Takes (lent k t0 t1) text) (sym (ap (front_text terms s) e)) so.put;
        }

    -- it says something, which was judged
    module _ (said : Said) (is : said_of (words_of line) ≡ Ok (Some said)) (next : Timed) (kept : IsKept next)
        (judged : judged_by next ≡ with_said terms.stop said (judged_by now)) (t2 : S) where
      log_is : log_of lines ≡ record { said = (log_of so.lines).said ++ said ∷ []; fault = None }
      log_is = more_said so.lines line so.faultless said is

      judged_is : judged_by next ≡ judged_of terms s (log_of lines)
      judged_is =
          judged ∙ ap (with_said terms.stop said) so.judged ∙ sym (with_more terms.stop (log_of so.lines).said said (none_judged s))
          ∙ sym (ap (judged_of terms s) log_is)

      text_is : front_text terms s (log_of lines) ≡ front_text terms s (log_of so.lines) ++ said_text terms said (judged_by now)
      text_is =
          ap (front_text terms s) log_is ∙ text_more terms (log_of so.lines).said said (none_judged s)
          ∙ ap (λ (j : Judged). front_text terms s (log_of so.lines) ++ said_text terms said j) (sym so.judged)

      pub after_said : PutsTo {E = SinkFailed} (lent k t1 t2) (said_text terms said (judged_by now)) (Ok tt)
          → IsSoFar terms s (lent a d0 d2) (lent k t0 t2) next (number + 1) (count + 1)
      after_said puts = record {
        lines = lines;
        taken = taken;
        uncounted = reads.uncounted ∙ so.uncounted;
        numbered = numbered;
        fewer = omega (arith, so.fewer, reads.answer.fewer);
        faultless = ap (λ (log : Log). log.fault) log_is;
        counted = ap (λ (log : Log). length log.said) log_is ∙ omega (arith, length-append (log_of so.lines).said (said ∷ []), so.counted);
        few = omega (arith, so.few);
        kept = kept;
        judged = judged_is;
        put = subst (λ (text : Text). Takes (lent k t0 t2) text) (sym text_is)
            (takes_more k t0 t1 t2 (front_text terms s (log_of so.lines)) (said_text terms said (judged_by now)) so.put puts);
      }

      pub cut_said : (failed : SinkFailed) → PutsTo (lent k t1 t2) (said_text terms said (judged_by now)) (Err failed)
          → IsJudging terms s (lent a d0 d2) (lent k t0 t2) next (Err failed)
      cut_said failed puts = record {
        lines = lines;
        answered = record {
          rose = has_failed k t0 t1 t2 (front_text terms s (log_of so.lines)) (said_text terms said (judged_by now)) so.put failed puts;
          put = front_text terms s (log_of so.lines);
          text = front_text terms s (log_of lines);
          cut = inl (record {
            earlier = so.lines;
            line = line;
            all = refl;
            read = taken_first (a d0).rest (a d2).rest lines taken;
            uncounted = reads.uncounted ∙ so.uncounted;
            had = refl;
            written = refl;
          });
          written = subst (λ (text : Text). TakesPast (lent k t0 t2) (front_text terms s (log_of so.lines)) text) (sym text_is)
              (takes_past k t0 t1 t2 (front_text terms s (log_of so.lines)) (said_text terms said (judged_by now)) so.put failed puts);
        };
        machine = where_judged terms s lines next kept judged_is;
        says = says_nothing s lines (Err failed) (omega arith);
      }

    -- it has a fault
    module _ (fault : Kind) (is : said_of (words_of line) ≡ Err fault) (t2 : S) where
      fault_is : log_of lines ≡ record { said = (log_of so.lines).said; fault = Some (fault_at (number + 1) fault) }
      fault_is =
          more_fault so.lines line so.faultless fault is
          ∙ ap (λ (n : ℕ). record { said = (log_of so.lines).said; fault = Some (fault_at n fault) }) (omega (arith, so.numbered))

      machine_is : IsWhereJudged terms s lines now
      machine_is = where_judged terms s lines now so.kept (so.judged ∙ sym (ap (judged_of terms s) fault_is))

      refused_answer : IsAnswer terms s (lent a d0 d2) lines verdict.Refused (front_text terms s (log_of lines) ++ refused_text (fault_at (number + 1) fault))
      refused_answer = refused (record {
        read = taken_first (a d0).rest (a d2).rest lines taken;
        uncounted = reads.uncounted ∙ so.uncounted;
        fault = fault_at (number + 1) fault;
        first = ap (λ (log : Log). log.fault) fault_is;
        last = sym numbered;
        is = refl;
        written = refl;
      })

      pub judged_refused : PutsTo {E = SinkFailed} (lent k t1 t2) (refused_text (fault_at (number + 1) fault)) (Ok tt)
          → IsJudging {E = SinkFailed} terms s (lent a d0 d2) (lent k t0 t2) now (Ok verdict.Refused)
      judged_refused puts =
          put_last lines machine_is (sym (ap (front_text terms s) fault_is)) (refused_text (fault_at (number + 1) fault)) verdict.Refused refused_answer
          (says_nothing s lines (Ok verdict.Refused) (omega arith)) t2 puts

      pub cut_refused : (failed : SinkFailed) → PutsTo (lent k t1 t2) (refused_text (fault_at (number + 1) fault)) (Err failed)
          → IsJudging terms s (lent a d0 d2) (lent k t0 t2) now (Err failed)
      cut_refused failed puts =
          cut_last lines machine_is (sym (ap (front_text terms s) fault_is)) (refused_text (fault_at (number + 1) fault)) verdict.Refused refused_answer
          (says_nothing s lines (Ok verdict.Refused) (omega arith)) t2 failed puts
