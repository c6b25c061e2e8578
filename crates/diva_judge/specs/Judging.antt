-- What is promised of a log that is judged: the lines that were read of it, the text that was put, and the verdict.
-- Cited by `judge`.
use Rattle.std.specs.Prelude.{◌≡◌, ◌⊎◌, ◌<◌, ◌++◌, ℕ, List, [], ◌∷◌, length, slice_get, Option, Some, None, Result, Ok, Err, IfSome, true, false}
use Rattle.diva_isa.specs.State.{State, goes_on}
use Rattle.diva_isa.specs.Step.{record_of, steps}
use Rattle.diva_core.specs.Headline.{EndsAfter}
use Rattle.diva_core.specs.Timed.{Timed}
use Rattle.diva_outside.specs.Lent.{given}
use Rattle.diva_outside.specs.Lines.{LineFault, lines_of}
use Rattle.diva_outside.specs.Sink.{HasFailed as HasSinkFailed, LentSink, Takes, TakesPast}
use Rattle.diva_outside.specs.Text.{Text}
use Rattle.diva_source.specs.Source.{HasFailed as HasSourceFailed, IsUncounted, LentSource}
use Rattle.diva_claims.specs.Judged.{Rests}
use Rattle.diva_claims.specs.Said.{IsLineOf}
use Rattle.diva_judge.specs.Judgement.{Judged, none_judged, verdict_of, with_lines}
use Rattle.diva_judge.specs.Logs.{Log, log_of}
use Rattle.diva_judge.specs.Texts.{last_text, lines_text, refused_text, unreadable_text}
use Rattle.diva_judge.specs.declared.terms.Terms.{Terms}
use Rattle.diva_judge.specs.declared.verdict.Verdict.{Verdict}
use Rattle.diva_judge.specs.declared.verdict.Verdict.TheVariants as verdict

-- ---- what was read

-- how the reading of a log stopped: at its end, at a line that has a fault, or since a read failed
-- (the lines that were read are all the log's, if it is known, or the first of them)
abbrev pub AreAllLines : Option Text → List Text → Type 0
AreAllLines rest lines = IfSome rest (λ text. lines_of text ≡ lines)

pub record AreFirstLines (rest : Option Text) (lines : List Text) : Type 0 where
  pub later : List Text
  pub whole : IfSome rest (λ text. lines_of text ≡ lines ++ later)

-- ---- the verdict on a log that was read to its end, or to a fault, or as far as it could be read, with all that is written of it

-- what the lines came to
abbrev pub judged_of : Terms → State → Log → Judged
judged_of terms s log = with_lines terms.stop log.said (none_judged s)

abbrev pub front_text : Terms → State → Log → Text
front_text terms s log = lines_text terms log.said (none_judged s)

-- the log was read to its end, in these lines, none of which has a fault
pub record IsJudgedWhole {D : Type 0} (terms : Terms) (s : State) (source : LentSource D) (lines : List Text) (ends : Verdict) (text : Text) : Type 0 where
  pub read : AreAllLines (given source).rest lines
  pub uncounted : IsUncounted source
  pub faultless : (log_of lines).fault ≡ None
  pub is : ends ≡ verdict_of (length (log_of lines).said) (judged_of terms s (log_of lines))
  pub written : text ≡ front_text terms s (log_of lines) ++ last_text terms (length (log_of lines).said) (judged_of terms s (log_of lines))

-- a line of the log has a fault, the last one that was read
pub record IsRefusedAt {D : Type 0} (terms : Terms) (s : State) (source : LentSource D) (lines : List Text) (ends : Verdict) (text : Text) : Type 0 where
  pub read : AreFirstLines (given source).rest lines
  pub uncounted : IsUncounted source
  pub fault : LineFault
  pub first : (log_of lines).fault ≡ Some fault
  pub last : fault.line ≡ length lines
  pub is : ends ≡ verdict.Refused
  pub written : text ≡ front_text terms s (log_of lines) ++ refused_text fault

-- the log could not be read any further, for which the source counted a fault
pub record IsUnreadAfter {D : Type 0} (terms : Terms) (s : State) (source : LentSource D) (lines : List Text) (ends : Verdict) (text : Text) : Type 0 where
  pub read : AreFirstLines (given source).rest lines
  pub failed : HasSourceFailed source
  pub faultless : (log_of lines).fault ≡ None
  pub is : ends ≡ verdict.Unread
  pub written : text ≡ front_text terms s (log_of lines) ++ unreadable_text

-- ---- the sentences that a reader wants of a verdict

-- each instruction of the program has its line, and all that the lines say is what the table gives; there are no other lines
pub record IsWholeRight (s : State) (lines : List Text) : Type 0 where
  pub ends : EndsAfter (length (log_of lines).said) s
  pub right : (i : ℕ) → i < length (log_of lines).said → IsLineOf (slice_get (log_of lines).said i) (record_of (steps i s))

-- some line, of an instruction of the program, says something that is not due; or lines are left over after its end
pub record HasWrongLine (s : State) (lines : List Text) : Type 0 where
  pub place : ℕ
  pub there : place < length (log_of lines).said
  pub before : (k : ℕ) → k < place → goes_on (steps k s) ≡ true
  pub wrong : (goes_on (steps place s) ≡ true × (IsLineOf (slice_get (log_of lines).said place) (record_of (steps place s)) → ⊥))
      ⊎ (goes_on (steps place s) ≡ false)

-- ---- the whole

-- one of these is the answer
pub data IsAnswer {D : Type 0} (terms : Terms) (s : State) (source : LentSource D) (lines : List Text) (ends : Verdict) (text : Text) : Type 0 where
  whole : IsJudgedWhole terms s source lines ends text → IsAnswer terms s source lines ends text
  refused : IsRefusedAt terms s source lines ends text → IsAnswer terms s source lines ends text
  unread : IsUnreadAfter terms s source lines ends text → IsAnswer terms s source lines ends text

-- the sink failed in what is written of the last of the lines that were read, and the text of those before it had been put
pub record IsCutAmid {D : Type 0} (terms : Terms) (s : State) (source : LentSource D) (lines : List Text) (put text : Text) : Type 0 where
  pub earlier : List Text
  pub line : Text
  pub all : lines ≡ earlier ++ line ∷ []
  pub read : AreFirstLines (given source).rest lines
  pub uncounted : IsUncounted source
  pub had : put ≡ front_text terms s (log_of earlier)
  pub written : text ≡ front_text terms s (log_of lines)

-- or in what is written last, and the text of all lines had been put
pub record IsCutLast {D : Type 0} (terms : Terms) (s : State) (source : LentSource D) (lines : List Text) (put text : Text) : Type 0 where
  pub ends : Verdict
  pub answer : IsAnswer terms s source lines ends text
  pub had : put ≡ front_text terms s (log_of lines)

-- the text was written whole, and the verdict goes with it
pub record HasAnswered {D S : Type 0} (terms : Terms) (s : State) (source : LentSource D) (lines : List Text) (sink : LentSink S) (ends : Verdict) : Type 0 where
  pub text : Text
  pub answer : IsAnswer terms s source lines ends text
  pub written : Takes sink text

-- or the sink failed, and a prefix was written
pub record HasBeenCut {D S : Type 0} (terms : Terms) (s : State) (source : LentSource D) (lines : List Text) (sink : LentSink S) : Type 0 where
  pub rose : HasSinkFailed sink
  pub put : Text
  pub text : Text
  pub cut : IsCutAmid terms s source lines put text ⊎ IsCutLast terms s source lines put text
  pub written : TakesPast sink put text

abbrev pub Ends : {D S E : Type 0} → Terms → State → LentSource D → List Text → LentSink S → Result Verdict E → Type 0
Ends terms s source lines sink (Ok ends) = HasAnswered terms s source lines sink ends
Ends terms s source lines sink (Err failed) = HasBeenCut terms s source lines sink

-- the machine is where the lines that were judged lead, and has flushed as often as one of them was wrong, never for silence
pub record IsWhereJudged (terms : Terms) (s : State) (lines : List Text) (last : Timed) : Type 0 where
  pub rests : Rests last
  pub arch : last.arch ≡ (judged_of terms s (log_of lines)).state
  pub count : last.count ≡ (judged_of terms s (log_of lines)).lines
  pub flushes : last.under.log.flushes ≡ (judged_of terms s (log_of lines)).wrong
  pub silent : last.under.log.silent ≡ 0

-- the verdicts say what they should
pub record SaysWhat {E : Type 0} (s : State) (lines : List Text) (result : Result Verdict E) : Type 0 where
  pub halted : result ≡ Ok verdict.Halted → IsWholeRight s lines
  pub trapped : result ≡ Ok verdict.Trapped → IsWholeRight s lines
  pub wrong : result ≡ Ok verdict.Wrong → HasWrongLine s lines

-- a log was judged: these lines were read of it
pub record IsJudging {D S E : Type 0} (terms : Terms) (s : State) (source : LentSource D) (sink : LentSink S) (last : Timed) (result : Result Verdict E) : Type 0 where
  pub lines : List Text
  pub answered : Ends terms s source lines sink result
  pub machine : IsWhereJudged terms s lines last
  pub says : SaysWhat s lines result
