-- What is written of a log that is judged.
use Rattle.std.proofs.Common.{◌≡◌, [], Ok, Err, Result, inl, inr, refl, subst}
use Rattle.diva_outside.specs.Lent.{lent}
use Rattle.diva_outside.specs.Sink.{LentSink}
use Rattle.diva_outside.proofs.Sinks.{past_nothing}
use Rattle.diva_outside.specs.declared.sink.SinkFailed.{SinkFailed}
use Rattle.diva_source.specs.Source.{LentSource, Opens, SourceAccount}
use Rattle.diva_source.specs.declared.source.SourceFailed.{SourceFailed}
use Rattle.diva_isa.specs.State.{State}
use Rattle.diva_core.specs.Timed.{Timed}
use Rattle.diva_lab_args.specs.declared.judge.JudgeOptions.{JudgeOptions}
use Rattle.diva_lab_args.specs.declared.lab.LabJob.TheVariants.{Judge}
use Rattle.diva_judge.specs.Judging.{IsJudging}
use Rattle.diva_judge.specs.Texts.{unreadable_text}
use Rattle.diva_judge.specs.declared.terms.Terms.{Terms}
use Rattle.diva_judge.specs.declared.verdict.Verdict.{Verdict}
use Rattle.diva_process.specs.declared.status.Status.{Status}
use Rattle.diva_process.specs.declared.status.Status.TheVariants.{Unread}
use Rattle.diva_process.specs.declared.stop.Failure.{Failure}
use Rattle.diva_process.specs.declared.stop.Failure.TheVariants.{Cut, Memory}
use Rattle.diva_process.specs.Programs.{FileBytes}
use Rattle.diva_process.specs.Writing.{WritesLine, WritesText}
use Rattle.diva_cli.specs.Sessions.{start_in}
use Rattle.diva_workbench.specs.Draws.{WritesFront, WritesJudgement, WritesVerdict}
use Rattle.diva_workbench.specs.Judges.{status_by, terms_of}
use Rattle.diva_workbench.specs.Lab.{lab_work_of, no_core, none_asked}

module _ {D S : Type 0} (options : JudgeOptions) (bytes : FileBytes) (texts : D → SourceAccount) (d0 d1 : D) (sink : LentSink S) where
  -- the log can't be opened, and a line says so, or a part of it was put
  pub wrote_unread : (result : Result Status Failure) (opened : Result (Unit {0}) SourceFailed) (e : SourceFailed) → opened ≡ Err e
      → Opens (lent texts d0 d1) options.log opened → WritesLine unreadable_text Unread sink result
      → WritesText (lab_work_of no_core none_asked (lent texts d0 d1)) (Judge options) bytes sink result
  wrote_unread (Ok ends) (Ok done) e none opens w = cc
  wrote_unread (Ok ends) (Err f) e is opens w =
      record { text = unreadable_text; means = record { means = inl (record { cause = opens.failed; line = refl; ends = w.0; cut = tt }); unasked = refl; unvoted = tt }; written = w.1 }
  wrote_unread (Err Cut) (Ok done) e none opens w = cc
  wrote_unread (Err Cut) (Err f) e is opens w =
      record {
        rose = w.0;
        put = [];
        text = unreadable_text;
        means = record { means = inl (record { cause = opens.failed; line = refl; ends = tt; cut = refl }); unasked = refl; unvoted = tt };
        written = past_nothing sink unreadable_text w.1;
      }
  wrote_unread (Err Memory) opened e is opens w = absurd w

  -- it was opened, and judged
  pub wrote_judgement : (result : Result Status Failure) (opened : Result (Unit {0}) SourceFailed) → opened ≡ Ok tt → (d2 : D) (start : State)
      → start ≡ start_in options.setup bytes
      → Opens (lent texts d0 d1) options.log opened → WritesJudgement (terms_of options) start (lent texts d1 d2) sink result
      → WritesText (lab_work_of no_core none_asked (lent texts d0 d2)) (Judge options) bytes sink result
  wrote_judgement (Ok ends) (Err f) none d2 start begins opens told = cc
  wrote_judgement (Ok ends) (Ok done) is d2 start begins opens told =
      let h = subst (λ (s : State). WritesVerdict (terms_of options) s (lent texts d1 d2) sink ends) begins told in
      record {
        text = h.text;
        means = record { means = inr (record { began = d1; opened = opens; lines = h.lines; written = h.means }); unasked = refl; unvoted = tt };
        written = h.written;
      }
  wrote_judgement (Err Cut) (Err f) none d2 start begins opens told = cc
  wrote_judgement (Err Cut) (Ok done) is d2 start begins opens told =
      let h = subst (λ (s : State). WritesFront (terms_of options) s (lent texts d1 d2) sink) begins told in
      record {
        rose = h.rose;
        put = h.put;
        text = h.text;
        means = record { means = inr (record { began = d1; opened = opens; lines = h.lines; written = h.means }); unasked = refl; unvoted = tt };
        written = h.written;
      }
  wrote_judgement (Err Memory) opened is d2 start begins opens told = absurd told

-- what `judge` promises is what is written of the log
pub judged_so : {D S : Type 0} (terms : Terms) (start : State) (log : LentSource D) (sink : LentSink S) (last : Timed) (verdict : Verdict)
    → IsJudging {E = SinkFailed} terms start log sink last (Ok verdict) → WritesVerdict terms start log sink (status_by verdict)
judged_so terms start log sink last verdict h = record {
  lines = h.lines;
  text = h.answered.text;
  means = record { verdict = verdict; means = refl; answer = h.answered.answer; says = h.says };
  written = h.answered.written;
}

pub cut_so : {D S : Type 0} (terms : Terms) (start : State) (log : LentSource D) (sink : LentSink S) (last : Timed) (failed : SinkFailed)
    → IsJudging terms start log sink last (Err failed) → WritesFront terms start log sink
cut_so terms start log sink last failed h =
    record { rose = h.answered.rose; lines = h.lines; put = h.answered.put; text = h.answered.text; means = h.answered.cut; written = h.answered.written }
