-- No job of `diva` judges a text.
use Rattle.std.proofs.Common.{◌⊎◌, inl, inr}
use Rattle.diva_outside.specs.Files.{LentFiles}
use Rattle.diva_outside.specs.Sink.{LentSink}
use Rattle.diva_core.specs.History.{Meaning}
use Rattle.diva_args.specs.declared.job.Job.{Job}
use Rattle.diva_process.specs.declared.status.Status.{Status}
use Rattle.diva_process.specs.Answers.{IsDone, IsJudged}
use Rattle.diva_process.specs.Process.{IsProcess}
use Rattle.diva_process.specs.Programs.{Asked}
use Rattle.diva_process.specs.Statuses.{HasEnded}
use Rattle.diva_cli.specs.Program.{TellsOfFiles, own_work}
use Rattle.diva_cli.proofs.Ending.{job_done}

-- the statuses of a job that judges a text are others than those of a job that does not
pub done_judged : (ends : Status) → IsDone ends → IsJudged ends → ⊥
done_judged ends (inl d) (inl e) = cc
done_judged ends (inl d) (inr (inl e)) = cc
done_judged ends (inl d) (inr (inr e)) = cc
done_judged ends (inr (inl d)) (inl e) = cc
done_judged ends (inr (inl d)) (inr (inl e)) = cc
done_judged ends (inr (inl d)) (inr (inr e)) = cc
done_judged ends (inr (inr d)) (inl e) = cc
done_judged ends (inr (inr d)) (inr (inl e)) = cc
done_judged ends (inr (inr d)) (inr (inr e)) = cc

module _ {C F S : Type 0} (gives : Meaning C) (asked : Asked Job) (before after : C) (files : LentFiles F) (sink : LentSink S) (ends : Status)
    (p : IsProcess asked (own_work gives before after) files sink ends) where
  -- so none ended with one of them
  never : IsJudged ends → HasEnded asked (own_work gives before after) files sink ends → ⊥
  never judged h = done_judged ends (job_done h.job ends h.can) judged

  line : {L : Type 0} → IsJudged ends → L ⊎ HasEnded asked (own_work gives before after) files sink ends → L
  line judged (inl l) = l
  line judged (inr h) = absurd (never judged h)

  pub tells_of_files : TellsOfFiles asked (own_work gives before after) files sink ends
  tells_of_files = record {
    refused = λ e. line (inr (inl e)) (p.refused e);
    unread = λ e. line (inr (inr e)) (p.unread e);
    right = λ e. never (inl e) (p.wrong e);
  }
