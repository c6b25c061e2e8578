-- What a command answers that asks no core, of what was put of its text.
use Rattle.std.proofs.Common.{ℕ, List, [], Ok, Err}
use Rattle.diva_outside.specs.Files.{IsUncounted, LentFiles}
use Rattle.diva_outside.specs.Lent.{given}
use Rattle.diva_outside.specs.Sink.{LentSink, PutsTo}
use Rattle.diva_outside.proofs.Sinks.{past_nothing}
use Rattle.diva_outside.specs.declared.sink.SinkFailed.{SinkFailed}
use Rattle.diva_core.specs.History.{Meaning}
use Rattle.diva_args.specs.declared.job.Job.{Job}
use Rattle.diva_process.specs.declared.status.Status.TheVariants.{Halted}
use Rattle.diva_process.specs.declared.stop.Failure.TheVariants.{Cut}
use Rattle.diva_process.specs.Programs.{FileBytes, asked_for}
use Rattle.diva_process.specs.Promises.{KeepsPromises}
use Rattle.diva_process.specs.Stops.{AreSound}
use Rattle.diva_cli.specs.Changes.{LanesAsked, asking, change}
use Rattle.diva_cli.specs.Program.{diva, work_of}
use Rattle.diva_cli.specs.Texts.{AsksLanes, HasText}
use Rattle.diva_cli.specs.Wanted.{file_rules, wanted}
use Rattle.diva_cli.proofs.Working.{done_answers}

module _ {C F S : Type 0} (gives : Meaning C) (job : Job) (files : LentFiles F) (bytes : FileBytes) (core : C) (lanes : LanesAsked)
    (sink : LentSink S) (text : List ℕ) (sound : AreSound file_rules (given files).contents (wanted job) bytes) (none : IsUncounted files) where
  pub wrote_all : (means : HasText gives job bytes (change core core) (Ok Halted) text) → AsksLanes gives job bytes (change core core) (Ok Halted) text means lanes
      → PutsTo {E = SinkFailed} sink text (Ok tt)
      → KeepsPromises (asked_for diva job) (work_of gives (asking core core lanes)) files sink (Ok Halted)
  wrote_all means asks put =
      done_answers gives files core lanes sink job bytes core (Ok Halted) sound none
      (record { text = text; means = record { means = means; lanes = asks }; written = record { appended = put.ok; uncounted = put.uncounted } })

  pub wrote_part : (fault : SinkFailed) (means : HasText gives job bytes (change core core) (Err []) text)
      → AsksLanes gives job bytes (change core core) (Err []) text means lanes → PutsTo sink text (Err fault)
      → KeepsPromises (asked_for diva job) (work_of gives (asking core core lanes)) files sink (Err Cut)
  wrote_part fault means asks put =
      done_answers gives files core lanes sink job bytes core (Err Cut) sound none
      (record { rose = put.failed; put = []; text = text; means = record { means = means; lanes = asks }; written = past_nothing sink text put.part })
