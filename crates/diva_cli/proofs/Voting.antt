-- What is promised of a run does not ask whether lanes vote.
use Rattle.std.proofs.Common.{◌⊎◌, ℕ, List, Option, Result, inl, inr}
use Rattle.diva_core.specs.History.{Meaning}
use Rattle.diva_core.specs.Timed.{Timed}
use Rattle.diva_isa.specs.State.{State}
use Rattle.diva_isa.specs.declared.record.Record.{Record}
use Rattle.diva_args.specs.declared.job.RunOptions.{RunOptions}
use Rattle.diva_args.specs.declared.job.LanePlace.{LanePlace}
use Rattle.diva_cli.specs.Changes.{Change}
use Rattle.diva_cli.specs.Runs.{HasRun, IsBrokenOff, IsShown}
use Rattle.diva_cli.specs.Sessions.{start_in}
use Rattle.diva_process.specs.declared.status.Status.{Status}
use Rattle.diva_process.specs.Programs.{FileBytes}

written_with_liar : (options : RunOptions) (liar : Option LanePlace) (start : State) (lists : List (List Record)) (last : Timed) (ended : Result Status (List ℕ)) (text : List ℕ)
    → IsShown options start last ended text ⊎ IsBrokenOff options start lists last ended text
    → IsShown (record options { liar = liar }) start last ended text ⊎ IsBrokenOff (record options { liar = liar }) start lists last ended text
written_with_liar options liar start lists last ended text (inl s) = inl (record { whole = s.whole; says = s.says; lines = s.lines; cut = s.cut })
written_with_liar options liar start lists last ended text (inr b) = inr (record { traced = b.traced; lines = b.lines; cut = b.cut })

pub run_with_liar : {C : Type 0} (gives : Meaning C) (options : RunOptions) (liar : Option LanePlace) (bytes : FileBytes) (core : Change C) (ended : Result Status (List ℕ)) (text : List ℕ)
    → HasRun gives options bytes core ended text → HasRun gives (record options { liar = liar }) bytes core ended text
run_with_liar gives options liar bytes core ended text h =
    record {
      last = h.last;
      of_files = h.of_files;
      written = written_with_liar options liar (start_in options.setup bytes) h.of_files.holds.lists h.last ended text h.written;
    }
