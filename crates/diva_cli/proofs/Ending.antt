-- With which statuses a job can end whose text was written whole.
use Rattle.std.proofs.Common.{ℕ, List, Ok, inl, inr, sym, refl, subst}
use Rattle.std.proofs.lemmas.Bool.{cases_Bool}
use Rattle.diva_isa.specs.End.{end_of}
use Rattle.diva_isa.specs.declared.end.End.{End}
use Rattle.diva_isa.specs.declared.end.End.TheVariants.{GoesOn, Halt, Trap}
use Rattle.diva_core.specs.History.{Meaning}
use Rattle.diva_core.specs.Timed.{Timed}
use Rattle.diva_duo.specs.Duo.{Duo, is_over}
use Rattle.diva_args.specs.declared.job.Job.{Job}
use Rattle.diva_args.specs.declared.job.Job.TheVariants.{Run, Tape, Duo as Harts, Debug, Asm, Dis, Migrate, Soak, Campaign}
use Rattle.diva_process.specs.declared.status.Status.{Status}
use Rattle.diva_process.specs.Answers.{EndsSo, IsDone}
use Rattle.diva_process.specs.Programs.{FileBytes}
use Rattle.diva_cli.specs.CampaignTexts.{campaign_start, first_run}
use Rattle.diva_cli.specs.Changes.{Asking, Change, core_of}
use Rattle.diva_cli.specs.DuoTexts.{duo_status, status_of_both}
use Rattle.diva_cli.specs.Program.{HasAnswered, work_of}
use Rattle.diva_cli.specs.Runs.{EndsWith, end_status}
use Rattle.diva_cli.specs.Texts.{CanEnd, HasText}

-- ---- the statuses of a job whose text was written whole: a line for each command

done_by : (end : End) → IsDone (end_status end)
done_by (Halt code) = inl refl
done_by (Trap n) = inr (inl refl)
done_by GoesOn = inr (inr refl)

pub ends_done : (last : Timed) (cycles : ℕ) (status : Status) → EndsWith last cycles status → IsDone status
ends_done last cycles status h = subst IsDone (sym h.by_end) (done_by (end_of last.arch.end))

both_done : (first second : End) → IsDone (status_of_both first second)
both_done (Halt a) (Halt b) = inl refl
both_done (Halt a) (Trap n) = inr (inl refl)
both_done (Halt a) GoesOn = inr (inl refl)
both_done (Trap n) second = inr (inl refl)
both_done GoesOn second = inr (inl refl)

duo_done : (last : Duo) → IsDone (duo_status last)
duo_done last =
    elim (cases_Bool (is_over last)) [
      | inl over ↦ rw over (both_done (end_of last.first.state.end) (end_of last.second.state.end))
      | inr off ↦ rw off (inr (inr refl))
    ]

pub can_end : {C : Type 0} (gives : Meaning C) (job : Job) (bytes : FileBytes) (core : Change C) (status : Status) (text : List ℕ)
    → HasText gives job bytes core (Ok status) text → CanEnd job status
can_end gives (Run options) bytes core status text h =
    elim h.written [
      | inl s ↦ ends_done h.last options.cycles status s.says
      | inr b ↦ absurd (let e = b.cut.holds in cc)
    ]
can_end gives (Tape options) bytes core status text h = ends_done h.last options.cycles status h.whole.ended
can_end gives (Harts options) bytes core status text h = subst IsDone (sym h.status) (duo_done h.last)
can_end gives (Debug options) bytes core status text h = h.whole.0
can_end gives (Asm name) bytes core status text h = h.alone.whole
can_end gives (Dis name) bytes core status text h = h.alone.whole
can_end gives (Migrate options) bytes core status text h = h.alone.whole
can_end gives (Soak options) bytes core status text h = h.whole
can_end gives (Campaign options) bytes core status text h =
    ends_done (first_run options.cycles (campaign_start bytes)) options.cycles status h.status

pub job_done : (job : Job) (status : Status) → CanEnd job status → IsDone status
job_done (Run options) status h = h
job_done (Tape options) status h = h
job_done (Harts options) status h = h
job_done (Debug options) status h = inl h
job_done (Asm name) status h = inl h
job_done (Dis name) status h = inl h
job_done (Migrate options) status h = inl h
job_done (Soak options) status h = inl h
job_done (Campaign options) status h = h

pub ends_so : {C : Type 0} (gives : Meaning C) (asks : Asking C) (job : Job) (bytes : FileBytes) (status : Status) (text : List ℕ)
    → HasAnswered gives asks.lanes (core_of asks) job bytes (Ok status) text → EndsSo (work_of gives asks) job status
ends_so gives asks job bytes status text h =
    let can = can_end gives job bytes (core_of asks) status text h.means in record { done = inl (job_done job status can); can = can }
