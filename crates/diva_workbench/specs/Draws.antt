-- What draws a run, turn by turn; and what is written of a log that is open.
-- Only private contracts of this crate cite this: a reader of its promises can pass over it.
use Rattle.std.specs.Prelude.{◌≡◌, List, Result, Ok, Err}
use Rattle.diva_outside.specs.Sink.{HasFailed, LentSink, Takes, TakesPast}
use Rattle.diva_outside.specs.Text.{Text}
use Rattle.diva_source.specs.Source.{LentSource}
use Rattle.diva_isa.specs.State.{State}
use Rattle.diva_judge.specs.declared.terms.Terms.{Terms}
use Rattle.diva_process.specs.declared.status.Status.{Status}
use Rattle.diva_process.specs.declared.stop.Failure.{Failure}
use Rattle.diva_process.specs.declared.stop.Failure.TheVariants.{Cut, Memory}
use Rattle.diva_drawing.specs.Snapshot.{IsSnapshot}
use Rattle.diva_cli.specs.Watched.{Seen}
use Rattle.diva_workbench.specs.DrawTexts.{cycle_text, pen_after}
use Rattle.diva_workbench.specs.Judges.{IsPart, IsWhole}
use Rattle.diva_workbench.specs.declared.drawing.Drawer.{Drawer}

-- what draws a run becomes another one by what it sees of a turn, and this is the text
pub record Draws (before : Drawer) (seen : Seen) (after : Drawer) (text : Text) : Type 0 where
  pub saw : IsSnapshot seen.after after.pen.seen
  pub pen : after.pen ≡ pen_after before.pen after.pen.seen
  pub format : after.format ≡ before.format
  pub drawn : text ≡ cycle_text before.format before.pen after.pen.seen seen.list

-- the text of a judgement was written whole, with the status that goes with it; or a prefix of it
pub record WritesVerdict {D S : Type 0} (terms : Terms) (start : State) (log : LentSource D) (sink : LentSink S) (ends : Status) : Type 0 where
  pub lines : List Text
  pub text : Text
  pub means : IsWhole terms start log lines ends text
  pub written : Takes sink text

pub record WritesFront {D S : Type 0} (terms : Terms) (start : State) (log : LentSource D) (sink : LentSink S) : Type 0 where
  pub rose : HasFailed sink
  pub lines : List Text
  pub put : Text
  pub text : Text
  pub means : IsPart terms start log lines put text
  pub written : TakesPast sink put text

abbrev pub WritesJudgement : {D S : Type 0} → Terms → (start : State) → LentSource D → LentSink S → Result Status Failure → Type 0
WritesJudgement terms start log sink (Ok ends) = WritesVerdict terms start log sink ends
WritesJudgement terms start log sink (Err Cut) = WritesFront terms start log sink
WritesJudgement terms start log sink (Err Memory) = ⊥
