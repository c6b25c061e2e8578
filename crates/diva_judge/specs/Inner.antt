-- What holds while a log is judged.
-- Only private contracts of this crate cite this: a reader of its promises can pass over it.
use Rattle.std.specs.Prelude.{◌≡◌, ◌≤◌, ◌+◌, ◌*◌, ◌++◌, ℕ, List, length, Option, Some, None, ⊤}
use Rattle.diva_isa.specs.State.{State}
use Rattle.diva_core.specs.Timed.{Timed, depth}
use Rattle.diva_outside.specs.Lent.{given, left}
use Rattle.diva_outside.specs.Lines.{lines_of}
use Rattle.diva_outside.specs.Sink.{LentSink, Takes}
use Rattle.diva_outside.specs.Text.{Text}
use Rattle.diva_source.specs.Source.{IsUncounted, LentSource}
use Rattle.diva_claims.specs.Judged.{Rests}
use Rattle.diva_judge.specs.Judgement.{Judged}
use Rattle.diva_judge.specs.Judging.{front_text, judged_of}
use Rattle.diva_judge.specs.Logs.{log_of}
use Rattle.diva_judge.specs.declared.terms.Terms.{Terms}

-- a machine that judges rests, was never flushed for silence, and took W + 6 cycles a line at most, W being the watchdog's limit
pub record IsKept (m : Timed) : Type 0 where
  pub rests : Rests m
  pub silent : m.under.log.silent ≡ 0
  pub soon : m.cycles ≤ m.count * (m.config.limit + depth)

-- how far the judging has come, by the machine alone
abbrev pub judged_by : Timed → Judged
judged_by m = record { lines = m.count; wrong = m.under.log.flushes; state = m.arch }

-- if the text is known, so is what is left of it, and these lines stand before that
abbrev pub AreTaken : (all rest : Option Text) → List Text → Type 0
AreTaken None rest lines = ⊤
AreTaken (Some text) None lines = ⊥
AreTaken (Some text) (Some rest) lines = lines_of text ≡ lines ++ lines_of rest

-- so many lines were read so far, so many of them with words; none has a fault, and all is judged and put that is due of them
pub record IsSoFar {D S : Type 0} (terms : Terms) (s : State) (source : LentSource D) (sink : LentSink S) (now : Timed) (number count : ℕ) : Type 0 where
  pub lines : List Text
  pub taken : AreTaken (given source).rest (left source).rest lines
  pub uncounted : IsUncounted source
  pub numbered : length lines ≡ number
  pub fewer : number + (left source).limit ≤ (given source).limit
  pub faultless : (log_of lines).fault ≡ None
  pub counted : length (log_of lines).said ≡ count
  pub few : count ≤ number
  pub kept : IsKept now
  pub judged : judged_by now ≡ judged_of terms s (log_of lines)
  pub put : Takes sink (front_text terms s (log_of lines))
