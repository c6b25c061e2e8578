-- The text of `log` and of `draw`, the commands of the workbench: what becomes of each claim in each cycle, told from what
-- is seen of the machine before it and behind it.
-- Cited in `Lab.antt`, for `lab_top`.
use Rattle.std.specs.Prelude.{◌≡◌, ◌⊎◌, ◌+◌, List, [], ◌∷◌, ◌++◌, Result, Err, IfOk, IfErr}
use Rattle.diva_outside.specs.Text.{Text}
use Rattle.diva_isa.specs.State.{State}
use Rattle.diva_isa.specs.declared.record.Record.{Record}
use Rattle.diva_core.specs.History.{Meaning}
use Rattle.diva_core.specs.Timed.{Timed, new_timed}
use Rattle.diva_lab_args.specs.declared.draw.DrawOptions.{DrawOptions}
use Rattle.diva_lab_args.specs.declared.draw.Format.{Format}
use Rattle.diva_lab_args.specs.declared.draw.Format.TheVariants.{Log, Drawing}
use Rattle.diva_drawing.specs.Drawing.{drawn_cycle, drawn_end}
use Rattle.diva_drawing.specs.Log.{log_begin, log_cycle}
use Rattle.diva_drawing.specs.Rows.{Pen, begun_rows}
use Rattle.diva_drawing.specs.Snapshot.{AreSnapshots, IsSnapshot, Snapshot}
use Rattle.diva_cli.specs.Changes.{Change}
use Rattle.diva_process.specs.declared.status.Status.{Status}
use Rattle.diva_process.specs.Programs.{FileBytes}
use Rattle.diva_cli.specs.Cuts.{BeforeLast}
use Rattle.diva_cli.specs.Runs.{EndsWith, IsRunOfFiles, IsWhole}
use Rattle.diva_cli.specs.Sessions.{start_in}

-- ---- the parts of the text, in each format; a drawing is of the cycles from one to another

-- before the first cycle
abbrev pub begin_text : Format → Text
begin_text Log = log_begin
begin_text (Drawing from to) = []

-- a cycle, in which a list was handed over, and behind which this was seen
abbrev pub cycle_text : Format → Pen → (after : Snapshot) → (list : List Record) → Text
cycle_text Log pen after list = log_cycle pen.rows pen.seen after list
cycle_text (Drawing from to) pen after list = drawn_cycle (record { from = from; to = to }) pen.seen after

-- behind the last cycle
abbrev pub end_text : Format → (last : Snapshot) → Text
end_text Log last = []
end_text (Drawing from to) last = drawn_end (record { from = from; to = to }) last

-- ---- some cycles

-- the pen behind a cycle
abbrev pub pen_after : Pen → (after : Snapshot) → Pen
pen_after pen after = record { rows = pen.rows + begun_rows pen.seen after; seen = after }

-- the pen behind some cycles
abbrev pub pen_behind : Pen → List Snapshot → Pen
pen_behind pen [] = pen
pen_behind pen (after ∷ seen) = pen_behind (pen_after pen after) seen

-- the text of some cycles, in which these lists were handed over
abbrev pub cycles_drawn : Format → Pen → List (List Record) → List Snapshot → Text
cycles_drawn format pen [] seen = []
cycles_drawn format pen (list ∷ lists) [] = []
cycles_drawn format pen (list ∷ lists) (after ∷ seen) = cycle_text format pen after list ++ cycles_drawn format (pen_after pen after) lists seen

-- no row has begun yet
abbrev pub pen_at : (first : Snapshot) → Pen
pen_at first = record { rows = 0; seen = first }

-- the text up to the end of some cycles, where this was seen before the first of them
abbrev pub front_text : Format → (first : Snapshot) → List (List Record) → List Snapshot → Text
front_text format first lists seen = begin_text format ++ cycles_drawn format (pen_at first) lists seen

-- the whole text
abbrev pub drawn_text : Format → (first : Snapshot) → List (List Record) → List Snapshot → Text
drawn_text format first lists seen = front_text format first lists seen ++ end_text format (pen_behind (pen_at first) seen).seen

-- ---- the command

-- the run was drawn to its end. Where the sink failed, it did so behind the last cycle
pub record IsDrawnWhole (options : DrawOptions) (start : State) (last : Timed) (first : Snapshot) (lists : List (List Record))
    (seen : List Snapshot) (ended : Result Status Text) (text : Text) : Type 0 where
  pub whole : IsWhole options.run.setup options.run.cycles start last
  pub says : IfOk ended (EndsWith last options.run.cycles)
  pub lines : text ≡ drawn_text options.format first lists seen
  pub cut : IfErr ended (λ put. put ≡ front_text options.format first lists seen)

-- where the sink failed before, it did so in the first lines, or in the last of the cycles, and the text of those before it had been put
abbrev pub HasFailedIn : Format → (first : Snapshot) → List (List Record) → List Snapshot → (ended : Result Status Text) → Type 0
HasFailedIn format first lists seen ended =
    ((lists ≡ []) × (ended ≡ Err [])) ⊎ BeforeLast lists (λ earlier. ended ≡ Err (front_text format first earlier seen))

pub record IsDrawnPart (options : DrawOptions) (first : Snapshot) (lists : List (List Record)) (seen : List Snapshot)
    (ended : Result Status Text) (text : Text) : Type 0 where
  pub lines : text ≡ front_text options.format first lists seen
  pub cut : HasFailedIn options.format first lists seen ended

-- the text of `log` or `draw` over files with these bytes, and how the writing of it ended
pub record HasDrawing {C : Type 0} (gives : Meaning C) (options : DrawOptions) (bytes : FileBytes) (core : Change C)
    (ended : Result Status Text) (text : Text) : Type 0 where
  pub last : Timed
  -- all that is promised of a run holds of it
  pub of_files : IsRunOfFiles gives options.run.setup options.run.cycles bytes core last
  -- this is seen of the new machine, and behind each cycle of the run
  pub first : Snapshot
  pub saw : IsSnapshot (new_timed options.run.setup.config (start_in options.run.setup bytes)) first
  pub seen : List Snapshot
  pub are : AreSnapshots (new_timed options.run.setup.config (start_in options.run.setup bytes)) of_files.holds.lists seen
  pub written : IsDrawnWhole options (start_in options.run.setup bytes) last first of_files.holds.lists seen ended text
      ⊎ IsDrawnPart options first of_files.holds.lists seen ended text
