-- What a command line asks for of the workbench: it takes the words of `diva`, and has commands of its own.
-- Cited by `read_lab_words`.
use Rattle.std.specs.Prelude.{ℕ, Bool, false, nat_le, List, [], ◌∷◌, drop, Option, Some, None, option_and_then, option_map, codes, if◌then◌else◌}
use Rattle.std.specs.Str.{bytes_eq}
use Rattle.clap.specs.Walk.{Row, Text}
use Rattle.diva_args.specs.Line.{job_from, run_with, taken, values_of, wide_from}
use Rattle.diva_args.specs.Plain.{PlainLine, given_in}
use Rattle.diva_args.specs.Options.{Setup}
use Rattle.diva_args.specs.Rows.{cycles_row}
use Rattle.diva_args.specs.Values.{is_set_by, liar_of, named, number_of}
use Rattle.diva_args.specs.declared.job.RunOptions.{RunOptions}
use Rattle.diva_lab_args.specs.Commands.{lab_leaves}
use Rattle.diva_lab_args.specs.Inject.{inject_from}
use Rattle.diva_lab_args.specs.Rate.{names_of}
use Rattle.diva_lab_args.specs.Rows.{from_row, optional_of, stop_row, to_row}
use Rattle.diva_lab_args.specs.declared.draw.Format.{Format}
use Rattle.diva_lab_args.specs.declared.draw.Format.TheVariants.{Log, Drawing}
use Rattle.diva_lab_args.specs.declared.judge.JudgeOptions.{JudgeOptions}
use Rattle.diva_lab_args.specs.declared.lab.LabJob.{LabJob}
use Rattle.diva_lab_args.specs.declared.lab.LabJob.TheVariants.{Diva, Draw, Inject, Judge, Rate}

-- a run that is drawn has neither commit lines nor a part of memory to show
unfoldable pub drawn_run_from : (Text → Option Text) → Option RunOptions
drawn_run_from value = run_with (wide_from value) (number_of cycles_row value) false (Some None) (liar_of (value (codes "liar")))

-- a drawing of the cycles from one to another, which is not before the first
abbrev pub drawing_to : (from to : ℕ) → Option Format
drawing_to from to = if nat_le from to then Some (Drawing from to) else None

unfoldable pub drawing_from : (Text → Option Text) → Option Format
drawing_from value = option_and_then (λ from. option_and_then (drawing_to from) (number_of to_row value)) (number_of from_row value)

abbrev pub drawn_by : Option RunOptions → Option Format → Option LabJob
drawn_by run format = option_and_then (λ r. option_map (λ f. Draw (record { run = r; format = f })) format) run

abbrev pub judge_with : Option Setup → (log : Option Text) → (stop : Option (Option ℕ)) → (answers : Bool) → Option JudgeOptions
judge_with setup log stop answers = option_and_then (λ s. option_and_then (λ l. option_map (λ n.
    record { setup = s; log = l; stop = n; answers = answers }) stop) log) setup

-- a log that is judged
unfoldable pub judge_from : (Text → Option Text) → Option JudgeOptions
judge_from value = judge_with (wide_from value) (value (codes "LOG")) (optional_of stop_row value) (is_set_by (value (codes "answer")))

-- the job of the command of this name
abbrev pub lab_job_from : Text → (Text → Option Text) → Option LabJob
lab_job_from name value =
    if bytes_eq name (codes "log") then drawn_by (drawn_run_from value) (Some Log)
    else if bytes_eq name (codes "draw") then drawn_by (drawn_run_from value) (drawing_from value)
    else if bytes_eq name (codes "judge") then option_map Judge (judge_from value)
    else if bytes_eq name (codes "inject") then option_map Inject (inject_from value)
    else option_map Diva (job_from name value)

abbrev pub lab_job_of : Text × List Row → Option LabJob
lab_job_of found = lab_job_from found.0 (values_of found.1)

-- the words are those of `rate`, which `clap` does not read, since it takes any number of names
abbrev pub are_of_rate : List Text → Bool
are_of_rate [] = false
are_of_rate (word ∷ words) = bytes_eq word (codes "rate")

-- the job that the words ask for, or `None` if they are not a valid command line
unfoldable pub lab_of : List Text → Option LabJob
lab_of words =
    if are_of_rate words then option_map Rate (names_of (drop 1 words))
    else option_and_then lab_job_of (taken lab_leaves words)

-- what a plain line asks for
abbrev pub lab_job_on : PlainLine → Option LabJob
lab_job_on line = lab_job_from line.command.name (named (given_in line))
