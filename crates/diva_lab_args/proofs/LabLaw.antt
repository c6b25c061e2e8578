-- On a plain line the workbench's job is read off the words.
use Rattle.std.proofs.Common.{◌≡◌, ◌∙◌, false, List, [], refl, ap, subst, sym, Option, codes, inl, inr}
use Rattle.std.specs.Prelude.{option_map}
use Rattle.std.specs.List.{Contains}
use Rattle.std.specs.Str.{bytes_eq}
use Rattle.std.proofs.lemmas.List.Elements.{All-contains, All-from_recursion, Contains-append_cases}
use Rattle.clap.specs.Walk.{Text, walked}
use Rattle.diva_args.specs.Command.{IsExact, Leaf, app_with, asm, campaign, debug, dis, duo, leaves, migrate, run, soak, tape}
use Rattle.diva_args.specs.Line.{job_from}
use Rattle.diva_args.specs.Plain.{IsPlainLine, PlainLine, given_in}
use Rattle.diva_args.specs.declared.job.Job.{Job}
use Rattle.diva_args.proofs.PlainLaw.{each_regular, each_same}
use Rattle.diva_args.proofs.PlainTaken.{IsEntered, IsRegular, plain_taken}
use Rattle.diva_args.proofs.PlainValues.{SameValues, one_source, same_at, same_values, wide_same}
use Rattle.diva_lab_args.specs.Commands.{draw, inject, judge, lab_leaves, log, own_leaves}
use Rattle.diva_lab_args.specs.Lab.{are_of_rate, judge_from, judge_with, lab_job_from, lab_job_on, lab_of}
use Rattle.diva_lab_args.specs.Rows.{optional_by, stop_row}
use Rattle.diva_lab_args.specs.declared.lab.LabJob.TheVariants.{Diva, Judge}

-- `clap` says exactly what it makes of the table
pub lab_is_exact : IsExact lab_leaves
unfolding app_with
lab_is_exact = refl

-- ---- what each command meets

each_entered : (l : Leaf) → Contains lab_leaves l → IsEntered lab_leaves l
unfolding app_with walked
each_entered l listed =
    let run_is : IsEntered lab_leaves run = record { words = λ words. refl; enters = record { walk_is = refl; turn = refl; sub = refl; label = refl; bare = refl; negates = refl } } in
    let tape_is : IsEntered lab_leaves tape = record { words = λ words. refl; enters = record { walk_is = refl; turn = refl; sub = refl; label = refl; bare = refl; negates = refl } } in
    let duo_is : IsEntered lab_leaves duo = record { words = λ words. refl; enters = record { walk_is = refl; turn = refl; sub = refl; label = refl; bare = refl; negates = refl } } in
    let debug_is : IsEntered lab_leaves debug = record { words = λ words. refl; enters = record { walk_is = refl; turn = refl; sub = refl; label = refl; bare = refl; negates = refl } } in
    let asm_is : IsEntered lab_leaves asm = record { words = λ words. refl; enters = record { walk_is = refl; turn = refl; sub = refl; label = refl; bare = refl; negates = refl } } in
    let dis_is : IsEntered lab_leaves dis = record { words = λ words. refl; enters = record { walk_is = refl; turn = refl; sub = refl; label = refl; bare = refl; negates = refl } } in
    let migrate_is : IsEntered lab_leaves migrate = record { words = λ words. refl; enters = record { walk_is = refl; turn = refl; sub = refl; label = refl; bare = refl; negates = refl } } in
    let soak_is : IsEntered lab_leaves soak = record { words = λ words. refl; enters = record { walk_is = refl; turn = refl; sub = refl; label = refl; bare = refl; negates = refl } } in
    let campaign_is : IsEntered lab_leaves campaign = record { words = λ words. refl; enters = record { walk_is = refl; turn = refl; sub = refl; label = refl; bare = refl; negates = refl } } in
    let log_is : IsEntered lab_leaves log = record { words = λ words. refl; enters = record { walk_is = refl; turn = refl; sub = refl; label = refl; bare = refl; negates = refl } } in
    let draw_is : IsEntered lab_leaves draw = record { words = λ words. refl; enters = record { walk_is = refl; turn = refl; sub = refl; label = refl; bare = refl; negates = refl } } in
    let judge_is : IsEntered lab_leaves judge = record { words = λ words. refl; enters = record { walk_is = refl; turn = refl; sub = refl; label = refl; bare = refl; negates = refl } } in
    let inject_is : IsEntered lab_leaves inject = record { words = λ words. refl; enters = record { walk_is = refl; turn = refl; sub = refl; label = refl; bare = refl; negates = refl } } in
    All-contains (IsEntered lab_leaves) lab_leaves l (All-from_recursion (IsEntered lab_leaves) lab_leaves (run_is, (tape_is, (duo_is, (debug_is, (asm_is, (dis_is, (migrate_is, (soak_is, (campaign_is, (log_is, (draw_is, (judge_is, (inject_is, tt)))))))))))))) listed

own_regular : (l : Leaf) → Contains own_leaves l → IsRegular l
own_regular l listed =
    let log_is : IsRegular log = record { places = (refl, refl, refl, tt); names = refl } in
    let draw_is : IsRegular draw = record { places = (refl, refl, refl, tt); names = refl } in
    let judge_is : IsRegular judge = record { places = (refl, refl, refl, (refl, refl, refl, tt)); names = refl } in
    let inject_is : IsRegular inject = record { places = (refl, refl, refl, (refl, refl, refl, (refl, refl, refl, tt))); names = refl } in
    All-contains IsRegular own_leaves l (All-from_recursion IsRegular own_leaves (log_is, (draw_is, (judge_is, (inject_is, tt))))) listed

lab_regular : (l : Leaf) → Contains lab_leaves l → IsRegular l
lab_regular l listed = elim (Contains-append_cases leaves own_leaves l listed) [
  | inl of_diva ↦ each_regular l of_diva
  | inr own ↦ own_regular l own
]

-- ---- two sources of the same values give the same job

abbrev GivesSame : Leaf → Type 0
GivesSame l = (f g : Text → Option Text) → SameValues l.flags f g → lab_job_from l.name f ≡ lab_job_from l.name g

-- the job of a command of `diva` is its own
abbrev IsOfDiva : Leaf → Type 0
IsOfDiva l = (value : Text → Option Text) → lab_job_from l.name value ≡ option_map Diva (job_from l.name value)

each_of_diva : (l : Leaf) → Contains leaves l → IsOfDiva l
each_of_diva l listed =
    All-contains IsOfDiva leaves l (All-from_recursion IsOfDiva leaves (λ value. refl, (λ value. refl, (λ value. refl, (λ value. refl, (λ value. refl, (λ value. refl, (λ value. refl, (λ value. refl, (λ value. refl, tt)))))))))) listed

same_of_diva : (l : Leaf) → Contains leaves l → GivesSame l
same_of_diva l listed f g s =
    each_of_diva l listed f ∙ ap (λ (job : Option Job). option_map Diva job) (each_same l listed f g s) ∙ sym (each_of_diva l listed g)

judge_same : (f g : Text → Option Text) → SameValues judge.flags f g → judge_from f ≡ judge_from g
unfolding judge_from
judge_same f g s =
    let at = same_at (codes "answer") f g s in
    let wide = wide_same (codes "answer") f g s refl in
    λ i. judge_with (wide i) (at (codes "LOG") refl i) (optional_by stop_row (at (codes "stop") refl i)) (s.flag (codes "answer") i)

-- a command without flags
same_without_flags : (l : Leaf) → l.flags ≡ [] → GivesSame l
same_without_flags l none f g s = ap (lab_job_from l.name) (one_source f g (subst (λ (flags : List Text). SameValues flags f g) none s))

own_same : (l : Leaf) → Contains own_leaves l → GivesSame l
own_same l listed =
    let log_is : GivesSame log = same_without_flags log refl in
    let draw_is : GivesSame draw = same_without_flags draw refl in
    let judge_is : GivesSame judge = λ f g s. ap (option_map Judge) (judge_same f g s) in
    let inject_is : GivesSame inject = same_without_flags inject refl in
    All-contains GivesSame own_leaves l (All-from_recursion GivesSame own_leaves (log_is, (draw_is, (judge_is, (inject_is, tt))))) listed

lab_same : (l : Leaf) → Contains lab_leaves l → GivesSame l
lab_same l listed = elim (Contains-append_cases leaves own_leaves l listed) [
  | inl of_diva ↦ same_of_diva l of_diva
  | inr own ↦ own_same l own
]

-- ---- the whole line

-- no command of the table is `rate`
abbrev IsOther : Leaf → Type 0
IsOther l = bytes_eq l.name (codes "rate") ≡ false

each_other : (l : Leaf) → Contains lab_leaves l → IsOther l
each_other l listed =
    All-contains IsOther lab_leaves l (All-from_recursion IsOther lab_leaves (refl, (refl, (refl, (refl, (refl, (refl, (refl, (refl, (refl, (refl, (refl, (refl, (refl, tt)))))))))))))) listed

not_of_rate : (words : List Text) (line : PlainLine) → IsPlainLine lab_leaves words line → are_of_rate words ≡ false
not_of_rate words line plain = ap are_of_rate plain.spelled ∙ each_other line.command plain.listed

pub plain_lab_line : (words : List Text) (line : PlainLine) → IsPlainLine lab_leaves words line → lab_of words ≡ lab_job_on line
unfolding lab_of
plain_lab_line words line plain =
    let l = line.command in
    rw (not_of_rate words line plain, plain_taken lab_leaves words line plain (lab_regular l plain.listed) (each_entered l plain.listed))
    (lab_same l plain.listed _ _ (same_values l.flags (given_in line)))
