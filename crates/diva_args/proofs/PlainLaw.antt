-- On a plain line the job is read off the words.
use Rattle.std.proofs.Common.{◌≡◌, List, [], ◌∷◌, map, refl, ap, subst, Option, codes}
use Rattle.std.specs.Prelude.{option_map}
use Rattle.std.specs.List.{Contains}
use Rattle.std.proofs.lemmas.List.Elements.{All-contains, All-from_recursion}
use Rattle.clap.specs.Walk.{Text, walked}
use Rattle.diva_args.specs.Command.{Leaf, app_with, asm, campaign, debug, dis, duo, leaves, migrate, run, soak, tape}
use Rattle.diva_args.specs.Line.{command_of, job_from, run_from, run_with}
use Rattle.diva_args.specs.Plain.{IsPlainLine, PlainLine, given_in, job_on}
use Rattle.diva_args.specs.Rows.{cycles_row}
use Rattle.diva_args.specs.Values.{dump_of, liar_of}
use Rattle.diva_args.specs.declared.job.Job.TheVariants.{Run}
use Rattle.diva_args.proofs.PlainEnd.{Enters, built_shape}
use Rattle.diva_args.proofs.PlainTaken.{IsEntered, IsRegular, plain_taken}
use Rattle.diva_args.proofs.PlainValues.{SameValues, one_source, same_at, same_number, same_values, wide_same}

-- ---- what each command meets

each_entered : (l : Leaf) → Contains leaves l → IsEntered leaves l
unfolding app_with walked
each_entered l listed =
    All-contains (IsEntered leaves) leaves l (All-from_recursion (IsEntered leaves) leaves (
      record { words = λ words. refl; enters = record { walk_is = refl; turn = refl; sub = refl; label = refl; bare = refl; negates = refl } },
      (
        record { words = λ words. refl; enters = record { walk_is = refl; turn = refl; sub = refl; label = refl; bare = refl; negates = refl } },
        (
          record { words = λ words. refl; enters = record { walk_is = refl; turn = refl; sub = refl; label = refl; bare = refl; negates = refl } },
          (
            record { words = λ words. refl; enters = record { walk_is = refl; turn = refl; sub = refl; label = refl; bare = refl; negates = refl } },
            (
              record { words = λ words. refl; enters = record { walk_is = refl; turn = refl; sub = refl; label = refl; bare = refl; negates = refl } },
              (
                record { words = λ words. refl; enters = record { walk_is = refl; turn = refl; sub = refl; label = refl; bare = refl; negates = refl } },
                (
                  record { words = λ words. refl; enters = record { walk_is = refl; turn = refl; sub = refl; label = refl; bare = refl; negates = refl } },
                  (
                    record { words = λ words. refl; enters = record { walk_is = refl; turn = refl; sub = refl; label = refl; bare = refl; negates = refl } },
                    (
                      record { words = λ words. refl; enters = record { walk_is = refl; turn = refl; sub = refl; label = refl; bare = refl; negates = refl } },
                      tt,
                    ),
                  ),
                ),
              ),
            ),
          ),
        ),
      ),
    )) listed

pub each_regular : (l : Leaf) → Contains leaves l → IsRegular l
each_regular l listed =
    All-contains IsRegular leaves l (All-from_recursion IsRegular leaves (
      record { places = (refl, refl, refl, tt); names = refl },
      (
        record { places = (refl, refl, refl, tt); names = refl },
        (
          record { places = (refl, refl, refl, tt); names = refl },
          (
            record { places = (refl, refl, refl, (refl, refl, refl, tt)); names = refl },
            (
              record { places = (refl, refl, refl, tt); names = refl },
              (
                record { places = (refl, refl, refl, tt); names = refl },
                (
                  record { places = (refl, refl, refl, tt); names = refl },
                  (
                    record { places = (refl, refl, refl, (refl, refl, refl, tt)); names = refl },
                    (
                      record { places = (refl, refl, refl, (refl, refl, refl, tt)); names = refl },
                      tt,
                    ),
                  ),
                ),
              ),
            ),
          ),
        ),
      ),
    )) listed

-- two sources of the same values give the same job
abbrev GivesSame : Leaf → Type 0
GivesSame l = (f g : Text → Option Text) → SameValues l.flags f g → job_from l.name f ≡ job_from l.name g

run_same : (f g : Text → Option Text) → SameValues run.flags f g → run_from f ≡ run_from g
unfolding run_from
run_same f g s =
    let at = same_at (codes "trace") f g s in
    let wide = wide_same (codes "trace") f g s refl in
    λ i. run_with (wide i) (same_number (codes "trace") f g s cycles_row refl i) (s.flag (codes "trace") i) (dump_of (at (codes "dump") refl i)) (liar_of (at (codes "liar") refl i))

run_job_same : GivesSame run
unfolding job_from
run_job_same f g s = ap (option_map Run) (run_same f g s)

-- a command without flags
same_without_flags : (l : Leaf) → l.flags ≡ [] → GivesSame l
same_without_flags l none f g s = ap (job_from l.name) (one_source f g (subst (λ (flags : List Text). SameValues flags f g) none s))

pub each_same : (l : Leaf) → Contains leaves l → (f g : Text → Option Text) → SameValues l.flags f g → job_from l.name f ≡ job_from l.name g
each_same l listed =
    All-contains GivesSame leaves l (All-from_recursion GivesSame leaves (
      run_job_same,
      (
        same_without_flags tape refl,
        (
          same_without_flags duo refl,
          (
            same_without_flags debug refl,
            (
              same_without_flags asm refl,
              (
                same_without_flags dis refl,
                (
                  same_without_flags migrate refl,
                  (
                    same_without_flags soak refl,
                    (
                      same_without_flags campaign refl,
                      tt,
                    ),
                  ),
                ),
              ),
            ),
          ),
        ),
      ),
    )) listed

-- ---- the whole line

pub plain_line : (words : List Text) (line : PlainLine) → IsPlainLine leaves words line → command_of words ≡ job_on line
unfolding command_of
plain_line words line plain =
    let l = line.command in
    rw (plain_taken leaves words line plain (each_regular l plain.listed) (each_entered l plain.listed))
    (each_same l plain.listed _ _ (same_values l.flags (given_in line)))
