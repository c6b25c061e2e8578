-- What the two runs of `soak` come to, and what is written of them.
use Rattle.std.proofs.Common.{◌≡◌, ◌↔◌, ◌≤◌, ◌+◌, ◌==◌, ℕ, true, false, List, [], ◌∷◌, length, Result, IfOk, Ok, Err, refl, ap, sym, ◌∙◌, subst, arith}
use Rattle.diva_outside.proofs.Sinks.{past_nothing}
use Rattle.diva_outside.specs.declared.sink.SinkFailed.{SinkFailed}
use Rattle.diva_isa.specs.State.{State, goes_on}
use Rattle.diva_isa.specs.End.{halt}
use Rattle.diva_isa.specs.Step.{steps}
use Rattle.diva_isa.specs.declared.record.Record.{Record}
use Rattle.diva_image.specs.Layout.{most_size}
use Rattle.diva_core.specs.Timed.{Timed, default_config, new_timed}
use Rattle.diva_core.specs.Cycle.{run_of}
use Rattle.diva_core.specs.History.{Meaning, Turns, lists_of}
use Rattle.diva_core.specs.Legs.{Handed}
use Rattle.diva_core.specs.Machine.{IsConfig}
use Rattle.diva_core.proofs.Ending.{same_end}
use Rattle.diva_core.proofs.Turning.{IsHistory-run, length-lists_of}
use Rattle.diva_hart.specs.declared.ends.Drive.{Drive}
use Rattle.diva_hart.specs.declared.ends.Drive.TheVariants.{Ended, Budget}
use Rattle.diva_faults.specs.Spoiled.{spoiled}
use Rattle.diva_faults.proofs.Spoiling.{Turns-none}
use Rattle.diva_ahead.specs.Ahead.{Ahead}
use Rattle.diva_tape.specs.Scalar.{IsScalarCall, new_scalar}
use Rattle.diva_tape.proofs.Following.{new_leads}
use Rattle.diva_tape.proofs.Pacing.{scalar_ends, scalar_unflushed}
use Rattle.diva_soak.specs.Halts.{HaltsWithin}
use Rattle.diva_soak.specs.Soak.{soak_size}
use Rattle.diva_soak.proofs.Halting.{soak_halts}
use Rattle.diva_trace.specs.Text.{soak_text}
use Rattle.diva_args.specs.Rows.{length_row}
use Rattle.diva_args.specs.declared.job.SoakOptions.{SoakOptions}
use Rattle.diva_args.specs.declared.job.CoreChoice.{CoreChoice}
use Rattle.diva_args.specs.declared.job.CoreChoice.TheVariants.{Own, Scalar}
use Rattle.diva_args.specs.declared.job.Job.TheVariants.{Soak}
use Rattle.diva_outside.specs.Sink.{PutsTo, LentSink}
use Rattle.diva_cli.specs.Changes.{change, asking}
use Rattle.diva_process.specs.declared.status.Status.TheVariants.{Halted}
use Rattle.diva_process.specs.declared.status.Status.{Status}
use Rattle.diva_process.specs.Programs.{FileBytes}
use Rattle.diva_cli.specs.SoakTexts.{HasSoaked, IsSoakRun, soak_cycles, soak_setup, soak_start}
use Rattle.diva_cli.specs.Driven.{AreHanded, ByLegs}
use Rattle.diva_cli.specs.Parts.{Soaks, no_lanes}
use Rattle.diva_process.specs.Writing.{WritesPart, WritesWhole}
use Rattle.diva_cli.proofs.Handing.{drives_for, one_leg}
use Rattle.diva_cli.proofs.Sessions.{handed_for, run_from_start}
use Rattle.diva_cli.specs.Program.{work_of}

pub sizes_fit : IsConfig default_config
sizes_fit = record {
  width_low = omega arith;
  width_high = omega arith;
  window_low = omega arith;
  window_high = omega arith;
  stores_low = omega arith;
  stores_high = omega arith;
  limit_low = omega arith;
  limit_high = omega arith;
  port_low = omega arith;
  port_high = omega arith;
}

-- the machine with which both runs begin
abbrev soak_new : SoakOptions → Timed
soak_new options = new_timed default_config (soak_start options)

-- memory has room for the longest
soak_fits : (n : ℕ) → n ≤ length_row.most → soak_size n ≤ most_size
soak_fits n few = omega arith

-- the table's run from the image of a seed halts
abbrev table_halts : (options : SoakOptions) → options.instructions ≤ length_row.most → HaltsWithin (options.instructions + 3) (soak_start options)
table_halts options few = soak_halts options.seed options.instructions (soak_fits options.instructions few)

-- ---- a drive from there

pub drove :
    {D : Type 0} (gives : Meaning D) (options : SoakOptions) (m : Timed) (core : D) (last : Timed) (after : D) (budget : ℕ) (r : Drive)
    → m ≡ new_timed default_config (soak_start options)
    → budget ≡ soak_cycles options.instructions
    → Turns gives m core last after
    → last.cycles ≤ m.cycles + budget
    → (r ≡ Ended) ↔ (goes_on last.arch ≡ false)
    → (r ≡ Budget) ↔ ((last.cycles ≡ m.cycles + budget) × (goes_on last.arch ≡ true))
    → Soaks gives options (change core after) last
drove gives options m core last after budget r is all t within ended ran =
    let far = drives_for gives m core last after budget r (λ asked. Unit {0}) t tt within ended ran in
    let none : m.cycles ≡ 0 = ap (λ (n : Timed). n.cycles) is in
    record {
      turns = subst (λ (n : Timed). Turns gives n core last after) is t;
      most = (let w = far.most in omega arith);
      whole = λ on. (let w = far.whole on in omega arith);
    }

module _ {D : Type 0} (gives : Meaning D) (options : SoakOptions) (core : D) (last : Timed) (after : D)
    (few : options.instructions ≤ length_row.most) (s : Soaks gives options (change core after) last) where
  abbrev lists : List (List Record)
  lists = lists_of s.turns.history

  led : last ≡ run_of (soak_new options) lists
  led = IsHistory-run gives (soak_new options) core s.turns.history last after s.turns.good

  each : last.cycles ≡ length lists
  each = let e = s.turns.each in let l = length-lists_of s.turns.history in omega arith

  within : length lists ≤ soak_cycles options.instructions
  within = let e = each in let m = s.most in omega arith

  abbrev halts : HaltsWithin (options.instructions + 3) (soak_start options)
  halts = table_halts options few

  -- it has ended where the table does
  at_end : (last.arch ≡ steps halts.after (soak_start options)) × (last.count ≡ halts.after)
  at_end =
      let h = halts.few in
      subst (λ (m : Timed). (m.arch ≡ steps halts.after (soak_start options)) × (m.count ≡ halts.after)) (sym led)
      (same_end default_config (soak_start options) lists halts.after (soak_cycles options.instructions) sizes_fit refl
      (λ on. sym each ∙ s.whole (ap (λ (m : Timed). goes_on m.arch) led ∙ on)) halts.ends (omega arith))

  halted : last.arch.end ≡ halt 0
  halted = ap (λ (t : State). t.end) at_end.0 ∙ halts.status

-- ---- the two runs

-- it is a run by the core of a choice, where its lists are those of that core
soak_run :
    {C D : Type 0} (gives : Meaning C) (its : Meaning D) (options : SoakOptions) (choice : CoreChoice) (core after : C) (first : D) (last : Timed) (final : D)
    (few : options.instructions ≤ length_row.most) (s : Soaks its options (change first final) last)
    → AreHanded gives choice [] [] (change (soak_new options) last) (change core after) (Handed (lists its options first last final few s) ∷ [])
    → IsSoakRun gives options choice (change core after) last
soak_run gives its options choice core after first last final few s handed =
    run_from_start gives (soak_setup choice) (soak_cycles options.instructions) [] [] (soak_start options) core last after sizes_fit refl
    (lists its options first last final few s) (led its options first last final few s) (each its options first last final few s) (within its options first last final few s)
    handed

-- its turns are those of the core under a script that has no rows
soak_turns :
    {D : Type 0} (its : Meaning D) (options : SoakOptions) (first : D) (last : Timed) (final : D)
    (few : options.instructions ≤ length_row.most) (s : Soaks its options (change first final) last)
    → ByLegs (spoiled [] its) (change (soak_new options) last) (change first final) (Handed (lists its options first last final few s) ∷ [])
soak_turns its options first last final few s =
    let t = Turns-none its (soak_new options) first last final s.turns in
    subst (λ (l : List (List Record)). ByLegs (spoiled [] its) (change (soak_new options) last) (change first final) (Handed l ∷ [])) t.same
    (one_leg (spoiled [] its) (soak_new options) last first final t.turns)

own_run :
    {C : Type 0} (gives : Meaning C) (options : SoakOptions) (core : C) (last : Timed) (after : C)
    → options.instructions ≤ length_row.most → Soaks gives options (change core after) last
    → IsSoakRun gives options Own (change core after) last
own_run gives options core last after few s =
    soak_run gives gives options Own core after core last after few s (soak_turns gives options core last after few s)

scalar_run :
    {C : Type 0} (gives : Meaning C) (options : SoakOptions) (core : C) (last : Timed) (ahead : Ahead)
    → options.instructions ≤ length_row.most → Soaks IsScalarCall options (change new_scalar ahead) last
    → IsSoakRun gives options Scalar (change core core) last
scalar_run gives options core last ahead few s =
    soak_run gives IsScalarCall options Scalar core core new_scalar last ahead few s
    (handed_for gives Scalar [] [] (soak_new options) core (Handed (lists IsScalarCall options new_scalar last ahead few s) ∷ []) last core
    (new_leads default_config (soak_start options) sizes_fit refl) tt
    (record { final = ahead; by = soak_turns IsScalarCall options new_scalar last ahead few s; same = refl }))

-- ---- what is written of them

module _ {C S : Type 0} (gives : Meaning C) (options : SoakOptions) (bytes : FileBytes) (core : C) (ahead : Ahead) (first second : Timed) (after : C)
    (few : options.instructions ≤ length_row.most) (one : Soaks IsScalarCall options (change new_scalar ahead) first) (two : Soaks gives options (change core after) second)
    (sink : LentSink S) where
  abbrev first_end : (first.arch ≡ steps (table_halts options few).after (soak_start options)) × (first.count ≡ (table_halts options few).after)
  first_end = at_end IsScalarCall options new_scalar first ahead few one

  abbrev second_end : (second.arch ≡ steps (table_halts options few).after (soak_start options)) × (second.count ≡ (table_halts options few).after)
  second_end = at_end gives options core second after few two

  first_halts : first.arch.end ≡ halt 0
  first_halts = halted IsScalarCall options new_scalar first ahead few one

  means : (ended : Result Status (List ℕ)) → IfOk ended (λ s. s ≡ Halted) → HasSoaked gives options (change core after) ended (soak_text first second)
  means ended whole = record {
    first = first;
    under_scalar = scalar_run gives options core first ahead few one;
    second = second;
    under_own = own_run gives options core second after few two;
    halts = (first_halts, halted gives options core second after few two);
    few = (let e = first_end.1 in let h = (table_halts options few).few in omega arith);
    same = (second_end.0 ∙ sym first_end.0, second_end.1 ∙ sym first_end.1);
    paced = scalar_ends default_config (soak_start options) first ahead one.turns.history sizes_fit refl refl refl one.turns.good (ap (λ end. end == 0) first_halts);
    unflushed = scalar_unflushed default_config (soak_start options) first ahead one.turns.history sizes_fit refl one.turns.good;
    lines = refl;
    whole = whole;
  }

  pub wrote_soaked : PutsTo {E = SinkFailed} sink (soak_text first second) (Ok tt) → WritesWhole (work_of gives (asking core after no_lanes)) (Soak options) bytes sink Halted
  wrote_soaked put = record { text = soak_text first second; means = record { means = means (Ok Halted) refl; lanes = refl }; written = record { appended = put.ok; uncounted = put.uncounted } }

  pub cut_soaked : (e : SinkFailed) → PutsTo sink (soak_text first second) (Err e) → WritesPart (work_of gives (asking core after no_lanes)) (Soak options) bytes sink
  cut_soaked e put = record { rose = put.failed; put = []; text = soak_text first second; means = record { means = means (Err []) tt; lanes = refl }; written = past_nothing sink (soak_text first second) put.part }
