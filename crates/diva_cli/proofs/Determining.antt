-- Two runs of one core from one machine are one.
use Rattle.std.proofs.Common.{◌≡◌, ◌≤◌, ℕ, ◌+◌, ◌-◌, ◌==◌, true, false, List, [], ◌∷◌, ◌++◌, length, Option, Some, None, Result, IsOk, refl, ap, sym, ◌∙◌, arith, subst}
use Rattle.std.proofs.lemmas.Bool.{true≢false}
use Rattle.std.proofs.lemmas.List.{length-map}
use Rattle.diva_outside.specs.Text.{Text}
use Rattle.diva_outside.specs.declared.files.What.TheVariants.{Script}
use Rattle.diva_isa.specs.End.{end_of}
use Rattle.diva_isa.specs.State.{State, goes_on}
use Rattle.diva_isa.specs.declared.record.Record.{Record}
use Rattle.diva_core.specs.Timed.{Timed, default_config, depth, new_timed}
use Rattle.diva_core.specs.Cycle.{cycle_of}
use Rattle.diva_core.specs.Told.{told_of}
use Rattle.diva_core.specs.History.{Meaning, IsHistory}
use Rattle.diva_core.specs.Legs.{Handed}
use Rattle.diva_faults.specs.declared.rows.Row.{Row}
use Rattle.diva_faults.specs.Spoiled.{spoiled}
use Rattle.diva_faults.specs.Lists.{scripted}
use Rattle.diva_trace.specs.Lines.{end_line_of, soak_line}
use Rattle.diva_trace.specs.Text.{output_text, registers_text, soak_text, text_of}
use Rattle.diva_trace.specs.declared.report.SoakCore.{SoakCore}
use Rattle.diva_args.specs.Options.{Setup}
use Rattle.diva_args.specs.declared.job.RunOptions.{RunOptions}
use Rattle.diva_args.specs.declared.job.SoakOptions.{SoakOptions}
use Rattle.diva_args.specs.declared.job.CoreChoice.{CoreChoice}
use Rattle.diva_args.specs.declared.job.CoreChoice.TheVariants.{Own}
use Rattle.diva_process.specs.declared.status.Status.{Status}
use Rattle.diva_process.specs.Programs.{FileBytes}
use Rattle.diva_cli.specs.Determined.{IsDetermined}
use Rattle.diva_cli.specs.Changes.{change}
use Rattle.diva_cli.specs.Driven.{AreHanded, ByLegs}
use Rattle.diva_cli.specs.Runs.{HasRun, IsReadOff, IsRunFrom, asked_trace, shown_dump}
use Rattle.diva_cli.specs.Sessions.{AreRows, start_in}
use Rattle.diva_cli.specs.SoakTexts.{HasSoaked, soak_cycles, soak_setup, soak_start}
use Rattle.diva_cli.proofs.Handing.{one_leg_turns}
use Rattle.diva_cli.proofs.Running.{shown_whole}
use Rattle.diva_cli.proofs.Sessions.{read_off}
use Rattle.diva_trace.specs.declared.report.SoakCore.TheVariants as soak_core

module _ {C : Type 0} (gives : Meaning C) (determined : IsDetermined gives) where
  -- the turns of two histories that were not broken off
  last_same : (n : ℕ) (m last last' : Timed) (core after after' : C) (history history' : List (List Record × C))
      → IsHistory gives m core history last after → IsHistory gives m core history' last' after'
      → length history ≤ n → length history' ≤ n
      → (goes_on last.arch ≡ true → length history ≡ n) → (goes_on last'.arch ≡ true → length history' ≡ n)
      → last ≡ last'
  last_same n m last last' core after after' [] [] i j most most' all all' = i.0 ∙ sym j.0
  last_same n m last last' core after after' [] (t ∷ history') i j most most' all all' =
      let on : goes_on last.arch ≡ true = ap (λ (x : Timed). goes_on x.arch) i.0 ∙ j.0 in
      let none = all on in
      absurd (omega arith)
  last_same n m last last' core after after' (t ∷ history) [] i j most most' all all' =
      let on : goes_on last'.arch ≡ true = ap (λ (x : Timed). goes_on x.arch) j.0 ∙ i.0 in
      let none = all' on in
      absurd (omega arith)
  last_same n m last last' core after after' (t ∷ history) (t' ∷ history') i j most most' all all' =
      let same = determined core (told_of m) m.arch t.0 t'.0 t.1 t'.1 i.1.0 j.1.0 in
      let next : IsHistory gives (cycle_of m t.0) t.1 history' last' after' = subst (λ (x : List Record). IsHistory gives (cycle_of m x) t.1 history' last' after') (sym same.0) (subst (λ (x : C). IsHistory gives (cycle_of m t'.0) x history' last' after') (sym same.1) j.1.1) in
      last_same (n - 1) (cycle_of m t.0) last last' t.1 after after' history history' i.1.1 next (omega arith) (omega arith) (λ on. let e = all on in omega arith) (λ on. let e = all' on in omega arith)

-- the calls of a core under a script are determined, where its own are
spoiled_determined : {C : Type 0} (gives : Meaning C) (rows : List Row) → IsDetermined gives → IsDetermined (spoiled rows gives)
spoiled_determined gives rows determined = λ before told s list other after last i j.
    let same = determined before told s i.inner j.inner after last i.given j.given in
    (i.laid ∙ ap (λ (inner : List Record). scripted rows told.cycle inner) same.0 ∙ sym j.laid, same.1)

rows_same : (name : Option (List ℕ)) (bytes : List ℕ) (rows rows' : List Row) → AreRows name bytes rows → AreRows name bytes rows' → rows ≡ rows'
rows_same None bytes rows rows' i j = i ∙ sym j
rows_same (Some name) bytes rows rows' i j = let e = sym i ∙ j in cc

-- the turns of a run
record Ran {C : Type 0} (gives : Meaning C) (n : ℕ) (m : Timed) (core : C) (last : Timed) (after : C) : Type 0 where
  history : List (List Record × C)
  good : IsHistory gives m core history last after
  most : length history ≤ n
  all : goes_on last.arch ≡ true → length history ≡ n

-- those of a run by the core that is handed in
own_turns : {C : Type 0} (gives : Meaning C) (setup : Setup) (cycles : ℕ) (tape : List (List Record)) (rows : List Row) (start : State) (core : C) (last : Timed) (after : C)
    → setup.core ≡ Own → (run : IsRunFrom gives setup cycles tape rows start (change core after) last) → (goes_on last.arch ≡ true → last.cycles ≡ cycles)
    → Ran (spoiled rows gives) cycles (new_timed setup.config start) core last after
own_turns gives setup cycles tape rows start core last after own run whole =
    let first : Timed = new_timed setup.config start in
    let handed : ByLegs (spoiled rows gives) (change first last) (change core after) (Handed run.lists ∷ []) =
    subst (λ (x : CoreChoice). AreHanded gives x tape rows (change first last) (change core after) (Handed run.lists ∷ [])) own
    (subst (AreHanded gives setup.core tape rows (change first last) (change core after)) run.one run.session.driven.handed) in
    let turns = one_leg_turns (spoiled rows gives) first last core after run.lists handed.legs handed.good handed.in_order in
    let off : IsReadOff cycles first run.lists last = read_off gives setup cycles tape rows start (change core after) last run in
    let long : length run.lists ≡ length turns.history = ap length turns.in_order ∙ length-map turns.history (λ turn. turn.0) in
    let most = off.most in
    let each = off.each in
    record { history = turns.history; good = turns.good; most = omega arith; all = λ on. (let e = whole on in omega arith) }

ran : {C : Type 0} (gives : Meaning C) (options : RunOptions) (bytes : FileBytes) (core after : C) (ended : Result Status Text) (text : Text) (rows : List Row)
    → options.setup.core ≡ Own → (h : HasRun gives options bytes (change core after) ended text) → (options.trace ≡ true → IsOk ended) → h.of_files.script ≡ rows
    → Ran (spoiled rows gives) options.cycles (new_timed options.setup.config (start_in options.setup bytes)) core h.last after
ran gives options bytes core after ended text rows own h asked is =
    subst (λ (r : List Row). Ran (spoiled r gives) options.cycles (new_timed options.setup.config (start_in options.setup bytes)) core h.last after) is
    (own_turns gives options.setup options.cycles h.of_files.tape h.of_files.script (start_in options.setup bytes) core h.last after own h.of_files.holds
    (shown_whole gives options bytes core after ended text h asked).0.all)

pub text_same : {C : Type 0} (gives : Meaning C) → IsDetermined gives → (options : RunOptions) (bytes : FileBytes) (core after last : C) (ended other : Result Status Text) (text same : Text)
    → options.setup.core ≡ Own → HasRun gives options bytes (change core after) ended text → HasRun gives options bytes (change core last) other same
    → (options.trace ≡ true → IsOk ended × IsOk other) → text ≡ same
text_same gives determined options bytes core after last ended other text same own h k asked =
    let rows = k.of_files.script in
    let i = ran gives options bytes core after ended text rows own h (λ on. (asked on).0) (rows_same options.setup.script (bytes Script) h.of_files.script rows h.of_files.rows k.of_files.rows) in
    let j = ran gives options bytes core last other same rows own k (λ on. (asked on).1) refl in
    let ends : h.last ≡ k.last = last_same (spoiled rows gives) (spoiled_determined gives rows determined) options.cycles (new_timed options.setup.config (start_in options.setup bytes)) h.last k.last core after last i.history j.history i.good j.good i.most j.most i.all j.all in
    (shown_whole gives options bytes core after ended text h (λ on. (asked on).0)).1
    ∙ ap (λ (m : Timed). asked_trace options.trace (start_in options.setup bytes) m.count ++ text_of m (shown_dump options.dump)) ends
    ∙ sym (shown_whole gives options bytes core last other same k (λ on. (asked on).1)).1

-- ---- the text of `soak`

-- the turns of its second run, which has ended
soak_ran : {C : Type 0} (gives : Meaning C) (options : SoakOptions) (core after : C) (ended : Result Status Text) (text : Text)
    → (h : HasSoaked gives options (change core after) ended text)
    → Ran (spoiled [] gives) (soak_cycles options.instructions) (new_timed default_config (soak_start options)) core h.second after
soak_ran gives options core after ended text h =
    let off : goes_on h.second.arch ≡ false = ap (λ end. end == 0) h.halts.1 in
    own_turns gives (soak_setup Own) (soak_cycles options.instructions) [] [] (soak_start options) core h.second after refl h.under_own (λ on. absurd (true≢false (sym on ∙ off)))

line_same : (core : SoakCore) (n n' y y' f f' : ℕ) → n ≡ n' → y ≡ y' → f ≡ f' → soak_line core n y f ≡ soak_line core n' y' f'
line_same core n n' y y' f f' a b c = cc

pub soak_same : {C : Type 0} (gives : Meaning C) → IsDetermined gives → (options : SoakOptions) (core after last : C) (ended other : Result Status Text) (text same : Text)
    → HasSoaked gives options (change core after) ended text → HasSoaked gives options (change core last) other same → text ≡ same
soak_same gives determined options core after last ended other text same h k =
    let i = soak_ran gives options core after ended text h in
    let j = soak_ran gives options core last other same k in
    let ends : h.second ≡ k.second = last_same (spoiled [] gives) (spoiled_determined gives [] determined) (soak_cycles options.instructions) (new_timed default_config (soak_start options)) h.second k.second core after last i.history j.history i.good j.good i.most j.most i.all j.all in
    let counted : h.first.count ≡ k.first.count = sym h.same.1 ∙ ap (λ (m : Timed). m.count) ends ∙ k.same.1 in
    let cycles : h.first.cycles ≡ k.first.cycles = h.paced ∙ ap (λ n. n + depth) counted ∙ sym k.paced in
    let flushes : h.first.under.log.flushes ≡ k.first.under.log.flushes = h.unflushed ∙ sym k.unflushed in
    let line = line_same soak_core.Scalar h.first.count k.first.count h.first.cycles k.first.cycles h.first.under.log.flushes k.first.under.log.flushes counted cycles flushes in
    h.lines ∙ ap (soak_text h.first) ends
    ∙ ap (λ (l : List ℕ). l ++ soak_line soak_core.Own k.second.count k.second.cycles k.second.under.log.flushes ++ end_line_of (end_of k.second.arch.end) ++ output_text k.second.arch.output
    ++ registers_text k.second.arch.regs k.second.arch.pc) line
    ∙ sym k.lines
