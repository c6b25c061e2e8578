-- A run of two harts, each under a new core of a kind.
use Rattle.std.proofs.Common.{◌≡◌, ◌↔◌, ◌≤◌, ◌+◌, ◌==◌, ◌⊎◌, ℕ, zero, suc, Bool, true, false, List, [], ◌∷◌, length, refl, ap, sym, ◌∙◌, subst, arith, inl, inr, Result, Ok, Err, IfOk}
use Rattle.std.specs.Bool.{⊤}
use Rattle.std.proofs.lemmas.Bool.{cases_Bool, true≢false}
use Rattle.diva_isa.specs.State.{State}
use Rattle.diva_isa.specs.declared.record.Record.{Record}
use Rattle.diva_core.specs.History.{Meaning}
use Rattle.diva_core.specs.Told.{Told}
use Rattle.diva_hart.specs.declared.ends.Drive.{Drive}
use Rattle.diva_hart.specs.declared.ends.Drive.TheVariants.{Ended, Budget}
use Rattle.diva_duo.specs.Duo.{Duo, duo_cycle_of, is_over}
use Rattle.diva_duo.specs.Which.{Which, First, Second, hart_at}
use Rattle.diva_duo.specs.Shown.{Shown}
use Rattle.diva_duo.specs.Between.{HasGone}
use Rattle.diva_duo.specs.Turns.{HandsOverBy, DrivesDuo, DuoTurn, IsDuoHistory, pairs_of}
use Rattle.diva_duo.proofs.Turning.{history_run}
use Rattle.diva_ahead.specs.Ahead.{Ahead}
use Rattle.diva_tape.specs.Lists.{IsLockstepCall}
use Rattle.diva_tape.specs.Scalar.{IsScalarCall, new_scalar}
use Rattle.diva_args.specs.declared.job.HartCore.{HartCore}
use Rattle.diva_args.specs.declared.job.HartCore.TheVariants.{Scalar, Lockstep, Silent}
use Rattle.diva_outside.specs.Text.{Text}
use Rattle.diva_outside.specs.declared.sink.SinkFailed.{SinkFailed}
use Rattle.diva_outside.proofs.Sinks.{past_nothing}
use Rattle.diva_args.specs.Options.{DuoOptions}
use Rattle.diva_args.specs.declared.job.Job.TheVariants.{Duo as Command}
use Rattle.diva_process.specs.declared.status.Status.{Status}
use Rattle.diva_process.specs.declared.stop.Failure.TheVariants.{Cut}
use Rattle.diva_outside.specs.Sink.{PutsTo, LentSink}
use Rattle.diva_cli.specs.Changes.{change, asking}
use Rattle.diva_process.specs.Programs.{FileBytes}
use Rattle.diva_cli.specs.Runs.{shown_dump}
use Rattle.diva_cli.specs.DuoTexts.{HasDuo, IsDuoRun, call_at, call_by, duo_start, duo_status, duo_text, duo_under, hart_call}
use Rattle.diva_process.specs.Writing.{WritesText}
use Rattle.diva_cli.specs.Parts.{new_cores, no_lanes}
use Rattle.diva_cli.specs.Program.{work_of}
use Rattle.diva_cli.specs.declared.duo.HartCores.TheVariants as cores

over_cycle : (d : Duo) (a b : List Record) → is_over d ≡ true → duo_cycle_of d a b ≡ d
unfolding duo_cycle_of
over_cycle d a b over = rw over refl

-- where both harts are over nothing changes
over_stays : (kind : HartCore) (n : ℕ) (d : Duo) (a b : Ahead) → is_over d ≡ true → duo_under kind n d a b ≡ d
over_stays kind zero d a b over = refl
over_stays kind (suc n) d a b over =
    let x = call_at kind First d a in
    let y = call_at kind Second d b in
    ap (λ (z : Duo). duo_under kind n z x.core y.core) (over_cycle d x.list y.list over) ∙ over_stays kind n d x.core y.core over

-- cores of some type that are as those of a kind, call by call: `like` relates the one to the other
abbrev pub AreAs : {D : Type 0} → Meaning D → HartCore → (like : D → Ahead → Type 0) → Type 0
AreAs {D} gives kind like =
    (c : D) (x : Ahead) (told : Told) (s : State) (list : List Record) (after : D)
    → like c x → gives c told s list after → (list ≡ (hart_call kind x told s).list) × like after (hart_call kind x told s).core

module _ {D : Type 0} (gives : Meaning D) (kind : HartCore) (like : D → Ahead → Type 0) (are : AreAs gives kind like) where
  asked_by : (b : Bool) (w : Which) (d : Duo) (c : D) (x : Ahead) (list : List Record) (after : D) → like c x → HandsOverBy gives b w d c list after
      → (list ≡ (call_by b kind w d x).list) × like after (call_by b kind w d x).core
  asked_by true w d c x list after same h = are c x _ _ list after same h
  asked_by false w d c x list after same h = (h.0, subst (λ (z : D). like z x) (sym h.1) same)

  -- a history leads to where the cores of the kind lead
  follows :
      (n : ℕ) (d : Duo) (a b : D) (x y : Ahead) (history : List (DuoTurn D D)) (last : Duo) (final_a final_b : D)
      → like a x → like b y → IsDuoHistory gives gives d a b history last final_a final_b
      → length history ≤ n → (n ≡ length history) ⊎ (is_over last ≡ true)
      → last ≡ duo_under kind n d x y
  follows n d a b x y [] last final_a final_b p q h few (inl e) = h.0 ∙ ap (λ k. duo_under kind k d x y) (sym e)
  follows n d a b x y [] last final_a final_b p q h few (inr over) = h.0 ∙ sym (over_stays kind n d x y (ap is_over (sym h.0) ∙ over))
  follows zero d a b x y (t ∷ rest) last final_a final_b p q h few ends = absurd (omega arith)
  follows (suc n) d a b x y (t ∷ rest) last final_a final_b p q h few ends =
      let u = asked_by ((hart_at First d).state.end == 0) First d a x t.first t.first_core p h.1 in
      let v = asked_by ((hart_at Second d).state.end == 0) Second d b y t.second t.second_core q h.2 in
      let left = call_at kind First d x in
      let right = call_at kind Second d y in
      let later : (n ≡ length rest) ⊎ (is_over last ≡ true) = elim ends [ inl e ↦ inl (omega arith) | inr over ↦ inr over ] in
      follows n (duo_cycle_of d t.first t.second) t.first_core t.second_core left.core right.core rest last final_a final_b u.1 v.1 h.3 (omega arith) later
      ∙ ap (λ (list : List Record). duo_under kind n (duo_cycle_of d list t.second) left.core right.core) u.0
      ∙ ap (λ (list : List Record). duo_under kind n (duo_cycle_of d left.list list) left.core right.core) v.0

  -- a drive that goes on has run all its cycles
  ran_all : (last : Duo) (all : ℕ) (r : Drive) → (r ≡ Ended) ↔ (is_over last ≡ true) → (r ≡ Budget) ↔ ((last.cycles ≡ all) × (is_over last ≡ false)) → is_over last ≡ false → last.cycles ≡ all
  ran_all last all Ended ends runs off = absurd (true≢false (sym (ends.0 refl) ∙ off))
  ran_all last all Budget ends runs off = (runs.0 refl).0

  pub run_by :
      (cycles : ℕ) (d last : Shown) (a b final_a final_b : D) (r : Drive)
      → like a new_scalar → like b new_scalar
      → d.duo.cycles ≡ 0
      → DrivesDuo gives gives d a b last final_a final_b
      → last.duo.cycles ≤ d.duo.cycles + cycles
      → (r ≡ Ended) ↔ (is_over last.duo ≡ true)
      → (r ≡ Budget) ↔ ((last.duo.cycles ≡ d.duo.cycles + cycles) × (is_over last.duo ≡ false))
      → HasGone First last.duo → HasGone Second last.duo
      → IsDuoRun kind cycles d.duo last.duo
  run_by cycles d last a b final_a final_b r p q new drives within ends runs one two =
      let turns = drives.turns in
      let each = turns.each in
      let all : is_over last.duo ≡ false → last.duo.cycles ≡ cycles = λ off. (let e = ran_all last.duo (d.duo.cycles + cycles) r ends runs off in omega arith) in
      let stops : (cycles ≡ length turns.history) ⊎ (is_over last.duo ≡ true) =
      elim (cases_Bool (is_over last.duo)) [ inl over ↦ inr over | inr off ↦ inl (let e = all off in omega arith) ] in
      record {
        driven = follows cycles d.duo a b new_scalar new_scalar turns.history last.duo final_a final_b p q turns.good (omega arith) stops;
        pairs = pairs_of turns.history;
        ran = history_run gives gives d.duo a b turns.history last.duo final_a final_b turns.good;
        replayed = drives.replayed;
        committed = drives.committed;
        rows = drives.rows;
        paced = (one, two);
        all = all;
      }

-- ---- a line for each kind

pub scalars : AreAs IsScalarCall Scalar (λ c x. c ≡ x)
scalars c x told s list after same h =
    (h.lists ∙ ap (λ (z : Ahead). (hart_call Scalar z told s).list) same, h.keeps ∙ ap (λ (z : Ahead). (hart_call Scalar z told s).core) same)

pub locksteps : {D : Type 0} → AreAs {D = D} IsLockstepCall Lockstep (λ c x. ⊤)
locksteps c x told s list after same h = (h, tt)

pub silents : {D : Type 0} → AreAs {D = D} (λ before told state list after. list ≡ []) Silent (λ c x. ⊤)
silents c x told s list after same h = (h, tt)

-- the cores in use are new ones of a kind
pub of_scalars : (kind : HartCore) (first second : Ahead) (cycles : ℕ) (d last : Duo) → cores.Scalar first second ≡ new_cores kind
    → (first ≡ new_scalar → second ≡ new_scalar → IsDuoRun Scalar cycles d last) → IsDuoRun kind cycles d last
of_scalars Scalar first second cycles d last e f = f (cc) (cc)
of_scalars Lockstep first second cycles d last e f = absurd (cc)
of_scalars Silent first second cycles d last e f = absurd (cc)

pub of_locksteps : (kind : HartCore) (cycles : ℕ) (d last : Duo) → cores.Lockstep ≡ new_cores kind → IsDuoRun Lockstep cycles d last → IsDuoRun kind cycles d last
of_locksteps Scalar cycles d last e r = absurd (cc)
of_locksteps Lockstep cycles d last e r = r
of_locksteps Silent cycles d last e r = absurd (cc)

pub of_silents : (kind : HartCore) (cycles : ℕ) (d last : Duo) → cores.Silent ≡ new_cores kind → IsDuoRun Silent cycles d last → IsDuoRun kind cycles d last
of_silents Scalar cycles d last e r = absurd (cc)
of_silents Lockstep cycles d last e r = absurd (cc)
of_silents Silent cycles d last e r = r

-- ---- what is written of it

module _ {C S : Type 0} (gives : Meaning C) (options : DuoOptions) (bytes : FileBytes) (core : C) (sink : LentSink S) (last : Duo)
    (run : IsDuoRun options.core options.cycles (duo_start options bytes) last) where
  abbrev text : Text
  text = duo_text last (shown_dump options.dump)

  means : (ended : Result Status Text) → IfOk ended (λ s. s ≡ duo_status last) → HasDuo options bytes (change core core) ended text
  means ended status = record { last = last; run = run; lines = refl; status = status; unasked = refl }

  pub wrote_duo : (status : Status) → status ≡ duo_status last → PutsTo {E = SinkFailed} sink text (Ok tt) → WritesText (work_of gives (asking core core no_lanes)) (Command options) bytes sink (Ok status)
  wrote_duo status is put = record { text = text; means = record { means = means (Ok status) is; lanes = refl }; written = record { appended = put.ok; uncounted = put.uncounted } }

  pub cut_duo : (e : SinkFailed) → PutsTo sink text (Err e) → WritesText (work_of gives (asking core core no_lanes)) (Command options) bytes sink (Err Cut)
  cut_duo e put = record { rose = put.failed; put = []; text = text; means = record { means = means (Err []) tt; lanes = refl }; written = past_nothing sink text put.part }
