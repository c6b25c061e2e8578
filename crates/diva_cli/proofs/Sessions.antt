-- Parts as what is handed to a machine, and what holds of a session, of which a run is one.
use Rattle.std.proofs.Common.{◌≡◌, ◌⊎◌, ℕ, suc, ◌+◌, ◌*◌, ◌≤◌, ◌/◌, List, [], ◌∷◌, ◌++◌, length, map, None, Result, Ok, Err, OnOk, OnErr, IfOk, IfErr, refl, sym, ◌∙◌, ap, append-nil, arith, subst, inl, inr}
use Rattle.std.proofs.Math.Nat.{div-mul-le_self}
use Rattle.diva_outside.specs.Sink.{PutsTo, LentSink}
use Rattle.diva_isa.specs.State.{State}
use Rattle.diva_isa.specs.Step.{steps}
use Rattle.diva_isa.specs.declared.record.Record.{Record}
use Rattle.diva_core.specs.Cycle.{cycle_of, run_of}
use Rattle.diva_core.specs.History.{Meaning, FollowRule, IsHistory, lists_of}
use Rattle.diva_core.specs.Headline.{AddsRows, AreCommitted, HasPace, KeepsPace}
use Rattle.diva_core.specs.Legs.{AreLegs, EachPart, Handed, Leg, OfLists, Part, TakenBack, Turned, WentBack, core_behind, handed_in, part_of, run_part, run_parts}
use Rattle.diva_core.specs.Machine.{IsConfig, IsMachine}
use Rattle.diva_core.specs.Right.{AreRight}
use Rattle.diva_core.specs.Timed.{Log, Timed, depth, new_timed}
use Rattle.diva_core.specs.Told.{Told, told_of}
use Rattle.diva_core.specs.Undone.{undone_all}
use Rattle.diva_core.proofs.Adding.{run-adds}
use Rattle.diva_core.proofs.Keeping.{stays}
use Rattle.diva_core.proofs.Legging.{IsGood, each_part, each_then, parts_calm, parts_stay, undone_all_cycles, undone_all_stays}
use Rattle.diva_core.proofs.Listing.{new_calm}
use Rattle.diva_core.proofs.Outcomes.{cycle-cycles}
use Rattle.diva_core.proofs.Pacing.{are_committed}
use Rattle.diva_core.proofs.Progressing.{has_pace, run-stays}
use Rattle.diva_core.proofs.Reaching.{run-pace}
use Rattle.diva_core.proofs.Starting.{headline, new-machine}
use Rattle.diva_faults.specs.declared.rows.Row.{Row}
use Rattle.diva_faults.specs.Lists.{scripted}
use Rattle.diva_faults.specs.Spoiled.{spoiled}
use Rattle.diva_faults.proofs.Legging.{LegsWith, legs_unspoiled}
use Rattle.diva_faults.proofs.Spoiling.{scripted-none}
use Rattle.diva_tape.specs.Lists.{lockstep_list}
use Rattle.diva_tape.specs.Noise.{noise_call, noise_claim, noise_lists}
use Rattle.diva_tape.specs.Scalar.{IsPast, IsScalarCall, MayLead, new_scalar, scalar_list}
use Rattle.diva_tape.specs.TapeCalls.{next_list, played, tape_call}
use Rattle.diva_tape.proofs.Following.{new_leads}
use Rattle.diva_tape.proofs.Playing.{played-next}
use Rattle.diva_tape.proofs.Returning.{scalar_legs, scalar_legs_right}
use Rattle.diva_tape.proofs.Righting.{rule_right}
use Rattle.diva_args.specs.Options.{DebugOptions, Setup}
use Rattle.diva_args.specs.declared.job.CoreChoice.{CoreChoice}
use Rattle.diva_args.specs.declared.job.Job.TheVariants.{Debug}
use Rattle.diva_debug.specs.Moves.{Standing}
use Rattle.diva_debug.specs.declared.command.Command.{Command}
use Rattle.diva_debug.specs.declared.command.Command.TheVariants.{Step, Until, Reg, Mem, Why, Back}
use Rattle.diva_outside.specs.declared.sink.SinkFailed.{SinkFailed}
use Rattle.diva_cli.specs.declared.driving.CoreInUse.{CoreInUse}
use Rattle.diva_cli.specs.declared.loading.Ready.{Ready}
use Rattle.diva_cli.specs.declared.loading.SessionReady.{SessionReady}
use Rattle.diva_cli.specs.Changes.{LanesAsked, change, asking}
use Rattle.diva_cli.specs.Cuts.{BeforeLast}
use Rattle.diva_cli.specs.DebugTexts.{HasReplies}
use Rattle.diva_cli.specs.Driven.{AreHanded, ByCalls, ByOther, IsDriven, scripted_lists, scripted_rule}
use Rattle.diva_cli.specs.Parts.{IsSession}
use Rattle.diva_cli.specs.Ready.{AreHandedBy, IsReady, PlaysBy, core_for}
use Rattle.diva_process.specs.declared.status.Status.TheVariants.{Halted}
use Rattle.diva_process.specs.declared.status.Status.{Status}
use Rattle.diva_process.specs.Writing.{WritesPart, WritesWhole}
use Rattle.diva_cli.specs.Replies.{AreLed, IsMoved, IsTakenBack, LeadsBy, at_start, cycles_of, newest_after, next_standing, replies_of}
use Rattle.diva_cli.specs.Runs.{IsRunFrom, RunsAreReadOff}
use Rattle.diva_cli.specs.Sessions.{IsSessionFrom, IsSessionOfFiles, IsUnflushed, start_in}
use Rattle.diva_cli.specs.Tasks.{IsReplied}
use Rattle.diva_process.specs.Programs.{FileBytes}
use Rattle.diva_cli.proofs.Commanding.{CutAt}
use Rattle.diva_cli.specs.Program.{work_of}
use Rattle.diva_args.specs.declared.job.CoreChoice.TheVariants as choice

-- ---- a core that goes by its calls alone

module _ {D : Type 0} (its : Meaning D) (calls : ℕ → D → List (List Record))
    (none : (before : D) → calls 0 before ≡ [])
    (more : (before after : D) (told : Told) (s : State) (list : List Record) (n : ℕ) → its before told s list after → list ∷ calls n after ≡ calls (suc n) before)
    (script : List Row) where
  -- the lists of a history, and those that follow it
  calls_then : (m : Timed) (before : D) (history : List (List Record × D)) (last : Timed) (after : D) (later : List (List Record))
      → IsMachine m
      → IsHistory (spoiled script its) m before history last after
      → later ≡ scripted_lists script (last.cycles + 1) (calls (length later) after)
      → lists_of history ++ later ≡ scripted_lists script (m.cycles + 1) (calls (length (lists_of history ++ later)) before)
  calls_then m before [] last after later inv h e =
      subst (λ (n : Timed). later ≡ scripted_lists script (n.cycles + 1) (calls (length later) before)) h.0
      (subst (λ c. later ≡ scripted_lists script (last.cycles + 1) (calls (length later) c)) h.1 e)
  calls_then m before (turn ∷ history) last after later inv h e =
      let one = h.1.0 in
      let rest = calls_then (cycle_of m turn.0) turn.1 history last after later (stays m turn.0 inv) h.1.1 e in
      let next : (cycle_of m turn.0).cycles ≡ m.cycles + 1 = cycle-cycles m turn.0 inv h.0 in
      ap (λ (list : List Record). list ∷ (lists_of history ++ later)) one.laid
      ∙ ap (λ (lists : List (List Record)). scripted script (m.cycles + 1) one.inner ∷ lists)
      (rest ∙ ap (λ n. scripted_lists script (n + 1) (calls (length (lists_of history ++ later)) turn.1)) next)
      ∙ ap (scripted_lists script (m.cycles + 1)) (more before turn.1 (told_of m) m.arch one.inner (length (lists_of history ++ later)) one.given)

  legs_calls : (legs : List (Leg D)) (m : Timed) (before : D) (last : Timed) (after : D)
      → IsMachine m
      → AreLegs (spoiled script its) m before legs last after
      → handed_in (map part_of legs) ≡ scripted_lists script (m.cycles + 1) (calls (length (handed_in (map part_of legs))) before)
  legs_calls [] m before last after inv h = ap (scripted_lists script (m.cycles + 1)) (sym (none before))
  legs_calls (Turned history ∷ legs) m before last after inv h =
      calls_then m before history (run_of m (lists_of history)) (core_behind before history) (handed_in (map part_of legs)) inv h.0
      (legs_calls legs (run_of m (lists_of history)) (core_behind before history) last after (run-stays m (lists_of history) inv) h.1)
  legs_calls (WentBack undos ∷ legs) m before last after inv h =
      legs_calls legs (undone_all m undos) before last after (undone_all_stays m undos inv h.0) h.1
      ∙ ap (λ n. scripted_lists script (n + 1) (calls (length (handed_in (map part_of legs))) before)) (undone_all_cycles m undos)

  by_calls : {C : Type 0} (first : D) (m : Timed) (core : C) (parts : List Part) (last : Timed) (after : C)
      → IsMachine m
      → ByOther its first script (change m last) (change core after) parts
      → ByCalls calls first script m (change core after) parts
  by_calls first m core parts last after inv by =
      record {
        in_order = subst (λ (ps : List Part). handed_in ps ≡ scripted_lists script (m.cycles + 1) (calls (length (handed_in ps)) first)) (sym by.by.in_order)
            (legs_calls by.by.legs m first last by.final inv by.by.good);
        same = by.same;
      }

noise_goes_on : (before after : ℕ) (told : Told) (s : State) (list : List Record) (n : ℕ) → noise_call before told s list after → list ∷ noise_lists n after ≡ noise_lists (suc n) before
noise_goes_on before after told s list n h =
    ap (λ (l : List Record). l ∷ noise_lists n after) h.lists ∙ ap (λ x. (noise_claim before ∷ []) ∷ noise_lists n x) h.keeps

tape_goes_on : (before after : List (List Record)) (told : Told) (s : State) (list : List Record) (n : ℕ) → tape_call before told s list after → list ∷ played n after ≡ played (suc n) before
tape_goes_on before after told s list n h =
    ap (λ (l : List Record). l ∷ played n after) h.next ∙ ap (λ (t : List (List Record)). next_list before ∷ played n t) h.later ∙ played-next n before

-- ---- a core that is always right

-- lists that follow a rule follow another that gives the same
follow_same : (rule other : Timed → List Record) → ((m : Timed) → rule m ≡ other m) → (m : Timed) (lists : List (List Record)) → FollowRule rule m lists → FollowRule other m lists
follow_same rule other same m [] h = tt
follow_same rule other same m (list ∷ rest) h = (h.0 ∙ same m, follow_same rule other same (cycle_of m list) rest h.1)

module _ {C : Type 0} (script : List Row) (m : Timed) (core : C) (parts : List Part) (last : Timed) (after : C)
    (leads : MayLead m new_scalar) (past : IsPast new_scalar m) (none : script ≡ []) (by : ByOther IsScalarCall new_scalar script (change m last) (change core after) parts) where
  unscripted : ByOther IsScalarCall new_scalar [] (change m last) (change core after) parts
  unscripted = subst (λ (rows : List Row). ByOther IsScalarCall new_scalar rows (change m last) (change core after) parts) none by

  alone : LegsWith IsScalarCall m new_scalar last unscripted.final (map part_of unscripted.by.legs)
  alone = legs_unspoiled IsScalarCall m new_scalar unscripted.by.legs last unscripted.final unscripted.by.good

  same_parts : map part_of alone.legs ≡ parts
  same_parts = alone.same ∙ sym unscripted.by.in_order

  scalar_parts : EachPart (OfLists (FollowRule scalar_list)) m parts
  scalar_parts = subst (EachPart (OfLists (FollowRule scalar_list)) m) same_parts (scalar_legs m last new_scalar unscripted.final alone.legs leads past alone.good)

  scalar_parts_right : EachPart (OfLists AreRight) m parts
  scalar_parts_right = subst (EachPart (OfLists AreRight) m) same_parts (scalar_legs_right m last new_scalar unscripted.final alone.legs leads past alone.good)

-- the lists of a core that is always right, where no row changes them
right_in_parts :
    {C : Type 0} (gives : Meaning C) (asked : CoreChoice) (tape : List (List Record)) (script : List Row) (m : Timed) (core : C) (parts : List Part) (last : Timed) (after : C)
    → MayLead m new_scalar → IsPast new_scalar m
    → (asked ≡ choice.Lockstep) ⊎ (asked ≡ choice.Scalar) → script ≡ [] → AreHanded gives asked tape script (change m last) (change core after) parts → EachPart (OfLists AreRight) m parts
right_in_parts gives asked tape script m core parts last after leads past (inl is) none handed =
    let one : AreHanded gives choice.Lockstep tape script (change m last) (change core after) parts = subst (λ (c : CoreChoice). AreHanded gives c tape script (change m last) (change core after) parts) is handed in
    let two : AreHanded gives choice.Lockstep tape [] (change m last) (change core after) parts = subst (λ (rows : List Row). AreHanded gives choice.Lockstep tape rows (change m last) (change core after) parts) none one in
    each_then (FollowRule (scripted_rule [] lockstep_list)) AreRight
    (λ n lists h. rule_right n lists (follow_same (scripted_rule [] lockstep_list) lockstep_list (λ k. scripted-none (k.cycles + 1) (lockstep_list k)) n lists h))
    m parts two.follows
right_in_parts gives asked tape script m core parts last after leads past (inr is) none handed =
    let one : AreHanded gives choice.Scalar tape script (change m last) (change core after) parts = subst (λ (c : CoreChoice). AreHanded gives c tape script (change m last) (change core after) parts) is handed in
    scalar_parts_right script m core parts last after leads past none one.other

-- ---- where the lists come from, told by the choice of the core

pub handed_for :
    {C : Type 0} (gives : Meaning C) (asked : CoreChoice) (tape : List (List Record)) (script : List Row) (m : Timed) (core : C) (parts : List Part) (last : Timed) (after : C)
    → MayLead m new_scalar → IsPast new_scalar m
    → AreHandedBy gives (core_for asked tape) script (change m last) (change core after) parts → AreHanded gives asked tape script (change m last) (change core after) parts
handed_for gives choice.Own tape script m core parts last after leads past h = h
handed_for gives choice.Lockstep tape script m core parts last after leads past h = h
handed_for gives choice.Scalar tape script m core parts last after leads past h = record { other = h; alone = λ none. scalar_parts script m core parts last after leads past none h }
handed_for gives choice.Silent tape script m core parts last after leads past h = h
handed_for gives choice.Flood tape script m core parts last after leads past h = h
handed_for gives choice.Echo tape script m core parts last after leads past h = h
handed_for gives choice.Noise tape script m core parts last after leads past h =
    by_calls noise_call noise_lists (λ before. refl) noise_goes_on script 0 m core parts last after leads.machine h
handed_for gives (choice.Tape name) tape script m core parts last after leads past h =
    by_calls tape_call played (λ before. refl) tape_goes_on script tape m core parts last after leads.machine h

-- ---- a session from a state

moved_good : (m : Timed) (part : Part) (c : Command) → IsMoved c m part → IsGood m part
moved_good m (Handed lists) c h = tt
moved_good m (TakenBack undos) c h = absurd h

taken_good : (m : Timed) (part : Part) (n : ℕ) → IsTakenBack n m part → IsGood m part
taken_good m (Handed lists) n h = tt
taken_good m (TakenBack undos) n h = h.1

leads_good : (c : Command) (w : Standing) (m : Timed) (part : Part) → LeadsBy c w m part → IsGood m part
leads_good (Step k) w m part h = moved_good m part (Step k) h
leads_good (Until pc) w m part h = moved_good m part (Until pc) h
leads_good (Reg n) w m part h = moved_good m part (Reg n) h
leads_good (Mem range) w m part h = moved_good m part (Mem range) h
leads_good Why w m part h = moved_good m part Why h
leads_good (Back k) w m part h = taken_good m part _ h

led_good : (start : State) (done : List Command) (w : Standing) (m : Timed) (parts : List Part) → AreLed start done w m parts → EachPart IsGood m parts
led_good start [] w m parts r = subst (EachPart IsGood m) (sym r.0) tt
led_good start (c ∷ done) w m [] r = absurd r
led_good start (c ∷ done) w m (part ∷ parts) r = (leads_good c w m part r.1.0, led_good start done (next_standing start c w) _ parts r.1.1)

-- behind the commands, too, the state is the table's after the counted instructions
led_stepped : (start : State) (done : List Command) (w : Standing) (m : Timed) (parts : List Part) → AreLed start done w m parts
    → (run_parts m parts).arch ≡ steps (run_parts m parts).count start
led_stepped start [] w m parts r =
    subst (λ (ps : List Part). (run_parts m ps).arch ≡ steps (run_parts m ps).count start) (sym r.0)
    (r.1.stepped ∙ ap (λ n. steps n start) (sym r.1.counted))
led_stepped start (c ∷ done) w m [] r = absurd r
led_stepped start (c ∷ done) w m (part ∷ parts) r = led_stepped start done (next_standing start c w) (run_part m part) parts r.1.1

pub session_from_start :
    {C : Type 0} (gives : Meaning C) (setup : Setup) (cycles : ℕ) (tape : List (List Record)) (script : List Row) (start : State) (core : C) (last : Timed) (after : C)
    → IsConfig setup.config
    → start.instret ≡ 0
    → (d : IsDriven gives setup.core tape script cycles (change (new_timed setup.config start) last) (change core after))
    → EachPart IsGood (new_timed setup.config start) d.parts
    → last.arch ≡ steps last.count start
    → IsSessionFrom gives setup cycles tape script start (change core after) last
session_from_start gives setup cycles tape script start core last after ok zero d good stepped =
    let first : Timed = new_timed setup.config start in
    let inv : IsMachine first = new-machine setup.config start ok zero in
    let unflushed : EachPart (OfLists AreRight) first d.parts → IsUnflushed last = λ right.
    let c = parts_calm first d.parts inv good (new_calm setup.config start ok) right in
    subst IsUnflushed (sym d.ran) (record { flushes = ap (λ (l : Log). l.flushes) c.log; silent = ap (λ (l : Log). l.silent) c.log }) in
    record {
      driven = d;
      stepped = stepped;
      committed = each_part AreCommitted are_committed first d.parts inv good;
      rows = each_part (λ m lists. AddsRows m lists (run_of m lists)) (λ m lists is. run-adds lists m is) first d.parts inv good;
      keeps_pace = each_part (λ m lists. KeepsPace m (run_of m lists)) (λ m lists is. run-pace m lists is) first d.parts inv good;
      paced = subst HasPace (sym d.ran) (has_pace (run_parts first d.parts) (parts_stay first d.parts inv good));
      calm = unflushed;
      unflushed = λ is none. unflushed (right_in_parts gives setup.core tape script first core d.parts last after (new_leads setup.config start ok zero) tt is none d.handed);
    }

-- ---- a run from a state: a session of one part

module _ {C : Type 0} (gives : Meaning C) (setup : Setup) (cycles : ℕ) (tape : List (List Record)) (script : List Row) (start : State) (core : C) (last : Timed) (after : C)
    (ok : IsConfig setup.config) (zero : start.instret ≡ 0) (lists : List (List Record)) (ran : last ≡ run_of (new_timed setup.config start) lists)
    (each : last.cycles ≡ length lists) (most : length lists ≤ cycles)
    (handed : AreHanded gives setup.core tape script (change (new_timed setup.config start) last) (change core after) (Handed lists ∷ [])) where
  pub as_long : length (lists ++ []) ≡ length lists
  as_long = ap length (append-nil lists)

  abbrev pub one_part_session : IsSessionFrom gives setup cycles tape script start (change core after) last
  one_part_session =
      session_from_start gives setup cycles tape script start core last after ok zero
      (record { parts = Handed lists ∷ []; ran = ran; each = (let l = as_long in let e = each in omega arith); most = (let l = as_long in let w = most in omega arith); handed = handed })
      (tt, tt) (subst (λ (m : Timed). m.arch ≡ steps m.count start) (sym ran) (headline setup.config start lists ok zero))

  pub only_part : one_part_session.driven.parts ≡ Handed lists ∷ []
  unfolding session_from_start
  only_part = refl

  abbrev pub run_from_start : IsRunFrom gives setup cycles tape script start (change core after) last
  run_from_start = record { session = one_part_session; lists = lists; one = only_part }

-- what a session says of its parts, said of the lists of a run
pub read_off : {C : Type 0} (gives : Meaning C) → RunsAreReadOff gives
read_off gives setup cycles tape script start core last run =
    let first : Timed = new_timed setup.config start in
    let s = run.session in
    let lists : List (List Record) = run.lists in
    let ran : last ≡ run_of first lists = s.driven.ran ∙ ap (run_parts first) run.one in
    let long : length (handed_in s.driven.parts) ≡ length lists = ap (λ (parts : List Part). length (handed_in parts)) run.one ∙ ap length (append-nil lists) in
    let pace : KeepsPace first (run_of first lists) = (subst (EachPart (OfLists (λ m lists. KeepsPace m (run_of m lists))) first) run.one s.keeps_pace).0 in
    let few : last.cycles / (setup.config.limit + depth) * (setup.config.limit + depth) ≤ last.cycles = div-mul-le_self last.cycles (setup.config.limit + depth) in
    let many = subst (KeepsPace first) (sym ran) pace (last.cycles / (setup.config.limit + depth)) (omega arith) in
    let added : AddsRows first lists (run_of first lists) = (subst (EachPart (OfLists (λ m lists. AddsRows m lists (run_of m lists))) first) run.one s.rows).0 in
    record {
      ran = ran;
      each = (let e = s.driven.each in omega arith);
      most = (let e = s.driven.most in omega arith);
      committed = (subst (EachPart (OfLists AreCommitted) first) run.one s.committed).0;
      rows = subst (AddsRows first lists) (sym ran) added;
      paced = (omega arith);
      calm = λ right. s.calm (subst (EachPart (OfLists AreRight) first) (sym run.one) (right, tt));
    }

-- ---- over files, by the core in use

module _ {C : Type 0} (gives : Meaning C) (setup : Setup) (bytes : FileBytes) (ready : Ready) (core : C) (last : Timed) (after : C)
    (fits : IsConfig setup.config) (is : IsReady setup bytes ready) (this : List Part → Type 0)
    (p : PlaysBy gives ready.core ready.script (change ready.machine.timed last) (change core after) this) where
  abbrev new_in : Timed
  new_in = new_timed setup.config (start_in setup bytes)

  pub ran_new : last ≡ run_parts new_in p.parts
  ran_new = p.ran ∙ ap (λ (m : Timed). run_parts m p.parts) is.begun

  pub each_new : last.cycles ≡ length (handed_in p.parts)
  each_new = let e = ap (λ (m : Timed). m.cycles) is.begun in let k = p.each in omega arith

  pub handed_new : AreHanded gives setup.core is.core.tape ready.script (change new_in last) (change core after) p.parts
  handed_new =
      handed_for gives setup.core is.core.tape ready.script new_in core p.parts last after (new_leads setup.config (start_in setup bytes) fits refl) tt
      (subst (λ (m : Timed). AreHandedBy gives (core_for setup.core is.core.tape) ready.script (change m last) (change core after) p.parts) is.begun
      (subst (λ (used : CoreInUse). AreHandedBy gives used ready.script (change ready.machine.timed last) (change core after) p.parts) is.core.is p.handed))

-- ---- the replies of a session

module _ {C S : Type 0} (gives : Meaning C) (options : DebugOptions) (bytes : FileBytes) (session : SessionReady) (core : C) (last : Timed) (after : C)
    (sink : LentSink S) (result : Result (Unit {0}) SinkFailed)
    (fits : IsConfig options.setup.config) (is : IsSession options bytes session) (commands : List Command) (same : commands ≡ session.commands.items)
    (begun : Timed) (new : begun ≡ session.ready.machine.timed) (lanes : LanesAsked)
    (played : PlaysBy gives session.ready.core session.ready.script (change begun last) (change core after)
    (λ parts. IsReplied commands begun parts sink result × lanes None [])) where
  abbrev p : PlaysBy gives session.ready.core session.ready.script (change session.ready.machine.timed last) (change core after)
      (λ parts. IsReplied commands session.ready.machine.timed parts sink result)
  p =
      subst (λ (m : Timed). PlaysBy gives session.ready.core session.ready.script (change m last) (change core after)
      (λ parts. IsReplied commands m parts sink result)) new
      (record { parts = played.parts; ran = played.ran; each = played.each; handed = played.handed; done = played.done.0 })

  abbrev start : State
  start = start_in options.setup bytes

  abbrev first : Timed
  first = new_timed options.setup.config start

  abbrev cycles : ℕ
  cycles = cycles_of (length p.done.done) options.setup.config.limit

  led : AreLed start p.done.done at_start first p.parts
  led = subst (λ (m : Timed). AreLed m.arch p.done.done at_start m p.parts) is.ready.begun p.done.led

  abbrev driven : IsDriven gives options.setup.core is.ready.core.tape session.ready.script cycles (change first last) (change core after)
  driven =
      record {
        parts = p.parts;
        ran = ran_new gives options.setup bytes session.ready core last after fits is.ready _ p;
        each = (let e = each_new gives options.setup bytes session.ready core last after fits is.ready _ p in omega arith);
        most = subst (λ (m : Timed). length (handed_in p.parts) ≤ cycles_of (length p.done.done) m.config.limit) is.ready.begun p.done.most;
        handed = handed_new gives options.setup bytes session.ready core last after fits is.ready _ p;
      }

  stepped : last.arch ≡ steps last.count start
  stepped = subst (λ (m : Timed). m.arch ≡ steps m.count start) (sym driven.ran) (led_stepped start p.done.done at_start first p.parts led)

  abbrev of_files : IsSessionOfFiles gives options.setup cycles bytes (change core after) last
  of_files =
      record {
        script = session.ready.script;
        rows = is.ready.rows;
        tape = is.ready.core.tape;
        lists = is.ready.core.lists;
        holds = session_from_start gives options.setup cycles is.ready.core.tape session.ready.script start core last after fits refl driven (led_good start p.done.done at_start first p.parts led) stepped;
      }

  abbrev text : List ℕ
  text = replies_of start p.done.done at_start (newest_after first p.parts)

  has_replies : (ended : Result Status (List ℕ))
      → IfOk ended (λ s. (s ≡ Halted) × (p.done.left ≡ []))
      → IfErr ended (λ put. BeforeLast p.done.done (λ earlier. put ≡ replies_of start earlier at_start (newest_after first p.parts)))
      → HasReplies gives options bytes (change core after) ended text
  unfolding session_from_start
  has_replies ended whole cut =
      record {
        done = p.done.done;
        left = p.done.left;
        read = is.read ∙ ap Ok (sym same ∙ p.done.in_order);
        whole = whole;
        last = last;
        of_files = of_files;
        led = led;
        lines = refl;
        cut = cut;
      }

  puts : PutsTo sink text result
  puts = subst (λ (m : Timed). PutsTo sink (replies_of m.arch p.done.done at_start (newest_after m p.parts)) result) is.ready.begun p.done.put

  pub wrote_replies : result ≡ Ok tt → WritesWhole (work_of gives (asking core after lanes)) (Debug options) bytes sink Halted
  wrote_replies ok =
      record {
        text = text;
        means = record { means = has_replies (Ok Halted) (refl, subst (λ (r : Result (Unit {0}) SinkFailed). OnOk r (p.done.left ≡ [])) ok p.done.whole) tt; lanes = played.done.1 };
        written = (let q = subst (λ (r : Result (Unit {0}) SinkFailed). PutsTo sink text r) ok puts in record { appended = q.ok; uncounted = q.uncounted });
      }

  pub cut_replies : (e : SinkFailed) → result ≡ Err e → WritesPart (work_of gives (asking core after lanes)) (Debug options) bytes sink
  cut_replies e err =
      let q = subst (λ (r : Result (Unit {0}) SinkFailed). PutsTo sink text r) err puts in
      let b : CutAt p.done.done first p.parts sink =
      subst (λ (m : Timed). CutAt p.done.done m p.parts sink) is.ready.begun
      (subst (λ (r : Result (Unit {0}) SinkFailed). OnErr r (CutAt p.done.done session.ready.machine.timed p.parts sink)) err p.done.cut) in
      let put : List ℕ = replies_of start b.earlier at_start (newest_after first p.parts) in
      record {
        rose = q.failed;
        put = put;
        text = text;
        means = record { means = has_replies (Err put) tt (record { earlier = b.earlier; last = b.last; in_order = b.in_order; holds = refl }); lanes = played.done.1 };
        written = b.holds;
      }
