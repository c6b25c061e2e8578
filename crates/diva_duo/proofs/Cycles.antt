-- A cycle of two harts: what holds after it, and its actions.
use Rattle.std.proofs.Common.{◌≡◌, ◌≢◌, ℕ, suc, ◌+◌, ◌-◌, ◌<◌, ◌≤◌, ◌==◌, Bool, true, false, not, List, [], ◌∷◌, ◌++◌, length, take, drop, Some, refl, ap, sym, ◌∙◌, arith, subst, ◌⊎◌, inl, inr, if◌then◌else◌}
use Rattle.std.specs.Prelude.{replicate, option_and_then}
use Rattle.std.proofs.lemmas.Bool.{cases_Bool, ne_eqb, eq-eqb, eqb-true, eqb-false, and_left, and_parts, and_right}
use Rattle.std.proofs.lemmas.List.{length-drop}
use Rattle.diva_memory.specs.Bytes.{Bytes}
use Rattle.diva_storeq.specs.declared.masked.Masked.{Masked}
use Rattle.diva_storeq.specs.Stores.{laid}
use Rattle.diva_storeq.proofs.Laying.{laid_base, laid_length}
use Rattle.diva_core.specs.Timed.{Timed, is_empty}
use Rattle.diva_isa.specs.declared.record.Record.{Record}
use Rattle.diva_core.specs.Headline.{dues}
use Rattle.diva_core.specs.HartCycle.{IsHartCycle}
use Rattle.diva_core.proofs.Promising.{hart_cycle_none}
use Rattle.diva_core.proofs.Stalling.{Stalls}
use Rattle.diva_commit.specs.Committing.{AreInside}
use Rattle.diva_commit.proofs.Storing.{inside_later, inside_rest}
use Rattle.diva_hart.specs.HartArch.{HartState, seen}
use Rattle.diva_duo.specs.declared.action.Action.{Action}
use Rattle.diva_duo.specs.declared.action.Action.TheVariants.{Go, Drain}
use Rattle.diva_duo.specs.Harts.{Harts, may_drain, memory_drained, replay, state_drained, where_possible}
use Rattle.diva_duo.specs.Duo.{Duo, Hart, timed, drained_hart, hart_cycle, duo_drained, duo_cycle_of, phased, is_over, is_hart_over, harts_of, drains, actions}
use Rattle.diva_duo.specs.Which.{Which, First, Second, hart_at, machine_at}
use Rattle.diva_duo.specs.Between.{CountsFew, IsDuo, IsHart}
use Rattle.diva_duo.specs.Headline.{CyclesAt, judged_at}
use Rattle.diva_duo.proofs.Moving.{Moves, moves_on, keeps_on, cycle_on, other_memory, stalls_hart}
use Rattle.diva_duo.proofs.Replaying.{replays, replay_then, went_on, went_none}

-- ---- one hart, which goes on or has ended

module _ (now : ℕ) (before memory : Bytes) (h : Hart) (inv : IsHart now before h) (inside : AreInside memory (drained_hart h).state.buffer) (list : List Record) where
  stands : h.state.end ≢ 0 → hart_cycle (now + 1) memory list (drained_hart h) ≡ drained_hart h
  unfolding hart_cycle
  stands off = rw (ne_eqb h.state.end 0 off) refl

  pub moves : Moves (now + 1) memory list (drained_hart h)
  moves = elim (cases_Bool (h.state.end == 0)) [
    | inl on ↦ moves_on now before memory h inv inside list (eqb-true _ _ on)
    | inr off ↦
        let e = stands (eqb-false _ _ off) in
        record {
          k = 0;
          counted = ap (λ (x : Hart). x.state.instret) e ∙ (omega arith);
          state = ap (λ (x : Hart). x.state) e ∙ sym (went_none memory (drained_hart h).state);
          passed = tt;
          few = omega arith;
          config = ap (λ (x : Hart). x.config) e;
        }
  ]

  pub keeps : IsHart (now + 1) memory (hart_cycle (now + 1) memory list (drained_hart h))
  keeps = elim (cases_Bool (h.state.end == 0)) [
    | inl on ↦ keeps_on now before memory h inv inside list (eqb-true _ _ on)
    | inr off ↦
        let w = inv.within in
        let l = length-drop 1 h.state.buffer in
        subst (IsHart (now + 1) memory) (sym (stands (eqb-false _ _ off))) (record {
          at = inv.at;
          within = omega arith;
          running = λ e. absurd (eqb-false _ _ off e);
          machine = other_memory (timed inv.at before h) (seen memory (drained_hart h).state) (length (drop 1 h.state.buffer)) (omega arith) refl inv.machine;
          port = inv.port;
          undos = inv.undos;
          inside = inside;
        })
  ]

  -- what its cycle promises
  abbrev judged : Timed
  judged = timed now memory (drained_hart h)

  abbrev after : Timed
  after = timed (now + 1) memory (hart_cycle (now + 1) memory list (drained_hart h))

  ended_is : h.state.end ≢ 0 → after ≡ timed (now + 1) memory (drained_hart h)
  ended_is off = ap (timed (now + 1) memory) (stands off)

  pub cycle_hart : IsHartCycle judged after (dues (after.count - judged.count) judged.arch)
  cycle_hart = elim (cases_Bool (h.state.end == 0)) [
    | inl on ↦ cycle_on now before memory h inv inside list (eqb-true _ _ on)
    | inr off ↦ hart_cycle_none judged after (now + 1) (ended_is (eqb-false _ _ off))
  ]

-- ---- both

none_there : (b : List Masked) → is_empty b ≡ true → b ≡ []
none_there [] e = refl
none_there (x ∷ xs) e = let n = eqb-true (suc (length xs)) 0 e in absurd (omega arith)

-- a hart drains nothing where its buffer is empty
still : (now : ℕ) (memory : Bytes) (a b : List Masked) (h : Hart) → a ≡ [] → b ≡ [] → h.state.buffer ≡ []
    → timed now (laid (laid memory (take 1 a)) (take 1 b)) (drained_hart h) ≡ timed now memory h
still now memory a b h e f g =
    let left : timed now (laid (laid memory (take 1 a)) (take 1 b)) (drained_hart h) ≡ timed now memory (record h { state = record h.state { buffer = [] } }) =
    λ i. timed now (laid (laid memory (take 1 (e i))) (take 1 (f i))) (record h { state = record h.state { buffer = drop 1 (g i) } }) in
    let right : timed now memory h ≡ timed now memory (record h { state = record h.state { buffer = [] } }) =
    λ i. timed now memory (record h { state = record h.state { buffer = g i } }) in
    left ∙ sym right

-- where both are over, each is judged as it stands, and nothing becomes of it
module _ (d : Duo) (over : is_over d ≡ true) where
  none_first : d.first.state.buffer ≡ []
  none_first = none_there d.first.state.buffer (and_parts (not (d.first.state.end == 0)) _ (and_parts (is_hart_over d.first) _ over).0).1

  none_second : d.second.state.buffer ≡ []
  none_second = none_there d.second.state.buffer (and_parts (not (d.second.state.end == 0)) _ (and_parts (is_hart_over d.first) _ over).1).1

  over_judged : (w : Which) → machine_at w d ≡ judged_at w d
  unfolding duo_drained
  over_judged First = sym (still d.cycles d.memory d.first.state.buffer d.second.state.buffer d.first none_first none_second none_first)
  over_judged Second = sym (still d.cycles d.memory d.first.state.buffer d.second.state.buffer d.second none_first none_second none_second)

  pub over_cycle : (w : Which) → CyclesAt w d d
  over_cycle w = hart_cycle_none (judged_at w d) (machine_at w d) d.cycles (over_judged w)

drains_first : (memory : Bytes) (x : HartState) (regs : List ℕ) (pc : ℕ) (output : List ℕ) (instret end : ℕ) (buffer : List Masked)
    → (let h : HartState = record { regs = regs; pc = pc; output = output; instret = instret; end = end; buffer = buffer } in
    replay (drains 0 h) (record { memory = memory; first = h; second = x }) ≡ Some (record { memory = memory_drained memory h; first = state_drained h; second = x }))
drains_first memory x regs pc output instret end [] = refl
drains_first memory x regs pc output instret end (e ∷ es) =
    let h : HartState = record { regs = regs; pc = pc; output = output; instret = instret; end = end; buffer = e ∷ es } in
    let some : may_drain h ≡ true = ap not (ne_eqb (suc (length es)) 0 (λ z. absurd (omega arith))) in
    ap (λ (t : Bool). replay (if t then Drain 0 ∷ [] else []) (record { memory = memory; first = h; second = x })) some
    ∙ ap (λ (t : Bool). option_and_then (replay []) (where_possible t (record { memory = memory_drained memory h; first = state_drained h; second = x }))) some

drains_second : (memory : Bytes) (x : HartState) (regs : List ℕ) (pc : ℕ) (output : List ℕ) (instret end : ℕ) (buffer : List Masked)
    → (let h : HartState = record { regs = regs; pc = pc; output = output; instret = instret; end = end; buffer = buffer } in
    replay (drains 1 h) (record { memory = memory; first = x; second = h }) ≡ Some (record { memory = memory_drained memory h; first = x; second = state_drained h }))
drains_second memory x regs pc output instret end [] = refl
drains_second memory x regs pc output instret end (e ∷ es) =
    let h : HartState = record { regs = regs; pc = pc; output = output; instret = instret; end = end; buffer = e ∷ es } in
    let some : may_drain h ≡ true = ap not (ne_eqb (suc (length es)) 0 (λ z. absurd (omega arith))) in
    ap (λ (t : Bool). replay (if t then Drain 1 ∷ [] else []) (record { memory = memory; first = x; second = h })) some
    ∙ ap (λ (t : Bool). option_and_then (replay []) (where_possible t (record { memory = memory_drained memory h; first = x; second = state_drained h }))) some

module _ (d : Duo) (inv : IsDuo d) (a b : List Record) where
  abbrev between : Bytes
  between = memory_drained d.memory d.first.state

  abbrev memory : Bytes
  memory = memory_drained between d.second.state

  inside_first : AreInside memory (drained_hart d.first).state.buffer
  inside_first = inside_later between (take 1 d.second.state.buffer) (drop 1 d.first.state.buffer) (inside_rest d.memory (take 1 d.first.state.buffer) d.first.state.buffer inv.first.inside)

  inside_second : AreInside memory (drained_hart d.second).state.buffer
  inside_second = inside_rest between (take 1 d.second.state.buffer) d.second.state.buffer (inside_later d.memory (take 1 d.first.state.buffer) d.second.state.buffer inv.second.inside)

  abbrev next : Duo
  next = phased (duo_drained d) a b

  pub first_is : next.first ≡ hart_cycle (d.cycles + 1) memory a (drained_hart d.first)
  unfolding duo_drained
  first_is = refl

  pub second_is : next.second ≡ hart_cycle (d.cycles + 1) memory b (drained_hart d.second)
  unfolding duo_drained
  second_is = refl

  next_memory : next.memory ≡ memory
  unfolding duo_drained
  next_memory = refl

  next_cycles : next.cycles ≡ d.cycles + 1
  unfolding duo_drained
  next_cycles = refl

  moves_first : Moves (d.cycles + 1) memory a (drained_hart d.first)
  moves_first = moves d.cycles d.memory memory d.first inv.first inside_first a

  moves_second : Moves (d.cycles + 1) memory b (drained_hart d.second)
  moves_second = moves d.cycles d.memory memory d.second inv.second inside_second b

  next_keeps : IsDuo next
  unfolding duo_drained
  next_keeps =
      record {
        range = (let x = inv.range in let p = laid_base d.memory (take 1 d.first.state.buffer) in let q = laid_length d.memory (take 1 d.first.state.buffer) in
            let r = laid_base between (take 1 d.second.state.buffer) in let s = laid_length between (take 1 d.second.state.buffer) in omega arith);
        first = keeps d.cycles d.memory memory d.first inv.first inside_first a;
        second = keeps d.cycles d.memory memory d.second inv.second inside_second b;
      }

  counts_first : next.first.state.instret - d.first.state.instret ≡ moves_first.k
  counts_first = let e = ap (λ (x : Hart). x.state.instret) first_is ∙ moves_first.counted in omega arith

  counts_second : next.second.state.instret - d.second.state.instret ≡ moves_second.k
  counts_second = let e = ap (λ (x : Hart). x.state.instret) second_is ∙ moves_second.counted in omega arith

  abbrev acts : List Action
  acts = drains 0 d.first.state ++ (drains 1 d.second.state ++ (replicate (next.first.state.instret - d.first.state.instret) (Go 0) ++ replicate (next.second.state.instret - d.second.state.instret) (Go 1)))

  next_replays : replay acts (harts_of d) ≡ Some (harts_of next)
  next_replays =
      let s1 : Harts = record { memory = between; first = state_drained d.first.state; second = d.second.state } in
      let s2 : Harts = record { memory = memory; first = state_drained d.first.state; second = state_drained d.second.state } in
      let f : HartState = went_on memory moves_first.k (state_drained d.first.state) in
      let g : HartState = went_on memory moves_second.k (state_drained d.second.state) in
      let s3 : Harts = record { memory = memory; first = f; second = state_drained d.second.state } in
      let s4 : Harts = record { memory = memory; first = f; second = g } in
      let fo = d.first.state in
      let so = d.second.state in
      let p1 : replay (drains 0 fo) (harts_of d) ≡ Some s1 = drains_first d.memory so fo.regs fo.pc fo.output fo.instret fo.end fo.buffer in
      let p2 : replay (drains 1 so) s1 ≡ Some s2 = drains_second between (state_drained fo) so.regs so.pc so.output so.instret so.end so.buffer in
      let p3 : replay (replicate (next.first.state.instret - d.first.state.instret) (Go 0)) s2 ≡ Some s3 =
      ap (λ i. replay (replicate i (Go 0)) s2) counts_first
      ∙ replays memory d.first.config.stores (λ h. record { memory = memory; first = h; second = state_drained so }) (Go 0) (λ h. refl) moves_first.k (state_drained fo) inside_first moves_first.passed in
      let p4 : replay (replicate (next.second.state.instret - d.second.state.instret) (Go 1)) s3 ≡ Some s4 =
      ap (λ i. replay (replicate i (Go 1)) s3) counts_second
      ∙ replays memory d.second.config.stores (λ h. record { memory = memory; first = f; second = h }) (Go 1) (λ h. refl) moves_second.k (state_drained so) inside_second moves_second.passed in
      let fe : f ≡ next.first.state = sym (ap (λ (x : Hart). x.state) first_is ∙ moves_first.state) in
      let ge : g ≡ next.second.state = sym (ap (λ (x : Hart). x.state) second_is ∙ moves_second.state) in
      let me : memory ≡ next.memory = sym next_memory in
      let last : s4 ≡ harts_of next = λ i. record { memory = me i; first = fe i; second = ge i } in
      replay_then (drains 0 fo) _ (harts_of d) s1 (harts_of next) p1
      (replay_then (drains 1 so) _ s1 s2 (harts_of next) p2
      (replay_then (replicate (next.first.state.instret - d.first.state.instret) (Go 0)) _ s2 s3 (harts_of next) p3
      (p4 ∙ ap (λ (s : Harts). Some s) last)))

  pub cycle_over : is_over d ≡ true → duo_cycle_of d a b ≡ d
  unfolding duo_cycle_of
  cycle_over over = rw over refl

  pub cycle_next : is_over d ≡ false → duo_cycle_of d a b ≡ next
  unfolding duo_cycle_of
  cycle_next goes = rw goes refl

  -- ---- one of the two

  pub not_over : (w : Which) → (hart_at w d).state.end ≡ 0 → is_over d ≡ false
  not_over First on = and_left _ _ (and_left _ _ (ap not (eq-eqb d.first.state.end 0 on)))
  not_over Second on = and_right (is_hart_over d.first) _ (and_left _ _ (ap not (eq-eqb d.second.state.end 0 on)))

  -- its count does not fall, and its numbers stay
  pub record Continues (w : Which) (e : Duo) : Type 0 where
    pub count : (hart_at w d).state.instret ≤ (hart_at w e).state.instret
    pub few : CountsFew w d e
    pub config : (hart_at w e).config ≡ (hart_at w d).config

  next_continues : (w : Which) → Continues w next
  next_continues First = record { count = (let e = ap (λ (x : Hart). x.state.instret) first_is ∙ moves_first.counted in omega arith); few = (let e = ap (λ (x : Hart). x.state.instret) first_is ∙ moves_first.counted in let f = moves_first.few in omega arith); config = ap (λ (x : Hart). x.config) first_is ∙ moves_first.config }
  next_continues Second = record { count = (let e = ap (λ (x : Hart). x.state.instret) second_is ∙ moves_second.counted in omega arith); few = (let e = ap (λ (x : Hart). x.state.instret) second_is ∙ moves_second.counted in let f = moves_second.few in omega arith); config = ap (λ (x : Hart). x.config) second_is ∙ moves_second.config }

  next_stalls : (w : Which) → (hart_at w d).state.end ≡ 0 → ((hart_at w d).state.instret < (hart_at w next).state.instret) ⊎ Stalls (machine_at w d) (machine_at w next)
  unfolding duo_drained
  next_stalls First on = stalls_hart d.cycles d.memory memory d.first inv.first inside_first a on
  next_stalls Second on = stalls_hart d.cycles d.memory memory d.second inv.second inside_second b on

  next_cycle : (w : Which) → CyclesAt w d next
  unfolding duo_drained
  next_cycle First = cycle_hart d.cycles d.memory memory d.first inv.first inside_first a
  next_cycle Second = cycle_hart d.cycles d.memory memory d.second inv.second inside_second b

  pub cycles_at : (w : Which) → CyclesAt w d (duo_cycle_of d a b)
  cycles_at w = elim (cases_Bool (is_over d)) [
    | inl over ↦ subst (CyclesAt w d) (sym (cycle_over over)) (over_cycle d over w)
    | inr goes ↦ subst (CyclesAt w d) (sym (cycle_next goes)) (next_cycle w)
  ]

  pub continues : (w : Which) → Continues w (duo_cycle_of d a b)
  continues w = elim (cases_Bool (is_over d)) [
    | inl over ↦ subst (Continues w) (sym (cycle_over over)) (record { count = omega arith; few = omega arith; config = refl })
    | inr goes ↦ subst (Continues w) (sym (cycle_next goes)) (next_continues w)
  ]

  pub counts_few : (w : Which) → CountsFew w d (duo_cycle_of d a b)
  counts_few w = (continues w).few

  pub stalls_at : (w : Which) → (hart_at w d).state.end ≡ 0 → ((hart_at w d).state.instret < (hart_at w (duo_cycle_of d a b)).state.instret) ⊎ Stalls (machine_at w d) (machine_at w (duo_cycle_of d a b))
  stalls_at w on =
      subst (λ (e : Duo). ((hart_at w d).state.instret < (hart_at w e).state.instret) ⊎ Stalls (machine_at w d) (machine_at w e))
      (sym (cycle_next (not_over w on))) (next_stalls w on)

  pub cycles_next : (duo_cycle_of d a b).cycles ≤ d.cycles + 1
  cycles_next = elim (cases_Bool (is_over d)) [
    | inl over ↦ let e = ap (λ (z : Duo). z.cycles) (cycle_over over) in omega arith
    | inr goes ↦ let e = ap (λ (z : Duo). z.cycles) (cycle_next goes) ∙ next_cycles in omega arith
  ]

  pub cycles_more : is_over d ≡ false → (duo_cycle_of d a b).cycles ≡ d.cycles + 1
  cycles_more goes = ap (λ (z : Duo). z.cycles) (cycle_next goes) ∙ next_cycles

  -- ---- the laws

  pub stays : IsDuo (duo_cycle_of d a b)
  stays = elim (cases_Bool (is_over d)) [
    | inl over ↦ subst IsDuo (sym (cycle_over over)) inv
    | inr goes ↦ subst IsDuo (sym (cycle_next goes)) next_keeps
  ]

  pub replays_actions : replay (actions d (duo_cycle_of d a b)) (harts_of d) ≡ Some (harts_of (duo_cycle_of d a b))
  unfolding actions
  replays_actions = elim (cases_Bool (is_over d)) [
    | inl over ↦ rw (cycle_over over, over) refl
    | inr goes ↦ rw (cycle_next goes, goes) next_replays
  ]

  -- where the cycle of a duo that is d led to another
  module _ (c e : Duo) (led : e ≡ duo_cycle_of c a b) (same : c ≡ d) where
    led_here : e ≡ duo_cycle_of d a b
    led_here = led ∙ ap (λ (z : Duo). duo_cycle_of z a b) same

    pub led_stays : IsDuo e
    led_stays = subst IsDuo (sym led_here) stays

    pub led_few : (w : Which) → CountsFew w d e
    led_few w = subst (CountsFew w d) (sym led_here) (counts_few w)

    pub led_cycles : e.cycles ≤ d.cycles + 1
    led_cycles = let n = ap (λ (z : Duo). z.cycles) led_here in let most = cycles_next in omega arith

-- nothing is done where both are over
pub actions_over : (d e : Duo) → is_over d ≡ true → actions d e ≡ []
unfolding actions
actions_over d e over = rw over refl
