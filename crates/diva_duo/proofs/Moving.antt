-- A cycle of one hart: how it goes, what it leaves to the buffer, and what holds after it.
use Rattle.std.proofs.Common.{◌≡◌, ℕ, ◌+◌, ◌-◌, ◌*◌, ◌/◌, ◌%◌, ◌<◌, ◌≤◌, ◌==◌, Bool, true, false, ◌||◌, List, ◌++◌, length, Option, Some, None, refl, ap, sym, ◌∙◌, arith, subst, ◌⊎◌, inl, inr, if◌then◌else◌}
use Rattle.std.specs.Prelude.{flat_map}
use Rattle.std.proofs.lemmas.Bool.{and_right, eq-eqb, ne_eqb}
use Rattle.std.proofs.lemmas.List.{length-drop}
use Rattle.diva_memory.specs.Bytes.{Bytes}
use Rattle.diva_isa.specs.State.{State, goes_on}
use Rattle.diva_isa.specs.declared.record.Record.{Record}
use Rattle.diva_isa.specs.Step.{record_of}
use Rattle.diva_core.specs.Timed.{Timed, depth}
use Rattle.diva_core.specs.Cycle.{Rule, accepts, begun, cycle_under, drained, phases_under, stores_wait, watched}
use Rattle.diva_core.specs.Machine.{IsMachine, Lives, IsSolo, stalled, stalled_since}
use Rattle.diva_core.specs.Headline.{dues}
use Rattle.diva_core.specs.HartCycle.{IsHartCycle}
use Rattle.diva_core.proofs.Passing.{AlonePasses, Keeps, Passed, owed_after}
use Rattle.diva_core.proofs.Cycling.{Cycled, cycled_under}
use Rattle.diva_core.proofs.Outcomes.{AnyBase, any-base, k-is}
use Rattle.diva_core.proofs.Promising.{hart_cycle_by}
use Rattle.diva_core.proofs.Stalling.{Stalls, stalls_under}
use Rattle.diva_core.proofs.Keeping.{stays_under}
use Rattle.diva_commit.specs.Committing.{AreInside, buffered}
use Rattle.diva_hart.specs.HartArch.{HartState, hart_in, seen}
use Rattle.diva_duo.specs.Rules.{fence_waits, fences_wait, is_fence}
use Rattle.diva_duo.specs.Duo.{Hart, timed, moved, drained_hart, hart_cycle}
use Rattle.diva_duo.specs.Between.{IsHart}
use Rattle.diva_duo.proofs.Replaying.{Goes, goes_by, went_on}
use Rattle.diva_duo.proofs.Owing.{cycle_owing}

-- ---- the rule of two harts

or_left : (a b : Bool) → (a || b) ≡ false → a ≡ false
or_left true b e = absurd (cc)
or_left false b e = refl

pub fences_keep : Keeps fences_wait
fences_keep =
    record {
      room = λ stores owed r free. or_left (stores_wait stores owed r) (fence_waits owed r) free;
      empty = λ stores r low.
          let e : stores_wait stores 0 r ≡ false = and_right _ _ (ne_eqb 0 stores (λ z. omega arith)) in
          let f : fence_waits 0 r ≡ false = and_right (is_fence r) false refl in
          rw (e, f) refl;
    }

-- a port of 1 opens in each cycle
opens : (c p : ℕ) → p ≡ 1 → (c % p == 0) ≡ true
opens c p one = rw one (eq-eqb (c % 1) 0 (omega arith))

-- so nothing is owed where a solo instruction commits
none_owed : (p c start owed stores : ℕ) → p ≡ 1 → stores ≤ 6 → c + 1 ≡ start + 6 → owed ≤ stores - (c / p - start / p) → owed - 1 ≡ 0
none_owed p c start owed stores one high sixth h =
    let few : owed ≤ stores - (c / 1 - start / 1) = subst (λ q. owed ≤ stores - (c / q - start / q)) one h in
    omega arith

-- ---- a machine that sees other memory, and owes no more stores

lives_same : (m : Timed) (s : State) (o : ℕ) (solo : Option ℕ) → o ≤ m.owed → Lives m solo → Lives (record m { arch = s; owed = o }) solo
lives_same m s o None few h = h
lives_same m s o (Some start) few h =
    record { empty = h.empty; started = h.started; soon = h.soon; idled = h.idled; drained = (let d = h.drained in omega arith) }

stalled_same : (m : Timed) (s : State) (o : ℕ) (solo : Option ℕ) → stalled_since m solo ≡ stalled_since (record m { arch = s; owed = o }) solo
stalled_same m s o None = refl
stalled_same m s o (Some start) = refl

pub other_memory : (m : Timed) (s : State) (o : ℕ) → o ≤ m.owed → s.instret ≡ m.arch.instret → IsMachine m → IsMachine (record m { arch = s; owed = o })
other_memory m s o few counts inv =
    record {
      config = inv.config;
      counted = counts ∙ inv.counted;
      lives = lives_same m s o m.under.solo few inv.lives;
      owed = (let h = inv.owed in omega arith);
      rows = inv.rows;
      past = inv.past;
      window = inv.window;
      flushes = inv.flushes;
      silent = inv.silent;
      count = inv.count;
      pace = λ none. subst (λ k. m.cycles ≤ m.count * (m.config.limit + depth) + k) (stalled_same m s o m.under.solo) (inv.pace none);
    }

-- the cycle is phase 1 and then the others
phases_cycle : (rule : Rule) (b : Timed) (list : List Record) → goes_on b.arch ≡ true → cycle_under rule b list ≡ phases_under rule (drained (begun b)) (drained (begun b)) list
unfolding cycle_under accepts watched drained
phases_cycle rule b list on = rw on refl

-- ---- a hart that goes on

-- a hart after a cycle, by its number of commits
pub record Moves (cycles : ℕ) (memory : Bytes) (list : List Record) (h : Hart) : Type 0 where
  pub k : ℕ
  pub counted : (hart_cycle cycles memory list h).state.instret ≡ h.state.instret + k
  pub state : (hart_cycle cycles memory list h).state ≡ went_on memory k h.state
  pub passed : Passed fences_wait h.config.stores k (seen memory h.state) (length h.state.buffer)
  pub few : k ≤ h.config.width
  pub config : (hart_cycle cycles memory list h).config ≡ h.config

module _ (now : ℕ) (before memory : Bytes) (h : Hart) (inv : IsHart now before h) (inside : AreInside memory (drained_hart h).state.buffer) (list : List Record) where
  abbrev d : Hart
  d = drained_hart h

  abbrev m : Timed
  m = timed (now + 1) memory d

  -- the same before its oldest store has gone to memory
  abbrev b : Timed
  b = record (timed now memory d) { owed = length h.state.buffer }

  abbrev n : Timed
  n = phases_under fences_wait m m list

  module _ (on : h.state.end ≡ 0) where
    going : goes_on b.arch ≡ true
    going = eq-eqb h.state.end 0 on

    sound : IsMachine b
    sound =
        let was : IsMachine (timed now before h) = subst (λ a. IsMachine (timed a before h)) (inv.running on) inv.machine in
        other_memory (timed now before h) (seen memory d.state) (length h.state.buffer) (omega arith) refl was

    same : drained (begun b) ≡ m
    unfolding drained
    same =
        ap (λ (t : Bool). record m { owed = if t then length h.state.buffer - 1 else length h.state.buffer }) (opens (now + 1) h.config.port inv.port)
        ∙ ap (λ o. record m { owed = o }) (sym (length-drop 1 h.state.buffer))

    alone_passes : AlonePasses fences_wait b
    alone_passes start some sixth =
        let alone : IsSolo b start = subst (Lives b) some sound.lives in
        let none : length h.state.buffer - 1 ≡ 0 = none_owed h.config.port now start (length h.state.buffer) h.config.stores inv.port sound.config.stores_high sixth alone.drained in
        let owes : (drained (begun b)).owed ≡ 0 = ap (λ (z : Timed). z.owed) same ∙ length-drop 1 h.state.buffer ∙ none in
        ap (λ o. fences_wait b.config.stores o (record_of b.arch)) owes ∙ fences_keep.empty b.config.stores (record_of b.arch) sound.config.stores_low

    is : cycle_under fences_wait b list ≡ n
    is = phases_cycle fences_wait b list going ∙ ap (λ (z : Timed). phases_under fences_wait z z list) same

    how : Cycled fences_wait b list n
    how = subst (Cycled fences_wait b list) is (cycled_under fences_keep b list sound going alone_passes)

    any : AnyBase fences_wait b n
    any = any-base b list n how

    owes_now : (drained (begun b)).owed ≡ length d.state.buffer
    owes_now = ap (λ (z : Timed). z.owed) same

    passes : Passed fences_wait h.config.stores any.k (seen memory d.state) (length d.state.buffer)
    passes = subst (λ o. Passed fences_wait h.config.stores any.k (seen memory d.state) o) owes_now any.base.passed

    gone_on : Goes memory any.k d.state
    gone_on = goes_by memory h.config.stores any.k d.state inside passes

    cycle_is : hart_cycle (now + 1) memory list d ≡ moved m n d.state.buffer
    unfolding hart_cycle
    cycle_is = rw (eq-eqb h.state.end 0 on) refl

    state_is : (moved m n d.state.buffer).state ≡ went_on memory any.k d.state
    state_is =
        let k : n.count - m.count ≡ any.k = k-is b n any.k any.base in
        ap (λ i. hart_in n.arch (d.state.buffer ++ flat_map buffered (dues i m.arch))) k
        ∙ ap (λ (s : State). hart_in s (d.state.buffer ++ flat_map buffered (dues any.k m.arch))) any.base.stepped

    after : IsMachine n
    after = subst IsMachine is (stays_under fences_keep b list sound alone_passes)

    -- the hart is again what the phases came to
    timed_is : timed (now + 1) memory (moved m n d.state.buffer) ≡ n
    timed_is =
        let sees : seen memory (moved m n d.state.buffer).state ≡ n.arch = ap (seen memory) state_is ∙ gone_on.sees ∙ sym any.base.stepped in
        let owes : length (moved m n d.state.buffer).state.buffer ≡ n.owed =
        ap (λ (o : HartState). length o.buffer) state_is ∙ gone_on.owes ∙ ap (owed_after any.k (seen memory d.state)) (sym owes_now) ∙ sym any.base.owes in
        let c : now + 1 ≡ n.cycles = sym any.base.cycles in
        let counts : n.arch.instret ≡ n.count = after.counted in
        λ i. record n { arch = sees i; owed = owes i; cycles = c i; count = counts i }

    after_is : timed (now + 1) memory (hart_cycle (now + 1) memory list d) ≡ n
    after_is = ap (timed (now + 1) memory) cycle_is ∙ timed_is

    pub moves_on : Moves (now + 1) memory list d
    moves_on =
        record {
          k = any.k;
          counted = ap (λ (x : Hart). x.state.instret) cycle_is ∙ after.counted ∙ any.base.counted;
          state = ap (λ (x : Hart). x.state) cycle_is ∙ state_is;
          passed = passes;
          few = any.base.few;
          config = ap (λ (x : Hart). x.config) cycle_is ∙ any.base.config;
        }

    pub keeps_on : IsHart (now + 1) memory (hart_cycle (now + 1) memory list d)
    keeps_on =
        subst (IsHart (now + 1) memory) (sym cycle_is) (record {
          at = now + 1;
          within = omega arith;
          running = λ e. refl;
          machine = subst IsMachine (sym timed_is) after;
          port = ap (λ z. z.port) any.base.config ∙ inv.port;
          undos = any.base.undos ∙ inv.undos;
          inside = subst (λ (o : HartState). AreInside memory o.buffer) (sym state_is) gone_on.inside;
        })

    -- it commits, or it stalls one cycle more
    stalls_on : (b.count < n.count) ⊎ Stalls b n
    stalls_on =
        subst (λ (z : Timed). (b.count < z.count) ⊎ Stalls b z) is
        (stalls_under fences_keep b list sound alone_passes going)

    pub stalls_hart : (h.state.instret < (hart_cycle (now + 1) memory list d).state.instret) ⊎ Stalls (timed now before h) (timed (now + 1) memory (hart_cycle (now + 1) memory list d))
    stalls_hart =
        elim stalls_on [
          | inl more ↦ inl (subst (λ (z : Timed). h.state.instret < z.count) (sym after_is) more)
          | inr s ↦ inr (subst (λ (z : Timed). Stalls (timed now before h) z) (sym after_is) (record {
            same = s.same;
            on = s.on;
            longer = subst (λ k. k < stalled n) (sym (stalled_same (timed now before h) (seen memory d.state) (length h.state.buffer) h.under.solo)) s.longer;
          }))
        ]

    -- what its cycle promises, told from the machine as it is judged
    pub cycle_on : (let last = timed (now + 1) memory (hart_cycle (now + 1) memory list d) in
        IsHartCycle (timed now memory d) last (dues (last.count - (timed now memory d).count) (timed now memory d).arch))
    cycle_on =
        subst (λ (z : Timed). IsHartCycle (timed now memory d) z (dues (z.count - (timed now memory d).count) (timed now memory d).arch)) (sym after_is)
        (cycle_owing b n (length d.state.buffer) _ (hart_cycle_by b list n sound how))
