-- How fast a machine goes that `Scalar` drives, where its port takes a store in each cycle; that it is not flushed, whatever
-- its port.
use Rattle.std.proofs.Common.{◌≡◌, ◌<◌, ◌≤◌, ℕ, zero, suc, ◌+◌, ◌-◌, ◌%◌, Bool, true, false, List, [], ◌∷◌, ◌++◌, length, map, take, refl, ap, sym, ◌∙◌, arith, subst, length-append, inl, inr, ◌⊎◌, if◌then◌else◌, ◌&&◌}
use Rattle.std.specs.Prelude.{nat_lt}
use Rattle.std.proofs.lemmas.List.{append-nil}
use Rattle.std.proofs.lemmas.Bool.{cases_Bool, lt-ltb, true≢false}
use Rattle.std.proofs.lemmas.Option.{none-some}
use Rattle.diva_isa.specs.State.{State, goes_on}
use Rattle.diva_isa.specs.Step.{record_of, step, steps}
use Rattle.diva_isa.specs.declared.record.Record.{Record}
use Rattle.diva_core.specs.Timed.{Log, Timed, Config, PendingClaim, new_timed, room_of, depth}
use Rattle.diva_core.specs.Cycle.{accepted_in, cycle_of, run_of, stores_wait}
use Rattle.diva_core.specs.History.{FollowRule, IsHistory, Meaning, lists_of}
use Rattle.diva_core.specs.Machine.{IsMachine, IsConfig}
use Rattle.diva_core.specs.Right.{IsCalmRunning, IsRight}
use Rattle.diva_core.proofs.Commits.{Commits}
use Rattle.diva_core.proofs.Steps.{steps-add}
use Rattle.diva_core.proofs.Cycling.{Base, Cycled, cycled, barks, differed, ended, finished, idled, ran, taken, waited}
use Rattle.diva_core.proofs.Keeping.{length-commits, stays}
use Rattle.diva_core.proofs.Calming.{NotYet, due_from, no-difference, not-yet, stays_calm, wait-least}
use Rattle.diva_core.proofs.Listing.{new_calm, run_calm}
use Rattle.diva_core.proofs.Reaching.{run-off}
use Rattle.diva_core.proofs.Starting.{new-machine}
use Rattle.diva_core.proofs.Turning.{IsHistory-run}
use Rattle.diva_ahead.specs.Ahead.{Ahead}
use Rattle.diva_tape.specs.Scalar.{IsScalarCall, new_scalar, scalar_list}
use Rattle.diva_tape.proofs.Following.{new_leads, scalar_history, scalar_history_right}
use Rattle.diva_tape.proofs.Righting.{scalar_right}

-- claims that were accepted in successive cycles, the first in c
abbrev AreSuccessive : ℕ → List PendingClaim → Type 0
AreSuccessive c [] = Unit {0}
AreSuccessive c (p ∷ rest) = (p.cycle ≡ c) × AreSuccessive (c + 1) rest

-- a claim was accepted in each cycle so far, or those that are pending end the machine
abbrev Leads : Timed → Type 0
Leads m = (m.count + length m.under.pending ≡ m.cycles) ⊎ (goes_on (steps (length m.under.pending) m.arch) ≡ false)

-- the claim of instruction k was accepted in cycle k
record Queue (m : Timed) : Type 0 where
  successive : AreSuccessive (m.count + 1) m.under.pending
  leads : Leads m

-- a machine that goes on has counted an instruction in each cycle but the first six; its port takes a store in each cycle
record Paced (m : Timed) : Type 0 where
  calm : IsCalmRunning m
  port : m.config.port ≡ 1
  count : m.count ≡ m.cycles - depth
  queue : Queue m

-- ---- one claim more

successive_more : (c d : ℕ) (xs : List PendingClaim) (r : Record) → AreSuccessive c xs → c + length xs ≡ d → AreSuccessive c (xs ++ accepted_in d r ∷ [])
successive_more c d [] r h e = let here : d ≡ c = omega arith in (here, tt)
successive_more c d (p ∷ xs) r h e = (h.0, successive_more (c + 1) d xs r h.1 (omega arith))

and_off : (b : Bool) → (b && false) ≡ false
and_off true = refl
and_off false = refl

list_off : (b : Timed) → goes_on (steps (length b.under.pending) b.arch) ≡ false → scalar_list b ≡ []
list_off b off =
    let r : Record = record_of (steps (length b.under.pending) b.arch) in
    ap (λ (on : Bool). if nat_lt 0 (room_of b) && on then r ∷ [] else []) off ∙ ap (λ (both : Bool). if both then r ∷ [] else []) (and_off (nat_lt 0 (room_of b)))

list_on : (b : Timed) → 0 < room_of b → goes_on (steps (length b.under.pending) b.arch) ≡ true → scalar_list b ≡ record_of (steps (length b.under.pending) b.arch) ∷ []
list_on b some on =
    let r : Record = record_of (steps (length b.under.pending) b.arch) in
    ap (λ (on : Bool). if nat_lt 0 (room_of b) && on then r ∷ [] else []) on ∙ ap (λ (room : Bool). if room && true then r ∷ [] else []) (lt-ltb 0 (room_of b) some)

take_none : (n : ℕ) → take {A = Record} n [] ≡ []
take_none zero = refl
take_none (suc n) = refl

take_one : (n : ℕ) (r : Record) → 0 < n → take n (r ∷ []) ≡ r ∷ []
take_one zero r some = absurd (omega arith)
take_one (suc n) r some = ap (λ (xs : List Record). r ∷ xs) (take_none n)

-- six claims are pending at most, so there is room
room_left : (b : Timed) → IsMachine b → goes_on b.arch ≡ true → Paced b → b.count + length b.under.pending ≡ b.cycles → 0 < room_of b
room_left b inv on p e =
    let width = inv.config.width_low in
    let window = inv.config.window_low in
    let count = p.count in
    rw (p.calm.running, on) (omega arith)

-- ---- one cycle

module _ (b n : Timed) (list : List Record) (rest : List PendingClaim) (inv : IsMachine b) (on : goes_on b.arch ≡ true) (p : Paced b) (rule : list ≡ scalar_list b) (next : n.cycles ≡ b.cycles + 1)
    (same : n.count + length rest ≡ b.count + length b.under.pending) (far : steps (length rest) n.arch ≡ steps (length b.under.pending) b.arch)
    (successive : AreSuccessive (n.count + 1) rest) (pending : n.under.pending ≡ rest ++ taken b list) where
  -- nothing is handed over behind an end
  queue_off : goes_on (steps (length b.under.pending) b.arch) ≡ false → Queue n
  queue_off off =
      let none : take (room_of b) list ≡ [] = ap (take (room_of b)) (rule ∙ list_off b off) ∙ take_none (room_of b) in
      let is : n.under.pending ≡ rest = pending ∙ ap (λ (xs : List Record). rest ++ map (accepted_in (b.cycles + 1)) xs) none ∙ append-nil rest in
      record {
        successive = subst (AreSuccessive (n.count + 1)) (sym is) successive;
        leads = inr (ap (λ (xs : List PendingClaim). goes_on (steps (length xs) n.arch)) is ∙ ap goes_on far ∙ off);
      }

  queue_on : b.count + length b.under.pending ≡ b.cycles → goes_on (steps (length b.under.pending) b.arch) ≡ true → Queue n
  queue_on leads going =
      let some : 0 < room_of b = room_left b inv on p leads in
      let r : Record = record_of (steps (length b.under.pending) b.arch) in
      let one : take (room_of b) list ≡ r ∷ [] = ap (take (room_of b)) (rule ∙ list_on b some going) ∙ take_one (room_of b) r some in
      let is : n.under.pending ≡ rest ++ accepted_in (b.cycles + 1) r ∷ [] = pending ∙ ap (λ (xs : List Record). rest ++ map (accepted_in (b.cycles + 1)) xs) one in
      let long : length n.under.pending ≡ length rest + 1 = ap length is ∙ length-append rest (accepted_in (b.cycles + 1) r ∷ []) in
      record {
        successive = subst (AreSuccessive (n.count + 1)) (sym is) (successive_more (n.count + 1) (b.cycles + 1) rest r successive (omega arith));
        leads = inl (omega arith);
      }

  queue_after : Queue n
  queue_after =
      elim p.queue.leads [
        | inr off ↦ queue_off off
        | inl leads ↦ elim (cases_Bool (goes_on (steps (length b.under.pending) b.arch))) [ inl going ↦ queue_on leads going | inr off ↦ queue_off off ]
      ]

-- the front claim is ready where a claim commits
front_ready : (k : ℕ) (s : State) (c count : ℕ) (xs rest : List PendingClaim) → Commits (suc k) s c xs rest → AreSuccessive (count + 1) xs → count + (depth + 1) ≤ c
front_ready k s c count [] rest h a = absurd h
front_ready k s c count (p ∷ xs) rest h a = let ready = h.1 in let at = a.0 in omega arith

-- and no other one is
one_commits : (k : ℕ) (s : State) (c count : ℕ) (xs rest : List PendingClaim) → Commits (suc k) s c xs rest → AreSuccessive (count + 1) xs → c ≤ count + (depth + 1) → k ≡ 0
one_commits zero s c count xs rest h a most = refl
one_commits (suc k) s c count [] rest h a most = absurd h
one_commits (suc k) s c count (p ∷ xs) rest h a most = let second = front_ready k (step s) c (count + 1) xs rest h.2 a.1 in absurd (omega arith)

tail_successive : (s : State) (c d : ℕ) (xs rest : List PendingClaim) → Commits 1 s c xs rest → AreSuccessive d xs → AreSuccessive (d + 1) rest
tail_successive s c d [] rest h a = absurd h
tail_successive s c d (p ∷ xs) rest h a = subst (AreSuccessive (d + 1)) (sym h.2) a.1

-- a commit is of one claim, in the sixth cycle behind that in which it was accepted
record Commits1 (b n : Timed) (rest : List PendingClaim) : Type 0 where
  claims : Commits 1 b.arch (b.cycles + 1) b.under.pending rest
  counted : n.count ≡ b.count + 1
  stepped : n.arch ≡ steps 1 b.arch
  sixth : b.count + depth ≡ b.cycles

one_only : (b n : Timed) (rest : List PendingClaim) (k : ℕ) → Paced b → Base stores_wait b n (suc k) → Commits (suc k) b.arch (b.cycles + 1) b.under.pending rest → Commits1 b n rest
one_only b n rest k p base claims =
    let count = p.count in
    let ready = front_ready k b.arch (b.cycles + 1) b.count b.under.pending rest claims p.queue.successive in
    let one : k ≡ 0 = one_commits k b.arch (b.cycles + 1) b.count b.under.pending rest claims p.queue.successive (omega arith) in
    let counted = base.counted in
    record {
      claims = subst (λ (j : ℕ). Commits (suc j) b.arch (b.cycles + 1) b.under.pending rest) one claims;
      counted = omega arith;
      stepped = base.stepped ∙ ap (λ (j : ℕ). steps (suc j) b.arch) one;
      sixth = omega arith;
    }

-- what is so after a cycle
abbrev Goes : Timed → Type 0
Goes n = (goes_on n.arch ≡ true → Paced n) × (goes_on n.arch ≡ false → n.cycles ≡ n.count + depth)

-- its port opens in each cycle
opens : (c p : ℕ) → p ≡ 1 → c % p ≡ 0
opens c p one = rw one (omega arith)

-- where nothing was judged, fewer than six cycles have run
still_early : (b : Timed) → goes_on b.arch ≡ true → Paced b → NotYet b b.under.pending → b.cycles < depth
still_early b on p late = by_pending b.under.pending refl
  where
    no_end : (off : goes_on b.arch ≡ false) → b.cycles < depth
    no_end off = absurd (true≢false (sym on ∙ off))

    by_pending : (xs : List PendingClaim) → b.under.pending ≡ xs → b.cycles < depth
    by_pending [] e =
        elim p.queue.leads [
          | inl leads ↦ let none : length b.under.pending ≡ 0 = ap length e in let count = p.count in omega arith
          | inr off ↦ no_end (ap (λ (xs : List PendingClaim). goes_on (steps (length xs) b.arch)) (sym e) ∙ off)
        ]
    by_pending (q ∷ xs) e =
        let young : b.cycles + 1 < q.cycle + depth =
        elim (late q xs e) [ inl y ↦ y | inr closed ↦ absurd (closed (opens (b.cycles + 1) b.config.port p.port)) ] in
        let at = (subst (AreSuccessive (b.count + 1)) e p.queue.successive).0 in
        let count = p.count in
        omega arith

goes : (b n : Timed) (list : List Record) → IsMachine b → goes_on b.arch ≡ true → Paced b → list ≡ scalar_list b → (goes_on n.arch ≡ true → IsCalmRunning n) → Cycled stores_wait b list n → Goes n
goes b n list inv on p rule calm (idled r) =
    let next = r.base.cycles in
    let counted = r.base.counted in
    let count = p.count in
    let early = still_early b on p (not-yet b inv r.was r.unjudged) in
    let as_before : n.count ≡ b.count = omega arith in (
      λ still. record {
        calm = calm still;
        port = ap (λ z. z.port) r.base.config ∙ p.port;
        count = omega arith;
        queue = queue_after b n list b.under.pending inv on p rule next (omega arith) (ap (steps (length b.under.pending)) r.base.stepped)
            (subst (λ (c : ℕ). AreSuccessive (c + 1) b.under.pending) (sym as_before) p.queue.successive) r.pending;
      },
      λ off. absurd (true≢false (sym on ∙ ap goes_on (sym r.base.stepped) ∙ off)),
    )
goes b n list inv on p rule calm (ran r) =
    let next = r.base.cycles in
    let one = one_only b n r.rest r.k p r.base r.claims in
    let counted = one.counted in
    let sixth = one.sixth in
    let fewer = length-commits 1 b.arch (b.cycles + 1) b.under.pending r.rest one.claims in
    let long : 1 + length r.rest ≡ length b.under.pending = omega arith in
    let far : steps (length r.rest) n.arch ≡ steps (length b.under.pending) b.arch =
    ap (steps (length r.rest)) one.stepped ∙ sym (steps-add 1 (length r.rest) b.arch) ∙ ap (λ (j : ℕ). steps j b.arch) long in
    let successive : AreSuccessive (n.count + 1) r.rest =
    subst (λ (c : ℕ). AreSuccessive (c + 1) r.rest) (sym counted) (tail_successive b.arch (b.cycles + 1) (b.count + 1) b.under.pending r.rest one.claims p.queue.successive) in (
      λ still. record {
        calm = calm still;
        port = ap (λ z. z.port) r.base.config ∙ p.port;
        count = omega arith;
        queue = queue_after b n list r.rest inv on p rule next (omega arith) far successive r.pending;
      },
      λ off. absurd (true≢false (sym r.on ∙ off)),
    )
goes b n list inv on p rule calm (barks r) =
    absurd (let w = p.calm.waits in let two = wait-least b b.under.pending inv.config (not-yet b inv r.was r.unjudged) in let i = r.idle in let late = r.late in omega arith)
goes b n list inv on p rule calm (differed r) = absurd (no-difference b n r (due_from _ _ p.calm.claims))
goes b n list inv on p rule calm (ended r) =
    let next = r.base.cycles in
    let one = one_only b n r.rest r.k p r.base r.claims in
    let counted = one.counted in
    let sixth = one.sixth in
    (λ still. absurd (true≢false (sym still ∙ r.off)), λ off. omega arith)
goes b n list inv on p rule calm (finished r) = absurd (none-some _ (sym p.calm.running ∙ r.since))
goes b n list inv on p rule calm (waited r) = absurd (none-some _ (sym p.calm.running ∙ r.since))

-- ---- a run

-- how far a machine has come
abbrev IsPaced : Timed → Type 0
IsPaced last = (goes_on last.arch ≡ true → last.count ≡ last.cycles - depth) × (goes_on last.arch ≡ false → last.cycles ≡ last.count + depth)

run_paced : (lists : List (List Record)) (m : Timed) → IsMachine m → goes_on m.arch ≡ true → Paced m → FollowRule scalar_list m lists → IsPaced (run_of m lists)
run_paced [] m inv on p h = (λ still. p.count, λ off. absurd (true≢false (sym on ∙ off)))
run_paced (list ∷ rest) m inv on p h =
    let right = subst (IsRight m) (sym h.0) (scalar_right m) in
    let calm = (stays_calm m list inv (λ still. p.calm) right).calm in
    let after : Goes (cycle_of m list) = goes m (cycle_of m list) list inv on p h.0 calm (cycled m list inv on) in
    elim (cases_Bool (goes_on (cycle_of m list).arch)) [
      | inl still ↦ run_paced rest (cycle_of m list) (stays m list inv) still (after.0 still) h.1
      | inr off ↦ subst IsPaced (sym (run-off rest (cycle_of m list) off)) (λ still. absurd (true≢false (sym still ∙ off)), after.1)
    ]

new_paced : (z : Config) (s : State) → IsConfig z → z.port ≡ 1 → goes_on s ≡ true → Paced (new_timed z s)
new_paced z s ok port on = record { calm = new_calm z s ok on; port = port; count = refl; queue = record { successive = tt; leads = inl refl } }

-- a new machine under a new Scalar
paced : (z : Config) (s : State) (last : Timed) (after : Ahead) (history : List (List Record × Ahead)) → IsConfig z → z.port ≡ 1 → s.instret ≡ 0 → goes_on s ≡ true
    → IsHistory IsScalarCall (new_timed z s) new_scalar history last after → IsPaced last
paced z s last after history ok port none on h =
    let m : Timed = new_timed z s in
    subst IsPaced (sym (IsHistory-run IsScalarCall m new_scalar history last after h))
    (run_paced (lists_of history) m (new-machine z s ok none) on (new_paced z s ok port on) (scalar_history m last new_scalar after history (new_leads z s ok none) h))

-- a history that leads to a machine that goes on began at one
began : {C : Type 0} (gives : Meaning C) (m : Timed) (core : C) (history : List (List Record × C)) (last : Timed) (final : C) → IsHistory gives m core history last final → goes_on last.arch ≡ true → goes_on m.arch ≡ true
began gives m core [] last final h on = ap (λ (n : Timed). goes_on n.arch) (sym h.0) ∙ on
began gives m core (turn ∷ rest) last final h on = h.0

pub scalar_runs : (z : Config) (s : State) (last : Timed) (after : Ahead) (history : List (List Record × Ahead)) → IsConfig z → z.port ≡ 1 → s.instret ≡ 0
    → IsHistory IsScalarCall (new_timed z s) new_scalar history last after → goes_on last.arch ≡ true → last.count ≡ last.cycles - depth
scalar_runs z s last after history ok port none h on =
    (paced z s last after history ok port none (began IsScalarCall (new_timed z s) new_scalar history last after h on) h).0 on

pub scalar_ends : (z : Config) (s : State) (last : Timed) (after : Ahead) (history : List (List Record × Ahead)) → IsConfig z → z.port ≡ 1 → s.instret ≡ 0 → goes_on s ≡ true
    → IsHistory IsScalarCall (new_timed z s) new_scalar history last after → goes_on last.arch ≡ false → last.cycles ≡ last.count + depth
scalar_ends z s last after history ok port none on h off = (paced z s last after history ok port none on h).1 off

pub scalar_unflushed : (z : Config) (s : State) (last : Timed) (after : Ahead) (history : List (List Record × Ahead)) → IsConfig z → s.instret ≡ 0
    → IsHistory IsScalarCall (new_timed z s) new_scalar history last after → last.under.log.flushes ≡ 0
scalar_unflushed z s last after history ok none h =
    let m : Timed = new_timed z s in
    ap (λ (n : Timed). n.under.log.flushes) (IsHistory-run IsScalarCall m new_scalar history last after h)
    ∙ ap (λ (l : Log). l.flushes) (run_calm m (lists_of history) (new-machine z s ok none) (new_calm z s ok) (scalar_history_right m last new_scalar after history (new_leads z s ok none) h)).log
