-- How long a machine can be without a commit, and what that says of the pace.
use Rattle.std.proofs.Common.{◌≡◌, ℕ, zero, suc, ◌+◌, ◌-◌, ◌*◌, ◌<◌, ◌≤◌, true, List, Option, Some, None, ap, sym, ◌∙◌, arith, ◌⊎◌, inl, inr, subst}
use Rattle.std.proofs.Math.Nat.{mul-le-mul_right}
use Rattle.diva_isa.specs.declared.record.Record.{Record}
use Rattle.diva_isa.specs.State.{goes_on}
use Rattle.diva_core.specs.Timed.{Timed, depth}
use Rattle.diva_core.specs.Cycle.{Rule, cycle_of, cycle_under}
use Rattle.diva_core.specs.Machine.{IsMachine, Lives, IsSolo, stalled, stalled_since}
use Rattle.diva_core.proofs.Passing.{AlonePasses, Keeps, alone_stores, stores_keep}
use Rattle.diva_core.proofs.Cycling.{Cycled, cycled_under, Base, idled, ran, barks, differed, ended, finished, waited}

stalled-none : (m : Timed) → m.under.solo ≡ None → stalled m ≡ m.under.idle
stalled-none m e = ap (stalled_since m) e

stalled-some : (m : Timed) (start : ℕ) → m.under.solo ≡ Some start → stalled m ≡ m.config.limit + (m.cycles - start)
stalled-some m start e = ap (stalled_since m) e

stalled-most : (m : Timed) (o : Option ℕ) → Lives m o → 16 ≤ m.config.limit → stalled_since m o < m.config.limit + depth
stalled-most m None h low = omega arith
stalled-most m (Some start) h low = let s = h.soon in omega arith

-- a commit, or one cycle more without
pub record Stalls (b n : Timed) : Type 0 where
  pub same : n.count ≡ b.count
  pub on : goes_on n.arch ≡ true
  pub longer : stalled b < stalled n

Stalls-base : {rule : Rule} (b n : Timed) → goes_on b.arch ≡ true → Base rule b n 0 → stalled b < stalled n → Stalls b n
Stalls-base b n on v h = record { same = (let c = v.counted in omega arith); on = ap goes_on v.stepped ∙ on; longer = h }

flushed-longer : (b n : Timed) → IsMachine b → n.config ≡ b.config → b.under.solo ≡ None → n.under.solo ≡ Some (b.cycles + 1) → stalled b < stalled n
flushed-longer b n inv z was some =
    let lives : b.under.idle + 1 ≤ b.config.limit = subst (Lives b) was inv.lives in
    let l : n.config.limit ≡ b.config.limit = ap (λ x. x.limit) z in
    rw (stalled-none b was, stalled-some n (b.cycles + 1) some) (omega arith)

differed-stalls : {rule : Rule} (b n : Timed) (k : ℕ) → IsMachine b → goes_on b.arch ≡ true → Base rule b n k → b.under.solo ≡ None → n.under.solo ≡ Some (b.cycles + 1) → (b.count < n.count) ⊎ Stalls b n
differed-stalls b n zero inv on v was some = inr (Stalls-base b n on v (flushed-longer b n inv v.config was some))
differed-stalls b n (suc k) inv on v was some = inl (let c = v.counted in omega arith)

pub stall-cases : {rule : Rule} (b : Timed) (list : List Record) (n : Timed) → IsMachine b → goes_on b.arch ≡ true → Cycled rule b list n → (b.count < n.count) ⊎ Stalls b n
stall-cases b list n inv on (idled r) = inr (Stalls-base b n on r.base (rw (stalled-none b r.was, stalled-none n r.solo) (let i = r.idle in omega arith)))
stall-cases b list n inv on (ran r) = inl (let c = r.base.counted in omega arith)
stall-cases b list n inv on (barks r) = inr (Stalls-base b n on r.base (flushed-longer b n inv r.base.config r.was r.solo))
stall-cases b list n inv on (differed r) = differed-stalls b n r.k inv on r.base r.was r.solo
stall-cases b list n inv on (ended r) = inl (let c = r.base.counted in omega arith)
stall-cases b list n inv on (finished r) = inl (let c = r.base.counted in omega arith)
stall-cases b list n inv on (waited r) =
    let a : IsSolo b r.start = subst (Lives b) r.since inv.lives in
    let started = a.started in
    let c = r.base.cycles in
    let l : n.config.limit ≡ b.config.limit = ap (λ x. x.limit) r.base.config in
    inr (Stalls-base b n on r.base (rw (stalled-some b r.start r.since, stalled-some n r.start r.solo) (omega arith)))

pub stalls_under : {rule : Rule} (keeps : Keeps rule) (m : Timed) (list : List Record) → IsMachine m → AlonePasses rule m → goes_on m.arch ≡ true
    → (m.count < (cycle_under rule m list).count) ⊎ Stalls m (cycle_under rule m list)
stalls_under keeps m list inv passes on = stall-cases m list _ inv on (cycled_under keeps m list inv on passes)

pub stalls : (m : Timed) (list : List Record) → IsMachine m → goes_on m.arch ≡ true → (m.count < (cycle_of m list).count) ⊎ Stalls m (cycle_of m list)
stalls m list inv = stalls_under stores_keep m list inv (alone_stores m inv)

pub most : (m : Timed) → IsMachine m → stalled m < m.config.limit + depth
most m inv = stalled-most m m.under.solo inv.lives inv.config.limit_low

-- ---- the pace

-- each instruction took so many cycles at most
abbrev pub IsPaced : Timed → Type 0
IsPaced m = m.cycles ≤ m.count * (m.config.limit + depth) + stalled m

-- where no instruction was taken back
abbrev pub Paces : Timed → Type 0
Paces m = m.under.undos ≡ 0 → IsPaced m

pace-rise : (b n : Timed) → IsMachine b → n.config ≡ b.config → n.cycles ≡ b.cycles + 1 → b.count < n.count → IsPaced b → IsPaced n
pace-rise b n inv z c rise h =
    let l : n.config.limit ≡ b.config.limit = ap (λ x. x.limit) z in
    let top = most b inv in
    let p : (b.count + 1) * (b.config.limit + depth) ≤ n.count * (b.config.limit + depth) = mul-le-mul_right (b.config.limit + depth) (let r = rise in omega arith) in
    rw (l, c) (omega arith)

pace_numbers : (cycles count limit stalled cycles' count' limit' stalled' : ℕ) → limit' ≡ limit → cycles' ≡ cycles + 1 → count' ≡ count → stalled < stalled' → cycles ≤ count * (limit + depth) + stalled → cycles' ≤ count' * (limit' + depth) + stalled'
pace_numbers cycles count limit stalled cycles' count' limit' stalled' l c n s h = rw (l, c, n) (omega arith)

pace-stall : (b n : Timed) → n.config ≡ b.config → n.cycles ≡ b.cycles + 1 → Stalls b n → IsPaced b → IsPaced n
pace-stall b n z c s h = pace_numbers b.cycles b.count b.config.limit (stalled b) n.cycles n.count n.config.limit (stalled n) (ap (λ x. x.limit) z) c s.same s.longer h

pub paces : {rule : Rule} (b n : Timed) (k : ℕ) → IsMachine b → Base rule b n k → (b.count < n.count) ⊎ Stalls b n → Paces n
paces b n k inv v (inl rise) none = pace-rise b n inv v.config v.cycles rise (inv.pace (sym v.undos ∙ none))
paces b n k inv v (inr s) none = pace-stall b n v.config v.cycles s (inv.pace (sym v.undos ∙ none))
