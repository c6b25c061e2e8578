-- What holds of a machine holds of it after a cycle.
use Rattle.std.proofs.Common.{◌≡◌, ◌≢◌, ℕ, zero, suc, ◌+◌, ◌-◌, ◌*◌, ◌/◌, ◌≤◌, ◌&&◌, true, List, [], ◌∷◌, ◌++◌, map, take, length, Some, None, ap, sym, arith, ◌⊎◌, inl, inr, subst, length-append, length-take}
use Rattle.std.proofs.lemmas.List.{length-map}
use Rattle.std.specs.Prelude.{nat_lt, is_none}
use Rattle.std.proofs.lemmas.Bool.{cond_both, ltb-true}
use Rattle.diva_isa.specs.State.{State, goes_on}
use Rattle.diva_isa.specs.declared.record.Record.{Record}
use Rattle.diva_isa.specs.Step.{step}
use Rattle.diva_core.specs.declared.flushes.FlushRow.{FlushRow}
use Rattle.diva_core.specs.Timed.{Log, Timed, PendingClaim, room_of, depth, rows_kept}
use Rattle.diva_core.specs.Cycle.{Rule, accepted_in, cycle_of, cycle_under, drained, is_silent, kept}
use Rattle.diva_core.proofs.Phases.{number-least}
use Rattle.diva_core.specs.Machine.{IsMachine, Lives, IsSolo, ArePast}
use Rattle.diva_core.specs.Headline.{SameLog}
use Rattle.diva_core.proofs.Commits.{Commits}
use Rattle.diva_core.proofs.Cycling.{Cycled, Base, idled, ran, barks, differed, ended, finished, waited, taken}
use Rattle.diva_core.proofs.Going.{counted-cases}
use Rattle.diva_core.proofs.Opening.{owed_since}
use Rattle.diva_core.proofs.Outcomes.{any-base, by_cases_under, log-cases}
use Rattle.diva_core.proofs.Passing.{AlonePasses, Keeps, alone_stores, stores_keep}
use Rattle.diva_core.proofs.Stalling.{Paces, paces, stall-cases}
use Rattle.diva_core.proofs.Rows.{AddsRow}

pub ArePast-later : (c d : ℕ) (xs : List PendingClaim) → c ≤ d → ArePast c xs → ArePast d xs
ArePast-later c d [] h a = tt
ArePast-later c d (p ∷ xs) h a = (let e = a.0 in omega arith, ArePast-later c d xs h a.1)

ArePast-append : (c : ℕ) (xs ys : List PendingClaim) → ArePast c xs → ArePast c ys → ArePast c (xs ++ ys)
ArePast-append c [] ys a b = b
ArePast-append c (p ∷ xs) ys a b = (a.0, ArePast-append c xs ys a.1 b)

ArePast-taken : (c : ℕ) (xs : List Record) → ArePast c (map (accepted_in c) xs)
ArePast-taken c [] = tt
ArePast-taken c (p ∷ xs) = (omega arith, ArePast-taken c xs)

pub ArePast-commits : (k : ℕ) (s : State) (c d : ℕ) (xs rest : List PendingClaim) → Commits k s c xs rest → ArePast d xs → ArePast d rest
ArePast-commits zero s c d xs rest h a = subst (ArePast d) (sym h) a
ArePast-commits (suc k) s c d [] rest h a = absurd h
ArePast-commits (suc k) s c d (p ∷ xs) rest h a = ArePast-commits k (step s) c d xs rest h.2 a.1

pub length-commits : (k : ℕ) (s : State) (c : ℕ) (xs rest : List PendingClaim) → Commits k s c xs rest → length rest + k ≡ length xs
length-commits zero s c xs rest h = rw h (omega arith)
length-commits (suc k) s c [] rest h = absurd h
length-commits (suc k) s c (p ∷ xs) rest h = let e = length-commits k (step s) c xs rest h.2 in omega arith

-- what is accepted has room
room-fits : (b : Timed) → room_of b ≤ b.config.window - length b.under.pending
room-fits b = cond_both (is_none b.under.solo && goes_on b.arch) _ _ (λ r. r ≤ b.config.window - length b.under.pending) (λ t. omega arith) (λ f. omega arith)

taken-fits : (b : Timed) (list : List Record) → length (taken b list) ≤ b.config.window - length b.under.pending
taken-fits b list = rw (length-map, length-take) (let h = room-fits b in omega arith)

kept-fits : (rows : List FlushRow) (row : FlushRow) → length rows ≤ rows_kept → length (kept rows row) ≤ rows_kept
kept-fits rows row h = cond_both (nat_lt (length rows) rows_kept) _ _ (λ r. length r ≤ rows_kept) (λ t. rw length-append (let l = ltb-true (length rows) rows_kept t in omega arith)) (λ f. h)

rows-fit : (b n : Timed) → length b.under.log.rows ≤ rows_kept → SameLog b n ⊎ AddsRow b n → length n.under.log.rows ≤ rows_kept
rows-fit b n h (inl s) = rw s h
rows-fit b n h (inr a) = rw a.is.has (kept-fits b.under.log.rows a.row h)

flushes-fit : (b n : Timed) → b.under.log.flushes ≤ b.cycles → n.cycles ≡ b.cycles + 1 → SameLog b n ⊎ AddsRow b n → n.under.log.flushes ≤ n.cycles
flushes-fit b n h c (inl s) = let f = ap (λ (l : Log). l.flushes) s in omega arith
flushes-fit b n h c (inr a) = let f = ap (λ (l : Log). l.flushes) a.is.has in omega arith

silent-fits : (b n : Timed) → b.under.log.silent ≤ b.under.log.flushes → SameLog b n ⊎ AddsRow b n → n.under.log.silent ≤ n.under.log.flushes
silent-fits b n h (inl s) = let f = ap (λ (l : Log). l.flushes) s in let x = ap (λ (l : Log). l.silent) s in omega arith
silent-fits b n h (inr a) = let f = ap (λ (l : Log). l.flushes) a.is.has in let x = ap (λ (l : Log). l.silent) a.is.has in let one = number-least (is_silent a.row.cause) in omega arith

module _ {rule : Rule} where
  count-fits : (b n : Timed) (k : ℕ) → b.count + b.under.undos ≤ b.config.width * b.cycles → Base rule b n k → n.count + n.under.undos ≤ n.config.width * n.cycles
  count-fits b n k h v = rw (v.config, v.cycles, v.counted, v.undos) (let f = v.few in omega arith)

  IsMachine-from :
      (b n : Timed) (k : ℕ)
      → IsMachine b
      → Base rule b n k
      → SameLog b n ⊎ AddsRow b n
      → Lives n n.under.solo
      → ArePast n.cycles n.under.pending
      → length n.under.pending ≤ n.config.window
      → Paces n
      → n.arch.instret ≡ n.count
      → IsMachine n
  IsMachine-from b n k inv v log lives past window pace counted =
      record {
        config = rw v.config inv.config;
        counted = counted;
        lives = lives;
        owed = rw v.config v.owed;
        rows = rows-fit b n inv.rows log;
        past = past;
        window = window;
        flushes = flushes-fit b n inv.flushes v.cycles log;
        silent = silent-fits b n inv.silent log;
        count = count-fits b n k inv.count v;
        pace = pace;
      }

  -- a machine in which nothing waits
  IsMachine-empty : (b n : Timed) (k : ℕ) → IsMachine b → Base rule b n k → SameLog b n ⊎ AddsRow b n → Lives n n.under.solo → n.under.pending ≡ [] → Paces n → n.arch.instret ≡ n.count → IsMachine n
  IsMachine-empty b n k inv v log lives e pace counted = IsMachine-from b n k inv v log lives (subst (ArePast n.cycles) (sym e) tt) (rw e (omega arith)) pace counted

  limit-is : (b n : Timed) (k : ℕ) → Base rule b n k → n.config.limit ≡ b.config.limit
  limit-is b n k v = ap (λ z. z.limit) v.config

  -- a machine that goes on with the rest and what was accepted
  IsMachine-more :
      (b n : Timed) (k : ℕ) (list : List Record) (rest : List PendingClaim)
      → IsMachine b
      → Base rule b n k
      → SameLog b n
      → Lives n n.under.solo
      → n.under.pending ≡ rest ++ taken b list
      → ArePast b.cycles rest
      → length rest ≤ length b.under.pending
      → Paces n
      → n.arch.instret ≡ n.count
      → IsMachine n
  IsMachine-more b n k list rest inv v log lives e past short pace counted =
      IsMachine-from b n k inv v (inl log) lives
      (rw (e, v.cycles) (ArePast-append (b.cycles + 1) rest (taken b list) (ArePast-later b.cycles (b.cycles + 1) rest (omega arith) past) (ArePast-taken (b.cycles + 1) (take (room_of b) list))))
      (rw (e, length-append, v.config) (let t = taken-fits b list in let w = inv.window in omega arith))
      pace counted

  lives-none : (b n : Timed) (k : ℕ) → Base rule b n k → n.under.solo ≡ None → n.under.idle + 1 ≤ b.config.limit → Lives n n.under.solo
  lives-none b n k v none h = subst (Lives n) (sym none) (rw (limit-is b n k v) h)

  lives-flushed : (b n : Timed) (k : ℕ) → Base rule b n k → n.under.solo ≡ Some (b.cycles + 1) → n.under.pending ≡ [] → n.under.idle ≤ b.config.limit → Lives n n.under.solo
  lives-flushed b n k v some e h =
      let c = v.cycles in
      let l = limit-is b n k v in
      let p : n.config.port ≡ b.config.port = ap (λ z. z.port) v.config in
      let o : n.owed ≤ n.config.stores = rw v.config v.owed in
      let none : n.cycles / n.config.port - (b.cycles + 1) / n.config.port ≡ 0 = rw c (omega arith) in
      subst (Lives n) (sym some) (record { empty = e; started = omega arith; soon = omega arith; idled = omega arith; drained = rw none (omega (arith, o)) })

  -- what is owed while an instruction runs solo
  drains : (b n : Timed) (start : ℕ) → IsMachine b → Base rule b n 0 → b.owed ≤ b.config.stores - (b.cycles / b.config.port - start / b.config.port) → n.owed ≤ n.config.stores - (n.cycles / n.config.port - start / n.config.port)
  unfolding drained
  drains b n start inv v h = rw (v.owes, v.config, v.cycles) (owed_since b.config.port b.cycles start b.owed b.config.stores inv.config.port_low inv.config.port_high h)

  machine-cases : (b : Timed) (list : List Record) (n : Timed) → IsMachine b → Cycled rule b list n → Paces n → n.arch.instret ≡ n.count → IsMachine n
  machine-cases b list n inv (idled r) pace counted =
      IsMachine-more b n 0 list b.under.pending inv r.base r.log (lives-none b n 0 r.base r.solo (let e = r.early in omega arith)) r.pending inv.past (omega arith) pace counted
  machine-cases b list n inv (ran r) pace counted =
      let low = inv.config.limit_low in
      let i = r.idle in
      IsMachine-more b n (suc r.k) list r.rest inv r.base r.log (lives-none b n (suc r.k) r.base r.solo (omega arith)) r.pending
      (ArePast-commits (suc r.k) b.arch (b.cycles + 1) b.cycles b.under.pending r.rest r.claims inv.past)
      (let l = length-commits (suc r.k) b.arch (b.cycles + 1) b.under.pending r.rest r.claims in omega arith)
      pace counted
  machine-cases b list n inv (barks r) pace counted =
      let lives : b.under.idle + 1 ≤ b.config.limit = subst (Lives b) r.was inv.lives in
      let i = r.idle in
      IsMachine-empty b n 0 inv r.base (log-cases b list n inv (barks r)) (lives-flushed b n 0 r.base r.solo r.pending (omega arith)) r.pending pace counted
  machine-cases b list n inv (differed r) pace counted =
      let lives : b.under.idle + 1 ≤ b.config.limit = subst (Lives b) r.was inv.lives in
      let i = r.idle in
      IsMachine-empty b n r.k inv r.base (log-cases b list n inv (differed r)) (lives-flushed b n r.k r.base r.solo r.pending (omega arith)) r.pending pace counted
  machine-cases b list n inv (ended r) pace counted =
      let low = inv.config.limit_low in
      let i = r.idle in
      IsMachine-empty b n (suc r.k) inv r.base (inl r.log) (lives-none b n (suc r.k) r.base r.solo (omega arith)) r.pending pace counted
  machine-cases b list n inv (finished r) pace counted =
      let low = inv.config.limit_low in
      let i = r.idle in
      IsMachine-empty b n 1 inv r.base (inl r.log) (lives-none b n 1 r.base r.solo (omega arith)) r.pending pace counted
  machine-cases b list n inv (waited r) pace counted =
      let a : IsSolo b r.start = subst (Lives b) r.since inv.lives in
      let c = r.base.cycles in
      let l = limit-is b n 0 r.base in
      let i = r.idle in
      let started = a.started in
      let soon = a.soon in
      let was = a.idled in
      let early : b.cycles + 1 ≢ r.start + depth = r.early in
      IsMachine-empty b n 0 inv r.base (inl r.log)
      (subst (Lives n) (sym r.solo) (record { empty = r.pending; started = omega arith; soon = omega arith; idled = omega arith; drained = drains b n r.start inv r.base a.drained }))
      r.pending pace counted

  paces-cases : (b : Timed) (list : List Record) (n : Timed) → IsMachine b → goes_on b.arch ≡ true → Cycled rule b list n → Paces n
  paces-cases b list n inv on c = paces b n (any-base b list n c).k inv (any-base b list n c).base (stall-cases b list n inv on c)

pub stays_under : {rule : Rule} (keeps : Keeps rule) (m : Timed) (list : List Record) → IsMachine m → AlonePasses rule m → IsMachine (cycle_under rule m list)
stays_under keeps m list inv passes =
    by_cases_under keeps IsMachine m list inv passes (λ on c. machine-cases m list _ inv c (paces-cases m list _ inv on c) (counted-cases m list _ inv on c)) (λ off. inv)

pub stays : (m : Timed) (list : List Record) → IsMachine m → IsMachine (cycle_of m list)
stays m list inv = stays_under stores_keep m list inv (alone_stores m inv)
