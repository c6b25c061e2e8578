-- The laws of a cycle.
use Rattle.std.proofs.Common.{◌≡◌, ℕ, zero, suc, ◌+◌, ◌-◌, ◌≤◌, true, false, List, [], ◌∷◌, Some, slice_get, refl, ap, sym, ◌∙◌, arith, ◌⊎◌, inl, inr, subst}
use Rattle.std.proofs.lemmas.Bool.{cases_Bool}
use Rattle.diva_isa.specs.declared.record.Record.{Record}
use Rattle.diva_isa.specs.Step.{record_of, step, steps}
use Rattle.diva_core.specs.Difference.{first_difference}
use Rattle.diva_isa.specs.State.{State, goes_on}
use Rattle.diva_core.specs.Timed.{Timed, PendingClaim}
use Rattle.diva_core.specs.Cycle.{Rule, cycle_of, cycle_under, stores_wait}
use Rattle.diva_core.specs.Machine.{IsMachine, Lives}
use Rattle.diva_core.specs.Headline.{SameLog, Rises, IsRefuted}
use Rattle.diva_core.specs.Headline.{dues, ByClaims, BySolo}
use Rattle.diva_core.proofs.Commits.{Commits, CommitsClaims, CommitsItself, commits-records}
use Rattle.diva_core.proofs.Passing.{AlonePasses, Keeps, alone_stores, stores_keep}
use Rattle.diva_core.proofs.Cycling.{Cycled, cycled, cycled_under, Base, Differed, idled, ran, barks, differed, ended, finished, waited}
use Rattle.diva_core.proofs.Rows.{AddsRow}

module _ (rule : Rule) where
  pub record AnyBase (b n : Timed) : Type 0 where
    pub k : ℕ
    pub base : Base rule b n k

module _ {rule : Rule} where
  pub any-base : (b : Timed) (list : List Record) (n : Timed) → Cycled rule b list n → AnyBase rule b n
  any-base b list n (idled r) = record { k = 0; base = r.base }
  any-base b list n (ran r) = record { k = suc r.k; base = r.base }
  any-base b list n (barks r) = record { k = 0; base = r.base }
  any-base b list n (differed r) = record { k = r.k; base = r.base }
  any-base b list n (ended r) = record { k = suc r.k; base = r.base }
  any-base b list n (finished r) = record { k = 1; base = r.base }
  any-base b list n (waited r) = record { k = 0; base = r.base }

  -- the number of commits is the rise of the count
  pub k-is : (b n : Timed) (k : ℕ) → Base rule b n k → n.count - b.count ≡ k
  k-is b n k v = let c = v.counted in omega arith

  Rises-base : (b n : Timed) (k : ℕ) → Base rule b n k → Rises b n
  Rises-base b n k v = record { counted = (let c = v.counted in omega arith); stepped = rw (k-is b n k v) v.stepped }

  pub Rises-any : (b n : Timed) → AnyBase rule b n → Rises b n
  Rises-any b n a = Rises-base b n a.k a.base

-- a cycle on an ended machine changes nothing
pub off_under : (rule : Rule) (m : Timed) (list : List Record) → goes_on m.arch ≡ false → cycle_under rule m list ≡ m
unfolding cycle_under
off_under rule m list off = rw off refl

pub cycle-off : (m : Timed) (list : List Record) → goes_on m.arch ≡ false → cycle_of m list ≡ m
cycle-off = off_under stores_wait

pub Rises-none : (m : Timed) → Rises m m
Rises-none m = record { counted = omega arith; stepped = (let e : m.count - m.count ≡ 0 = omega arith in rw e refl) }

-- a law of each cycle, from the ways in which it can go
pub by_cases_under : {rule : Rule} (keeps : Keeps rule) (P : Timed → Type 0) (m : Timed) (list : List Record) → IsMachine m → AlonePasses rule m
    → (goes_on m.arch ≡ true → Cycled rule m list (cycle_under rule m list) → P (cycle_under rule m list)) → (goes_on m.arch ≡ false → P m) → P (cycle_under rule m list)
by_cases_under {rule} keeps P m list inv passes f g =
    elim (cases_Bool (goes_on m.arch)) [ inl on ↦ f on (cycled_under keeps m list inv on passes) | inr off ↦ subst P (sym (off_under rule m list off)) (g off) ]

pub by-cases : (P : Timed → Type 0) (m : Timed) (list : List Record) → IsMachine m
    → (goes_on m.arch ≡ true → Cycled stores_wait m list (cycle_of m list) → P (cycle_of m list)) → (goes_on m.arch ≡ false → P m) → P (cycle_of m list)
by-cases P m list inv = by_cases_under stores_keep P m list inv (alone_stores m inv)

pub rises : (m : Timed) (list : List Record) → IsMachine m → Rises m (cycle_of m list)
rises m list inv = by-cases (Rises m) m list inv (λ on c. Rises-any m _ (any-base m list _ c)) (λ off. Rises-none m)

-- the claim behind those that committed
at-place : (k : ℕ) (s : State) (c : ℕ) (xs : List PendingClaim) (p : PendingClaim) (rest : List PendingClaim) → Commits k s c xs (p ∷ rest) → slice_get xs k ≡ Some p
at-place zero s c xs p rest h = rw (← h) refl
at-place (suc k) s c [] p rest h = absurd h
at-place (suc k) s c (q ∷ xs) p rest h = at-place k (step s) c xs p rest h.2

module _ {rule : Rule} where
  -- ---- the log

  refuted : (b n : Timed) (r : Differed rule b n) → IsRefuted b n r.d
  refuted b n r =
      let e : n.arch ≡ steps (n.count - b.count) b.arch = r.base.stepped ∙ ap (λ k. steps k b.arch) (sym (k-is b n r.k r.base)) in
      record {
        p = r.p;
        waited = rw (k-is b n r.k r.base) (at-place r.k b.arch (b.cycles + 1) b.under.pending r.p r.rest r.claims);
        ready = r.ready;
        differs = subst (λ (s : State). first_difference r.p.claim (record_of s) ≡ Some r.d) e r.first;
      }

  pub log-cases : (b : Timed) (list : List Record) (n : Timed) → IsMachine b → Cycled rule b list n → SameLog b n ⊎ AddsRow b n
  log-cases b list n inv (idled r) = inl r.log
  log-cases b list n inv (ran r) = inl r.log
  log-cases b list n inv (barks r) =
      let lives : b.under.idle + 1 ≤ b.config.limit = subst (Lives b) r.was inv.lives in
      inr (record { row = _; is = record { has = r.log; cycle = refl; at = refl; caused = (refl, (let i = r.idle in let l = r.late in omega arith)) } })
  log-cases b list n inv (differed r) =
      inr (record { row = _; is = record { has = r.log; cycle = refl; at = refl; caused = refuted b n r } })
  log-cases b list n inv (ended r) = inl r.log
  log-cases b list n inv (finished r) = inl r.log
  log-cases b list n inv (waited r) = inl r.log

pub logs : (m : Timed) (list : List Record) → IsMachine m → SameLog m (cycle_of m list) ⊎ AddsRow m (cycle_of m list)
logs m list inv = by-cases (λ n. SameLog m n ⊎ AddsRow m n) m list inv (λ on c. log-cases m list _ inv c) (λ off. inl refl)

module _ {rule : Rule} where
  -- ---- what commits

  Commits-base : (b n : Timed) (k : ℕ) (rest : List PendingClaim) → Base rule b n k → Commits k b.arch (b.cycles + 1) b.under.pending rest → CommitsClaims b n
  Commits-base b n k rest v h = record { rest = rest; commits = rw (k-is b n k v) h }

  pub commit-cases : (b : Timed) (list : List Record) (n : Timed) → Cycled rule b list n → CommitsClaims b n ⊎ CommitsItself b n
  commit-cases b list n (idled r) = inl (Commits-base b n 0 b.under.pending r.base refl)
  commit-cases b list n (ran r) = inl (Commits-base b n (suc r.k) r.rest r.base r.claims)
  commit-cases b list n (barks r) = inl (Commits-base b n 0 b.under.pending r.base refl)
  commit-cases b list n (differed r) = inl (Commits-base b n r.k (r.p ∷ r.rest) r.base r.claims)
  commit-cases b list n (ended r) = inl (Commits-base b n (suc r.k) r.rest r.base r.claims)
  commit-cases b list n (finished r) = inr (record { start = r.start; since = r.since; sixth = r.sixth; one = r.base.counted })
  commit-cases b list n (waited r) = inl (Commits-base b n 0 b.under.pending r.base refl)

pub commit_by : (m : Timed) (list : List Record) → IsMachine m → CommitsClaims m (cycle_of m list) ⊎ CommitsItself m (cycle_of m list)
commit_by m list inv =
    by-cases (λ n. CommitsClaims m n ⊎ CommitsItself m n) m list inv (λ on c. commit-cases m list _ c)
    (λ off. inl (record { rest = m.under.pending; commits = (let e : m.count - m.count ≡ 0 = omega arith in rw e refl) }))

-- the records of a cycle's commits
pub records_by : (m : Timed) (list : List Record) → IsMachine m → ByClaims m (dues ((cycle_of m list).count - m.count) m.arch) ⊎ BySolo m (dues ((cycle_of m list).count - m.count) m.arch)
records_by m list inv = commits-records m (cycle_of m list) (commit_by m list inv)

pub cycle-cycles : (m : Timed) (list : List Record) → IsMachine m → goes_on m.arch ≡ true → (cycle_of m list).cycles ≡ m.cycles + 1
cycle-cycles m list inv on = (any-base m list _ (cycled m list inv on)).base.cycles
