-- What claims that leave keep of a machine's numbers.
use Rattle.std.proofs.Common.{◌≡◌, ◌<◌, ◌≤◌, ℕ, zero, suc, ◌+◌, ◌-◌, ◌==◌, Bool, List, [], ◌∷◌, length, true, false, refl, sym, ap, ◌∙◌, arith, inl, inr, not, if◌then◌else◌}
use Rattle.std.specs.Prelude.{nat_le}
use Rattle.std.proofs.lemmas.Bool.{cond_both, and_parts, cases_Bool, true≢false}
use Rattle.std.proofs.lemmas.Bool.Decides.{nat_tests}
use Rattle.diva_isa.specs.State.{goes_on}
use Rattle.diva_isa.specs.declared.record.Record.{Record}
use Rattle.diva_core.specs.Timed.{Timed, PendingClaim, depth}
use Rattle.diva_core.specs.Cycle.{committed, puts_store, stores_wait, with_pending}
use Rattle.diva_core.proofs.Judging.{owed-fits}
use Rattle.diva_open.specs.Inner.{KeepsOpenBounds}
use Rattle.diva_open.specs.Open.{Open, can_apply, leave, leaves, left, obeyed, strayed}

-- what becomes of a machine's numbers by a record
record Obeys (m n : Timed) : Type 0 where
  config : n.config ≡ m.config
  cycles : n.cycles ≡ m.cycles
  under : n.under ≡ m.under
  counted : m.count ≤ n.count
  count : n.count ≤ m.count + 1
  owed : n.owed ≤ m.config.stores

commits_obeys : (m : Timed) (r : Record) → stores_wait m.config.stores m.owed r ≡ false → m.owed ≤ m.config.stores → Obeys m (committed m r)
unfolding committed
commits_obeys m r free owed =
    record { config = refl; cycles = refl; under = refl; counted = omega arith; count = omega arith; owed = owed-fits (puts_store r) m.owed m.config.stores free owed }

obeys : (m : Timed) (r : Record) → stores_wait m.config.stores m.owed r ≡ false → m.owed ≤ m.config.stores → Obeys m (obeyed m r)
unfolding obeyed
obeys m r free owed =
    cond_both (can_apply m.arch r) (committed m r) (strayed m) (Obeys m)
    (λ can. commits_obeys m r free owed)
    (λ not. record { config = refl; cycles = refl; under = refl; counted = omega arith; count = omega arith; owed = owed })

-- what is left of those that wait
fewer : (b : Bool) (p : PendingClaim) (rest : List PendingClaim) → length (if b then rest else []) ≤ length (p ∷ rest)
fewer true p rest = omega arith
fewer false p rest = omega arith

none_left : (b : Bool) (rest : List PendingClaim) → b ≡ false → (if b then rest else []) ≡ []
none_left b rest off = rw off refl

not_waits : (b : Bool) → not b ≡ true → b ≡ false
not_waits true h = absurd (true≢false (sym h))
not_waits false h = refl

pub bounds_begin : (o : Open) → o.timed.arch.end ≡ 0 → o.timed.owed ≤ o.timed.config.stores → KeepsOpenBounds 0 o o
bounds_begin o on owed =
    record {
      config = refl;
      cycles = refl;
      idle = refl;
      log = refl;
      counted = omega arith;
      count = omega arith;
      owed = owed;
      pending = omega arith;
      ended = λ off. absurd (true≢false (ap (λ n. n == 0) (sym on) ∙ off));
    }

-- one claim more
pub bounds_more : (k : ℕ) (o m : Open) → KeepsOpenBounds k o m → leaves m.timed m.timed.under.pending ≡ true → KeepsOpenBounds (k + 1) o (left m m.timed.under.pending)
bounds_more k o m b leaving = by_pending m.timed.under.pending refl leaving
  where
    by_pending : (ps : List PendingClaim) → m.timed.under.pending ≡ ps → leaves m.timed ps ≡ true → KeepsOpenBounds (k + 1) o (left m ps)
    by_pending [] e leaving = absurd (true≢false (sym leaving))
    by_pending (p ∷ rest) e leaving =
        let parts = and_parts (nat_le (p.cycle + depth) m.timed.cycles) (not (stores_wait m.timed.config.stores m.timed.owed p.claim)) leaving in
        let owed : m.timed.owed ≤ m.timed.config.stores = rw b.config b.owed in
        let n = obeys m.timed p.claim (not_waits _ parts.1) owed in
        let few : length (if goes_on (obeyed m.timed p.claim).arch then rest else []) ≤ length (p ∷ rest) = fewer (goes_on (obeyed m.timed p.claim).arch) p rest in
        let before : length m.timed.under.pending ≤ length o.timed.under.pending = b.pending in
        let same : length m.timed.under.pending ≡ length (p ∷ rest) = ap length e in
        let stores : m.timed.config.stores ≡ o.timed.config.stores = ap (λ z. z.stores) b.config in
        let least = n.counted in
        let most = n.count in
        let fits = n.owed in
        let low = b.counted in
        let high = b.count in
        record {
          config = n.config ∙ b.config;
          cycles = n.cycles ∙ b.cycles;
          idle = ap (λ u. u.idle) n.under ∙ b.idle;
          log = ap (λ u. u.log) n.under ∙ b.log;
          counted = omega arith;
          count = omega arith;
          owed = omega arith;
          pending = omega arith;
          ended = none_left (goes_on (obeyed m.timed p.claim).arch) rest;
        }

-- where a claim leaves, one is pending
pub leaving_there : (m : Timed) (ps : List PendingClaim) → leaves m ps ≡ true → 0 < length ps
leaving_there m [] leaving = absurd (true≢false (sym leaving))
leaving_there m (p ∷ rest) leaving = omega arith

-- and the machine goes on
pub leaving_on : (k : ℕ) (o m : Open) → KeepsOpenBounds k o m → leaves m.timed m.timed.under.pending ≡ true → m.timed.arch.end ≡ 0
leaving_on k o m b leaving =
    elim (cases_Bool (goes_on m.timed.arch)) [
      | inl on ↦ grind (arith, nat_tests)
      | inr off ↦ absurd (let there = leaving_there m.timed m.timed.under.pending leaving in let none = ap length (b.ended off) in omega arith)
    ]

-- what is still to leave, where another one has left
pub leave_more : (n k : ℕ) (m : Open) → k < n → leaves m.timed m.timed.under.pending ≡ true → leave (n - k) m ≡ leave (n - (k + 1)) (left m m.timed.under.pending)
leave_more n k m h leaving = by_rest (n - k) refl
  where
    by_rest : (j : ℕ) → n - k ≡ j → leave j m ≡ leave (n - (k + 1)) (left m m.timed.under.pending)
    by_rest zero e = absurd (omega arith)
    by_rest (suc j) e = let same : j ≡ n - (k + 1) = omega arith in rw leaving (ap (λ i. leave i (left m m.timed.under.pending)) same)

-- no other leaves
pub leave_none : (n : ℕ) (m : Open) → leaves m.timed m.timed.under.pending ≡ false → leave n m ≡ m
leave_none zero m stays = refl
leave_none (suc n) m stays = rw stays refl

pub leave_all : (n k : ℕ) (m : Open) → n ≤ k → leave (n - k) m ≡ m
leave_all n k m h = let none : n - k ≡ 0 = omega arith in rw none refl

-- the loop over the claims, one claim further
pub leave_next :
    (n k : ℕ) (o m next : Open)
    → KeepsOpenBounds k o m
    → leave (n - k) m ≡ leave n o
    → k < n
    → leaves m.timed m.timed.under.pending ≡ true
    → next ≡ left m m.timed.under.pending
    → (leave (n - (k + 1)) next ≡ leave n o) × KeepsOpenBounds (k + 1) o next
leave_next n k o m next b so_far more leaving is =
    rw is (sym (leave_more n k m more leaving) ∙ so_far, bounds_more k o m b leaving)

-- ---- what stays while claims leave

module _ {A : Type 0} (part : Timed → A) (keeps : (m : Timed) (r : Record) (ps : List PendingClaim) → part (with_pending (obeyed m r) ps) ≡ part m) where
  left_keeps : (o : Open) (ps : List PendingClaim) → part (left o ps).timed ≡ part o.timed
  left_keeps o [] = refl
  left_keeps o (p ∷ rest) = keeps o.timed p.claim (if goes_on (obeyed o.timed p.claim).arch then rest else [])

  leave_keeps : (n : ℕ) (o : Open) → part (leave n o).timed ≡ part o.timed
  leave_keeps zero o = refl
  leave_keeps (suc n) o =
      cond_both (leaves o.timed o.timed.under.pending) (leave n (left o o.timed.under.pending)) o (λ z. part z.timed ≡ part o.timed)
      (λ leaving. leave_keeps n (left o o.timed.under.pending) ∙ left_keeps o o.timed.under.pending)
      (λ stays. refl)

obeyed_as : {A : Type 0} (part : Timed → A) (m : Timed) (r : Record) → part (committed m r) ≡ part m → part (strayed m) ≡ part m → part (obeyed m r) ≡ part m
unfolding obeyed
obeyed_as part m r commits strays = cond_both (can_apply m.arch r) (committed m r) (strayed m) (λ n. part n ≡ part m) (λ can. commits) (λ not. strays)

committed_cycles : (m : Timed) (r : Record) → (committed m r).cycles ≡ m.cycles
unfolding committed
committed_cycles m r = refl

committed_config : (m : Timed) (r : Record) → (committed m r).config ≡ m.config
unfolding committed
committed_config m r = refl

committed_idle : (m : Timed) (r : Record) → (committed m r).under.idle ≡ m.under.idle
unfolding committed
committed_idle m r = refl

pub leave_cycles : (n : ℕ) (o : Open) → (leave n o).timed.cycles ≡ o.timed.cycles
leave_cycles n o = leave_keeps (λ m. m.cycles) (λ m r ps. obeyed_as (λ z. z.cycles) m r (committed_cycles m r) refl) n o

pub leave_config : (n : ℕ) (o : Open) → (leave n o).timed.config ≡ o.timed.config
leave_config n o = leave_keeps (λ m. m.config) (λ m r ps. obeyed_as (λ z. z.config) m r (committed_config m r) refl) n o

pub leave_idle : (n : ℕ) (o : Open) → (leave n o).timed.under.idle ≡ o.timed.under.idle
leave_idle n o = leave_keeps (λ m. m.under.idle) (λ m r ps. obeyed_as (λ z. z.under.idle) m r (committed_idle m r) refl) n o
