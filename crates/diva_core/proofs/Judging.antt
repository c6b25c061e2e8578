-- What phase 2 does.
use Rattle.std.proofs.Common.{◌≡◌, ℕ, zero, suc, ◌+◌, ◌<◌, ◌≤◌, ◌==◌, Bool, true, false, ◌&&◌, List, [], ◌∷◌, Option, Some, None, refl, ap, sym, ◌∙◌, arith, get_or, drop, subst, inl, inr}
use Rattle.std.specs.Prelude.{nat_le, if◌then◌else◌}
use Rattle.std.proofs.lemmas.Bool.{cases_Bool, cond_both, leb-true, eqb-false}
use Rattle.diva_isa.specs.State.{State, goes_on}
use Rattle.diva_isa.specs.Step.{record_of, step, steps}
use Rattle.diva_core.specs.declared.differences.Diff.{Diff}
use Rattle.diva_core.specs.declared.flushes.Cause.TheVariants.{Differs}
use Rattle.diva_core.specs.Difference.{first_difference}
use Rattle.diva_core.specs.Timed.{Timed, PendingClaim, depth}
use Rattle.diva_core.specs.Cycle.{Judgement, Rule, by_difference, by_front, by_judgement, committed, flushed, judged_under, number, past_front, puts_store}
use Rattle.diva_core.specs.Headline.{SameLog, HasRow}
use Rattle.diva_core.proofs.Commits.{Commits}
use Rattle.diva_core.proofs.Passing.{Keeps, Passed, Passed-more, owed_after, owed_after-more}
use Rattle.diva_core.proofs.Steps.{steps-shift, step-on}
use Rattle.diva_core.proofs.Differing.{difference-none}

pub past-off : (m : Timed) → goes_on (past_front m).arch ≡ false → (past_front m).under.pending ≡ []
past-off m off = ap (λ (b : Bool). if b then drop 1 m.under.pending else []) off

module _ (rule : Rule) where
  -- R holds while at most so many claims more are judged, and Q where the judging stops
  pub record Judges (R : ℕ → Timed → Type 0) (Q : Timed → Type 0) : Type 0 where
    pub stop : (n : ℕ) (m : Timed) → R n m → Q m
    pub flush : (n : ℕ) (m : Timed) (p : PendingClaim) (rest : List PendingClaim) (d : Diff) → m.under.pending ≡ p ∷ rest → nat_le (p.cycle + depth) m.cycles ≡ true → first_difference p.claim (record_of m.arch) ≡ Some d → R n m → Q (flushed m (Differs d))
    pub commit :
        (n : ℕ) (m : Timed) (p : PendingClaim) (rest : List PendingClaim)
        → m.under.pending ≡ p ∷ rest
        → nat_le (p.cycle + depth) m.cycles ≡ true
        → first_difference p.claim (record_of m.arch) ≡ None
        → rule m.config.stores m.owed (record_of m.arch) ≡ false
        → R (suc n) m
        → (goes_on (past_front m).arch ≡ true → R n (past_front m)) × (goes_on (past_front m).arch ≡ false → Q (past_front m))

  -- what every part of phase 2 does, after k commits
  pub record Moved (b m : Timed) (k : ℕ) : Type 0 where
    pub config : m.config ≡ b.config
    pub undos : m.under.undos ≡ b.under.undos
    pub cycles : m.cycles ≡ b.cycles
    pub idle : m.under.idle ≡ b.under.idle
    pub counted : m.count ≡ b.count + k
    pub stepped : m.arch ≡ steps k b.arch
    -- what is owed, and that each of the instructions passed the rule
    pub owes : m.owed ≡ owed_after k b.arch b.owed
    pub passed : Passed rule b.config.stores k b.arch b.owed
    pub owed : m.owed ≤ b.config.stores
    pub few : k ≤ b.config.width

  pub record Still (b m : Timed) : Type 0 where
    pub k : ℕ
    pub moved : Moved b m k
    pub log : SameLog b m
    pub solo : m.under.solo ≡ None
    pub claims : Commits k b.arch b.cycles b.under.pending m.under.pending
    pub on : goes_on m.arch ≡ true

  -- at most n claims more are judged
  pub record Judging (b : Timed) (n : ℕ) (m : Timed) : Type 0 where
    pub now : Still b m
    pub few : now.k + n ≤ b.config.width

  pub record Flushing (b m : Timed) : Type 0 where
    pub k : ℕ
    pub moved : Moved b m k
    pub p : PendingClaim
    pub rest : List PendingClaim
    pub d : Diff
    pub log : HasRow b m (record { cycle = b.cycles; at = m.count; cause = Differs d })
    pub first : first_difference p.claim (record_of m.arch) ≡ Some d
    pub ready : p.cycle + depth ≤ b.cycles
    pub claims : Commits k b.arch b.cycles b.under.pending (p ∷ rest)
    pub solo : m.under.solo ≡ Some b.cycles
    pub pending : m.under.pending ≡ []
    pub on : goes_on m.arch ≡ true

  pub record Ending (b m : Timed) : Type 0 where
    pub k : ℕ
    pub moved : Moved b m (suc k)
    pub log : SameLog b m
    pub rest : List PendingClaim
    pub claims : Commits (suc k) b.arch b.cycles b.under.pending rest
    pub solo : m.under.solo ≡ None
    pub pending : m.under.pending ≡ []
    pub went : goes_on (steps k b.arch) ≡ true
    pub off : goes_on m.arch ≡ false

  pub data Outcome (b m : Timed) : Type 0 where
    still : Still b m → Outcome b m
    flushing : Flushing b m → Outcome b m
    ending : Ending b m → Outcome b m

  -- where nothing is pending, nothing is judged
  pub judged-none : (n : ℕ) (m : Timed) → m.under.pending ≡ [] → judged_under rule n m ≡ m
  judged-none zero m none = refl
  judged-none (suc n) m none = ap (λ ps. by_judgement m (judged_under rule n (past_front m)) (by_front rule m ps)) none

  Judges-first_difference :
      (R : ℕ → Timed → Type 0) (Q : Timed → Type 0) (j : Judges R Q) (n : ℕ)
      → ((m : Timed) → R n m → Q (judged_under rule n m))
      → (m : Timed) (p : PendingClaim) (rest : List PendingClaim) (o : Option Diff)
      → first_difference p.claim (record_of m.arch) ≡ o
      → m.under.pending ≡ p ∷ rest
      → nat_le (p.cycle + depth) m.cycles ≡ true
      → R (suc n) m
      → Q (by_judgement m (judged_under rule n (past_front m)) (by_difference rule m o))
  Judges-first_difference R Q j n ih m p rest (Some d) same e ready r = j.flush (suc n) m p rest d e ready same r
  Judges-first_difference R Q j n ih m p rest None same e ready r =
      cond_both (rule m.config.stores m.owed (record_of m.arch)) _ _ (λ (w : Judgement). Q (by_judgement m (judged_under rule n (past_front m)) w))
      (λ held. j.stop (suc n) m r)
      (λ free.
      let both = j.commit n m p rest e ready same free r in
      elim (cases_Bool (goes_on (past_front m).arch)) [
        | inl on ↦ ih (past_front m) (both.0 on)
        | inr off ↦ subst Q (sym (judged-none n (past_front m) (past-off m off))) (both.1 off)
      ])

  Judges-front :
      (R : ℕ → Timed → Type 0) (Q : Timed → Type 0) (j : Judges R Q) (n : ℕ)
      → ((m : Timed) → R n m → Q (judged_under rule n m))
      → (m : Timed) (pending : List PendingClaim)
      → m.under.pending ≡ pending
      → R (suc n) m
      → Q (by_judgement m (judged_under rule n (past_front m)) (by_front rule m pending))
  Judges-front R Q j n ih m [] e r = j.stop (suc n) m r
  Judges-front R Q j n ih m (p ∷ rest) e r =
      cond_both (nat_le (p.cycle + depth) m.cycles) _ _ (λ (w : Judgement). Q (by_judgement m (judged_under rule n (past_front m)) w))
      (λ ready. Judges-first_difference R Q j n ih m p rest (first_difference p.claim (record_of m.arch)) refl e ready r)
      (λ young. j.stop (suc n) m r)

  pub Judges-judged : (R : ℕ → Timed → Type 0) (Q : Timed → Type 0) → Judges R Q → (n : ℕ) (m : Timed) → R n m → Q (judged_under rule n m)
  Judges-judged R Q j zero m r = j.stop zero m r
  Judges-judged R Q j (suc n) m r = Judges-front R Q j n (Judges-judged R Q j n) m m.under.pending refl r

  counts : (c : ℕ) → Judges (λ n x. c < x.count) (λ x. c < x.count)
  unfolding committed flushed
  counts c = record { stop = λ n m r. r; flush = λ n m p rest d e ready differs r. r; commit = λ n m p rest e ready same free r. (λ on. omega arith, λ off. omega arith) }

  -- what commits is counted
  pub past-counts : (n : ℕ) (m : Timed) → m.count < (judged_under rule n (past_front m)).count
  unfolding committed
  past-counts n m = Judges-judged (λ n x. m.count < x.count) (λ x. m.count < x.count) (counts m.count) n (past_front m) (omega arith)

Commits-more : (k : ℕ) (s : State) (c : ℕ) (waiting : List PendingClaim) (p : PendingClaim) (rest : List PendingClaim) → Commits k s c waiting (p ∷ rest) → p.claim ≡ record_of (steps k s) → p.cycle + depth ≤ c → Commits (suc k) s c waiting rest
Commits-more zero s c [] p rest h e ready = absurd (grind arith)
Commits-more zero s c (q ∷ waiting) p rest h e ready =
    let same : p ≡ q = ap (λ xs. get_or xs 0 p) h in
    (ap (λ z. z.claim) (sym same) ∙ e, subst (λ z. z.cycle + depth ≤ c) same ready, ap (drop 1) h)
Commits-more (suc k) s c [] p rest h e ready = h
Commits-more (suc k) s c (q ∷ waiting) p rest h e ready = (h.0, h.1, Commits-more k (step s) c waiting p rest h.2 (e ∙ ap record_of (sym (steps-shift k s))) ready)

pub owed-fits : (b : Bool) (owed stores : ℕ) → (b && (owed == stores)) ≡ false → owed ≤ stores → owed + number b ≤ stores
owed-fits true owed stores e h = let n = eqb-false owed stores e in omega arith
owed-fits false owed stores e h = omega arith

past-on : (m : Timed) (p : PendingClaim) (rest : List PendingClaim) → m.under.pending ≡ p ∷ rest → goes_on (past_front m).arch ≡ true → (past_front m).under.pending ≡ rest
past-on m p rest e on = ap (λ (b : Bool). if b then drop 1 m.under.pending else []) on ∙ ap (drop 1) e

module _ {rule : Rule} (keeps : Keeps rule) where
  Moved-commit :
      (b m : Timed) (k : ℕ)
      → Moved rule b m k
      → rule m.config.stores m.owed (record_of m.arch) ≡ false
      → goes_on m.arch ≡ true
      → suc k ≤ b.config.width
      → Moved rule b (past_front m) (suc k)
  unfolding committed
  Moved-commit b m k v free on few =
      record {
        config = v.config;
        undos = v.undos;
        cycles = v.cycles;
        idle = v.idle;
        counted = let e = v.counted in omega arith;
        stepped = sym (step-on m.arch) ∙ ap step v.stepped;
        owes = ap (λ z. z + number (puts_store (record_of m.arch))) v.owes ∙ ap (λ (s : State). owed_after k b.arch b.owed + number (puts_store (record_of s))) v.stepped ∙ sym (owed_after-more k b.arch b.owed);
        passed = Passed-more rule b.config.stores k b.arch b.owed v.passed
            (ap goes_on (sym v.stepped) ∙ on)
            (ap (λ n. rule b.config.stores n (record_of (steps k b.arch))) (sym v.owes)
            ∙ ap (λ (s : State). rule b.config.stores m.owed (record_of s)) (sym v.stepped)
            ∙ ap (λ z. rule z.stores m.owed (record_of m.arch)) (sym v.config) ∙ free);
        owed = rw (ap (λ z. z.stores) (sym v.config)) (owed-fits (puts_store (record_of m.arch)) m.owed m.config.stores (keeps.room m.config.stores m.owed (record_of m.arch) free) (rw (ap (λ z. z.stores) v.config) v.owed));
        few = few;
      }

  Still-start : (b : Timed) → b.under.solo ≡ None → goes_on b.arch ≡ true → b.owed ≤ b.config.stores → Still rule b b
  Still-start b none on owed =
      record {
        k = 0;
        moved = record { config = refl; undos = refl; cycles = refl; idle = refl; counted = omega arith; stepped = refl; owes = refl; passed = tt; owed = owed; few = omega arith };
        log = refl;
        solo = none;
        claims = refl;
        on = on;
      }

  Flushing-from : (b m : Timed) (p : PendingClaim) (rest : List PendingClaim) (d : Diff) → m.under.pending ≡ p ∷ rest → nat_le (p.cycle + depth) m.cycles ≡ true → first_difference p.claim (record_of m.arch) ≡ Some d → Still rule b m → Flushing rule b (flushed m (Differs d))
  unfolding flushed
  Flushing-from b m p rest d e ready differs r =
      record {
        k = r.k;
        moved = record { config = r.moved.config; undos = r.moved.undos; cycles = r.moved.cycles; idle = r.moved.idle; counted = r.moved.counted; stepped = r.moved.stepped; owes = r.moved.owes; passed = r.moved.passed; owed = r.moved.owed; few = r.moved.few };
        p = p;
        rest = rest;
        d = d;
        log = rw (r.log, r.moved.cycles) refl;
        first = differs;
        ready = rw r.moved.cycles at (leb-true _ _ ready);
        claims = rw e at r.claims;
        solo = ap Some r.moved.cycles;
        pending = refl;
        on = r.on;
      }

  claims-commit : (b m : Timed) (p : PendingClaim) (rest : List PendingClaim) → m.under.pending ≡ p ∷ rest → nat_le (p.cycle + depth) m.cycles ≡ true → first_difference p.claim (record_of m.arch) ≡ None → (r : Still rule b m) → Commits (suc r.k) b.arch b.cycles b.under.pending rest
  claims-commit b m p rest e ready same r =
      Commits-more r.k b.arch b.cycles b.under.pending p rest
      (rw e at r.claims)
      (difference-none p.claim (record_of m.arch) same ∙ ap record_of r.moved.stepped)
      (rw r.moved.cycles at (leb-true _ _ ready))

  -- the front claim commits, and the machine goes on or has ended
  module _ (b m : Timed) (p : PendingClaim) (rest : List PendingClaim) (e : m.under.pending ≡ p ∷ rest) (ready : nat_le (p.cycle + depth) m.cycles ≡ true)
      (same : first_difference p.claim (record_of m.arch) ≡ None) (free : rule m.config.stores m.owed (record_of m.arch) ≡ false)
      (r : Still rule b m) (few : suc r.k ≤ b.config.width) where
    Still-commit : goes_on (past_front m).arch ≡ true → Still rule b (past_front m)
    unfolding committed
    Still-commit on =
        record {
          k = suc r.k;
          moved = Moved-commit b m r.k r.moved free r.on few;
          log = r.log;
          solo = r.solo;
          claims = subst (Commits (suc r.k) b.arch b.cycles b.under.pending) (sym (past-on m p rest e on)) (claims-commit b m p rest e ready same r);
          on = on;
        }

    Ending-commit : goes_on (past_front m).arch ≡ false → Ending rule b (past_front m)
    unfolding committed
    Ending-commit off =
        let v = Moved-commit b m r.k r.moved free r.on few in
        record {
          k = r.k;
          moved = record { config = v.config; undos = v.undos; cycles = v.cycles; idle = v.idle; counted = v.counted; stepped = v.stepped; owes = v.owes; passed = v.passed; owed = v.owed; few = v.few };
          log = r.log;
          rest = rest;
          claims = claims-commit b m p rest e ready same r;
          solo = r.solo;
          pending = past-off m off;
          went = ap goes_on (sym r.moved.stepped) ∙ r.on;
          off = off;
        }

  judges : (b : Timed) → Judges rule (Judging rule b) (Outcome rule b)
  unfolding Still-commit
  judges b =
      record {
        stop = λ n m r. still r.now;
        flush = λ n m p rest d e ready differs r. flushing (Flushing-from b m p rest d e ready differs r.now);
        commit = λ n m p rest e ready same free r.
            let few : suc r.now.k ≤ b.config.width = (let f = r.few in omega arith) in
            (λ on. record { now = Still-commit b m p rest e ready same free r.now few on; few = (let f = r.few in omega arith) }, λ off. ending (Ending-commit b m p rest e ready same free r.now few off));
      }

  -- what judging leads to
  pub judged-outcome : (b : Timed) → b.under.solo ≡ None → goes_on b.arch ≡ true → b.owed ≤ b.config.stores → Outcome rule b (judged_under rule b.config.width b)
  unfolding Still-start
  judged-outcome b none on owed = Judges-judged rule (Judging rule b) (Outcome rule b) (judges b) b.config.width b (record { now = Still-start b none on owed; few = omega arith })
