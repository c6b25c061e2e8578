-- What the phases of a cycle do.
use Rattle.std.proofs.Common.{◌≡◌, ℕ, ◌+◌, ◌<◌, ◌≤◌, ◌==◌, Bool, true, false, ◌&&◌, Option, Some, None, refl, sym, arith, ◌⊎◌, inl, inr}
use Rattle.std.specs.Prelude.{nat_le, is_none}
use Rattle.std.proofs.lemmas.Bool.{cond_both, leb-true, leb-false, eqb-true, eqb-false, and_parts}
use Rattle.diva_isa.specs.Step.{record_of}
use Rattle.diva_core.specs.declared.flushes.Cause.TheVariants.{Silent}
use Rattle.diva_isa.specs.State.{goes_on}
use Rattle.diva_core.specs.Timed.{Timed, depth}
use Rattle.diva_core.specs.Cycle.{Rule, barked, by_solo, committed, commits_under, flushed, number, puts_store, without_solo}
use Rattle.diva_core.specs.Headline.{SameLog}
use Rattle.diva_core.proofs.Steps.{step-on}
use Rattle.diva_core.proofs.Judging.{Moved, Outcome, judged-outcome, owed-fits}
use Rattle.diva_core.proofs.Passing.{Keeps}

pub number-least : (b : Bool) → number b ≤ 1
number-least true = omega arith
number-least false = omega arith

module _ (rule : Rule) where
  -- the instruction that ran solo commits
  pub record Alone (b m : Timed) : Type 0 where
    pub start : ℕ
    pub since : b.under.solo ≡ Some start
    pub sixth : b.cycles ≡ start + depth
    pub moved : Moved rule b m 1
    pub log : SameLog b m
    pub solo : m.under.solo ≡ None
    pub pending : m.under.pending ≡ b.under.pending

  -- it runs on
  pub record Waits (b m : Timed) : Type 0 where
    pub start : ℕ
    pub since : b.under.solo ≡ Some start
    pub early : b.cycles ≡ start + depth → ⊥
    pub same : m ≡ b

  pub data Second (b m : Timed) : Type 0 where
    judging : b.under.solo ≡ None → Outcome rule b m → Second b m
    alone : Alone b m → Second b m
    waits : Waits b m → Second b m

module _ {rule : Rule} (keeps : Keeps rule) where
  Alone-commit :
      (b : Timed) (start : ℕ)
      → b.under.solo ≡ Some start
      → b.cycles ≡ start + depth
      → goes_on b.arch ≡ true
      → b.owed ≤ b.config.stores
      → 1 ≤ b.config.width
      → rule b.config.stores b.owed (record_of b.arch) ≡ false
      → Alone rule b (committed (without_solo b) (record_of b.arch))
  unfolding committed
  Alone-commit b start since sixth on owed few passes =
      record {
        start = start;
        since = since;
        sixth = sixth;
        moved = record {
          config = refl;
          undos = refl;
          cycles = refl;
          idle = refl;
          counted = refl;
          stepped = sym (step-on b.arch);
          owes = refl;
          passed = (on, passes, tt);
          owed = owed-fits (puts_store (record_of b.arch)) b.owed b.config.stores (keeps.room b.config.stores b.owed (record_of b.arch) passes) owed;
          few = few;
        };
        log = refl;
        solo = refl;
        pending = refl;
      }

  -- where a solo instruction commits in this cycle, it passes the rule
  abbrev Passes : Timed → Type 0
  Passes b = (start : ℕ) → b.under.solo ≡ Some start → b.cycles ≡ start + depth → rule b.config.stores b.owed (record_of b.arch) ≡ false

  by_solo-second : (b : Timed) (o : Option ℕ) → b.under.solo ≡ o → Passes b → goes_on b.arch ≡ true → b.owed ≤ b.config.stores → 1 ≤ b.config.width → Second rule b (by_solo rule b o)
  by_solo-second b None e passes on owed few = judging e (judged-outcome keeps b e on owed)
  by_solo-second b (Some start) e passes on owed few =
      cond_both (b.cycles == start + depth) _ _ (Second rule b)
      (λ t. alone (Alone-commit b start e (eqb-true _ _ t) on owed few (passes start e (eqb-true _ _ t))))
      (λ f. waits (record { start = start; since = e; early = eqb-false _ _ f; same = refl }))

  pub second : (b : Timed) → Passes b → goes_on b.arch ≡ true → b.owed ≤ b.config.stores → 1 ≤ b.config.width → Second rule b (commits_under rule b)
  unfolding commits_under
  second b passes on owed few = by_solo-second b b.under.solo refl passes on owed few

-- the watchdog is silent, or it fires
pub record Quiet (m n : Timed) : Type 0 where
  pub same : n ≡ m
  pub early : m.under.solo ≡ None → goes_on m.arch ≡ true → m.under.idle < m.config.limit

pub record Barks (m n : Timed) : Type 0 where
  pub solo : m.under.solo ≡ None
  pub on : goes_on m.arch ≡ true
  pub late : m.config.limit ≤ m.under.idle
  pub flushes : n ≡ flushed m (Silent m.config.limit)

pub is_none-none : {A : Type 0} (o : Option A) → is_none o ≡ true → o ≡ None
is_none-none None e = refl
is_none-none (Some x) e = absurd (cc)

and-true : (b : Bool) → (b && true) ≡ false → b ≡ false
and-true true f = f
and-true false f = f

test-early : (m : Timed) → (nat_le m.config.limit m.under.idle && is_none m.under.solo && goes_on m.arch) ≡ false → m.under.solo ≡ None → goes_on m.arch ≡ true → m.under.idle < m.config.limit
test-early m f none on = leb-false _ _ (and-true (nat_le m.config.limit m.under.idle) (and-true (nat_le m.config.limit m.under.idle && true) (rw (none, on) at f)))

pub bark : (m : Timed) → Quiet m (barked m) ⊎ Barks m (barked m)
bark m =
    cond_both (nat_le m.config.limit m.under.idle && is_none m.under.solo && goes_on m.arch) _ _ (λ n. Quiet m n ⊎ Barks m n)
    (λ t. let p = and_parts _ _ t in let q = and_parts _ _ p.0 in inr (record { solo = is_none-none _ q.1; on = p.1; late = leb-true _ _ q.0; flushes = refl }))
    (λ f. inl (record { same = refl; early = test-early m f }))

pub bark-quiet : (m : Timed) → (m.under.solo ≡ None → goes_on m.arch ≡ true → m.under.idle < m.config.limit) → barked m ≡ m
bark-quiet m early =
    elim (bark m) [ inl q ↦ q.same | inr w ↦ absurd (let a : m.under.idle < m.config.limit = early w.solo w.on in let c = w.late in omega arith) ]
