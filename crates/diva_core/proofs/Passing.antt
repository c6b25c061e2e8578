-- What a rule lets pass, one record after the other.
use Rattle.std.proofs.Common.{◌≡◌, ℕ, zero, suc, ◌+◌, ◌<◌, ◌≤◌, ◌==◌, Bool, Some, true, false, ◌&&◌, refl, ap, sym, ◌∙◌, arith, subst}
use Rattle.std.proofs.lemmas.Bool.{and_right, ne_eqb}
use Rattle.std.specs.Bool.{⊤}
use Rattle.diva_isa.specs.State.{State, goes_on}
use Rattle.diva_isa.specs.declared.record.Record.{Record}
use Rattle.diva_isa.specs.Step.{record_of, step, steps}
use Rattle.diva_core.specs.Cycle.{Rule, begun, drained, number, puts_store, stores_wait}
use Rattle.diva_core.specs.Machine.{IsMachine, IsSolo, Lives}
use Rattle.diva_core.specs.Timed.{Timed, depth}
use Rattle.diva_core.proofs.Steps.{steps-shift}
use Rattle.diva_core.proofs.Opening.{owed_by_the_sixth}

-- what is asked of a rule: a store for which there is no room waits, and nothing waits where nothing is owed
pub record Keeps (rule : Rule) : Type 0 where
  pub room : (stores owed : ℕ) (r : Record) → rule stores owed r ≡ false → stores_wait stores owed r ≡ false
  pub empty : (stores : ℕ) (r : Record) → 1 ≤ stores → rule stores 0 r ≡ false

-- where a solo instruction commits, it passes the rule
abbrev pub AlonePasses : Rule → Timed → Type 0
AlonePasses rule b =
    (start : ℕ) → b.under.solo ≡ Some start → b.cycles + 1 ≡ start + depth → rule b.config.stores (drained (begun b)).owed (record_of b.arch) ≡ false

-- how many stores are owed after k instructions
abbrev pub owed_after : ℕ → State → ℕ → ℕ
owed_after zero s owed = owed
owed_after (suc k) s owed = owed_after k (step s) (owed + number (puts_store (record_of s)))

-- each of k instructions passes, and is one of a state that goes on
abbrev pub Passed : Rule → (stores : ℕ) → ℕ → State → (owed : ℕ) → Type 0
Passed rule stores zero s owed = ⊤
Passed rule stores (suc k) s owed =
    (goes_on s ≡ true) × (rule stores owed (record_of s) ≡ false) × Passed rule stores k (step s) (owed + number (puts_store (record_of s)))

pub owed_after-more : (k : ℕ) (s : State) (owed : ℕ) → owed_after (suc k) s owed ≡ owed_after k s owed + number (puts_store (record_of (steps k s)))
owed_after-more zero s owed = refl
owed_after-more (suc k) s owed =
    owed_after-more k (step s) (owed + number (puts_store (record_of s)))
    ∙ ap (λ (t : State). owed_after k (step s) (owed + number (puts_store (record_of s))) + number (puts_store (record_of t))) (steps-shift k s)

pub Passed-more :
    (rule : Rule) (stores k : ℕ) (s : State) (owed : ℕ)
    → Passed rule stores k s owed
    → goes_on (steps k s) ≡ true
    → rule stores (owed_after k s owed) (record_of (steps k s)) ≡ false
    → Passed rule stores (suc k) s owed
Passed-more rule stores zero s owed h on free = (on, free, tt)
Passed-more rule stores (suc k) s owed h on free = (
  h.0,
  h.1,
  Passed-more rule stores k (step s) (owed + number (puts_store (record_of s))) h.2
      (subst (λ (t : State). goes_on t ≡ true) (sym (steps-shift k s)) on)
      (subst (λ (t : State). rule stores (owed_after k (step s) (owed + number (puts_store (record_of s)))) (record_of t) ≡ false) (sym (steps-shift k s)) free),
)

-- ---- the machine's rule

none_waits : (b : Bool) (stores : ℕ) → 1 ≤ stores → (b && (0 == stores)) ≡ false
none_waits b stores some = and_right b _ (ne_eqb 0 stores (λ e. omega arith))

pub stores_keep : Keeps stores_wait
stores_keep = record { room = λ stores owed r free. free; empty = λ stores r some. none_waits (puts_store r) stores some }

-- a store that runs solo finds a place, since the port has opened while it ran
pub alone_stores : (b : Timed) → IsMachine b → AlonePasses stores_wait b
unfolding drained
alone_stores b inv start since sixth =
    let alone : IsSolo b start = subst (Lives b) since inv.lives in
    let room : (drained (begun b)).owed < b.config.stores =
    owed_by_the_sixth b.config.port b.cycles start b.owed b.config.stores inv.config.port_low inv.config.port_high inv.config.stores_low sixth alone.drained in
    and_right (puts_store (record_of b.arch)) _ (ne_eqb _ b.config.stores (λ e. omega arith))
