-- The machines that are kept of a run without a fault.
use Rattle.std.proofs.Common.{◌≡◌, List, [], ◌∷◌, ◌++◌, length, sym, ap, subst, ◌∙◌}
use Rattle.diva_core.specs.History.{Meaning}
use Rattle.diva_faults.specs.declared.rows.Row.{Row}
use Rattle.diva_open.specs.Open.{Open}
use Rattle.diva_trial.specs.Inner.{AreAlike, Stands}
use Rattle.diva_trial.specs.Kept.{BeginsNew}
use Rattle.diva_trial.specs.Paths.{Cycling}
use Rattle.diva_trial.specs.declared.kept.Stand.{Stand}
use Rattle.diva_trial.proofs.Pathing.{no_stands}

-- a copy stands where the other does
pub stands_too :
    {C : Type 0} (step : Cycling) (gives : Meaning C) (script : List Row) (o : Open) (first : C) (m n : Open) (core other : C)
    → n ≡ m → other ≡ core → Stands step gives script o first m core → Stands step gives script o first n other
stands_too step gives script o first m n core other same is s =
    subst (λ (k : Open). Stands step gives script o first k other) (sym same) (subst (λ c. Stands step gives script o first m c) (sym is) s)

-- a new machine
pub stands_new :
    {C : Type 0} (step : Cycling) (gives : Meaning C) (script : List Row) (o : Open) (first : C) (m : Open) (core : C)
    → m ≡ o → core ≡ first → Stands step gives script o first m core
stands_new step gives script o first m core same is = stands_too step gives script o first o m first core same is (no_stands step gives script o first)

pub alike_same : (o m : Open) → m ≡ o → AreAlike o m
alike_same o m same = record { config = ap (λ (k : Open). k.timed.config) same; size = ap (λ (k : Open). length k.timed.arch.bytes) same }

pub alike_then : (o m n : Open) → AreAlike o m → AreAlike m n → AreAlike o n
alike_then o m n a b = record { config = b.config ∙ a.config; size = b.size ∙ a.size }

pub alike_back : (o m : Open) → AreAlike o m → AreAlike m o
alike_back o m a = record { config = sym a.config; size = sym a.size }

pub begins_more : {M C : Type 0} (seen : M → Open) (stands : List (Stand M C)) (stand : Stand M C) → BeginsNew seen stands → BeginsNew seen (stands ++ stand ∷ [])
begins_more seen [] stand new = absurd new
begins_more seen (first ∷ stands) stand new = new
