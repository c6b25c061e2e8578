-- The machine that was kept last before a cycle.
use Rattle.std.proofs.Common.{◌≡◌, ◌<◌, ℕ, List, [], ◌∷◌, Some, get_or, length, slice_get, ap, refl, sym, ◌∙◌, arith}
use Rattle.std.proofs.lemmas.Option.{slice_get-get_or}
use Rattle.diva_open.specs.Open.{Open}
use Rattle.diva_trial.specs.Kept.{BeginsNew, IsPlaceBefore}
use Rattle.diva_trial.specs.declared.kept.Stand.{Stand}
use Rattle.diva_trial.proofs.kept.latest_before.Goals as goal
use Rattle.diva_trial.proofs.kept.latest_before.Goals.{then-run-cycle+then-run-until, else-run-cycle}

first_place : {M C : Type 0} (seen : M → Open) (cycle until : ℕ) (stands : List (Stand M C)) → BeginsNew seen stands → 0 < cycle → IsPlaceBefore seen cycle until stands 0
first_place seen cycle until [] new early = absurd new
first_place seen cycle until (stand ∷ stands) new early =
    record { stand = stand; there = refl; earlier = omega arith; within = omega arith }

found : {X : Type 0} (xs : List X) (k : ℕ) (x : X) → k < length xs → x ≡ get_or xs k x → slice_get xs k ≡ Some x
found xs k x here is = slice_get-get_or xs k x here ∙ ap Some (sym is)

pub loop-place-init : goal.loop-place-init
loop-place-init g c = first_place g.M.Driven.seen c.args.cycle c.args.until c.args.stands.now c.requires.new c.requires.cycle

pub loop-place-preserved : goal.loop-place-preserved
loop-place-preserved g c =
    elim c.if-run-cycle.branch [
      | then-run-cycle+then-run-until w ↦ rw w.latest-is (record {
        stand = c.index-stands-place.result;
        there = found c.args.stands.now c.loop-place.place c.index-stands-place.result c.loop-place-test.true c.index-stands-place.is;
        earlier = (let run = c.cycles-run.ensures in let test = w.if-run-cycle in omega arith);
        within = (let run = c.cycles-run.ensures in let test = w.if-run-until in omega arith);
      })
      | else-run-cycle w ↦ rw w.latest-is c.loop-place.invariant
    ]
