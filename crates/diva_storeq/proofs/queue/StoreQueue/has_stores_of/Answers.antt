-- The next store is the same.
use Rattle.std.proofs.Common.{◌≡◌, ℕ, zero, suc, ◌+◌, List, [], ◌∷◌, take, Some, ap, sym, ◌∙◌, arith, add-one, slice_get}
use Rattle.std.proofs.lemmas.Grind.{common_steps}
use Rattle.diva_storeq.specs.declared.masked.Masked.{Masked}
use Rattle.diva_storeq.proofs.queue.StoreQueue.has_stores_of.Goals as goal

suc_same : (xs ys : List Masked) (i : ℕ) (e : Masked) → take i xs ≡ take i ys → slice_get xs i ≡ Some e → slice_get ys i ≡ Some e → take (suc i) xs ≡ take (suc i) ys
suc_same [] ys i e before x y = absurd (cc)
suc_same (d ∷ xs) [] i e before x y = absurd (cc)
suc_same (d ∷ xs) (f ∷ ys) zero e before x y = cc
suc_same (d ∷ xs) (f ∷ ys) (suc i) e before x y =
    let first : d ≡ f = grind (arith, common_steps) in
    let others : take i xs ≡ take i ys = grind (arith, common_steps) in
    let rest = suc_same xs ys i e others x y in
    cc

more_same : (xs ys : List Masked) (i : ℕ) (e : Masked) → take i xs ≡ take i ys → slice_get xs i ≡ Some e → slice_get ys i ≡ Some e → take (i + 1) xs ≡ take (i + 1) ys
more_same xs ys i e before x y = rw add-one (suc_same xs ys i e before x y)

pub loop-at-preserved : goal.loop-at-preserved
loop-at-preserved c =
    let same : slice_get c.args.other.now.items c.loop-at.at ≡ Some c.entry.result = grind (arith, common_steps) in
    more_same c.args.self.now.items c.args.other.now.items c.loop-at.at c.entry.result c.loop-at.invariant c.entry.ensures.value same
