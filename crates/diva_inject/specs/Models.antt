-- The models of faults.
-- Cited by `FaultModel::name`.
use Rattle.std.specs.Prelude.{ℕ, List, codes}
use Rattle.diva_inject.specs.declared.models.FaultModel.{FaultModel}
use Rattle.diva_inject.specs.declared.models.FaultModel.TheVariants.{Flip, Set, Lose, Double, Hush, Stuck}

-- how texts call a model
abbrev pub model_name : FaultModel → List ℕ
model_name Flip = codes "flip"
model_name Set = codes "set"
model_name Lose = codes "lose"
model_name Double = codes "double"
model_name Hush = codes "hush"
model_name Stuck = codes "stuck"
