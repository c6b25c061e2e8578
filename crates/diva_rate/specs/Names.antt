-- How texts call what a line of injections names.
-- Cited by `FaultModel::name` and `OpenEnding::name`.
use Rattle.std.specs.Prelude.{List, [], ◌∷◌, codes}
use Rattle.diva_outside.specs.Text.{Text}
use Rattle.diva_rate.specs.declared.injection.FaultModel.{FaultModel}
use Rattle.diva_rate.specs.declared.injection.FaultModel.TheVariants.{Flip, Set, Lose, Double, Hush, Stuck0, Stuck1}
use Rattle.diva_rate.specs.declared.injection.OpenEnding.{OpenEnding}
use Rattle.diva_rate.specs.declared.injection.OpenEnding.TheVariants.{Masked, Silent, Trap, Hang, Stray}

abbrev pub model_name : FaultModel → Text
model_name Flip = codes "flip"
model_name Set = codes "set"
model_name Lose = codes "lose"
model_name Double = codes "double"
model_name Hush = codes "hush"
model_name Stuck0 = codes "stuck0"
model_name Stuck1 = codes "stuck1"

-- the models, in their order
abbrev pub all_models : List FaultModel
all_models = Flip ∷ Set ∷ Lose ∷ Double ∷ Hush ∷ Stuck0 ∷ Stuck1 ∷ []

abbrev pub ending_name : OpenEnding → Text
ending_name Masked = codes "masked"
ending_name Silent = codes "silent"
ending_name Trap = codes "trap"
ending_name Hang = codes "hang"
ending_name Stray = codes "stray"

-- how an open run ends, in their order
abbrev pub all_endings : List OpenEnding
all_endings = Masked ∷ Silent ∷ Trap ∷ Hang ∷ Stray ∷ []
