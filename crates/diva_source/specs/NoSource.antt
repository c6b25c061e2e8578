-- A source without texts.
-- Cited by the type `NoSource`.
use Rattle.std.specs.Prelude.{ℕ, Some, None}
use Rattle.diva_source.specs.Source.{SourceAccount}

-- what it tells of itself, if there were so many faults: no name has bytes, and nothing is open
abbrev pub account_of : ℕ → SourceAccount
account_of faults = record { contents = Some (λ name. None); rest = None; limit = 0; faults = faults }
