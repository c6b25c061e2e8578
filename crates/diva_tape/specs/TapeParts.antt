-- How a tape keeps its lists: all claims one after another, and how many each list has.
-- Cited by the types `Tape` and `TapeCore`.
use Rattle.std.specs.Prelude.{◌≡◌, ◌≤◌, ℕ, List, [], ◌∷◌, length, take, drop, sum}
use Rattle.std.specs.List.{All}
use Rattle.diva_isa.specs.declared.record.Record.{Record}

-- the lists of some claims: each the next so many
abbrev pub parted : (counts : List ℕ) → List Record → List (List Record)
parted [] claims = []
parted (count ∷ counts) claims = take count claims ∷ parted counts (drop count claims)

-- no list has more than eight claims, and the lists have all claims
pub record IsParted (counts : List ℕ) (claims : List Record) : Type 0 where
  pub most : All (λ count. count ≤ 8) counts
  pub whole : sum counts ≡ length claims
