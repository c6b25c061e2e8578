-- Where a sink fails in a text that is written part by part.
-- Cited in `Runs.antt`, for `top`.
use Rattle.std.specs.Prelude.{◌≡◌, List, [], ◌∷◌, ◌++◌}

-- there is a last item, and this holds of those before it
pub record BeforeLast {A : Type 0} (items : List A) (this : List A → Type 0) : Type 0 where
  pub earlier : List A
  pub last : A
  pub in_order : items ≡ earlier ++ last ∷ []
  pub holds : this earlier
