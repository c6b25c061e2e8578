-- What the core `Noise` hands over, seen as the number that its generator gave last.
-- Cited by what `Noise` gives, and `noise_goes_by_its_calls`.
use Rattle.std.specs.Prelude.{◌≡◌, ℕ, zero, suc, List, [], ◌∷◌}
use Rattle.diva_isa.specs.declared.record.Record.{Record}
use Rattle.diva_core.specs.History.{Meaning}
use Rattle.diva_seed.specs.Generator.{next_number}

-- the n-th number after x
abbrev pub number_after : (n x : ℕ) → ℕ
number_after zero x = x
number_after (suc n) x = next_number (number_after n x)

-- the claim of the eight numbers after x, in the order of a record's fields
unfoldable pub noise_claim : ℕ → Record
noise_claim x =
    record {
      pc = number_after 1 x;
      word = number_after 2 x;
      src1 = number_after 3 x;
      src2 = number_after 4 x;
      addr = number_after 5 x;
      value = number_after 6 x;
      next = number_after 7 x;
      end = number_after 8 x;
    }

-- the meaning of the core: in each call the claim of the next eight numbers, whatever it is told
pub record IsNoiseCall (before : ℕ) (list : List Record) (after : ℕ) : Type 0 where
  pub lists : list ≡ noise_claim before ∷ []
  pub keeps : after ≡ number_after 8 before

abbrev pub noise_call : Meaning ℕ
noise_call = λ before told s list after. IsNoiseCall before list after

-- what n calls hand over, the first of them with the numbers after x
abbrev pub noise_lists : (n x : ℕ) → List (List Record)
noise_lists zero x = []
noise_lists (suc n) x = (noise_claim x ∷ []) ∷ noise_lists n (number_after 8 x)
