-- What a core hands over that has a line for each instruction.
-- Cited by what `ClaimsCore` gives, and by its laws, as `right_lines_are_right`.
use Rattle.std.specs.Prelude.{◌≡◌, ◌==◌, ◌&&◌, nat_lt, List, [], ◌∷◌, Option, Some, None, slice_get, if◌then◌else◌}
use Rattle.diva_isa.specs.State.{State}
use Rattle.diva_isa.specs.Step.{record_of}
use Rattle.diva_isa.specs.declared.record.Record.{Record}
use Rattle.diva_core.specs.Told.{Told}
use Rattle.diva_claims.specs.Said.{filled}
use Rattle.diva_claims.specs.declared.said.Said.{Said}

-- the claim of a line, if there is one
abbrev pub claim_by : Option Said → State → List Record
claim_by None s = []
claim_by (Some said) s = filled said (record_of s) ∷ []

-- one call: if nothing is pending and there is room, the claim of the next instruction's line
abbrev pub claims_call : List Said → Told → State → List Record
claims_call lines told s =
    if (told.pending == 0) && nat_lt 0 told.room then claim_by (slice_get lines told.count) s else []

-- the meaning of the core: in each call that list, and the lines stay
pub record IsClaimsCall (before : List Said) (told : Told) (s : State) (list : List Record) (after : List Said) : Type 0 where
  pub lists : list ≡ claims_call before told s
  pub keeps : after ≡ before
