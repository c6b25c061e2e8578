-- The numbers of a machine, where another than the port is out of its range.
use Rattle.std.proofs.Common.{◌≡◌, ℕ, refl, Option, Some, None, arith}
use Rattle.std.specs.Prelude.{option_and_then}
use Rattle.diva_core.specs.Machine.{config_in_range}

-- no port makes up for it
no_port : (n q s w p : ℕ) → config_in_range (record { width = n; window = q; stores = s; limit = w; port = 1 }) ≡ None
    → config_in_range (record { width = n; window = q; stores = s; limit = w; port = p }) ≡ None
unfolding config_in_range
no_port n q s w p none = grind arith

-- the same where there may be no number for the port
pub no_config : (n q s w : ℕ) (port : Option ℕ) → config_in_range (record { width = n; window = q; stores = s; limit = w; port = 1 }) ≡ None
    → option_and_then (λ p. config_in_range (record { width = n; window = q; stores = s; limit = w; port = p })) port ≡ None
no_config n q s w None none = refl
no_config n q s w (Some p) none = no_port n q s w p none
