-- The last of the eight kinds.
use Rattle.std.proofs.Common.{◌≡◌, ℕ, ◌+◌, ◌-◌, ◌%◌, refl}
use Rattle.std.specs.Prelude.{pos}
use Rattle.diva_decode.specs.Fields.{field}
use Rattle.diva_decode.specs.declared.op.Op.TheVariants.{Lw}
use Rattle.diva_soak.specs.Soak.{drawn, of_immediate}

pub last_kind : (x : ℕ) → field 29 3 x ≡ 7 → drawn x ≡ of_immediate Lw (1 + field 26 3 x) 0 (pos (field 9 11 x - field 9 11 x % 4))
unfolding drawn
last_kind x e = rw e refl
