-- The mask of a store, by shifts.
use Rattle.std.proofs.Common.{◌≡◌, ℕ, zero, suc, ◌+◌, ◌-◌, ◌*◌, ◌%◌, ◌^◌, ◌<◌, refl, ap, sym, ◌∙◌, arith}
use Rattle.diva_isa.specs.Kind.{size}
use Rattle.diva_isa.specs.declared.effect.Effect.{Effect}
use Rattle.diva_isa.specs.declared.effect.Effect.TheVariants.{Stores}
use Rattle.diva_isa.specs.declared.kind.Width.{Width}
use Rattle.diva_isa.specs.declared.kind.Width.TheVariants.{Byte, Half, Word}
use Rattle.diva_claims.specs.Said.{mask_stored}

shifted : (w : Width) (place : ℕ) → place < 4 → (2 ^ size w - 1) * 2 ^ place % 2 ^ 32 ≡ 2 ^ (place + size w) - 2 ^ place
shifted Byte zero h = refl
shifted Byte (suc zero) h = refl
shifted Byte (suc (suc zero)) h = refl
shifted Byte (suc (suc (suc zero))) h = refl
shifted Half zero h = refl
shifted Half (suc zero) h = refl
shifted Half (suc (suc zero)) h = refl
shifted Half (suc (suc (suc zero))) h = refl
shifted Word zero h = refl
shifted Word (suc zero) h = refl
shifted Word (suc (suc zero)) h = refl
shifted Word (suc (suc (suc zero))) h = refl
shifted w (suc (suc (suc (suc n)))) h = absurd (omega arith)

pub shifted_mask : (e : Effect) (w : Width) (addr value ones : ℕ) → e ≡ Stores w addr value → ones ≡ 2 ^ size w - 1 → ones * 2 ^ (addr % 4) % 2 ^ 32 ≡ mask_stored e
shifted_mask e w addr value ones stores is =
    ap (λ n. n * 2 ^ (addr % 4) % 2 ^ 32) is ∙ shifted w (addr % 4) (omega arith) ∙ ap mask_stored (sym stores)
