-- Effects that store nothing, or store elsewhere.
use Rattle.std.proofs.Common.{◌≡◌, ℕ, true, inl, inr, refl, arith}
use Rattle.std.proofs.lemmas.Bool.Decides.{nat_tests}
use Rattle.diva_memory.specs.Interval.{AreApart}
use Rattle.diva_isa.specs.Kind.{size}
use Rattle.diva_isa.specs.declared.effect.Effect.{Effect}
use Rattle.diva_isa.specs.declared.effect.Effect.TheVariants.{Nothing, Writes, Stores, Puts}
use Rattle.diva_isa.specs.declared.kind.Width.{Width}
use Rattle.diva_core.specs.Effects.{is_apart}
use Rattle.diva_ahead.specs.Inner.{StoresAt}

store_apart : (width : Width) (addr value a n : ℕ) → AreApart addr (size width) a n → is_apart (Stores width addr value) a n ≡ true
store_apart width addr value a n (inl before) = grind (arith, nat_tests)
store_apart width addr value a n (inr behind) = grind (arith, nat_tests)

-- what is apart from all that an effect stores
pub effect_apart : (e : Effect) (a n : ℕ) → ((at k : ℕ) → StoresAt e at k → AreApart at k a n) → is_apart e a n ≡ true
effect_apart Nothing a n apart = refl
effect_apart (Writes rd value) a n apart = refl
effect_apart (Stores width addr value) a n apart = store_apart width addr value a n (apart addr (size width) (refl, refl))
effect_apart (Puts byte) a n apart = refl
