-- The next number that leaves a rest.
use Rattle.std.proofs.Common.{◌≡◌, ◌<◌, ◌≤◌, ◌%◌, ◌+◌, ◌-◌, ℕ, Bool, true, false, refl, sym, ap, ◌∙◌, arith}
use Rattle.std.specs.Prelude.{nat_lt}
use Rattle.std.proofs.Math.Nat.{add-mod_right, mod-add-mod, mod-eq_of_lt, mod-lt}
use Rattle.diva_inject.specs.Parts.{IsNext, Part}

-- the rest of a number that is a little larger
rest_more : (n e m : ℕ) → n % m + e < m → (n + e) % m ≡ n % m + e
rest_more n e m fits = sym (mod-add-mod n m e) ∙ mod-eq_of_lt fits

-- and if it passes a multiple
rest_past : (n e m : ℕ) → m ≤ n % m + e → n % m + e < m + m → (n + e) % m ≡ n % m + e - m
rest_past n e m passes fits =
    let more : n % m + e ≡ (n % m + e - m) + m = omega arith in
    sym (mod-add-mod n m e) ∙ ap (λ k. k % m) more ∙ add-mod_right (n % m + e - m) m ∙ mod-eq_of_lt (omega arith)

module _ (part : Part) (from : ℕ) (below : part.index < part.of) where
  rest_below : from % part.of < part.of
  rest_below = mod-lt from (omega arith)

  pub next_here : from % part.of ≤ part.index → IsNext part from (from + (part.index - from % part.of))
  next_here here =
      record {
        no_earlier = omega arith;
        one = rest_more from (part.index - from % part.of) part.of (omega arith) ∙ omega arith;
        none_before = λ i least most same.
            let e : ℕ = i - from in
            let at : (from + (i - from)) % part.of ≡ from % part.of + (i - from) = rest_more from (i - from) part.of (omega arith) in
            let is : from + (i - from) ≡ i = omega arith in
            let there : i % part.of ≡ from % part.of + (i - from) = ap (λ k. k % part.of) (sym is) ∙ at in
            absurd (omega (arith, same, there));
      }

  pub next_past : part.index < from % part.of → IsNext part from (from + (part.of - from % part.of + part.index))
  next_past past =
      let r = rest_below in
      record {
        no_earlier = omega arith;
        one = rest_past from (part.of - from % part.of + part.index) part.of (omega arith) (omega arith) ∙ omega arith;
        none_before = λ i least most same. by i least most same (nat_lt (from % part.of + (i - from)) part.of) refl;
      }
    where
      by : (i : ℕ) → from ≤ i → i < from + (part.of - from % part.of + part.index) → i % part.of ≡ part.index
          → (b : Bool) → nat_lt (from % part.of + (i - from)) part.of ≡ b → ⊥
      by i least most same true fits =
          let is : from + (i - from) ≡ i = omega arith in
          let low : from % part.of + (i - from) < part.of = grind arith in
          let there : i % part.of ≡ from % part.of + (i - from) = ap (λ k. k % part.of) (sym is) ∙ rest_more from (i - from) part.of low in
          absurd (omega (arith, same, there))
      by i least most same false passes =
          let is : from + (i - from) ≡ i = omega arith in
          let high : part.of ≤ from % part.of + (i - from) = grind arith in
          let r = rest_below in
          let there : i % part.of ≡ from % part.of + (i - from) - part.of =
          ap (λ k. k % part.of) (sym is) ∙ rest_past from (i - from) part.of high (omega arith) in
          absurd (omega (arith, same, there))
