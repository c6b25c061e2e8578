-- Lists, step by step.
use Rattle.std.proofs.Common.{◌≡◌, ◌<◌, ◌≤◌, ◌+◌, ℕ, Bool, true, false, List, [], ◌∷◌, ◌++◌, zero, suc, take, length, get_or, refl, add-one, arith, ◌∙◌, ap, sym, append-nil, append_assoc}
use Rattle.std.specs.Prelude.{Option, Some, None}
use Rattle.std.specs.List.{cons_option, position_or_len, range_with_len}
use Rattle.std.specs.Option.{option_to_list}
use Rattle.diva_rate.specs.Latencies.{latencies_of}
use Rattle.diva_rate.specs.declared.injection.Injection.{Injection}
use Rattle.std.proofs.lemmas.List.FromFn.{get_or-range_with_len, length-range_with_len}
use Rattle.std.proofs.lemmas.List.Sums.{position_or_len_is}

at_number : (most k : ℕ) → k < most → get_or (range_with_len 0 most) k 0 ≡ k
at_number most k below = get_or-range_with_len 0 most k 0 below ∙ zero_more k
  where
    zero_more : (k : ℕ) → 0 + k ≡ k
    zero_more k = omega arith

pub first_is : (p : ℕ → Bool) (most i : ℕ) → i ≤ most → ((k : ℕ) → k < i → p k ≡ false) → (i < most → p i ≡ true)
    → position_or_len p (range_with_len 0 most) ≡ i
first_is p most i within fails passes =
    let size : length (range_with_len 0 most) ≡ most = length-range_with_len 0 most in
    position_or_len_is p (range_with_len 0 most) i 0 (omega (arith, size, within))
    (λ k before. ap p (at_number most k (omega arith)) ∙ fails k before)
    (λ before. let inside : i < most = omega (arith, size, before) in ap p (at_number most i inside) ∙ passes inside)

latencies_cons : (line : Injection) (lines : List Injection) → latencies_of (line ∷ lines) ≡ option_to_list line.effect.latency ++ latencies_of lines
latencies_cons line lines = each line.effect.latency
  where
    each : (latency : Option ℕ) → cons_option latency (latencies_of lines) ≡ option_to_list latency ++ latencies_of lines
    each None = refl
    each (Some n) = refl

pub latencies_more : (lines : List Injection) (i : ℕ) (d : Injection) → i < length lines
    → latencies_of (take (i + 1) lines) ≡ latencies_of (take i lines) ++ option_to_list (get_or lines i d).effect.latency
latencies_more [] i d inside = absurd (omega arith)
latencies_more (line ∷ lines) zero d inside = rw latencies_cons (append-nil (option_to_list line.effect.latency))
latencies_more (line ∷ lines) (suc i) d inside =
    rw (add-one, latencies_cons, latencies_cons) (ap (λ (l : List ℕ). option_to_list line.effect.latency ++ l) (rw add-one at (latencies_more lines i d (omega arith)))
    ∙ sym (append_assoc (option_to_list line.effect.latency) (latencies_of (take i lines)) (option_to_list (get_or lines i d).effect.latency)))
