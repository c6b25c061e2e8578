-- Where texts are cut.
use Rattle.std.proofs.Common.{◌≡◌, ◌<◌, ◌≤◌, ◌-◌, ◌+◌, ℕ, [], take, drop, length, Bool, not, ap, sym, ◌∙◌, arith}
use Rattle.std.specs.Prelude.{Some, None, unwrap_or}
use Rattle.std.specs.List.{before_first, after_first, position, position_or_len}
use Rattle.std.proofs.Math.Seq.{drop-length}
use Rattle.std.proofs.lemmas.Grind.{common_steps}
use Rattle.std.proofs.lemmas.List.{take_rest}
use Rattle.std.proofs.lemmas.List.Sums.{prefix_len-le-length}
use Rattle.diva_outside.specs.Text.{Text}
use Rattle.diva_outside.specs.Words.{from_first}

module _ (p : ℕ → Bool) (text : Text) where
  at_place : (at : ℕ) → position p text ≡ Some at → position_or_len p text ≡ at
  at_place at found = grind (arith, common_steps)

  pub at_end : position p text ≡ None → position_or_len p text ≡ length text
  at_end none = let most = prefix_len-le-length (λ b. not (p b)) text in grind (arith, common_steps)

  pub inside : (at : ℕ) → position p text ≡ Some at → position_or_len p text < length text
  inside at found = grind (arith, common_steps)

  pub within : position_or_len p text ≤ length text
  within = prefix_len-le-length (λ b. not (p b)) text

  pub or_len : unwrap_or (position p text) (length text) ≡ position_or_len p text
  or_len = let most = prefix_len-le-length (λ b. not (p b)) text in grind (arith, common_steps)

  pub before_at : (at : ℕ) → position p text ≡ Some at → take at text ≡ before_first p text
  before_at at found = ap (λ n. take n text) (sym (at_place at found))

  pub after_at : (at : ℕ) → position p text ≡ Some at → take (length text - (at + 1)) (drop (at + 1) text) ≡ after_first p text
  after_at at found = take_rest text (at + 1) ∙ ap (λ n. drop (n + 1) text) (sym (at_place at found))

  -- a text from a place on
  pub trimmed_at : (at : ℕ) → position p text ≡ Some at → take (length text - at) (drop at text) ≡ from_first p text
  trimmed_at at found = take_rest text at ∙ ap (λ n. drop n text) (sym (at_place at found))

  pub all_trimmed : position p text ≡ None → [] ≡ from_first p text
  all_trimmed none = sym (ap (λ n. drop n text) (at_end none) ∙ drop-length text)
