-- The text of a register, as the library writes it.
use Rattle.std.proofs.Common.{◌≡◌, ◌∙◌, ℕ, zero, suc, ◌+◌, List, [], ◌++◌, ◌^◌, ◌-◌, false, length, replicate, refl, ap, sym, add-zero, append-nil, append_assoc, arith, rules}
use Rattle.std.specs.List.{flat_map, range_with_len}
use Rattle.std.specs.Fmt.{digits, format_spec, padded_integral, char_count}
use Rattle.diva_test_programs.specs.Texts.{hex_text}

-- the digits of a number, after as many zeros as they are short of eight
pub padded_word : (value : ℕ) → padded_integral (format_spec 32 0 4 8 (2 ^ 64 - 1)) false [] (digits 16 false value) ≡ hex_text value
unfolding padded_integral char_count
padded_word value =
    let ds : List ℕ = digits 16 false value in
    let same : 8 - length ds - 0 - 0 ≡ 8 - length ds = omega arith in
    rw same (ap (λ (text : List ℕ). replicate (8 - length ds) 48 ++ text) (append-nil ds))

-- five texts, one after the other
pub five_texts : (a b c d e : List ℕ) → a ++ (b ++ (c ++ (d ++ e))) ≡ a ++ b ++ c ++ d ++ e
five_texts a b c d e = search (rules, append_assoc)

-- the texts of the numbers from one on, and of one more
texts_from : (f : ℕ → List ℕ) (a n : ℕ) → flat_map f (range_with_len a (n + 1)) ≡ flat_map f (range_with_len a n) ++ f (a + n)
texts_from f a zero = simp (add-zero, append-nil) refl
texts_from f a (suc n) =
    let same : a + 1 + n ≡ a + suc n = omega arith in
    let rest : flat_map f (range_with_len (a + 1) (n + 1)) ≡ flat_map f (range_with_len (a + 1) n) ++ f (a + suc n) = rw same at (texts_from f (a + 1) n) in
    let more : suc n + 1 ≡ suc (n + 1) = omega arith in
    rw more (ap (λ (t : List ℕ). f a ++ t) rest ∙ sym (append_assoc (f a) (flat_map f (range_with_len (a + 1) n)) (f (a + suc n))))

-- the same from 0 on
pub texts_more : (f : ℕ → List ℕ) (n : ℕ) → flat_map f (range_with_len 0 (n + 1)) ≡ flat_map f (range_with_len 0 n) ++ f n
texts_more f n = texts_from f 0 n ∙ ap (λ k. flat_map f (range_with_len 0 n) ++ f k) (omega arith)
