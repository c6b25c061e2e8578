-- Words as bytes, one word more at a time.
use Rattle.std.proofs.Common.{◌≡◌, ℕ, suc, ◌<◌, ◌+◌, ◌-◌, List, [], ◌∷◌, ◌++◌, refl, ap, sym, ◌∙◌, append_assoc, arith, replicate}
use Rattle.std.specs.Int.{to_le_bytes, w32}
use Rattle.diva_decode.specs.Table.{encoding_of}
use Rattle.diva_seed.specs.Generator.{next_number}
use Rattle.diva_soak.specs.Soak.{words_as_bytes, drawn, last_words, payload_of, words_after}

pub word_more : (n i x y : ℕ) (items more : List ℕ) → i < n → y ≡ next_number x → more ≡ items ++ to_le_bytes w32 (encoding_of (drawn y)) → more ++ words_as_bytes (words_after (n - (i + 1)) y) ≡ items ++ words_as_bytes (words_after (n - i) x)
word_more n i x y items more short next is =
    let e : n - i ≡ suc (n - (i + 1)) = omega arith in
    rw (e, is, next) (append_assoc items (to_le_bytes w32 (encoding_of (drawn (next_number x)))) (words_as_bytes (words_after (n - (i + 1)) (next_number x))))

bytes_append : (a b : List ℕ) → words_as_bytes (a ++ b) ≡ words_as_bytes a ++ words_as_bytes b
bytes_append [] b = refl
bytes_append (w ∷ a) b = ap (λ (rest : List ℕ). to_le_bytes w32 w ++ rest) (bytes_append a b) ∙ sym (append_assoc (to_le_bytes w32 w) (words_as_bytes a) (words_as_bytes b))

pub whole : (seed n : ℕ) (zeros drawn all : List ℕ) → zeros ≡ replicate 2048 0 → drawn ≡ zeros ++ words_as_bytes (words_after n seed) → all ≡ drawn ++ words_as_bytes last_words → all ≡ payload_of seed n
unfolding payload_of
whole seed n zeros drawn all z d e =
    e ∙ rw (d, z) (append_assoc (replicate 2048 0) (words_as_bytes (words_after n seed)) (words_as_bytes last_words)
    ∙ ap (λ (rest : List ℕ). replicate 2048 0 ++ rest) (sym (bytes_append (words_after n seed) last_words)))
