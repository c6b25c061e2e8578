-- The bytes of a word.
use Rattle.std.proofs.Common.{◌≡◌, ◌<◌, ℕ, zero, suc, ◌+◌, ◌*◌, ◌^◌, List, [], ◌∷◌, length, slice_get, Some, ap, arith}
use Rattle.std.specs.List.{slice_index}
use Rattle.diva_memory.specs.Bytes.{word_byte}

four : (b0 b1 b2 b3 i : ℕ) → b0 < 2 ^ 8 → b1 < 2 ^ 8 → b2 < 2 ^ 8 → b3 < 2 ^ 8 → i < 4
    → slice_get (b0 ∷ b1 ∷ b2 ∷ b3 ∷ []) i ≡ Some (word_byte (b0 + 256 * (b1 + 256 * (b2 + 256 * (b3 + 0)))) i)
four b0 b1 b2 b3 zero h0 h1 h2 h3 lt = ap Some (omega arith)
four b0 b1 b2 b3 (suc zero) h0 h1 h2 h3 lt = ap Some (omega arith)
four b0 b1 b2 b3 (suc (suc zero)) h0 h1 h2 h3 lt = ap Some (omega arith)
four b0 b1 b2 b3 (suc (suc (suc zero))) h0 h1 h2 h3 lt = ap Some (omega arith)
four b0 b1 b2 b3 (suc (suc (suc (suc i)))) h0 h1 h2 h3 lt = absurd (omega arith)

-- four bytes are those of their word
pub four_bytes : (bs : List ℕ) (w i : ℕ) → length bs ≡ 4 → ((k : ℕ) → slice_index bs k < 2 ^ 8)
    → w ≡ slice_index bs 0 + 256 * (slice_index bs 1 + 256 * (slice_index bs 2 + 256 * (slice_index bs 3 + 0)))
    → i < 4 → slice_get bs i ≡ Some (word_byte w i)
four_bytes (b0 ∷ b1 ∷ b2 ∷ b3 ∷ []) w i e h is lt = rw is (four b0 b1 b2 b3 i (h 0) (h 1) (h 2) (h 3) lt)
four_bytes [] w i e h is lt = absurd (omega arith)
four_bytes (b0 ∷ []) w i e h is lt = absurd (omega arith)
four_bytes (b0 ∷ b1 ∷ []) w i e h is lt = absurd (omega arith)
four_bytes (b0 ∷ b1 ∷ b2 ∷ []) w i e h is lt = absurd (omega arith)
four_bytes (b0 ∷ b1 ∷ b2 ∷ b3 ∷ b4 ∷ bs) w i e h is lt = absurd (omega arith)
