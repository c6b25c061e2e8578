-- The header that is written is read again.
use Rattle.std.proofs.Common.{◌≡◌, ◌<◌, ℕ, ◌+◌, ◌^◌, ◌==◌, ◌||◌, List, ◌++◌, length, None, true, nat_lt, false, refl, arith, rules, ◌∙◌, ap}
use Rattle.std.proofs.lemmas.Bool.{le-ltb}
use Rattle.std.proofs.lemmas.Grind.{common_steps}
use Rattle.byteorder.specs.Endian.{little_bytes}
use Rattle.byteorder.specs.Numbers.{little_number-reads_back}
use Rattle.diva_image.specs.declared.header.Header.{Header}
use Rattle.diva_image.specs.declared.version.Version.{Version}
use Rattle.diva_image.specs.declared.version.Version.TheVariants.{One, Two}
use Rattle.diva_image.specs.Inner.{IsPlaced}
use Rattle.diva_image.specs.Header.{head_fault, header_bytes, header_fault, header_of, header_size, length_fault, number_of_version, start_fault, version_of, word_at}

-- a file that ends where it is to end has no fault of its length
pub length_sound : (n : ℕ) → length_fault n n ≡ None
unfolding length_fault
length_sound n = grind (arith, common_steps)

header_sound : (h : Header) → IsPlaced h.base h.size h.entry → header_fault h ≡ None
unfolding header_fault
header_sound h r = grind (arith, common_steps, r)

version_again : (v : Version) → version_of (number_of_version v) ≡ v
version_again One = refl
version_again Two = refl

version_small : (v : Version) → number_of_version v < 2 ^ 32
version_small One = omega arith
version_small Two = omega arith

version_known : (v : Version) → (number_of_version v == 1 || number_of_version v == 2) ≡ true
version_known One = refl
version_known Two = refl

same_header : (h : Header) (v : Version) (a b c d : ℕ) → v ≡ h.version → a ≡ h.base → b ≡ h.size → c ≡ h.entry → d ≡ h.last
    → record { version = v; base = a; size = b; entry = c; last = d } ≡ h
same_header h v a b c d v-same a-same b-same c-same d-same = rw (v-same, a-same, b-same, c-same, d-same) refl

module _ (h : Header) (rest : List ℕ) (r : IsPlaced h.base h.size h.entry) (small : h.last < 2 ^ 32) where
  version : word_at 4 (header_bytes h ++ rest) ≡ number_of_version h.version
  version = little_number-reads_back 4 (number_of_version h.version) (little_bytes 4 h.base ++ little_bytes 4 h.size ++ little_bytes 4 h.entry ++ little_bytes 4 h.last ++ rest) (version_small h.version)

  base : word_at 8 (header_bytes h ++ rest) ≡ h.base
  base = little_number-reads_back 4 h.base (little_bytes 4 h.size ++ little_bytes 4 h.entry ++ little_bytes 4 h.last ++ rest) (omega arith)

  size : word_at 12 (header_bytes h ++ rest) ≡ h.size
  size = little_number-reads_back 4 h.size (little_bytes 4 h.entry ++ little_bytes 4 h.last ++ rest) (omega arith)

  entry : word_at 16 (header_bytes h ++ rest) ≡ h.entry
  entry = little_number-reads_back 4 h.entry (little_bytes 4 h.last ++ rest) (omega arith)

  last : word_at 20 (header_bytes h ++ rest) ≡ h.last
  last = little_number-reads_back 4 h.last rest small

  pub header_again : header_of (header_bytes h ++ rest) ≡ h
  header_again =
      same_header h (version_of (word_at 4 (header_bytes h ++ rest))) (word_at 8 (header_bytes h ++ rest)) (word_at 12 (header_bytes h ++ rest))
      (word_at 16 (header_bytes h ++ rest)) (word_at 20 (header_bytes h ++ rest)) (ap version_of version ∙ version_again h.version) base size entry last

  pub length_again : length (header_bytes h ++ rest) ≡ header_size + length rest
  length_again = search rules

  starts_again : start_fault (header_bytes h ++ rest) ≡ None
  unfolding start_fault
  starts_again =
      let long : nat_lt (header_size + length rest) header_size ≡ false = le-ltb _ _ (omega arith) in
      rw (length_again, version, long, version_known h.version) refl

  pub head_again : head_fault (header_bytes h ++ rest) ≡ None
  head_again = rw starts_again (ap header_fault header_again ∙ header_sound h r)
