-- Memories are the same if each byte of them is.
use Rattle.std.proofs.Common.{◌≡◌, ◌<◌, ℕ, ◌+◌, ◌-◌, ◌↔◌, List, [], ◌∷◌, length, get_or, Some, refl, ap, sym, ◌∙◌, arith}
use Rattle.std.proofs.lemmas.Grind.{common_steps}
use Rattle.std.proofs.lemmas.List.{ext_get_or}
use Rattle.diva_memory.specs.Bytes.{Bytes, byte_at}
use Rattle.diva_memory.proofs.Writing.{byte_inside}
use Rattle.diva_storeq.specs.declared.masked.Masked.{Masked}
use Rattle.diva_storeq.specs.Stores.{laid}
use Rattle.diva_storeq.proofs.Laying.{laid_base, laid_length}

-- ---- bytes

abbrev bytes_from : ℕ → List ℕ → Bytes
bytes_from base items = record { base = base; items = items }

same_fields : (m n : Bytes) → m.base ≡ n.base → m.items ≡ n.items → m ≡ n
same_fields m n base items = ap (λ b. bytes_from b m.items) base ∙ ap (bytes_from n.base) items

-- the byte at a place
read : (m : Bytes) (base k : ℕ) → m.base ≡ base → k < length m.items → byte_at m (base + k) ≡ Some (get_or m.items k 0)
read m base k here lt =
    let place : base + k - m.base ≡ k = omega (arith, here) in
    byte_inside m (base + k) (record { from = omega (arith, here); to = omega (arith, here) }) ∙ rw place refl

same_item : (b c : ℕ) → Some b ≡ Some c → b ≡ c
same_item b c h = cc

same_bytes : (m n : Bytes) (base : ℕ) → m.base ≡ base → n.base ≡ base → length m.items ≡ length n.items
    → ((k : ℕ) → k < length m.items → byte_at m (base + k) ≡ byte_at n (base + k)) → m ≡ n
same_bytes m n base here there size bytes = same_fields m n (here ∙ sym there) (ext_get_or 0 m.items n.items size (λ i lt.
    let lt-n : i < length n.items = omega (arith, size) in
    same_item _ _ (sym (read m base i here lt) ∙ bytes i lt ∙ read n base i there lt-n)))

-- ---- with stores laid over them

module _ (m n : Bytes) (entries others : List Masked) where
  pub same_laid : (base : ℕ) → m.base ≡ base → n.base ≡ base → length m.items ≡ length n.items
      → ((k : ℕ) → k < length m.items → byte_at (laid m entries) (base + k) ≡ byte_at (laid n others) (base + k))
      → laid m entries ≡ laid n others
  same_laid base here there size bytes =
      same_bytes (laid m entries) (laid n others) base
      (laid_base m entries ∙ here)
      (laid_base n others ∙ there)
      (laid_length m entries ∙ size ∙ sym (laid_length n others))
      (λ k lt. bytes k (omega (arith, laid_length m entries)))

  -- what is the same has the same addresses
  pub same_base : laid m entries ≡ laid n others → m.base ≡ n.base
  same_base h = sym (laid_base m entries) ∙ ap (λ (b : Bytes). b.base) h ∙ laid_base n others

  pub same_size : laid m entries ≡ laid n others → length m.items ≡ length n.items
  same_size h = sym (laid_length m entries) ∙ ap (λ (b : Bytes). length b.items) h ∙ laid_length n others

  -- the same stores over the same bytes
  pub same_under : m.base ≡ n.base → m.items ≡ n.items → entries ≡ others → laid m entries ≡ laid n others
  same_under base items same = ap (λ (b : Bytes). laid b entries) (same_fields m n base items) ∙ ap (laid n) same

-- no stores
pub same_without : (m n : Bytes) (entries others : List Masked) → length entries ≡ 0 → length others ≡ 0 → m.base ≡ n.base → (m.items ≡ n.items) ↔ (laid m entries ≡ laid n others)
same_without m n [] [] none none-too base = (same_fields m n base, ap (λ (b : Bytes). b.items))
same_without m n (e ∷ entries) others none none-too base = absurd (grind (arith, common_steps))
same_without m n [] (e ∷ others) none none-too base = absurd (grind (arith, common_steps))
