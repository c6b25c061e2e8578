-- An image: where its memory lies, where it is entered, and the bytes that it begins with.
-- Cited by `soak_image` of diva_soak; in `Images.antt`, for `read`.
use Rattle.std.specs.Prelude.{◌≡◌, ℕ, ◌-◌, ◌^◌, List, ◌++◌, length, replicate}

-- the most bytes that memory may have
abbrev pub most_size : ℕ
most_size = 2 ^ 24

-- the first address of memory, its number of bytes, where it is entered, and its first bytes
pub record Layout : Type 0 where
  pub base : ℕ
  pub size : ℕ
  pub entry : ℕ
  pub payload : List ℕ

-- the bytes of memory: the payload, and zeros behind it
abbrev pub memory_of : Layout → List ℕ
memory_of i = i.payload ++ replicate (i.size - length i.payload) 0

-- two images begin the same: the one has the memory of the other, at the same place, and is entered where that is
pub record BeginsAs (i j : Layout) : Type 0 where
  pub base : i.base ≡ j.base
  pub size : i.size ≡ j.size
  pub entry : i.entry ≡ j.entry
  pub memory : memory_of i ≡ memory_of j
