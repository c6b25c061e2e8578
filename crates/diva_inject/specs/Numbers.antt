-- The numbers of a seed: SplitMix64 (Steele, Lea and Flood, OOPSLA 2014). Each is below 2^64, and depends on the seed and its place alone.
-- Cited by `number_of_seed`; in `Plans.antt`, for `fault_at`.
use Rattle.std.specs.Prelude.{ℕ, ◌+◌, ◌*◌, ◌/◌, ◌%◌, ◌^◌, bit_xor}

-- z, and its upper bits over its lower ones
abbrev pub folded : (bits z : ℕ) → ℕ
folded bits z = bit_xor z (z / 2 ^ bits)

-- the number at a place, from 0 on
unfoldable pub number_of_seed : (seed place : ℕ) → ℕ
number_of_seed seed place =
    let begun : ℕ = (seed + (place + 1) * 0x9e3779b97f4a7c15) % 2 ^ 64 in
    let once : ℕ = folded 30 begun * 0xbf58476d1ce4e5b9 % 2 ^ 64 in
    let twice : ℕ = folded 27 once * 0x94d049bb133111eb % 2 ^ 64 in
    folded 31 twice
