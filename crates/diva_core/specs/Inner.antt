-- What only private contracts of this crate cite. A reader of its promises can pass over it.
use Rattle.std.specs.Prelude.{ℕ, ◌≡◌, ◌+◌, List, Some}
use Rattle.std.specs.List.{slice_index}
use Rattle.diva_isa.specs.State.{State, byte_of}

-- a state has these four bytes from an address on
pub record HasBytes (s : State) (addr : ℕ) (bytes : List ℕ) : Type 0 where
  pub byte0 : byte_of s addr ≡ Some (slice_index bytes 0)
  pub byte1 : byte_of s (addr + 1) ≡ Some (slice_index bytes 1)
  pub byte2 : byte_of s (addr + 2) ≡ Some (slice_index bytes 2)
  pub byte3 : byte_of s (addr + 3) ≡ Some (slice_index bytes 3)
