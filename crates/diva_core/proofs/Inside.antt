-- A number is there where all its bytes are inside.
use Rattle.std.proofs.Common.{◌≡◌, ℕ, zero, suc, ◌+◌, ◌^◌, ◌*◌, List, Option, Some, None, Bool, true, false, ◌&&◌, refl, ◌∙◌, arith}
use Rattle.std.proofs.lemmas.Bool.Decides.{nat_tests}
use Rattle.std.specs.Option.{is_some, option_and_then, option_map}
use Rattle.diva_memory.specs.Bytes.{Bytes, IsInside, byte_at, is_inside, number_at}
use Rattle.diva_memory.proofs.Writing.{byte_inside, byte_outside}
use Rattle.diva_isa.specs.Kind.{size}
use Rattle.diva_isa.specs.declared.kind.Width.{Width}
use Rattle.diva_isa.specs.declared.kind.Width.TheVariants.{Byte, Half, Word}
use Rattle.diva_storeq.specs.declared.masked.Masked.{Masked}
use Rattle.diva_storeq.specs.Stores.{laid}
use Rattle.diva_storeq.proofs.Laying.{laid_base, laid_length}

by_test : (c : Bool) (p : Option ℕ) → (c ≡ true → is_some p ≡ true) → (c ≡ false → is_some p ≡ false) → is_some p ≡ c
by_test true p there lacks = there refl
by_test false p there lacks = lacks refl

byte_there : (m : Bytes) (a : ℕ) → is_some (byte_at m a) ≡ is_inside m a 1
byte_there m a =
    by_test (is_inside m a 1) (byte_at m a)
    (λ test. let inside : IsInside m a 1 = record { from = grind (arith, nat_tests); to = grind (arith, nat_tests) } in rw (byte_inside m a inside) refl)
    (λ test. rw (byte_outside m a (λ inside. let from = inside.from in let to = inside.to in grind (arith, nat_tests))) refl)

both_there : (b rest : Option ℕ) → is_some (option_and_then (λ low. option_map (λ high. low + 2 ^ 8 * high) rest) b) ≡ is_some b && is_some rest
both_there None rest = refl
both_there (Some low) None = refl
both_there (Some low) (Some high) = refl

one_there : (b : Option ℕ) → is_some (option_and_then (λ low. option_map (λ high. low + 2 ^ 8 * high) (Some 0)) b) ≡ is_some b
one_there None = refl
one_there (Some low) = refl

one_more : (m : Bytes) (a n : ℕ) → (is_inside m a 1 && is_inside m (a + 1) (suc n)) ≡ is_inside m a (suc (suc n))
one_more m a n = grind (arith, nat_tests)

bytes_there : (m : Bytes) (n a : ℕ) → is_some (number_at m (suc n) a) ≡ is_inside m a (suc n)
bytes_there m zero a = one_there (byte_at m a) ∙ byte_there m a
bytes_there m (suc n) a =
    both_there (byte_at m a) (number_at m (suc n) (a + 1)) ∙ rw (byte_there m a, bytes_there m n (a + 1)) (one_more m a n)

pub width_there : (m : Bytes) (w : Width) (a : ℕ) → is_some (number_at m (size w) a) ≡ is_inside m a (size w)
width_there m Byte a = bytes_there m 0 a
width_there m Half a = bytes_there m 1 a
width_there m Word a = bytes_there m 3 a

-- the same, with entries laid over memory
pub laid_width_there : (m : Bytes) (entries : List Masked) (w : Width) (a : ℕ) → is_some (number_at (laid m entries) (size w) a) ≡ is_inside m a (size w)
laid_width_there m entries w a = width_there (laid m entries) w a ∙ rw (laid_base m entries, laid_length m entries) refl
