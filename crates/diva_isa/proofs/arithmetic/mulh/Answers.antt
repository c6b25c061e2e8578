-- The product of two signed words fits 64 bits.
use Rattle.std.proofs.Common.{ap, ◌≡◌, ◌/◌, arith, ◌≤◌, ◌^◌, nat_abs, FitsSigned, w64, lit<}
use Rattle.std.proofs.lemmas.Int.{ints, fits_signed_mul, to_z-of_z}
use Rattle.diva_isa.specs.Alu.{s}
use Rattle.diva_isa.proofs.arithmetic.mulh.Goals as goal

pub returns : goal.returns
returns c =
    let a : nat_abs (s c.args.a) ≤ 2 ^ 31 = grind (arith, ints) in
    let b : nat_abs (s c.args.b) ≤ 2 ^ 31 = grind (arith, ints) in
    let fits = fits_signed_mul w64 (s c.args.a) (s c.args.b) (2 ^ 31) (2 ^ 31) a b (lit< tt) in
    let pa : c.from.result ≡ s c.args.a = grind (arith, ints) in let pb : c.from-2.result ≡ s c.args.b = grind (arith, ints) in let fa : FitsSigned w64 (s c.args.a) = grind (arith, ints) in let fb : FitsSigned w64 (s c.args.b) = grind (arith, ints) in ap (λ n. n / 2 ^ 32) (simp (pa, pb, to_z-of_z) at c.cast_unsigned.ensures)
