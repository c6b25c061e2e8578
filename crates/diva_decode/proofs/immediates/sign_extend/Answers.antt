-- A number with its sign bit set, read as two's complement.
use Rattle.std.proofs.Common.{◌≡◌, ◌≤◌, ◌-◌, ◌^◌, ◌*◌, ◌%◌, suc, arith, sym, ap, ◌∙◌}
use Rattle.std.proofs.Math.Nat.{pow-succ'}
use Rattle.std.proofs.Math.Pow.{pow_mono}
use Rattle.std.proofs.lemmas.Nat.{one_shl}
use Rattle.std.proofs.lemmas.Int.{ints}
use Rattle.std.proofs.lemmas.Bool.Decides.{nat_tests}
use Rattle.diva_decode.proofs.immediates.sign_extend.Goals as goal

pub returns-else-value-sign : goal.returns-else-value-sign
returns-else-value-sign c =
    let k = c.args.bits - 1 in
    let top : k ≤ 30 = omega arith in
    let is : suc k ≡ c.args.bits = omega arith in
    let double : 2 ^ c.args.bits ≡ 2 * 2 ^ k = ap (λ n. 2 ^ n) (sym is) ∙ pow-succ' 2 k in
    let below : 2 ^ k ≤ 2 ^ 30 = pow_mono top in
    let shifted : 1 * 2 ^ k % 2 ^ 32 ≡ 2 ^ k = one_shl k 32 (omega arith) in
    grind (arith, ints, nat_tests)
