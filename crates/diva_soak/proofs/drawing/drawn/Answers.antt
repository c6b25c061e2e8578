use Rattle.std.proofs.Common.{◌≡◌, ◌<◌, ◌-◌, ◌/◌, ◌%◌, arith, sym, ◌∙◌, bit_and}
use Rattle.std.specs.Prelude.{pos}
use Rattle.std.specs.Int.{cast_signed, w32}
use Rattle.std.proofs.lemmas.Int.{ints}
use Rattle.std.proofs.lemmas.Nat.{and_mask}
use Rattle.diva_decode.specs.Fields.{field}
use Rattle.diva_soak.proofs.LastKind.{last_kind}
use Rattle.diva_soak.proofs.drawing.drawn.Goals as goal

pub returns-in_default-clause-drawn : goal.returns-in_default-clause-drawn
returns-in_default-clause-drawn c =
    let seven : field 29 3 c.args.x ≡ 7 = omega arith in
    let rd : bit_and (c.args.x / 67108864) 7 ≡ field 26 3 c.args.x = and_mask (c.args.x / 67108864) 3 in
    let m : bit_and (c.args.x / 512) 2047 ≡ field 9 11 c.args.x = and_mask (c.args.x / 512) 11 in
    let small : field 9 11 c.args.x < 2048 = omega arith in
    let q : cast_signed w32 (field 9 11 c.args.x - field 9 11 c.args.x % 4) ≡ pos (field 9 11 c.args.x - field 9 11 c.args.x % 4) = grind (arith, ints) in
    c.of_immediate-in_default.ensures ∙ rw (rd, m, q) (sym (last_kind c.args.x seven))
