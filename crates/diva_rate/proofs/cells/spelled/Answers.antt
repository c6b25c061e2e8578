-- One digit more: the number has room for it, and is what the digits spell.
use Rattle.std.proofs.Common.{◌≤◌, ◌+◌, ◌*◌, arith, sym, ◌∙◌}
use Rattle.diva_outside.proofs.Radix.{digit_room, digits_room, digits_after, value_after}
use Rattle.diva_rate.proofs.cells.spelled.Goals as goal

ten : 10 ≤ 16
ten = omega arith

pub overflow_mul-number : goal.overflow_mul-number
overflow_mul-number c =
    let i = c.loop-byte.byte-index in
    let more = digit_room c.loop-byte.number 0 10 i ten (omega arith) c.loop-byte.invariant.small in
    let room = digits_room (c.loop-byte.number * 10 + 0) (i + 1) 19 more (omega arith) in
    omega (arith, room)

pub overflow_add-number : goal.overflow_add-number
overflow_add-number c =
    let i = c.loop-byte.byte-index in
    let digit = c.in-Some.ensures.value in
    let more = digit_room c.loop-byte.number c.in-Some.digit 10 i ten (omega (arith, digit.0, digit.1)) c.loop-byte.invariant.small in
    let room = digits_room (c.loop-byte.number * 10 + c.in-Some.digit) (i + 1) 19 more (omega arith) in
    rw c.from-in-loop-byte.ensures (omega (arith, room))

pub loop-byte-preserved : goal.loop-byte-preserved
loop-byte-preserved c =
    let i = c.loop-byte.byte-index in
    let digit = c.in-Some.ensures.value in
    record {
      digits = c.loop-byte.invariant.digits ∙ digits_after 10 i c.args.cell.now (omega arith) (rw c.from.ensures at digit.0);
      value = rw (c.from-in-loop-byte.ensures, digit.1, c.from.ensures) (sym (value_after 10 c.loop-byte.number i c.args.cell.now (omega arith)) ∙ c.loop-byte.invariant.value);
      small = rw c.from-in-loop-byte.ensures (digit_room c.loop-byte.number c.in-Some.digit 10 i ten (omega (arith, digit.0, digit.1)) c.loop-byte.invariant.small);
    }
