-- One digit more: the number has room for it, and is what the digits spell.
use Rattle.std.proofs.Common.{◌+◌, ◌*◌, arith, sym, ◌∙◌}
use Rattle.diva_outside.proofs.Radix.{digit_room, digits_room, digits_after, value_after}
use Rattle.diva_outside.proofs.numbers.number.Goals as goal

pub overflow_mul-number : goal.overflow_mul-number
overflow_mul-number c =
    let i = c.loop-byte.byte-index in
    let more = digit_room c.loop-byte.number 0 c.args.radix i c.requires.high (omega arith) c.loop-byte.invariant.small in
    let room = digits_room (c.loop-byte.number * c.args.radix + 0) (i + 1) 10 more (omega arith) in
    rw c.from-in-loop-byte.ensures (omega (arith, room))

pub overflow_add-number : goal.overflow_add-number
overflow_add-number c =
    let i = c.loop-byte.byte-index in
    let digit = c.in-Some.ensures.value in
    let more = digit_room c.loop-byte.number c.in-Some.digit c.args.radix i c.requires.high (omega (arith, digit.0, digit.1)) c.loop-byte.invariant.small in
    let room = digits_room (c.loop-byte.number * c.args.radix + c.in-Some.digit) (i + 1) 10 more (omega arith) in
    rw (c.from-in-loop-byte.ensures, c.from-in-loop-byte-2.ensures) (omega (arith, room))

pub loop-byte-preserved : goal.loop-byte-preserved
loop-byte-preserved c =
    let i = c.loop-byte.byte-index in
    let digit = c.in-Some.ensures.value in
    record {
      digits = c.loop-byte.invariant.digits ∙ digits_after c.args.radix i c.args.word.now (omega arith) (rw c.from.ensures at digit.0);
      value = rw (c.from-in-loop-byte.ensures, c.from-in-loop-byte-2.ensures, digit.1, c.from.ensures) (sym (value_after c.args.radix c.loop-byte.number i c.args.word.now (omega arith)) ∙ c.loop-byte.invariant.value);
      small = rw (c.from-in-loop-byte.ensures, c.from-in-loop-byte-2.ensures) (digit_room c.loop-byte.number c.in-Some.digit c.args.radix i c.requires.high (omega (arith, digit.0, digit.1)) c.loop-byte.invariant.small);
    }

pub returns-clause-small : goal.returns-clause-small
returns-clause-small c =
    digits_room c.loop-byte.number c.loop-byte.byte-index c.args.most c.loop-byte.invariant.small (omega arith)
