use Rattle.std.proofs.Common.{◌≡◌, ◌++◌, ◌∙◌, rules, arith}
use Rattle.std.specs.Int.{to_le_bytes, w32}
use Rattle.diva_decode.specs.Table.{encoding_of}
use Rattle.diva_soak.specs.Soak.{drawn}
use Rattle.diva_soak.proofs.Words.{word_more}
use Rattle.diva_soak.proofs.payload.put_drawn.Goals as goal

pub loop-preserved : goal.loop-preserved
loop-preserved c =
    let inv = c.loop.invariant in
    let is : c.put.new.bytes.items ≡ c.loop.bytes.items ++ to_le_bytes w32 (encoding_of (drawn c.next_number-x.result)) = search rules in
    record {
      so_far = word_more c.args.count c.loop.counter c.loop.x c.next_number-x.result c.loop.bytes.items c.put.new.bytes.items c.loop-test.true c.next_number-x.ensures is ∙ inv.so_far;
      long = (let e = c.in_ok-put.ensures.long in let g = inv.long in omega arith);
    }
