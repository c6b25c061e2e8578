use Rattle.std.proofs.Common.{◌≡◌, replicate, rules}
use Rattle.diva_soak.proofs.Words.{whole}
use Rattle.diva_soak.proofs.payload.payload.Goals as goal

pub returns-clause-bytes : goal.returns-clause-bytes
returns-clause-bytes c =
    let zeros : c.in_ok-bytes.bytes.items ≡ replicate 2048 0 = search rules in
    whole c.args.seed c.args.count c.in_ok-bytes.bytes.items c.put_drawn.new.bytes.items c.put_halt.new.bytes.items zeros (search rules) (search rules)
