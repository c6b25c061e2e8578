use Rattle.std.proofs.Common.{rules}
use Rattle.diva_faults.proofs.Laying.{begun_before_is}
use Rattle.diva_faults.proofs.schedule.begun_before.Goals as goal

pub returns-clause-begun : goal.returns-clause-begun
returns-clause-begun c = begun_before_is c.args.cycle c.args.rows.now c.requires _ c.partition_point.ensures.partitioned (λ a r q k. search rules)
