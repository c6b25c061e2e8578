-- The piece that an arm calls has its outcome in any state: here it is the one that is looked at.
use Rattle.std.proofs.Common.{rules}
use Rattle.diva_isa.proofs.due.due_fetched.Goals as goal

pub returns-in-OpImm-clause-record : goal.returns-in-OpImm-clause-record
returns-in-OpImm-clause-record g c = search (rules, c.operate_with_immediate.ensures (g.L.Look.shows c.args.state.now))

pub returns-in-OpReg-clause-record : goal.returns-in-OpReg-clause-record
returns-in-OpReg-clause-record g c = search (rules, c.operate.ensures (g.L.Look.shows c.args.state.now))

pub returns-in-Branch-clause-record : goal.returns-in-Branch-clause-record
returns-in-Branch-clause-record g c = search (rules, c.branch-i.ensures (g.L.Look.shows c.args.state.now))
