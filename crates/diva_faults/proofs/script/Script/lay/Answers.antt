use Rattle.std.proofs.Common.{◌∙◌, sym, arith}
use Rattle.diva_faults.proofs.Laying.{before_first, behind_end}
use Rattle.diva_faults.proofs.script.Script.lay.Goals as goal
use Rattle.diva_faults.proofs.script.Script.lay.Goals.{else-self-cycle-via-then-self-cycle+else-cycle-self, else-self-cycle-via-else-self-cycle}

pub returns-then-cycle-self : goal.returns-then-cycle-self
returns-then-cycle-self c = rw (← c.self.view_is) (c.lay.ensures ∙ c.self.invariant.like c.args.cycle c.args.list.now)

pub returns-else-self-cycle : goal.returns-else-self-cycle
returns-else-self-cycle c =
    let i = c.self.invariant in
    rw (← c.self.view_is)
    (elim c.else-self-cycle.branch [
      | else-self-cycle-via-then-self-cycle+else-cycle-self w ↦ sym (behind_end c.args.cycle c.self.inside.rows.items c.args.list.now (omega (arith, i.ends)))
      | else-self-cycle-via-else-self-cycle w ↦ sym (before_first c.args.cycle c.self.inside.rows.items c.args.list.now (omega (arith, i.begins)))
    ])
