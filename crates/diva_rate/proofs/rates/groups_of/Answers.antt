-- The rates of one group more, and of all.
use Rattle.std.proofs.Common.{◌<◌, ◌≤◌, ◌∙◌, sym, arith}
use Rattle.diva_rate.specs.Extra.{base_of}
use Rattle.diva_rate.proofs.Grouping.{groups_all, groups_more}
use Rattle.diva_rate.proofs.rates.groups_of.Goals as goal

pub loop-group-preserved : goal.loop-group-preserved
loop-group-preserved c =
    let inside : c.loop-group.group-index < 48 = omega (arith, c.loop-group-test.true) in
    record {
      groups = rw (c.in_ok-push_group.ensures.groups, c.loop-group.invariant.groups, c.base-base.ensures)
          (sym (groups_more (base_of c.args.lines.now) c.args.lines.now c.loop-group.group-index _ inside));
      few = omega (arith, c.in_ok-push_group.ensures.few, c.loop-group.invariant.few);
    }

pub returns : goal.returns
returns c =
    let all : 48 ≤ c.loop-group.group-index = omega (arith, c.loop-group-test.false) in
    c.loop-group.invariant.groups ∙ groups_all (base_of c.args.lines.now) c.args.lines.now c.loop-group.group-index all
