-- One leaf more is one subcommand more.
use Rattle.std.proofs.Common.{◌∙◌, ap₂}
use Rattle.clap.specs.Simple.{app_of, with_subcommand}
use Rattle.diva_args.proofs.CommandLemmas.{leaf_more}
use Rattle.diva_args.proofs.command.with_leaves.Goals as goal

pub loop-leaf-preserved : goal.loop-leaf-preserved
loop-leaf-preserved c = c.in_ok-command.ensures.shape c.in_ok-subcommand.ensures.local
    ∙ ap₂ with_subcommand c.loop-leaf.invariant c.in_ok-subcommand.ensures.shape
    ∙ leaf_more (app_of c.args.command) c.args.leaves.now c.loop-leaf.leaf-index _ c.loop-leaf-test.true
