-- The leaves so far are subcommands.
use Rattle.std.proofs.Common.{◌≡◌, take, map}
use Rattle.clap.specs.Simple.{app_of}
use Rattle.diva_args.specs.Command.{with_subcommands}
use Rattle.diva_args.specs.Table.{leaf_of}
use Rattle.diva_args.proofs.command.with_leaves.Given as goal

abbrev pub invariant-loop-leaf : goal.invariant-loop-leaf
invariant-loop-leaf l = app_of l.command ≡ with_subcommands (app_of l.fn.command) (map leaf_of (take l.leaf-index l.leaves))
