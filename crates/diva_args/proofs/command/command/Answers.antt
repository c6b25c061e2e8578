-- The commands of `diva` and then those of the other table are the ones of both.
use Rattle.std.proofs.Common.{◌∙◌, ap, codes, map}
use Rattle.std.proofs.lemmas.Result.{IfOk-weaker}
use Rattle.clap.specs.Simple.{App}
use Rattle.diva_args.specs.Command.{app_with, leaves, top_app, with_subcommands}
use Rattle.diva_args.specs.Table.{leaf_of}
use Rattle.diva_args.proofs.CommandLemmas.{subcommands_append}
use Rattle.diva_args.proofs.command.command.Goals as goal

pub returns : goal.returns
unfolding app_with
returns c =
    let more = map leaf_of c.args.more.now in
    IfOk-weaker c.with_leaves-2.result _ _ (λ r is.
    is ∙ ap (λ (a : App). with_subcommands a more) (c.in_ok-command.ensures ∙ ap (λ (a : App). with_subcommands a leaves) c.bare.ensures)
    ∙ subcommands_append (top_app (codes "diva")) leaves more) c.with_leaves-2.ensures
