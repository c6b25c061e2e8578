-- One positional, option or flag more is one rule more.
use Rattle.std.proofs.Common.{[], ◌++◌, map}
use Rattle.clap.specs.Walk.{texts}
use Rattle.diva_args.proofs.CommandLemmas.{loop_more}
use Rattle.diva_args.specs.Command.{flag_rule, option_rule, positional_rule}
use Rattle.diva_args.proofs.command.subcommand.Goals as goal

pub loop-id-preserved : goal.loop-id-preserved
loop-id-preserved c = loop_more positional_rule [] c.args.leaf.now.positionals.now c.loop-id.id-index _ _ _ _ _
    c.in_ok-command.ensures c.positional.ensures.rule c.positional.ensures.local c.loop-id-test.true c.loop-id.invariant

pub loop-name-preserved : goal.loop-name-preserved
loop-name-preserved c =
    loop_more option_rule (map positional_rule (texts c.args.leaf.now.positionals.now)) c.args.leaf.now.options.now c.loop-name.name-index _ _ _ _ _
    c.in_ok-command-2.ensures c.option.ensures.rule c.option.ensures.local c.loop-name-test.true c.loop-name.invariant

pub loop-switch-preserved : goal.loop-switch-preserved
loop-switch-preserved c =
    loop_more flag_rule (map positional_rule (texts c.args.leaf.now.positionals.now) ++ map option_rule (texts c.args.leaf.now.options.now)) c.args.leaf.now.flags.now c.loop-switch.switch-index _ _ _ _ _
    c.in_ok-command-3.ensures c.flag.ensures.rule c.flag.ensures.local c.loop-switch-test.true c.loop-switch.invariant
