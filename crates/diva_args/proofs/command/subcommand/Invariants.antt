-- The positionals so far, then the options so far, and then the flags so far are rules of the subcommand.
use Rattle.std.proofs.Common.{take, map, ◌++◌, []}
use Rattle.clap.specs.Walk.{texts}
use Rattle.diva_args.specs.Command.{flag_rule, option_rule, positional_rule}
use Rattle.diva_args.proofs.CommandLemmas.{HasRules}
use Rattle.diva_args.proofs.command.subcommand.Given as goal

abbrev pub invariant-loop-id : goal.invariant-loop-id
invariant-loop-id l =
    HasRules l.command l.leaf.name.now ([] ++ map positional_rule (texts (take l.id-index l.leaf.positionals.now)))

abbrev pub invariant-loop-name : goal.invariant-loop-name
invariant-loop-name l = HasRules l.command l.leaf.name.now
    (map positional_rule (texts l.leaf.positionals.now) ++ map option_rule (texts (take l.name-index l.leaf.options.now)))

abbrev pub invariant-loop-switch : goal.invariant-loop-switch
invariant-loop-switch l = HasRules l.command l.leaf.name.now
    (map positional_rule (texts l.leaf.positionals.now) ++ map option_rule (texts l.leaf.options.now) ++ map flag_rule (texts (take l.switch-index l.leaf.flags.now)))
