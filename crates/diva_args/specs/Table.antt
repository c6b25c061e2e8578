-- A row of the code's table of commands, as the definitions'.
-- Cited by `matches`.
use Rattle.clap.specs.Walk.{texts}
use Rattle.diva_args.specs.Command.{Leaf}
use Rattle.diva_args.specs.declared.command.Leaf.{Leaf as Row}

abbrev pub leaf_of : Row → Leaf
leaf_of r = record {
  name = r.name.now;
  positionals = texts r.positionals.now;
  options = texts r.options.now;
  flags = texts r.flags.now;
}
