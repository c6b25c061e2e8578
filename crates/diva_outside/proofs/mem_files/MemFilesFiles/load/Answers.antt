-- The error is the one of the definition.
use Rattle.std.proofs.Common.{◌≡◌, rules}
use Rattle.std.specs.Option.{option_copied}
use Rattle.diva_outside.specs.Named.{answer_to}
use Rattle.diva_outside.specs.MemFiles.{load_of}
use Rattle.diva_outside.proofs.mem_files.MemFilesFiles.load.Goals as goal

pub returns-clause-err : goal.returns-clause-err
returns-clause-err c =
    let due : load_of c.args.self.now c.args.name.now c.args.limit ≡ answer_to (option_copied c.find-bytes.result) c.is_listed-fails.result c.args.limit = search rules in
    simp due c.answer.ensures.err
