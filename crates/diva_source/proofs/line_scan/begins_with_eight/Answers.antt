-- The first eight bytes are letters.
use Rattle.std.proofs.Common.{◌∙◌, sym}
use Rattle.diva_source.proofs.Runs.{letters_pass}
use Rattle.diva_source.proofs.line_scan.begins_with_eight.Goals as goal

pub returns-then-bytes-ge8-clause-letters : goal.returns-then-bytes-ge8-clause-letters
returns-then-bytes-ge8-clause-letters c = λ yes. letters_pass 8 c.args.bytes.now c.if-bytes-ge8.true (sym c.are_letters.ensures ∙ yes)
