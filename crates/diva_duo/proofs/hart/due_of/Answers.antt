-- The word is fetched once, and is the one that the record has.
use Rattle.std.proofs.Common.{ap, sym, ◌∙◌}
use Rattle.diva_decode.specs.Table.{row_of}
use Rattle.diva_isa.specs.declared.record.Record.{Record}
use Rattle.diva_duo.proofs.Fronting.{word_says}
use Rattle.diva_duo.proofs.hart.due_of.Goals as goal

pub returns-clause-decoded : goal.returns-clause-decoded
returns-clause-decoded c =
    c.decoded_of-decoded.ensures.decoded
    ∙ word_says c.fetch-fetched.result c.args.view.now c.fetch-fetched.ensures
    ∙ ap (λ (r : Record). row_of r.word) (sym c.record_by.ensures)
