use Rattle.std.proofs.Common.{Option, ap, ◌∙◌}
use Rattle.diva_decode.specs.declared.instr.Instr.{Instr}
use Rattle.diva_isa.specs.Step.{record_of, source1_of, source2_of}
use Rattle.diva_isa.specs.declared.record.Operands.{Operands}
use Rattle.diva_core.proofs.Agreeing.{operands_due}
use Rattle.diva_opchk.proofs.check_in.Goals as goal

pub returns : goal.returns
returns c = λ s same on none.
    let due = operands_due c.args.entry.now.claim s none in
    let read = c.sources_in.ensures s same in
    c.differs.ensures (record_of s)
    (ap (λ (x : Operands). x.first) read ∙ ap (λ (o : Option Instr). source1_of o s) c.decoded.ensures.row ∙ due.0)
    (ap (λ (x : Operands). x.second) read ∙ ap (λ (o : Option Instr). source2_of o s) c.decoded.ensures.row ∙ due.1)
