use Rattle.std.proofs.Common.{◌≡◌, Option, None, refl, sym, ◌∙◌, ap}
use Rattle.diva_decode.specs.declared.instr.Instr.{Instr}
use Rattle.diva_isa.specs.Step.{address_of, record_of}
use Rattle.diva_core.specs.Stages.{is_memory}
use Rattle.diva_core.proofs.Agreeing.{address_due, executed_addr, executed_other}
use Rattle.diva_execchk.proofs.compare_unread.Goals as goal

pub returns-then-claim-ne0 : goal.returns-then-claim-ne0
returns-then-claim-ne0 c c' = λ agrees.
    let s = c.L.Look.shows c'.args.state.now in
    let claim = c'.args.claim.now in
    let none : 0 ≡ (record_of s).addr = ap (λ (o : Option Instr). address_of o claim.src1) (sym c'.requires) ∙ address_due claim s agrees in
    rw c'.new.ensures (executed_addr claim (record_of s) 0 (is_memory (record_of s)) c'.if-claim-ne0.true none)

pub returns : goal.returns
returns c c' = λ agrees.
    let s = c.L.Look.shows c'.args.state.now in
    let claim = c'.args.claim.now in
    let addr : claim.addr ≡ (record_of s).addr = c'.if-claim-ne0.false ∙ ap (λ (o : Option Instr). address_of o claim.src1) (sym c'.requires) ∙ address_due claim s agrees in
    executed_other claim (record_of s) c'.compare_outcome.result None (sym c'.requires) refl agrees addr c'.compare_outcome.ensures
