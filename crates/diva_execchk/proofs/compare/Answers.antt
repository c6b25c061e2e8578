use Rattle.std.proofs.Common.{◌≡◌, Option, Some, false, true, sym, ◌∙◌, ap}
use Rattle.diva_decode.specs.declared.instr.Instr.{Instr}
use Rattle.diva_decode.specs.Table.{row_of}
use Rattle.diva_isa.specs.Kind.{kind, moves_memory}
use Rattle.diva_isa.specs.Step.{address_of, record_of}
use Rattle.diva_core.specs.Stages.{is_memory}
use Rattle.diva_core.proofs.Agreeing.{address_due, executed_addr, executed_memory, executed_other, outcome_filled}
use Rattle.diva_execchk.proofs.Addresses.{no_address}
use Rattle.diva_execchk.proofs.compare.Goals as goal

pub returns-then-claim-addr : goal.returns-then-claim-addr
returns-then-claim-addr c c' = λ agrees.
    let s = c.L.Look.shows c'.args.state.now in
    let claim = c'.args.claim.now in
    let addr : c'.address-addr.result ≡ (record_of s).addr = c'.address-addr.ensures ∙ ap (λ (o : Option Instr). address_of o claim.src1) (sym c'.requires) ∙ address_due claim s agrees in
    rw c'.new.ensures (executed_addr claim (record_of s) c'.address-addr.result (is_memory (record_of s)) c'.if-claim-addr.true addr)

pub returns-then-is_memory : goal.returns-then-is_memory
returns-then-is_memory c c' = λ agrees.
    let s = c.L.Look.shows c'.args.state.now in
    let claim = c'.args.claim.now in
    let addr : claim.addr ≡ (record_of s).addr = c'.if-claim-addr.false ∙ c'.address-addr.ensures ∙ ap (λ (o : Option Instr). address_of o claim.src1) (sym c'.requires) ∙ address_due claim s agrees in
    executed_memory claim (record_of s) (Some c'.args.i.now) (sym c'.requires) (sym c'.is_memory.ensures ∙ c'.if-is_memory.true) agrees addr

-- what follows is of neither: its due address is 0
pub returns-then-claim-ne0 : goal.returns-then-claim-ne0
returns-then-claim-ne0 c c' = λ agrees.
    let s = c.L.Look.shows c'.args.state.now in
    let claim = c'.args.claim.now in
    let none : 0 ≡ (record_of s).addr = sym (no_address c'.args.i.now claim.src1 (sym c'.is_memory.ensures ∙ c'.if-is_memory.false)) ∙ ap (λ (o : Option Instr). address_of o claim.src1) (sym c'.requires) ∙ address_due claim s agrees in
    rw c'.new-then-claim-ne0.ensures (executed_addr claim (record_of s) 0 (is_memory (record_of s)) c'.if-claim-ne0.true none)

pub returns : goal.returns
returns c c' = λ agrees.
    let s = c.L.Look.shows c'.args.state.now in
    let claim = c'.args.claim.now in
    let i = c'.args.i.now in
    let apart : moves_memory (kind i.op) ≡ false = sym c'.is_memory.ensures ∙ c'.if-is_memory.false in
    let row : Some i ≡ row_of claim.word = sym c'.requires in
    let addr : claim.addr ≡ (record_of s).addr = c'.if-claim-ne0.false ∙ sym (no_address i claim.src1 apart) ∙ ap (λ (o : Option Instr). address_of o claim.src1) row ∙ address_due claim s agrees in
    executed_other claim (record_of s) c'.compare_with.result (Some i) row apart agrees addr
    (λ agree. c'.compare_with.ensures (record_of s) (rw (c'.execute.ensures apart) (outcome_filled claim s true (Some i) row (λ e. absurd (cc)) agree)))
