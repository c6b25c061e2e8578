use Rattle.std.proofs.Common.{◌≡◌, ◌∙◌, sym, refl, arith, ◌+◌, ◌%◌, ◌^◌, ◌++◌, length, false}
use Rattle.std.specs.Prelude.{Ok}
use Rattle.diva_asm.specs.Building.{statement_bytes, is_entry, built_at}
use Rattle.diva_asm.proofs.Stopping.{appended_stop}
use Rattle.diva_asm.proofs.building.Built.with_statement_at.Goals as goal

pub returns-in-Err : goal.returns-in-Err
unfolding built_at
returns-in-Err c =
    let built = c.args.self in
    let base = c.args.base in
    let pc = (base + c.len.result % 2 ^ 32) % 2 ^ 32 in
    let same : pc ≡ (base + length built.bytes) % 2 ^ 32 = rw c.len.ensures (omega arith) in
    let other : is_entry c.args.mnemonic ≡ false = sym c.is_entry.ensures ∙ c.if-is_entry.false in
    appended_stop (statement_bytes c.args.mnemonic c.args.operands.now c.args.address pc) (λ more. Ok (record built { bytes = built.bytes ++ more })) _ built.bytes c.push_statement.new.bytes c.in-Err.stop (rw (other, ← same) refl) c.in-Err.ensures
