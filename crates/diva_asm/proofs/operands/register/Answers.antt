use Rattle.std.proofs.Common.{◌∙◌, ap, arith, refl}
use Rattle.std.specs.Option.{ok_or}
use Rattle.diva_asm.proofs.Naming.{register_among, no_register}
use Rattle.diva_asm.specs.declared.fault.Kind.TheVariants.{NoRegister}
use Rattle.diva_asm.proofs.operands.register.Goals as goal

pub returns : goal.returns
returns c =
    let among = register_among c.names_with.result.now c.args.word.now c.names_with.ensures in
    c.ok_or.ensures.value ∙ ap (λ found. ok_or found NoRegister) (c.named.ensures ∙ among)

pub returns-in_default : goal.returns-in_default
returns-in_default c = rw (no_register c.args.word.now (omega arith)) refl
