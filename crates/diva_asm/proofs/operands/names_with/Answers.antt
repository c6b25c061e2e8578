use Rattle.std.proofs.Common.{refl, sym, arith}
use Rattle.std.proofs.lemmas.Grind.{common_steps}
use Rattle.diva_asm.proofs.Naming.{none_with}
use Rattle.diva_asm.specs.Inner.{registers_with}
use Rattle.diva_asm.proofs.operands.names_with.Goals as goal

pub returns-in-120 : goal.returns-in-120
unfolding registers_with
returns-in-120 c = rw c.in-120.is refl

pub returns-in-97 : goal.returns-in-97
unfolding registers_with
returns-in-97 c = rw c.in-97.is refl

pub returns-in-115 : goal.returns-in-115
unfolding registers_with
returns-in-115 c = rw c.in-115.is refl

pub returns-in-116 : goal.returns-in-116
unfolding registers_with
returns-in-116 c = rw c.in-116.is refl

pub returns-in-122 : goal.returns-in-122
unfolding registers_with
returns-in-122 c = rw c.in-122.is refl

pub returns-in-114 : goal.returns-in-114
unfolding registers_with
returns-in-114 c = rw c.in-114.is refl

pub returns-in-103 : goal.returns-in-103
unfolding registers_with
returns-in-103 c = rw c.in-103.is refl

pub returns-in-102 : goal.returns-in-102
unfolding registers_with
returns-in-102 c = rw c.in-102.is refl

pub returns-in_default : goal.returns-in_default
returns-in_default c = sym (none_with c.args.first (grind (arith, common_steps)))
