-- What a command promises that asks no lane is what it promises where the lanes are as they were.
use Rattle.std.proofs.Common.{refl}
use Rattle.diva_cli.specs.Parts.{no_lanes}
use Rattle.diva_cli.proofs.Working.{promises_less}
use Rattle.diva_cli.proofs.program.work.Goals as goal

pub returns-in-Duo-clause-answers : goal.returns-in-Duo-clause-answers
returns-in-Duo-clause-answers g c =
    rw c.in-Duo.is (promises_less g.C.Core.gives _ _ no_lanes _ (λ liar asked none. rw none refl) _ _ _ _ c.duo.ensures)

pub returns-in-Debug-clause-answers : goal.returns-in-Debug-clause-answers
returns-in-Debug-clause-answers g c = rw c.in-Debug.is c.debug.ensures

pub returns-in-Asm-clause-answers : goal.returns-in-Asm-clause-answers
returns-in-Asm-clause-answers g c =
    rw c.in-Asm.is (promises_less g.C.Core.gives _ _ no_lanes _ (λ liar asked none. rw none refl) _ _ _ _ c.asm.ensures)

pub returns-in-Dis-clause-answers : goal.returns-in-Dis-clause-answers
returns-in-Dis-clause-answers g c =
    rw c.in-Dis.is (promises_less g.C.Core.gives _ _ no_lanes _ (λ liar asked none. rw none refl) _ _ _ _ c.dis.ensures)

pub returns-in-Migrate-clause-answers : goal.returns-in-Migrate-clause-answers
returns-in-Migrate-clause-answers g c =
    rw c.in-Migrate.is (promises_less g.C.Core.gives _ _ no_lanes _ (λ liar asked none. rw none refl) _ _ _ _ c.migrate.ensures)

pub returns-in-Soak-clause-answers : goal.returns-in-Soak-clause-answers
returns-in-Soak-clause-answers g c =
    rw c.in-Soak.is (promises_less g.C.Core.gives _ _ no_lanes _ (λ liar asked none. rw none refl) _ _ _ _ c.soak.ensures)

pub returns-in-Run-clause-answers : goal.returns-in-Run-clause-answers
returns-in-Run-clause-answers g c = rw c.in-Run.is c.run.ensures

pub returns-in-Tape-clause-answers : goal.returns-in-Tape-clause-answers
returns-in-Tape-clause-answers g c = rw c.in-Tape.is c.tape.ensures

pub returns-in-Campaign-clause-answers : goal.returns-in-Campaign-clause-answers
returns-in-Campaign-clause-answers g c = rw c.in-Campaign.is c.campaign.ensures
