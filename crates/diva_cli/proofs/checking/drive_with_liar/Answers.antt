-- A line for each place of the liar.
use Rattle.std.proofs.Common.{refl}
use Rattle.diva_cli.proofs.Polling.{asking_so, first_lies, second_lies, third_lies}
use Rattle.diva_cli.proofs.checking.drive_with_liar.Goals as goal

pub returns-in-First-clause-drives : goal.returns-in-First-clause-drives
returns-in-First-clause-drives g c =
    rw c.in-First.is (asking_so g.C.Core.gives _ _ _ _ _ _ (λ asked polled. first_lies g.L.Lane.says _ _ asked polled.held refl refl refl) c.drive_voted.ensures.polled)

pub returns-in-Second-clause-drives : goal.returns-in-Second-clause-drives
returns-in-Second-clause-drives g c =
    rw c.in-Second.is (asking_so g.C.Core.gives _ _ _ _ _ _ (λ asked polled. second_lies g.L.Lane.says _ _ asked polled.held refl refl refl) c.drive_voted-in-Second.ensures.polled)

pub returns-in-Third-clause-drives : goal.returns-in-Third-clause-drives
returns-in-Third-clause-drives g c =
    rw c.in-Third.is (asking_so g.C.Core.gives _ _ _ _ _ _ (λ asked polled. third_lies g.L.Lane.says _ _ asked polled.held refl refl refl) c.drive_voted-in-Third.ensures.polled)
