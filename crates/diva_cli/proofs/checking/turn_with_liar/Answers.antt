-- A line for each place of the liar.
use Rattle.std.proofs.Common.{refl}
use Rattle.diva_cli.proofs.Polling.{first_lies, second_lies, third_lies}
use Rattle.diva_cli.proofs.checking.turn_with_liar.Goals as goal

pub returns-in-First-clause-lanes : goal.returns-in-First-clause-lanes
returns-in-First-clause-lanes g c =
    rw c.in-First.is (first_lies g.L.Lane.says _ _ _ c.turn_voted.ensures.polled.held refl refl refl)

pub returns-in-Second-clause-honest : goal.returns-in-Second-clause-honest
returns-in-Second-clause-honest g c = record { first = c.turn_voted-in-Second.ensures.first_stays c.requires.honest.first; second = c.requires.honest.second; third = c.turn_voted-in-Second.ensures.third_stays c.requires.honest.third }

pub returns-in-Second-clause-lanes : goal.returns-in-Second-clause-lanes
returns-in-Second-clause-lanes g c =
    rw c.in-Second.is (second_lies g.L.Lane.says _ _ _ c.turn_voted-in-Second.ensures.polled.held refl refl refl)

pub returns-in-Third-clause-honest : goal.returns-in-Third-clause-honest
returns-in-Third-clause-honest g c = record { first = c.turn_voted-in-Third.ensures.first_stays c.requires.honest.first; second = c.turn_voted-in-Third.ensures.second_stays c.requires.honest.second; third = c.requires.honest.third }

pub returns-in-Third-clause-lanes : goal.returns-in-Third-clause-lanes
returns-in-Third-clause-lanes g c =
    rw c.in-Third.is (third_lies g.L.Lane.says _ _ _ c.turn_voted-in-Third.ensures.polled.held refl refl refl)
