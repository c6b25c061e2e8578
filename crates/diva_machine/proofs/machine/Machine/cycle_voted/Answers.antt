-- The lanes were polled while they were lent, and are given back.
use Rattle.std.proofs.Common.{[], sym, ap, ◌∙◌, rules}
use Rattle.diva_vote.proofs.Polling.{stays_honest}
use Rattle.diva_machine.specs.Machine.{Machine}
use Rattle.diva_machine.proofs.Laws.{is_cycle}
use Rattle.diva_machine.proofs.Asking.{polled_lent, sound_back, sound_lent}
use Rattle.diva_machine.proofs.machine.Machine.cycle_voted.Goals as goal

pub cycle_by-requires-clause-stages_sound : goal.cycle_by-requires-clause-stages_sound
cycle_by-requires-clause-stages_sound g c =
    let lent = c.new-panel.ensures in
    sound_lent g.A.Lane.says g.B.Lane.says g.L.Lane.says c.new-panel.result _ _ _ lent.first lent.second lent.third c.requires.majority

pub returns-clause-is : goal.returns-clause-is
returns-clause-is g c = rw c.note_outvoted.ensures (is_cycle _ _ _ c.cycle_by.ensures.was c.cycle_by.ensures.cycled c.cycle_by.ensures.last c.cycle_by.ensures.checked c.cycle_by.ensures.stays)

pub returns-clause-polled : goal.returns-clause-polled
returns-clause-polled g c =
    let lent = c.new-panel.ensures in
    let led = c.cycle_by.ensures.led c.new-panel.result [] lent.begins in
    polled_lent g.A.Lane.says g.B.Lane.says g.L.Lane.says c.new-panel.result c.cycle_by.new.stages _ _ _ _ _ _ _ _ _
    lent.first lent.second lent.third (lent.outvoted ∙ ap (λ (m : Machine). m.outvoted) c.self.view_is)
    (search (rules, led)) (search (rules, led)) (search (rules, led)) (sym (ap (λ (m : Machine). m.outvoted) c.note_outvoted.ensures)) led

pub returns-clause-majority : goal.returns-clause-majority
returns-clause-majority g c =
    let led = c.cycle_by.ensures.led c.new-panel.result [] c.new-panel.ensures.begins in
    sound_back g.A.Lane.says g.B.Lane.says g.L.Lane.says c.cycle_by.new.stages _ _ _ (search (rules, led)) (search (rules, led)) (search (rules, led)) c.cycle_by.ensures.stages_sound

pub returns-clause-first_stays : goal.returns-clause-first_stays
returns-clause-first_stays g c =
    let polled = returns-clause-polled g c in
    stays_honest g.A.Lane.says g.A.Lane.honest g.met.A.Lane.keeps (λ ballot. ballot.first) _ _ polled.held.polls polled.held.first

pub returns-clause-second_stays : goal.returns-clause-second_stays
returns-clause-second_stays g c =
    let polled = returns-clause-polled g c in
    stays_honest g.B.Lane.says g.B.Lane.honest g.met.B.Lane.keeps (λ ballot. ballot.second) _ _ polled.held.polls polled.held.second

pub returns-clause-third_stays : goal.returns-clause-third_stays
returns-clause-third_stays g c =
    let polled = returns-clause-polled g c in
    stays_honest g.L.Lane.says g.L.Lane.honest g.met.L.Lane.keeps (λ ballot. ballot.third) _ _ polled.held.polls polled.held.third
