-- The lanes were polled while they were lent, and are given back.
use Rattle.std.proofs.Common.{[], refl, ◌∙◌, rules}
use Rattle.diva_vote.proofs.Polling.{stays_honest}
use Rattle.diva_machine.proofs.Asking.{asking_noting, drives_asking, drives_noting, polled_lent, sound_back, sound_lent}
use Rattle.diva_machine.proofs.Driving.{drives}
use Rattle.diva_machine.proofs.voted.drive_voted.Goals as goal

pub returns-clause-is : goal.returns-clause-is
returns-clause-is g c =
    let driven = c.drive_by-driven.ensures in
    rw c.note_outvoted.ensures (record {
      drives = drives_noting g.C.Core.gives _ _ _ _ _ (drives g.C.Core.gives _ _ _ _ driven.led.taken driven.was);
      ended = driven.ended;
      budget = driven.budget;
      within = driven.within;
      stays = λ off. let s = driven.stays off in search (rules, s);
    })

pub drive_by-driven-requires-clause-stages_sound : goal.drive_by-driven-requires-clause-stages_sound
drive_by-driven-requires-clause-stages_sound g c =
    let lent = c.new-panel.ensures in
    sound_lent g.A.Lane.says g.B.Lane.says g.L.Lane.says c.new-panel.result _ _ _ lent.first lent.second lent.third c.requires.majority

-- they were polled on what was asked in these turns
pub returns-clause-polled : goal.returns-clause-polled
returns-clause-polled g c =
    let lent = c.new-panel.ensures in
    let led = c.drive_by-driven.ensures.led.asked c.new-panel.result [] lent.begins in
    rw c.note_outvoted.ensures
    (asking_noting g.C.Core.gives _ _ _ _ _ _ (drives_asking g.C.Core.gives _ _ _ _ _ _ _ c.drive_by-driven.ensures.led c.drive_by-driven.ensures.was _
    (polled_lent g.A.Lane.says g.B.Lane.says g.L.Lane.says c.new-panel.result c.drive_by-driven.new.stages _ _ _ _ _ _ _ _ _
    lent.first lent.second lent.third (lent.outvoted ∙ c.outvoted.ensures)
    (search (rules, led)) (search (rules, led)) (search (rules, led)) refl led)))

pub returns-clause-majority : goal.returns-clause-majority
returns-clause-majority g c =
    let led = c.drive_by-driven.ensures.led.asked c.new-panel.result [] c.new-panel.ensures.begins in
    sound_back g.A.Lane.says g.B.Lane.says g.L.Lane.says c.drive_by-driven.new.stages _ _ _ (search (rules, led)) (search (rules, led)) (search (rules, led)) c.drive_by-driven.ensures.stages_sound

pub returns-clause-first_stays : goal.returns-clause-first_stays
returns-clause-first_stays g c =
    let polled = returns-clause-polled g c in
    stays_honest g.A.Lane.says g.A.Lane.honest g.met.A.Lane.keeps (λ ballot. ballot.first) _ _ polled.asked.held.polls polled.asked.held.first

pub returns-clause-second_stays : goal.returns-clause-second_stays
returns-clause-second_stays g c =
    let polled = returns-clause-polled g c in
    stays_honest g.B.Lane.says g.B.Lane.honest g.met.B.Lane.keeps (λ ballot. ballot.second) _ _ polled.asked.held.polls polled.asked.held.second

pub returns-clause-third_stays : goal.returns-clause-third_stays
returns-clause-third_stays g c =
    let polled = returns-clause-polled g c in
    stays_honest g.L.Lane.says g.L.Lane.honest g.met.L.Lane.keeps (λ ballot. ballot.third) _ _ polled.asked.held.polls polled.asked.held.third
