-- An honest lane stays honest, so two of three do.
use Rattle.diva_vote.specs.Votes.{AtLeastTwo}
use Rattle.diva_vote.proofs.Polling.{always_by}
use Rattle.diva_vote.proofs.Voting.{two_lead}
use Rattle.diva_vote.proofs.polls.recall_two_honest.Goals as goal

pub returns : goal.returns
returns g c =
    always_by g.A.Lane.says g.B.Lane.says g.L.Lane.says (λ a b l. AtLeastTwo (g.A.Lane.honest a) (g.B.Lane.honest b) (g.L.Lane.honest l))
    (λ poll a b l a' b' l' h x y z. (
      two_lead (λ honest. (g.met.A.Lane.keeps a poll.question poll.ballot.first a' honest x).0)
          (λ honest. (g.met.B.Lane.keeps b poll.question poll.ballot.second b' honest y).0)
          (λ honest. (g.met.L.Lane.keeps l poll.question poll.ballot.third l' honest z).0) h,
      two_lead (λ honest. (g.met.A.Lane.keeps a poll.question poll.ballot.first a' honest x).1)
          (λ honest. (g.met.B.Lane.keeps b poll.question poll.ballot.second b' honest y).1)
          (λ honest. (g.met.L.Lane.keeps l poll.question poll.ballot.third l' honest z).1) h,
    ))
    _ _ _ c.requires
