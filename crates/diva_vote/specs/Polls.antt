-- Three lanes that are asked the same questions, and what they answer.
-- Cited by `judge_by_vote` and `recall_two_honest`; by `Machine::cycle_voted` of diva_machine.
use Rattle.std.specs.Prelude.{◌≡◌, List, [], ◌∷◌, map, Option}
use Rattle.std.specs.List.{All}
use Rattle.diva_core.specs.declared.differences.Diff.{Diff}
use Rattle.diva_vote.specs.declared.votes.Ballot.{Ballot}
use Rattle.diva_vote.specs.declared.votes.Outvoted.{Outvoted}
use Rattle.diva_vote.specs.Questions.{IsAnswer, Question, Saying}
use Rattle.diva_vote.specs.Votes.{AtLeastTwo, outvoted_more}

-- a question, and what three lanes answered to it
pub record Poll : Type 0 where
  pub question : Question
  pub ballot : Ballot

-- at least two of the three answers are those of the check
abbrev pub TwoAreRight : Poll → Type 0
TwoAreRight poll =
    AtLeastTwo (IsAnswer poll.question poll.ballot.first) (IsAnswer poll.question poll.ballot.second) (IsAnswer poll.question poll.ballot.third)

-- a lane was asked these, one after the other and nothing else, and answered so: `answer` picks its answer of a ballot
abbrev pub SaidAll : {L : Type 0} → Saying L → (answer : Ballot → Option Diff) → (before : L) → List Poll → (after : L) → Type 0
SaidAll says answer before [] after = after ≡ before
SaidAll {L} says answer before (poll ∷ rest) after =
    (between : L) × (says before poll.question (answer poll.ballot) between × SaidAll says answer between rest after)

-- three lanes were polled on these questions, in order, and on no others
pub record ArePolled {A B L : Type 0} (first_says : Saying A) (second_says : Saying B) (third_says : Saying L) (questions : List Question)
    (a : A) (b : B) (l : L) (a' : A) (b' : B) (l' : L) : Type 0 where
  pub polls : List Poll
  pub asked : map (λ poll. poll.question) polls ≡ questions
  pub first : SaidAll first_says (λ ballot. ballot.first) a polls a'
  pub second : SaidAll second_says (λ ballot. ballot.second) b polls b'
  pub third : SaidAll third_says (λ ballot. ballot.third) l polls l'

-- whatever three lanes are polled on from now on, at least two of their answers to each question are right
abbrev pub AlwaysTwoAreRight : {A B L : Type 0} → Saying A → Saying B → Saying L → A → B → L → Type 0
AlwaysTwoAreRight {A} {B} {L} first_says second_says third_says a b l =
    (questions : List Question) (a' : A) (b' : B) (l' : L) (held : ArePolled first_says second_says third_says questions a b l a' b' l')
    → All TwoAreRight held.polls

-- how often each was outvoted, after these polls
abbrev pub outvoted_after : Outvoted → List Poll → Outvoted
outvoted_after counts [] = counts
outvoted_after counts (poll ∷ rest) = outvoted_after (outvoted_more counts poll.ballot) rest

-- so they were polled, and where an answer was not the vote it was counted
pub record ArePolledAndCounted {A B L : Type 0} (first_says : Saying A) (second_says : Saying B) (third_says : Saying L)
    (questions : List Question) (a : A) (b : B) (l : L) (a' : A) (b' : B) (l' : L) (counts counts' : Outvoted) : Type 0 where
  pub held : ArePolled first_says second_says third_says questions a b l a' b' l'
  pub counted : counts' ≡ outvoted_after counts held.polls
