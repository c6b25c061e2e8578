-- Polls, one after the other, and what always holds of them.
use Rattle.std.proofs.Common.{◌≡◌, List, [], ◌∷◌, ◌++◌, map, Option, refl, sym, ap, ◌∙◌, subst}
use Rattle.std.specs.List.{All}
use Rattle.std.proofs.lemmas.List.{map-append}
use Rattle.std.proofs.lemmas.List.Elements.{All-nil, All-cons, All-head, All-tail}
use Rattle.diva_core.specs.declared.differences.Diff.{Diff}
use Rattle.diva_vote.specs.declared.votes.Ballot.{Ballot}
use Rattle.diva_vote.specs.declared.votes.Outvoted.{Outvoted}
use Rattle.diva_vote.specs.Questions.{IsAnswer, Question, Saying}
use Rattle.diva_vote.specs.Polls.{AlwaysTwoAreRight, ArePolledAndCounted, Poll, SaidAll, TwoAreRight, outvoted_after}

-- ---- one lane

said_more : {L : Type 0} (says : Saying L) (answer : Ballot → Option Diff) (a b c : L) (xs ys : List Poll)
    → SaidAll says answer a xs b → SaidAll says answer b ys c → SaidAll says answer a (xs ++ ys) c
said_more says answer a b c [] ys h k = subst (λ z. SaidAll says answer z ys c) h k
said_more says answer a b c (x ∷ xs) ys h k = (h.0, (h.1.0, said_more says answer h.0 b c xs ys h.1.1 k))

-- what an honest lane keeps over one question, it keeps over all
pub stays_honest : {L : Type 0} (says : Saying L) (honest : L → Type 0)
    (keeps : (lane : L) (q : Question) (answer : Option Diff) (after : L) → honest lane → says lane q answer after → IsAnswer q answer × honest after)
    (answer : Ballot → Option Diff) (before after : L) (polls : List Poll) → SaidAll says answer before polls after → honest before → honest after
stays_honest says honest keeps answer before after [] said h = subst honest (sym said) h
stays_honest says honest keeps answer before after (poll ∷ rest) said h =
    stays_honest says honest keeps answer said.0 after rest said.1.1 (keeps before poll.question (answer poll.ballot) said.0 h said.1.0).1

-- ---- three lanes

counted_more : (xs ys : List Poll) (counts : Outvoted) → outvoted_after counts (xs ++ ys) ≡ outvoted_after (outvoted_after counts xs) ys
counted_more [] ys counts = refl
counted_more (x ∷ xs) ys counts = counted_more xs ys _

module _ {A B L : Type 0} (first_says : Saying A) (second_says : Saying B) (third_says : Saying L) where
  -- no question
  pub polled_none : (a : A) (b : B) (l : L) (counts : Outvoted)
      → ArePolledAndCounted first_says second_says third_says [] a b l a b l counts counts
  polled_none a b l counts = record { held = record { polls = []; asked = refl; first = refl; second = refl; third = refl }; counted = refl }

  -- one question
  pub polled_once : (q : Question) (ballot : Ballot) (a : A) (b : B) (l : L) (a' : A) (b' : B) (l' : L) (counts counts' : Outvoted)
      → first_says a q ballot.first a' → second_says b q ballot.second b' → third_says l q ballot.third l'
      → counts' ≡ outvoted_after counts (record { question = q; ballot = ballot } ∷ [])
      → ArePolledAndCounted first_says second_says third_says (q ∷ []) a b l a' b' l' counts counts'
  polled_once q ballot a b l a' b' l' counts counts' x y z is =
      record {
        held = record {
          polls = record { question = q; ballot = ballot } ∷ [];
          asked = refl;
          first = (a', (x, refl));
          second = (b', (y, refl));
          third = (l', (z, refl));
        };
        counted = is;
      }

  -- more questions
  pub polled_more : (xs ys : List Question) (a : A) (b : B) (l : L) (a1 : A) (b1 : B) (l1 : L) (a2 : A) (b2 : B) (l2 : L) (counts counts1 counts2 : Outvoted)
      → ArePolledAndCounted first_says second_says third_says xs a b l a1 b1 l1 counts counts1
      → ArePolledAndCounted first_says second_says third_says ys a1 b1 l1 a2 b2 l2 counts1 counts2
      → ArePolledAndCounted first_says second_says third_says (xs ++ ys) a b l a2 b2 l2 counts counts2
  polled_more xs ys a b l a1 b1 l1 a2 b2 l2 counts counts1 counts2 h k =
      record {
        held = record {
          polls = h.held.polls ++ k.held.polls;
          asked = map-append (λ (poll : Poll). poll.question) h.held.polls k.held.polls ∙ ap (λ qs. qs ++ map (λ (poll : Poll). poll.question) k.held.polls) h.held.asked ∙ ap (λ qs. xs ++ qs) k.held.asked;
          first = said_more first_says _ a a1 a2 h.held.polls k.held.polls h.held.first k.held.first;
          second = said_more second_says _ b b1 b2 h.held.polls k.held.polls h.held.second k.held.second;
          third = said_more third_says _ l l1 l2 h.held.polls k.held.polls h.held.third k.held.third;
        };
        counted = k.counted ∙ ap (λ counts. outvoted_after counts k.held.polls) h.counted ∙ sym (counted_more h.held.polls k.held.polls counts);
      }

  -- ---- what always holds

  -- at least two are right now
  pub two_now : (q : Question) (ballot : Ballot) (a : A) (b : B) (l : L) (a' : A) (b' : B) (l' : L)
      → AlwaysTwoAreRight first_says second_says third_says a b l
      → first_says a q ballot.first a' → second_says b q ballot.second b' → third_says l q ballot.third l'
      → TwoAreRight (record { question = q; ballot = ballot })
  two_now q ballot a b l a' b' l' always x y z =
      All-head TwoAreRight _ [] (always (q ∷ []) a' b' l'
      (record { polls = record { question = q; ballot = ballot } ∷ []; asked = refl; first = (a', (x, refl)); second = (b', (y, refl)); third = (l', (z, refl)) }))

  -- and from now on
  pub two_then : (q : Question) (ballot : Ballot) (a : A) (b : B) (l : L) (a' : A) (b' : B) (l' : L)
      → AlwaysTwoAreRight first_says second_says third_says a b l
      → first_says a q ballot.first a' → second_says b q ballot.second b' → third_says l q ballot.third l'
      → AlwaysTwoAreRight first_says second_says third_says a' b' l'
  two_then q ballot a b l a' b' l' always x y z = λ asked a2 b2 l2 held.
      All-tail TwoAreRight _ held.polls (always (q ∷ asked) a2 b2 l2
      (record {
        polls = record { question = q; ballot = ballot } ∷ held.polls;
        asked = ap (λ qs. q ∷ qs) held.asked;
        first = (a', (x, held.first));
        second = (b', (y, held.second));
        third = (l', (z, held.third));
      }))

  -- what three lanes keep over one question, and what makes two answers right, does so for ever
  two_of_all : (Holds : A → B → L → Type 0)
      → ((poll : Poll) (a : A) (b : B) (l : L) (a' : A) (b' : B) (l' : L) → Holds a b l
      → first_says a poll.question poll.ballot.first a' → second_says b poll.question poll.ballot.second b' → third_says l poll.question poll.ballot.third l'
      → TwoAreRight poll × Holds a' b' l')
      → (polls : List Poll) (a : A) (b : B) (l : L) (a' : A) (b' : B) (l' : L) → Holds a b l
      → SaidAll first_says (λ ballot. ballot.first) a polls a' → SaidAll second_says (λ ballot. ballot.second) b polls b'
      → SaidAll third_says (λ ballot. ballot.third) l polls l' → All TwoAreRight polls
  two_of_all Holds step [] a b l a' b' l' h x y z = All-nil TwoAreRight
  two_of_all Holds step (poll ∷ rest) a b l a' b' l' h x y z =
      let next = step poll a b l x.0 y.0 z.0 h x.1.0 y.1.0 z.1.0 in
      All-cons TwoAreRight poll rest next.0 (two_of_all Holds step rest x.0 y.0 z.0 a' b' l' next.1 x.1.1 y.1.1 z.1.1)

  pub always_by : (Holds : A → B → L → Type 0)
      → ((poll : Poll) (a : A) (b : B) (l : L) (a' : A) (b' : B) (l' : L) → Holds a b l
      → first_says a poll.question poll.ballot.first a' → second_says b poll.question poll.ballot.second b' → third_says l poll.question poll.ballot.third l'
      → TwoAreRight poll × Holds a' b' l')
      → (a : A) (b : B) (l : L) → Holds a b l → AlwaysTwoAreRight first_says second_says third_says a b l
  always_by Holds step a b l h = λ asked a' b' l' held. two_of_all Holds step held.polls a b l a' b' l' h held.first held.second held.third
