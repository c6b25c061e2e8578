-- What lanes were asked, turn by turn and part by part.
use Rattle.std.proofs.Common.{◌≡◌, List, [], ◌∷◌, ◌++◌, Option, Some, None, refl, sym, ◌∙◌, ap, subst, map}
use Rattle.std.proofs.lemmas.List.{append-nil, append_assoc}
use Rattle.diva_isa.specs.declared.record.Record.{Record}
use Rattle.diva_core.specs.Timed.{Timed}
use Rattle.diva_core.specs.Cycle.{cycle_of, run_of}
use Rattle.diva_args.specs.declared.job.LanePlace.{LanePlace}
use Rattle.diva_args.specs.declared.job.LanePlace.TheVariants.{First, Second, Third}
use Rattle.diva_core.specs.History.{Meaning}
use Rattle.diva_machine.specs.Asked.{DrivesAsking, asked_of, asked_over}
use Rattle.diva_machine.specs.Machine.{Machine}
use Rattle.diva_core.specs.declared.differences.Diff.{Diff}
use Rattle.diva_vote.specs.Polls.{ArePolled, Poll, SaidAll}
use Rattle.diva_vote.specs.Questions.{Question, Saying}
use Rattle.diva_vote.specs.declared.votes.Ballot.{Ballot}
use Rattle.diva_cli.specs.declared.lanes.LanePair.{LanePair}
use Rattle.diva_cli.specs.declared.lanes.Lanes.{Lanes}
use Rattle.diva_vote.specs.declared.lanes.EitherLane.{EitherLane}
use Rattle.diva_cli.specs.Lanes.{IsHonestlyAsked, IsLiarAsked, WasAsked, are_asked, own_asked, own_lanes, own_says}

-- ---- what is asked over lists

pub asked_over-append : (m : Timed) (xs ys : List (List Record)) → asked_over m (xs ++ ys) ≡ asked_over m xs ++ asked_over (run_of m xs) ys
asked_over-append m [] ys = refl
asked_over-append m (list ∷ xs) ys =
    ap (λ more. asked_of m ++ more) (asked_over-append (cycle_of m list) xs ys)
    ∙ sym (append_assoc (asked_of m) (asked_over (cycle_of m list) xs) (asked_over (run_of (cycle_of m list) xs) ys))

-- one list more
pub asked_over-more : (m : Timed) (lists : List (List Record)) (list : List Record)
    → asked_over m (lists ++ list ∷ []) ≡ asked_over m lists ++ asked_of (run_of m lists)
asked_over-more m lists list =
    asked_over-append m lists (list ∷ []) ∙ ap (λ more. asked_over m lists ++ more) (append-nil (asked_of (run_of m lists)))

-- ---- what lanes were asked

was_then : {L : Type 0} (says : Saying L) (a b c : L) (xs ys : List Question) → WasAsked says a xs b → WasAsked says b ys c → WasAsked says a (xs ++ ys) c
was_then says a b c [] ys h k = subst (λ z. WasAsked says z ys c) h k
was_then says a b c (x ∷ xs) ys h k = (h.0, (h.1.0, (h.1.1.0, was_then says h.1.0 b c xs ys h.1.1.1 k)))

-- a lane that answered so in polls was asked their questions
was_polled : {L : Type 0} (says : Saying L) (answer : Ballot → Option Diff) (before : L) (polls : List Poll) (after : L)
    → SaidAll says answer before polls after → WasAsked says before (map (λ poll. poll.question) polls) after
was_polled says answer before [] after h = h
was_polled says answer before (poll ∷ polls) after h = (answer poll.ballot, (h.0, (h.1.0, was_polled says answer h.0 polls after h.1.1)))

-- the places of three lanes that were polled, of which one is the liar
module _ {L : Type 0} (says : Saying L) (before after : Lanes L) (asked : List Question) where
  same_questions : (polls : List Poll) (a b : L) → map (λ poll. poll.question) polls ≡ asked → WasAsked says a (map (λ poll. poll.question) polls) b → WasAsked says a asked b
  same_questions polls a b e h = subst (λ (qs : List Question). WasAsked says a qs b) e h

  all_heard : (a b c x y z : L) → ArePolled says says says asked a b c x y z
      → WasAsked says a asked x × (WasAsked says b asked y × WasAsked says c asked z)
  all_heard a b c x y z p = (
    same_questions p.polls a x p.asked (was_polled says _ a p.polls x p.first),
    (same_questions p.polls b y p.asked (was_polled says _ b p.polls y p.second), same_questions p.polls c z p.asked (was_polled says _ c p.polls z p.third)),
  )

  pub first_lies : ArePolled says says says asked before.first.liar before.second.honest before.third.honest after.first.liar after.second.honest after.third.honest
      → after.first.honest ≡ before.first.honest → after.second.liar ≡ before.second.liar → after.third.liar ≡ before.third.liar
      → are_asked says before after (Some First) asked
  first_lies p a b c =
      let h = all_heard _ _ _ _ _ _ p in
      (record { heard = h.0; other = a }, (record { heard = h.1.0; other = b }, record { heard = h.1.1; other = c }))

  pub second_lies : ArePolled says says says asked before.first.honest before.second.liar before.third.honest after.first.honest after.second.liar after.third.honest
      → after.first.liar ≡ before.first.liar → after.second.honest ≡ before.second.honest → after.third.liar ≡ before.third.liar
      → are_asked says before after (Some Second) asked
  second_lies p a b c =
      let h = all_heard _ _ _ _ _ _ p in
      (record { heard = h.0; other = a }, (record { heard = h.1.0; other = b }, record { heard = h.1.1; other = c }))

  pub third_lies : ArePolled says says says asked before.first.honest before.second.honest before.third.liar after.first.honest after.second.honest after.third.liar
      → after.first.liar ≡ before.first.liar → after.second.liar ≡ before.second.liar → after.third.honest ≡ before.third.honest
      → are_asked says before after (Some Third) asked
  third_lies p a b c =
      let h = all_heard _ _ _ _ _ _ p in
      (record { heard = h.0; other = a }, (record { heard = h.1.0; other = b }, record { heard = h.1.1; other = c }))

module _ {L : Type 0} (says : Saying L) where
  honest_then : (a b c : LanePair L) (xs ys : List Question) → IsHonestlyAsked says a b xs → IsHonestlyAsked says b c ys → IsHonestlyAsked says a c (xs ++ ys)
  honest_then a b c xs ys h k = record { heard = was_then says a.honest b.honest c.honest xs ys h.heard k.heard; other = k.other ∙ h.other }

  liar_then : (a b c : LanePair L) (xs ys : List Question) → IsLiarAsked says a b xs → IsLiarAsked says b c ys → IsLiarAsked says a c (xs ++ ys)
  liar_then a b c xs ys h k = record { heard = was_then says a.liar b.liar c.liar xs ys h.heard k.heard; other = k.other ∙ h.other }

  -- of nothing that was asked
  pub none_asked : (lanes : Lanes L) (liar : Option LanePlace) → are_asked says lanes lanes liar []
  none_asked lanes None = refl
  none_asked lanes (Some First) = (record { heard = refl; other = refl }, (record { heard = refl; other = refl }, record { heard = refl; other = refl }))
  none_asked lanes (Some Second) = (record { heard = refl; other = refl }, (record { heard = refl; other = refl }, record { heard = refl; other = refl }))
  none_asked lanes (Some Third) = (record { heard = refl; other = refl }, (record { heard = refl; other = refl }, record { heard = refl; other = refl }))

  -- of some questions, and then of others
  pub asked_then : (a b c : Lanes L) (liar : Option LanePlace) (xs ys : List Question)
      → are_asked says a b liar xs → are_asked says b c liar ys → are_asked says a c liar (xs ++ ys)
  asked_then a b c None xs ys h k = k ∙ h
  asked_then a b c (Some First) xs ys h k = (
    liar_then a.first b.first c.first xs ys h.0 k.0,
    (honest_then a.second b.second c.second xs ys h.1.0 k.1.0, honest_then a.third b.third c.third xs ys h.1.1 k.1.1),
  )
  asked_then a b c (Some Second) xs ys h k = (
    honest_then a.first b.first c.first xs ys h.0 k.0,
    (liar_then a.second b.second c.second xs ys h.1.0 k.1.0, honest_then a.third b.third c.third xs ys h.1.1 k.1.1),
  )
  asked_then a b c (Some Third) xs ys h k = (
    honest_then a.first b.first c.first xs ys h.0 k.0,
    (honest_then a.second b.second c.second xs ys h.1.0 k.1.0, liar_then a.third b.third c.third xs ys h.1.1 k.1.1),
  )

  -- of no place, whatever is asked
  pub unasked : (before after : Lanes L) (asked : List Question) → after ≡ before → are_asked says before after None asked
  unasked before after asked same = same

-- ---- a drive

pub asking_so : {C : Type 0} (gives : Meaning C) (m : Machine) (core : C) (last : Machine) (final : C) (this that : List Question → Type 0)
    → ((asked : List Question) → this asked → that asked) → DrivesAsking gives m core last final this → DrivesAsking gives m core last final that
asking_so gives m core last final this that so d = record { drives = d.drives; asked = so _ d.asked }

-- ---- the program's own lanes

pub own_asked_by : (lanes after : Lanes EitherLane) (liar : Option LanePlace) (asked : List Question) → lanes ≡ own_lanes
    → are_asked own_says lanes after liar asked → own_asked liar asked
own_asked_by lanes after liar asked own are = record { after = after; are = subst (λ (l : Lanes EitherLane). are_asked own_says l after liar asked) own are }

pub own_unasked : own_asked None []
own_unasked = record { after = own_lanes; are = refl }
