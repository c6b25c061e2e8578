-- The lanes that are asked where an option says that one lies, and what they are asked.
-- Cited by `work`, `Lanes::own`, `top` and `lab_top`.
use Rattle.std.specs.Prelude.{◌≡◌, List, [], ◌∷◌, Option, Some, None}
use Rattle.diva_core.specs.declared.differences.Diff.{Diff}
use Rattle.diva_args.specs.declared.job.LanePlace.{LanePlace}
use Rattle.diva_args.specs.declared.job.LanePlace.TheVariants.{First, Second, Third}
use Rattle.diva_vote.specs.Lanes.{SaysEither}
use Rattle.diva_vote.specs.Questions.{Question, Saying}
use Rattle.diva_vote.specs.declared.lanes.EitherLane.{EitherLane}
use Rattle.diva_vote.specs.declared.lanes.EitherLane.TheVariants.{Honest, Liar}
use Rattle.diva_cli.specs.declared.lanes.LanePair.{LanePair}
use Rattle.diva_cli.specs.declared.lanes.Lanes.{Lanes}
use Rattle.diva_cli.specs.Changes.{LanesAsked}

-- the honest lane of each place is honest
pub record AreHonest {L : Type 0} (honest : L → Type 0) (lanes : Lanes L) : Type 0 where
  pub first : honest lanes.first.honest
  pub second : honest lanes.second.honest
  pub third : honest lanes.third.honest

-- ---- what is asked of them

-- a lane was asked these questions, one after the other, and no others, and said something to each
abbrev pub WasAsked : {L : Type 0} → Saying L → (before : L) → List Question → (after : L) → Type 0
WasAsked says before [] after = after ≡ before
WasAsked {L} says before (question ∷ rest) after =
    (answer : Option Diff) × ((between : L) × (says before question answer between × WasAsked says between rest after))

-- of a place's two lanes, the honest one was asked these questions, and the other nothing
pub record IsHonestlyAsked {L : Type 0} (says : Saying L) (before after : LanePair L) (asked : List Question) : Type 0 where
  pub heard : WasAsked says before.honest asked after.honest
  pub other : after.liar ≡ before.liar

-- or the liar was, and the other nothing
pub record IsLiarAsked {L : Type 0} (says : Saying L) (before after : LanePair L) (asked : List Question) : Type 0 where
  pub heard : WasAsked says before.liar asked after.liar
  pub other : after.honest ≡ before.honest

-- each place was asked all of these questions: at the place that is given the liar, at the two others the honest lane. With no place,
-- all lanes are as they were
abbrev pub are_asked : {L : Type 0} → Saying L → (before after : Lanes L) → LanesAsked
are_asked says before after None asked = after ≡ before
are_asked says before after (Some First) asked =
    IsLiarAsked says before.first after.first asked
    × (IsHonestlyAsked says before.second after.second asked × IsHonestlyAsked says before.third after.third asked)
are_asked says before after (Some Second) asked =
    IsHonestlyAsked says before.first after.first asked
    × (IsLiarAsked says before.second after.second asked × IsHonestlyAsked says before.third after.third asked)
are_asked says before after (Some Third) asked =
    IsHonestlyAsked says before.first after.first asked
    × (IsHonestlyAsked says before.second after.second asked × IsLiarAsked says before.third after.third asked)

-- ---- the program's own lanes

abbrev pub own_pair : LanePair EitherLane
own_pair = record { honest = Honest; liar = Liar }

abbrev pub own_lanes : Lanes EitherLane
own_lanes = record { first = own_pair; second = own_pair; third = own_pair }

-- what they say: the honest one what the check answers, the liar a lie; nothing becomes of them by it
abbrev pub own_says : Saying EitherLane
own_says before question answer after = SaysEither before question answer × (after ≡ before)

-- what is said of them, where nobody else has them: they were asked so, and are then these
pub record AreOwnAsked (liar : Option LanePlace) (asked : List Question) : Type 0 where
  pub after : Lanes EitherLane
  pub are : are_asked own_says own_lanes after liar asked

abbrev pub own_asked : LanesAsked
own_asked liar asked = AreOwnAsked liar asked
