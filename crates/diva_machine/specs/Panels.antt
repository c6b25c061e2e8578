-- Three lanes that are lent to the stages.
-- Only private contracts of this crate cite this: a reader of its promises can pass over it.
use Rattle.std.specs.Prelude.{ℕ, ◌≡◌, List}
use Rattle.diva_vote.specs.Polls.{AlwaysTwoAreRight, ArePolledAndCounted}
use Rattle.diva_vote.specs.Questions.{Question, Saying}
use Rattle.diva_machine.specs.declared.panel.Panel.{Panel}

-- the lanes that are lent
abbrev pub in_first : {A B L : Type 0} → Panel A B L → A
in_first p = p.first.now

abbrev pub in_second : {A B L : Type 0} → Panel A B L → B
in_second p = p.second.now

abbrev pub in_third : {A B L : Type 0} → Panel A B L → L
in_third p = p.third.now

-- these references are lent
pub record ArePanel {A B L : Type 0} (first second third : ℕ) (p : Panel A B L) : Type 0 where
  pub first_is : p.first.ghost_name ≡ first
  pub second_is : p.second.ghost_name ≡ second
  pub third_is : p.third.ghost_name ≡ third

-- of the lanes that are lent, at least two will be right each time
abbrev pub IsSound : {A B L : Type 0} → Saying A → Saying B → Saying L → Panel A B L → Type 0
IsSound first_says second_says third_says p = AlwaysTwoAreRight first_says second_says third_says (in_first p) (in_second p) (in_third p)

-- they were polled on these questions, where one was outvoted the panel counted it, and the same ones are lent
pub record LedLanes {A B L : Type 0} (first_says : Saying A) (second_says : Saying B) (third_says : Saying L)
    (p : Panel A B L) (asked : List Question) (q : Panel A B L) : Type 0 where
  pub polled : ArePolledAndCounted first_says second_says third_says asked
      (in_first p) (in_second p) (in_third p) (in_first q) (in_second q) (in_third q) p.outvoted q.outvoted
  pub same : ArePanel p.first.ghost_name p.second.ghost_name p.third.ghost_name q
