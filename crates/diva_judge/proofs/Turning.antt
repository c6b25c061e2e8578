-- A turn of a machine that is judging a line.
use Rattle.std.proofs.Common.{◌≡◌, ◌≢◌, ◌+◌, ◌-◌, true, List, [], ◌∷◌, ap, sym, ◌∙◌, arith, subst}
use Rattle.diva_isa.specs.State.{goes_on}
use Rattle.diva_isa.specs.Step.{record_of}
use Rattle.diva_isa.specs.declared.record.Record.{Record}
use Rattle.diva_core.specs.Headline.{dues}
use Rattle.diva_core.specs.Timed.{Timed}
use Rattle.diva_core.specs.Told.{told_of}
use Rattle.diva_core.proofs.Outcomes.{cycle-cycles}
use Rattle.diva_machine.specs.Cycles.{IsTurn}
use Rattle.diva_machine.specs.Machine.{Machine}
use Rattle.diva_claims.specs.Judged.{HasJudged, IsLineCall}
use Rattle.diva_claims.specs.declared.said.Said.{Said}
use Rattle.diva_claims.proofs.Judging.{IsJudging, Next, judges, judges_on, judging}

has-judged : (said : Said) (m n : Timed) → n.count ≢ m.count → Next said m n → HasJudged m n said
has-judged said m n more (judging j) = absurd (more j.count)
has-judged said m n more (judges j) = j

is-judging : (said : Said) (m n : Timed) → n.count ≡ m.count → Next said m n → IsJudging said m n
is-judging said m n same (judging j) = j
is-judging said m n same (judges j) = absurd (let c = j.counted in omega arith)

module _ (said : Said) (m : Timed) (b n : Machine) (before after : Said) (list : List Record)
    (g : IsJudging said m b.timed) (on : goes_on m.arch ≡ true) (same : before ≡ said) (t : IsTurn IsLineCall b before list n after) where
  goes : goes_on b.timed.arch ≡ true
  goes = ap goes_on g.arch ∙ on

  asked : IsLineCall said (told_of b.timed) b.timed.arch list after
  asked = subst (λ (x : Said). IsLineCall x (told_of b.timed) b.timed.arch list after) same (t.asked goes)

  next : Next said m n.timed
  next = subst (Next said m) (sym t.cycle.cycled) (judges_on said m b.timed list after g on asked)

  pub judged : n.timed.count ≢ m.count → HasJudged m n.timed said
  judged more = has-judged said m n.timed more next

  -- the record of the instruction that was counted
  pub shows : n.timed.count ≢ m.count → n.last ≡ record_of m.arch ∷ []
  shows more =
      let one : n.timed.count - b.timed.count ≡ 1 = (let j = (judged more).counted in let c = g.count in omega arith) in
      t.cycle.hart.due ∙ ap (λ k. dues k b.timed.arch) one ∙ ap (λ s. record_of s ∷ []) g.arch

  pub judges-still : n.timed.count ≡ m.count → IsJudging said m n.timed
  judges-still none = is-judging said m n.timed none next

  pub says-still : after ≡ said
  says-still = asked.keeps

  pub cycles-more : n.timed.cycles ≡ b.timed.cycles + 1
  cycles-more = ap (λ (z : Timed). z.cycles) t.cycle.cycled ∙ cycle-cycles b.timed list g.machine goes
