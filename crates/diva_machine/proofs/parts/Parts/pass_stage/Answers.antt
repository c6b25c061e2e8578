use Rattle.std.proofs.Common.{◌≡◌, ℕ, ◌+◌, ◌-◌, ◌++◌, Some, slice_get, ap, sym, subst, ◌∙◌, arith}
use Rattle.std.proofs.lemmas.Option.{same_Some}
use Rattle.diva_core.specs.declared.pending.Entry.{Entry}
use Rattle.diva_core.specs.Older.{before_entry}
use Rattle.diva_machine.specs.Asked.{asked_at}
use Rattle.diva_machine.specs.Staged.{Parts}
use Rattle.diva_machine.proofs.parts.Parts.pass_stage.Goals as goal

pub returns-then-age-eq-LAST_STAGE-clause-advanced : goal.returns-then-age-eq-LAST_STAGE-clause-advanced
returns-then-age-eq-LAST_STAGE-clause-advanced g c = λ now is adv.
    let cycle : c.self.inside.cycles ≡ now + 1 = ap (λ (z : Parts). z.timed.cycles) c.self.view_is ∙ is in
    let age = c.age_in-age.ensures in
    rw (← c.self.view_is) (c.pass.ensures.advanced now c.at.result.now c.at.ensures.value (omega arith) (rw (← c.self.view_is) at adv))

pub returns-else-age-eq-LAST_STAGE-clause-advanced : goal.returns-else-age-eq-LAST_STAGE-clause-advanced
returns-else-age-eq-LAST_STAGE-clause-advanced g c = λ now is adv.
    let cycle : c.self.inside.cycles ≡ now + 1 = ap (λ (z : Parts). z.timed.cycles) c.self.view_is ∙ is in
    let age = c.age_in-age.ensures in
    rw (← c.self.view_is) (c.pass.ensures.advanced now c.at.result.now c.at.ensures.value (omega arith) (rw (← c.self.view_is) at adv))

pub returns-then-age-eq-LAST_STAGE-clause-led : goal.returns-then-age-eq-LAST_STAGE-clause-led
returns-then-age-eq-LAST_STAGE-clause-led g c = λ e first before here h.
    let there : slice_get c.self.inside.under.pending.items c.args.at ≡ Some e = ap (λ (z : Parts). slice_get z.entries c.args.at) c.self.view_is ∙ here in
    let one : c.at.result.now ≡ e = same_Some _ _ (sym c.at.ensures.value ∙ there) in
    let age : c.age_in-age.result ≡ c.self.inside.cycles - e.cycle = (let is = c.age_in-age.ensures in let same = ap (λ (x : Entry). x.cycle) one in omega arith) in
    rw (← c.self.view_is) (subst (λ (k : ℕ). g.S.Stages.led first (before ++ asked_at k (before_entry (record c.self.inside.arch.state { end = 0 }) c.self.inside.under.pending.items c.args.at) e.claim) c.pass.new.self) age (c.pass.ensures.led e first before there h))

pub returns-else-age-eq-LAST_STAGE-clause-led : goal.returns-else-age-eq-LAST_STAGE-clause-led
returns-else-age-eq-LAST_STAGE-clause-led g c = λ e first before here h.
    let there : slice_get c.self.inside.under.pending.items c.args.at ≡ Some e = ap (λ (z : Parts). slice_get z.entries c.args.at) c.self.view_is ∙ here in
    let one : c.at.result.now ≡ e = same_Some _ _ (sym c.at.ensures.value ∙ there) in
    let age : c.age_in-age.result ≡ c.self.inside.cycles - e.cycle = (let is = c.age_in-age.ensures in let same = ap (λ (x : Entry). x.cycle) one in omega arith) in
    rw (← c.self.view_is) (subst (λ (k : ℕ). g.S.Stages.led first (before ++ asked_at k (before_entry (record c.self.inside.arch.state { end = 0 }) c.self.inside.under.pending.items c.args.at) e.claim) c.pass.new.self) age (c.pass.ensures.led e first before there h))
