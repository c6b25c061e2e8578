use Rattle.std.proofs.Common.{◌≡◌, ◌≤◌, Some, ap, arith, length, refl, rules, slice_get, sym, ◌∙◌}
use Rattle.diva_ooo.specs.WindowEntry.{WindowEntry}
use Rattle.diva_ooo.proofs.Knowing.{shown}
use Rattle.diva_ooo.proofs.Windowing.{reg_last_of, reg_none_of}
use Rattle.diva_ooo.proofs.window.Window.reg.Goals as goal

pub returns-in-Some : goal.returns-in-Some
returns-in-Some c =
    let w = c.self.inside.entries.items in
    let e : WindowEntry = shown c.entry.inside in
    let there : slice_get w c.in-Some.place ≡ Some c.unwrap-entry.result.now = search rules in
    let here : slice_get w c.in-Some.place ≡ Some e = there ∙ ap Some (sym c.entry.view_is) in
    let before : c.args.at ≤ length c.args.self.now = omega arith in
    let long = c.get-before.ensures.count in
    rw (← c.self.view_is) (reg_last_of c.args.regs.now w c.args.at c.args.n c.in-Some.place e (omega arith) here (c.in-Some.ensures.some w c.self.invariant.1 (rw c.self.view_is before)))

pub returns-in-None : goal.returns-in-None
returns-in-None c =
    let w = c.self.inside.entries.items in
    let before : c.args.at ≤ length c.args.self.now = omega arith in
    let long = c.get-before.ensures.count in
    c.get-before.ensures.value ∙ rw (← c.self.view_is) (reg_none_of c.args.regs.now w c.args.at c.args.n (omega arith) (c.in-None.ensures.none w c.self.invariant.1 (rw c.self.view_is before) refl))
