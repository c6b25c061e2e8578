use Rattle.std.proofs.Common.{ℕ, refl, subst, ◌∙◌, get_or}
use Rattle.diva_ooo.specs.Board.{no_mark}
use Rattle.diva_ooo.specs.MarkSets.{IsLast}
use Rattle.diva_ooo.proofs.Asking.{behind_at, behind_free}
use Rattle.diva_ooo.proofs.board.Board.is_available_behind.Goals as goal

pub returns-in-Some : goal.returns-in-Some
returns-in-Some c = λ w i h.
    let b = c.args.self.now in
    c.has.ensures ∙ behind_at w b c.args.n c.in-Some.mark i c.requires.register (subst (λ (n : ℕ). IsLast (get_or b.writers n no_mark) 64 c.in-Some.mark) c.from.ensures c.in-Some.ensures.some) h

pub returns-in-None : goal.returns-in-None
returns-in-None c = λ w i h. behind_free w c.args.self.now c.args.n i c.requires.register (rw (← c.from.ensures) (c.in-None.ensures.none refl))
