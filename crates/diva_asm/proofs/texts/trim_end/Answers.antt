use Rattle.std.proofs.Common.{◌≡◌, ◌≤◌, ◌<◌, ◌-◌, ℕ, List, get_or, take, false, ap, arith, rules, length}
use Rattle.std.specs.List.{suffix_len}
use Rattle.std.proofs.lemmas.List.Sums.{suffix_len_is}
use Rattle.diva_outside.specs.Words.{is_blank}
use Rattle.diva_asm.specs.Texts.{trim_end}
use Rattle.diva_asm.proofs.texts.trim_end.Goals as goal
use Rattle.diva_asm.proofs.texts.trim_end.Goals.{then-loop-end-test+else-is_blank, else-loop-end-test}

-- without the blanks from a place on
cut_there : (text : List ℕ) (n : ℕ) → n ≤ length text → suffix_len is_blank text ≡ length text - n → take n text ≡ trim_end text
unfolding trim_end
cut_there text n within e = ap (λ k. take k text) (omega (arith, e))

pub returns : goal.returns
returns c =
    let text = c.args.text.now in
    let end = c.loop-end.end in
    let stops : 0 < end → is_blank (get_or text (end - 1) 0) ≡ false = elim c.loop-end-test.branch [
      | then-loop-end-test+else-is_blank w ↦ λ h. search rules
      | else-loop-end-test w ↦ λ h. absurd (omega arith)
    ] in
    cut_there text end c.loop-end.invariant.within (suffix_len_is is_blank text end 0 c.loop-end.invariant.within c.loop-end.invariant.blanks stops)
