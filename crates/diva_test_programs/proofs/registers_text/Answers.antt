-- The text of one register more is written.
use Rattle.std.proofs.Common.{◌∙◌, ◌++◌, ℕ, List, ap, string_bytes}
use Rattle.diva_test_programs.specs.Texts.{register_text, value_in}
use Rattle.diva_test_programs.proofs.Registers.{texts_more}
use Rattle.diva_test_programs.proofs.registers_text.Goals as goal

pub loop-register-preserved : goal.loop-register-preserved
loop-register-preserved c =
    let text : ℕ → List ℕ = λ register. register_text register (value_in c.args.set.now register) in
    let register = c.loop-register.register in
    rw (texts_more text register)
    (c.in_ok-push_register.ensures
    ∙ ap (λ (value : ℕ). string_bytes c.loop-register.text ++ register_text register value) c.value_in.ensures
    ∙ ap (λ (before : List ℕ). before ++ text register) c.loop-register.invariant)
