-- What was written is the text of a register.
use Rattle.std.proofs.Common.{rules, ◌≡◌, ◌++◌, OnOk, string_bytes, ℕ, List, Option, Some, ap, codes, subst}
use Rattle.std.specs.Fmt.{decimal, AppendsText, ◌++?◌, styled_digits_output}
use Rattle.diva_test_programs.specs.Texts.{end_text, hex_text}
use Rattle.diva_test_programs.proofs.Registers.{five_texts, padded_word}
use Rattle.diva_test_programs.proofs.push_register.Goals as goal

pub returns : goal.returns
returns c =
    let hex : styled_digits_output c.in_radix.result c.laid_out.result ≡ Some (hex_text c.args.value) =
    rw (c.laid_out.ensures, c.in_radix.ensures) (ap (λ (text : List ℕ). Some text) (padded_word c.args.value)) in
    let end : c.if-register-eq3.end.now ≡ end_text c.args.register = search rules in
    let name : List ℕ = decimal c.args.register in
    let value : List ℕ = hex_text c.args.value in
    subst (λ (text : List ℕ). OnOk c.write.result (string_bytes c.write.new.self ≡ string_bytes c.args.text.now ++ text))
    (five_texts (codes "x") name (codes " ") value (end_text c.args.register))
    (subst (λ (text : List ℕ). OnOk c.write.result
    (string_bytes c.write.new.self ≡ string_bytes c.args.text.now ++ (codes "x" ++ (name ++ (codes " " ++ (value ++ text)))))) end
    (subst (λ (text : Option (List ℕ)). OnOk c.write.result (AppendsText (string_bytes c.args.text.now) (string_bytes c.write.new.self)
    (Some (codes "x") ++? Some name ++? Some (codes " ") ++? text ++? Some c.if-register-eq3.end.now))) hex
    c.write.ensures.bytes))
