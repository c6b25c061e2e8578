-- A line of the listing without its line feed.
use Rattle.std.proofs.Common.{◌≡◌, ◌∙◌, ◌++◌, ◌-◌, ℕ, List, [], ◌∷◌, length, take, ap, sym, refl, arith, length-append, append_assoc}
use Rattle.std.proofs.lemmas.List.{take-append-le, take_all}
use Rattle.std.specs.Prelude.{codes}
use Rattle.diva_asm.specs.Listing.{list_line}
use Rattle.diva_isa.specs.declared.record.Record.{Record}
use Rattle.std.specs.Fmt.{decimal}
use Rattle.diva_claims.specs.declared.wrong.Wrong.{Wrong}
use Rattle.diva_judge.specs.Texts.{listed, missing_row, wrong_row, wrong_text}

-- a text without its last byte
but_last : (text : List ℕ) (b : ℕ) → take (length (text ++ b ∷ []) - 1) (text ++ b ∷ []) ≡ text
but_last text b =
    let e : length (text ++ b ∷ []) - 1 ≡ length text = omega (arith, length-append text (b ∷ [])) in
    rw e (take-append-le (length text) text (b ∷ []) (omega arith) ∙ take_all (length text) text (omega arith))

pub listed_line : (due : Record) → take (length (list_line due.pc due.word) - 1) (list_line due.pc due.word) ≡ listed due
unfolding list_line listed
listed_line due = but_last (listed due) 10

pub listed_feed : (due : Record) → list_line due.pc due.word ≡ listed due ++ codes "\n"
unfolding list_line listed
listed_feed due = refl

-- ---- the parts of a row

-- the beginning of a row, of this name
abbrev pub place_text : (name : List ℕ) → (place : ℕ) → List ℕ
place_text name place = name ++ decimal place ++ codes " at "

pub wrong_parts : (place : ℕ) (due : Record) (wrong : Wrong)
    → wrong_row place due wrong ≡ (place_text (codes "wrong ") place ++ listed due) ++ (codes ": " ++ wrong_text wrong ++ codes "\n")
unfolding wrong_row
wrong_parts place due wrong =
    let front : List ℕ = place_text (codes "wrong ") place ++ listed due in
    ap (λ (text : List ℕ). text ++ codes "\n") (append_assoc front (codes ": ") (wrong_text wrong))
    ∙ append_assoc front (codes ": " ++ wrong_text wrong) (codes "\n")

pub missing_parts : (place : ℕ) (due : Record) → missing_row place due ≡ place_text (codes "missing ") place ++ list_line due.pc due.word
unfolding missing_row
missing_parts place due =
    append_assoc (place_text (codes "missing ") place) (listed due) (codes "\n")
    ∙ ap (λ (text : List ℕ). place_text (codes "missing ") place ++ text) (sym (listed_feed due))
