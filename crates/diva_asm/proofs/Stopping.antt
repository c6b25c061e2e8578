-- Steps that stop, and labels one by one.
use Rattle.std.proofs.Common.{◌≡◌, refl, sym, subst, ◌∙◌, ap, List, ℕ, []}
use Rattle.std.specs.Prelude.{Result, Ok, Err}
use Rattle.diva_outside.specs.Steps.{and_then}
use Rattle.diva_outside.specs.Text.{Text}
use Rattle.diva_outside.specs.TextFaults.{GivesLine}
use Rattle.diva_outside.specs.declared.text_fault.LineStop.{LineStop}
use Rattle.diva_outside.specs.declared.text_fault.LineStop.TheVariants.{Fault, Memory}
use Rattle.diva_asm.specs.Inner.{Appends}
use Rattle.diva_asm.specs.Texts.{labels_of, onto_names}
use Rattle.diva_asm.specs.Laying.{with_label, with_labels, with_text, with_statement_of}
use Rattle.diva_asm.specs.declared.fault.Kind.{Kind}
use Rattle.diva_asm.specs.declared.laying.Laid.{Laid}

and_then-twice : {A B C : Type 0} (r : Result A Kind) (f : A → Result B Kind) (g : B → Result C Kind) → and_then (and_then r f) g ≡ and_then r (λ x. and_then (f x) g)
and_then-twice (Ok x) f g = refl
and_then-twice (Err k) f g = refl

-- one label more
pub text_more : (laid : Laid) (text name rest : Text) → labels_of text ≡ onto_names name (labels_of rest) → with_text laid text ≡ and_then (with_label laid name) (λ next. with_text next rest)
unfolding with_text with_labels
text_more laid text name rest e =
    rw e (and_then-twice (with_label laid name) (λ next. with_labels next (labels_of rest).names) (λ next. with_statement_of next (labels_of rest).rest))

-- no label more
pub text_ends : (laid : Laid) (text : Text) → labels_of text ≡ record { names = []; rest = text } → with_text laid text ≡ with_statement_of laid text
unfolding with_text with_labels
text_ends laid text e = rw e refl

-- what stops a first step stops the whole
pub stopped : {A B : Type 0} (due : Result A Kind) (f : A → Result B Kind) (whole : Result B Kind) (stop : LineStop Kind) → whole ≡ and_then due f → GivesLine due (Err stop) → GivesLine whole (Err stop)
stopped due f whole (Fault kind) e g = e ∙ ap (λ d. and_then d f) g
stopped due f whole Memory e g = tt

-- the same, due in other words
pub given : {A : Type 0} (due whole : Result A Kind) (r : Result A (LineStop Kind)) → whole ≡ due → GivesLine due r → GivesLine whole r
given due whole r e g = subst (λ d. GivesLine d r) (sym e) g

-- and where bytes were to be appended
pub appended_stop : {B : Type 0} (due : Result (List ℕ) Kind) (f : List ℕ → Result B Kind) (whole : Result B Kind) (old new : List ℕ) (stop : LineStop Kind) → whole ≡ and_then due f → Appends due old new (Err stop) → GivesLine whole (Err stop)
appended_stop due f whole old new (Fault kind) e g = e ∙ ap (λ d. and_then d f) g
appended_stop due f whole old new Memory e g = tt
