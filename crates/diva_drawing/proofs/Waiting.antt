-- After the last stage a row waits.
use Rattle.std.proofs.Common.{◌≡◌, ◌≤◌, ℕ, zero, suc, Bool, List, ◌++◌, None, sym, refl, arith}
use Rattle.std.proofs.lemmas.Bool.{ne_eqb}
use Rattle.std.proofs.lemmas.List.{append-nil}
use Rattle.diva_isa.specs.declared.record.Record.{Record}
use Rattle.diva_core.specs.Stages.{stage_at}
use Rattle.diva_core.specs.Timed.{depth}
use Rattle.diva_drawing.specs.Drawing.{letter}
use Rattle.diva_drawing.specs.Log.{stage_text}

none_at : (age : ℕ) → depth ≤ age → stage_at age ≡ None
none_at age past =
    rw (ne_eqb 1 age (λ e. omega arith), ne_eqb 2 age (λ e. omega arith), ne_eqb 3 age (λ e. omega arith), ne_eqb 4 age (λ e. omega arith), ne_eqb 5 age (λ e. omega arith)) refl

pub letter_waits : (solo : Bool) (age : ℕ) → depth ≤ age → letter solo age ≡ 0x2e
letter_waits solo zero past = absurd (omega arith)
letter_waits solo (suc age) past = rw (none_at (suc age) past) refl

pub text_waits : (first : List ℕ) (row place : ℕ) (r : Record) (age : ℕ) (held : List ℕ) → suc depth ≤ age → held ≡ held ++ stage_text first row place r age
text_waits first row place r zero held past = absurd (omega arith)
text_waits first row place r (suc age) held past =
    rw (none_at (suc age) (omega arith), ne_eqb (suc age) depth (λ e. omega arith)) (sym (append-nil held))
