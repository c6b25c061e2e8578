-- What one line more makes of a log.
use Rattle.std.proofs.Common.{◌≡◌, ◌∙◌, ◌++◌, ◌+◌, ℕ, List, [], ◌∷◌, length, Option, Some, None, Result, Ok, Err, ap, refl, arith, append-nil, rules}
use Rattle.diva_claims.specs.declared.said.Said.{Said}
use Rattle.diva_outside.specs.Lines.{LineFault}
use Rattle.diva_outside.specs.Steps.{and_then}
use Rattle.diva_outside.specs.Text.{Text}
use Rattle.diva_outside.specs.Words.{words_of}
use Rattle.diva_judge.specs.Logs.{Log, log_from, log_kind_number, log_line, log_of, log_of_said, onto_log, said_in, said_of}
use Rattle.diva_judge.specs.declared.log_line.Kind.{Kind}

-- no line
nothing : Log
nothing = record { said = []; fault = None }

-- a log that has no fault, and what comes after it
and_log : Log → Log → Log
and_log first later = record { said = first.said ++ later.said; fault = later.fault }

said_more : (n : ℕ) (said : Result Said Kind) (rest all last : Log) → (log_of_said n said rest).fault ≡ None
    → (rest.fault ≡ None → all ≡ and_log rest last) → log_of_said n said all ≡ and_log (log_of_said n said rest) last
unfolding and_log
said_more n (Ok said) rest all last none later = ap (onto_log said) (later none)
said_more n (Err kind) rest all last none later = absurd (grind (arith, none))

line_more : (n : ℕ) (words : List Text) (rest all last : Log) → (log_line n words rest).fault ≡ None
    → (rest.fault ≡ None → all ≡ and_log rest last) → log_line n words all ≡ and_log (log_line n words rest) last
line_more n [] rest all last none later = later none
line_more n (word ∷ words) rest all last none later = said_more n (said_in (word ∷ words)) rest all last none later

log_more : (n : ℕ) (lines : List Text) (line : Text) → (log_from n lines).fault ≡ None
    → log_from n (lines ++ line ∷ []) ≡ and_log (log_from n lines) (log_line (n + length lines) (words_of line) nothing)
unfolding and_log nothing
log_more n [] line none = let e : n + length {A = Text} [] ≡ n = omega arith in rw e refl
log_more n (first ∷ lines) line none =
    line_more n (words_of first) (log_from (n + 1) lines) (log_from (n + 1) (lines ++ line ∷ [])) (log_line (n + length (first ∷ lines)) (words_of line) nothing) none
    (λ none. let e : n + length (first ∷ lines) ≡ (n + 1) + length lines = omega arith in rw e (log_more (n + 1) lines line none))

-- ---- a line that has no words, one that says something, and one that has a fault

line_nothing : (n : ℕ) (words : List Text) → said_of words ≡ Ok None → log_line n words nothing ≡ nothing
line_nothing n [] is = refl
line_nothing n (word ∷ words) is = by_said (said_in (word ∷ words)) is
  where
    by_said : (said : Result Said Kind) → and_then said (λ item. Ok (Some item)) ≡ Ok None → log_of_said n said nothing ≡ nothing
    by_said (Ok said) is = absurd (grind (arith, is))
    by_said (Err kind) is = absurd (grind (arith, is))

line_said : (n : ℕ) (words : List Text) (said : Said) → said_of words ≡ Ok (Some said) → log_line n words nothing ≡ onto_log said nothing
line_said n [] said is = absurd (grind (arith, is))
line_said n (word ∷ words) said is = by_said (said_in (word ∷ words)) is
  where
    by_said : (result : Result Said Kind) → and_then result (λ item. Ok (Some item)) ≡ Ok (Some said) → log_of_said n result nothing ≡ onto_log said nothing
    by_said (Ok it) is = ap (λ (s : Said). onto_log s nothing) (search (rules, is))
    by_said (Err kind) is = absurd (grind (arith, is))

-- the fault of a line
abbrev pub fault_at : ℕ → Kind → LineFault
fault_at n kind = record { line = n; kind = log_kind_number kind }

line_fault : (n : ℕ) (words : List Text) (kind : Kind) → said_of words ≡ Err kind → log_line n words nothing ≡ record { said = []; fault = Some (fault_at n kind) }
line_fault n [] kind is = absurd (grind (arith, is))
line_fault n (word ∷ words) kind is = by_said (said_in (word ∷ words)) is
  where
    by_said : (result : Result Said Kind) → and_then {B = Option Said} result (λ item. Ok (Some item)) ≡ Err kind → log_of_said n result nothing ≡ record { said = []; fault = Some (fault_at n kind) }
    by_said (Ok it) is = absurd (grind (arith, is))
    by_said (Err k) is = ap (λ (k : Kind). record { said = []; fault = Some (fault_at n k) }) (search (rules, is))

module _ (lines : List Text) (line : Text) (faultless : (log_of lines).fault ≡ None) where
  pub more_nothing : said_of (words_of line) ≡ Ok None → log_of (lines ++ line ∷ []) ≡ record { said = (log_of lines).said; fault = None }
  unfolding and_log nothing
  more_nothing is =
      log_more 1 lines line faultless ∙ ap (and_log (log_of lines)) (line_nothing (1 + length lines) (words_of line) is)
      ∙ ap (λ (said : List Said). record { said = said; fault = None }) (append-nil (log_of lines).said)

  pub more_said : (said : Said) → said_of (words_of line) ≡ Ok (Some said)
      → log_of (lines ++ line ∷ []) ≡ record { said = (log_of lines).said ++ said ∷ []; fault = None }
  unfolding and_log nothing
  more_said said is = log_more 1 lines line faultless ∙ ap (and_log (log_of lines)) (line_said (1 + length lines) (words_of line) said is)

  pub more_fault : (kind : Kind) → said_of (words_of line) ≡ Err kind
      → log_of (lines ++ line ∷ []) ≡ record { said = (log_of lines).said; fault = Some (fault_at (1 + length lines) kind) }
  unfolding and_log nothing
  more_fault kind is =
      log_more 1 lines line faultless ∙ ap (and_log (log_of lines)) (line_fault (1 + length lines) (words_of line) kind is)
      ∙ ap (λ (said : List Said). record { said = said; fault = Some (fault_at (1 + length lines) kind) }) (append-nil (log_of lines).said)
