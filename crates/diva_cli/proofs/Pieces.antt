-- The line of a tape, piece by piece.
use Rattle.std.proofs.Common.{◌≡◌, ◌<◌, ℕ, zero, suc, ◌+◌, ◌==◌, Bool, true, false, List, [], ◌∷◌, ◌++◌, length, take, drop, get_or, refl, ap, sym, ◌∙◌, append_assoc, append-nil, add-one, arith}
use Rattle.std.proofs.lemmas.Bool.Decides.{nat_tests}
use Rattle.std.proofs.Math.Seq.{take-length}
use Rattle.diva_isa.specs.declared.record.Record.{Record}
use Rattle.diva_tape.specs.TapeText.{piece_text, pieces_text}

-- ---- some claims, and then one more

not-first : (i : ℕ) → false ≡ (suc i == 0)
not-first i = grind (arith, nat_tests)

later_more : (list : List Record) (i : ℕ) (d : Record) → i < length list
    → pieces_text false (take (i + 1) list) ≡ pieces_text false (take i list) ++ piece_text (get_or list i d) false
later_more [] i d inside = absurd (omega arith)
later_more (claim ∷ list) zero d inside = append-nil _
later_more (claim ∷ list) (suc i) d inside =
    simp add-one (ap (λ (t : List ℕ). piece_text claim false ++ t) (simp add-one at (later_more list i d (omega arith))) ∙ sym (append_assoc (piece_text claim false) (pieces_text false (take i list)) (piece_text (get_or list i d) false)))

pub pieces_more : (list : List Record) (i : ℕ) (d : Record) → i < length list
    → pieces_text true (take (i + 1) list) ≡ pieces_text true (take i list) ++ piece_text (get_or list i d) (i == 0)
pieces_more [] i d inside = absurd (omega arith)
pieces_more (claim ∷ list) zero d inside = append-nil _
pieces_more (claim ∷ list) (suc i) d inside =
    simp add-one (ap (λ (t : List ℕ). piece_text claim true ++ t) (simp add-one at (later_more list i d (omega arith))) ∙ sym (append_assoc (piece_text claim true) (pieces_text false (take i list)) (piece_text (get_or list i d) false)))
    ∙ ap (λ (b : Bool). (piece_text claim true ++ pieces_text false (take i list)) ++ piece_text (get_or list i d) b) (not-first i)

-- ---- the claims up to one, and those after it

later_halves : (list : List Record) (i : ℕ) → pieces_text false list ≡ pieces_text false (take i list) ++ pieces_text false (drop i list)
later_halves list zero = refl
later_halves [] (suc i) = refl
later_halves (claim ∷ list) (suc i) =
    ap (λ (t : List ℕ). piece_text claim false ++ t) (later_halves list i) ∙ sym (append_assoc (piece_text claim false) (pieces_text false (take i list)) (pieces_text false (drop i list)))

halves : (list : List Record) (i : ℕ) → pieces_text true list ≡ pieces_text true (take (i + 1) list) ++ pieces_text false (drop (i + 1) list)
halves [] i = simp add-one refl
halves (claim ∷ list) i =
    simp add-one (ap (λ (t : List ℕ). piece_text claim true ++ t) (later_halves list i) ∙ sym (append_assoc (piece_text claim true) (pieces_text false (take i list)) (pieces_text false (drop i list))))

pub pieces_parts : (list : List Record) (i : ℕ) (d : Record) (feed : List ℕ) → i < length list
    → pieces_text true list ++ feed ≡ (pieces_text true (take i list) ++ piece_text (get_or list i d) (i == 0)) ++ (pieces_text false (drop (i + 1) list) ++ feed)
pieces_parts list i d feed inside =
    ap (λ (t : List ℕ). t ++ feed) (halves list i ∙ ap (λ (t : List ℕ). t ++ pieces_text false (drop (i + 1) list)) (pieces_more list i d inside))
    ∙ append_assoc (pieces_text true (take i list) ++ piece_text (get_or list i d) (i == 0)) (pieces_text false (drop (i + 1) list)) feed

-- all claims, and the line feed
pub pieces_whole : (list : List Record) (i : ℕ) → length list ≡ i → pieces_text true (take i list) ≡ pieces_text true list
pieces_whole list i e = ap (λ n. pieces_text true (take n list)) (sym e) ∙ ap (pieces_text true) (take-length list)
