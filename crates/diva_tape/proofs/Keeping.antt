-- The lists that a tape keeps, as its lines are read.
use Rattle.std.proofs.Common.{◌≡◌, ◌≤◌, ℕ, List, [], ◌∷◌, ◌++◌, length, take, drop, sum, ap, sym, ◌∙◌, arith, length-append, length-drop}
use Rattle.std.proofs.lemmas.Grind.{common_steps}
use Rattle.std.proofs.lemmas.List.{take-append-le, drop-append-le, nil_from_length, take_all}
use Rattle.std.proofs.lemmas.List.Sums.{sum_by-cons, sum_by-append}
use Rattle.diva_isa.specs.declared.record.Record.{Record}
use Rattle.diva_tape.specs.TapeParts.{parted, IsParted}

-- one list more
pub parted_push : (counts : List ℕ) (claims list : List Record) → sum counts ≡ length claims → parted (counts ++ length list ∷ []) (claims ++ list) ≡ parted counts claims ++ list ∷ []
parted_push [] claims list whole =
    let none : claims ≡ [] = nil_from_length claims (sym whole) in
    rw none (ap (λ xs. xs ∷ []) (take_all (length list) list (omega arith)))
parted_push (count ∷ counts) claims list whole =
    let c = sum_by-cons (λ n. n) count counts in
    let d = length-drop count claims in
    ap (λ xs. xs ∷ parted (counts ++ length list ∷ []) (drop count (claims ++ list))) (take-append-le count claims list (omega arith))
    ∙ ap (λ xs. take count claims ∷ parted (counts ++ length list ∷ []) xs) (drop-append-le count claims list (omega arith))
    ∙ ap (λ xs. take count claims ∷ xs) (parted_push counts (drop count claims) list (omega arith))

-- a list more is parted too
pub still_parted : (counts : List ℕ) (claims list : List Record) → IsParted counts claims → length list ≤ 8 → IsParted (counts ++ length list ∷ []) (claims ++ list)
still_parted counts claims list is few =
    record {
      most = (let m = is.most in grind (arith, common_steps));
      whole = (let w = is.whole in let a = sum_by-append (λ n. n) counts (length list ∷ []) in let b = length-append claims list in omega arith);
    }
