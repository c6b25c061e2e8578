-- The rows of claims, one by one.
use Rattle.std.proofs.Common.{◌≡◌, ◌<◌, ◌≤◌, ℕ, zero, suc, ◌+◌, List, [], ◌∷◌, ◌++◌, length, map, take, drop, get_or, refl, ap, sym, ◌∙◌, append_assoc, add-one, arith}
use Rattle.diva_drawing.specs.declared.rows.Ending.{Ending}
use Rattle.diva_drawing.specs.declared.rows.Ending.TheVariants.{Drops}
use Rattle.diva_drawing.specs.declared.rows.DrawnRow.{DrawnRow}
use Rattle.diva_drawing.specs.declared.excerpt.Excerpt.{Excerpt}
use Rattle.diva_drawing.specs.declared.snapshot.SnapshotClaim.{SnapshotClaim}
use Rattle.diva_drawing.specs.Drawing.{claim_row, dropped_claim_rows, row_text, rows_text}

pub rows_parts : (excerpt : Excerpt) (f : SnapshotClaim → DrawnRow) (claims : List SnapshotClaim) (at : ℕ) (d : SnapshotClaim) → at < length claims
    → rows_text excerpt (map f claims) ≡ (rows_text excerpt (map f (take at claims)) ++ row_text excerpt (f (get_or claims at d))) ++ rows_text excerpt (map f (drop (at + 1) claims))
rows_parts excerpt f [] at d inside = absurd (omega arith)
rows_parts excerpt f (c ∷ claims) zero d inside = refl
rows_parts excerpt f (c ∷ claims) (suc at) d inside =
    simp add-one (ap (λ (t : List ℕ). row_text excerpt (f c) ++ t) (simp add-one at (rows_parts excerpt f claims at d (omega arith)))
    ∙ sym (append_assoc (row_text excerpt (f c)) _ _)
    ∙ ap (λ (t : List ℕ). t ++ rows_text excerpt (map f (drop (suc at) claims))) (sym (append_assoc (row_text excerpt (f c)) _ _)))

-- the same of a row that is known by an equation
pub rows_at : (excerpt : Excerpt) (f : SnapshotClaim → DrawnRow) (claims : List SnapshotClaim) (at : ℕ) (row : DrawnRow) (d : SnapshotClaim) → at < length claims → row ≡ f (get_or claims at d)
    → rows_text excerpt (map f claims) ≡ (rows_text excerpt (map f (take at claims)) ++ row_text excerpt row) ++ rows_text excerpt (map f (drop (at + 1) claims))
rows_at excerpt f claims at row d inside is =
    rows_parts excerpt f claims at d inside
    ∙ ap (λ (r : DrawnRow). (rows_text excerpt (map f (take at claims)) ++ row_text excerpt r) ++ rows_text excerpt (map f (drop (at + 1) claims))) (sym is)

-- claims that are dropped: the first of them, and the others
pub dropped_parts : (excerpt : Excerpt) (last : ℕ) (first : Ending) (claims : List SnapshotClaim) (row : DrawnRow) (d : SnapshotClaim) → 1 ≤ length claims → row ≡ claim_row last first (get_or claims 0 d)
    → rows_text excerpt (dropped_claim_rows last first claims) ≡ row_text excerpt row ++ rows_text excerpt (map (claim_row last Drops) (drop 1 claims))
dropped_parts excerpt last first [] row d some is = absurd (omega arith)
dropped_parts excerpt last first (c ∷ claims) row d some is = ap (λ (r : DrawnRow). row_text excerpt r ++ rows_text excerpt (map (claim_row last Drops) claims)) (sym is)
