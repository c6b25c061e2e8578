-- Lines by their numbers.
use Rattle.std.proofs.Common.{◌≡◌, ◌<◌, ℕ, zero, suc, ◌+◌, List, [], ◌∷◌, ◌++◌, length, min, take, get_or, refl, ap, sym, ◌∙◌, arith, add-zero, append-nil, append_assoc}
use Rattle.std.proofs.Math.Nat.{min_comm}
use Rattle.std.proofs.lemmas.List.{take_min}
use Rattle.std.proofs.lemmas.List.FromFn.{length-map-range_with_len, get_or-map-range_with_len}
use Rattle.std.specs.List.{concat, flat_map, range_with_len}
use Rattle.diva_isa.specs.declared.record.Record.{Record}
use Rattle.diva_trace.specs.Lines.{commit_line}
use Rattle.diva_trace.specs.Text.{commit_lines, commits_text, numbered}

pub length_numbered : (n : ℕ) (line : ℕ → List ℕ) → length (numbered n line) ≡ n
length_numbered n line = length-map-range_with_len line 0 n

pub line_numbered : (n : ℕ) (line : ℕ → List ℕ) (at : ℕ) → at < n → get_or (numbered n line) at [] ≡ line at
line_numbered n line at inside = get_or-map-range_with_len line 0 n at at [] inside (omega arith)

-- ---- committed instructions

pub length_commit_lines : (first : ℕ) (records : List Record) → length (commit_lines first records) ≡ length records
length_commit_lines first [] = refl
length_commit_lines first (r ∷ records) = let e = length_commit_lines (first + 1) records in omega arith

pub line_commit_lines : (first : ℕ) (records : List Record) (at : ℕ) (d : Record) → at < length records → get_or (commit_lines first records) at [] ≡ commit_line (first + at) (get_or records at d)
line_commit_lines first [] at d inside = absurd (omega arith)
line_commit_lines first (r ∷ records) zero d inside = ap (λ n. commit_line n r) (omega arith)
line_commit_lines first (r ∷ records) (suc at) d inside =
    line_commit_lines (first + 1) records at d (omega arith) ∙ ap (λ n. commit_line n (get_or records at d)) (omega arith)

-- the lines of two runs of instructions, one behind the other
pub commit_lines-append : (first : ℕ) (a b : List Record) → commit_lines first (a ++ b) ≡ commit_lines first a ++ commit_lines (first + length a) b
commit_lines-append first [] b = ap (λ n. commit_lines n b) (omega arith)
commit_lines-append first (r ∷ a) b =
    let same : first + 1 + length a ≡ first + length (r ∷ a) = omega arith in
    ap (λ (ls : List (List ℕ)). commit_line first r ∷ ls) (commit_lines-append (first + 1) a b ∙ ap (λ n. commit_lines (first + 1) a ++ commit_lines n b) same)

concat-append : (a b : List (List ℕ)) → concat (a ++ b) ≡ concat a ++ concat b
concat-append [] b = refl
concat-append (x ∷ a) b = ap (λ (t : List ℕ). x ++ t) (concat-append a b) ∙ sym (append_assoc x (concat a) (concat b))

pub commits_text-append : (first : ℕ) (a b : List Record) → commits_text first (a ++ b) ≡ commits_text first a ++ commits_text (first + length a) b
unfolding commits_text
commits_text-append first a b = ap concat (commit_lines-append first a b) ∙ concat-append (commit_lines first a) (commit_lines (first + length a) b)

pub commits_text-none : (first : ℕ) → commits_text first [] ≡ []
unfolding commits_text
commits_text-none first = refl

-- ---- addresses

-- with one address more
pub flat_map_range_more : (f : ℕ → List ℕ) (a n : ℕ) → flat_map f (range_with_len a (n + 1)) ≡ flat_map f (range_with_len a n) ++ f (a + n)
flat_map_range_more f a zero = simp (add-zero, append-nil) refl
flat_map_range_more f a (suc n) =
    let same : a + 1 + n ≡ a + suc n = omega arith in
    let rest : flat_map f (range_with_len (a + 1) (n + 1)) ≡ flat_map f (range_with_len (a + 1) n) ++ f (a + suc n) = rw same at (flat_map_range_more f (a + 1) n) in
    let more : suc n + 1 ≡ suc (n + 1) = omega arith in
    rw more (ap (λ (t : List ℕ). f a ++ t) rest ∙ sym (append_assoc (f a) (flat_map f (range_with_len (a + 1) n)) (f (a + suc n))))

-- the bytes of a line: as many as it takes, or those that are left
pub front_min : (bytes : List ℕ) (most : ℕ) → take (min (length bytes) most) bytes ≡ take most bytes
front_min bytes most = rw min_comm (take_min most bytes)
