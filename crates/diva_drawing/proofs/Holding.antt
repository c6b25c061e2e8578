-- Lines that are appended to what is held, after room was made for them.
use Rattle.std.proofs.Common.{◌≡◌, ◌<◌, ◌+◌, ◌++◌, ◌∷◌, length, take, get_or, ℕ, zero, suc, List, [], Ok, Err, ◌∙◌, ap, sym, subst, append_assoc, append-nil, arith}
use Rattle.std.proofs.lemmas.Grind.{flat_map-append}
use Rattle.std.proofs.lemmas.List.{take_more}
use Rattle.std.specs.List.{flat_map, range_with_len}
use Rattle.diva_isa.specs.declared.record.Record.{Record}
use Rattle.diva_outside.specs.Lent.{lent}
use Rattle.diva_outside.specs.Sink.{SinkAccount}
use Rattle.diva_drawing.proofs.Fronts.{texts_more}
use Rattle.diva_drawing.specs.Log.{surplus_text}
use Rattle.diva_drawing.specs.Pieces.{Passes}
use Rattle.diva_drawing.proofs.Passing.{passes_cut, passes_then}

module _ {S E : Type 0} (account : S → SinkAccount) where
  -- room was made, and a text was appended
  pub holds_more : (text held mid left : List ℕ) (s0 s1 : S)
      → Passes {E = E} (lent account s0 s1) [] held mid (Ok tt) → left ≡ mid ++ text → Passes {E = E} (lent account s0 s1) text held left (Ok tt)
  holds_more text held mid left s0 s1 first is = record {
    later = first.later;
    taken = first.taken;
    whole = ap (λ (l : List ℕ). l ++ text) (sym (append-nil held) ∙ first.whole) ∙ append_assoc first.taken mid text ∙ ap (λ (l : List ℕ). first.taken ++ l) (sym is);
    ok = first.ok;
    uncounted = first.uncounted;
    part = tt;
    failed = tt;
  }

  -- no room could be made for it
  pub holds_less : (text held mid left : List ℕ) (s0 s1 : S) (e : E)
      → Passes (lent account s0 s1) [] held mid (Err e) → Passes (lent account s0 s1) text held left (Err e)
  holds_less text held mid left s0 s1 e first = passes_cut account [] text held mid left s0 s1 e first

  -- a text was written, and no room could be made for the rest
  pub holds_front : (whole front rest held mid end left : List ℕ) (s0 s1 s2 : S) (e : E)
      → whole ≡ front ++ rest → Passes {E = E} (lent account s0 s1) front held mid (Ok tt) → Passes (lent account s1 s2) [] mid end (Err e)
      → Passes (lent account s0 s2) whole held left (Err e)
  holds_front whole front rest held mid end left s0 s1 s2 e is first last =
      subst (λ (t : List ℕ). Passes (lent account s0 s2) t held left (Err e)) (sym is)
      (passes_then account front rest held mid left s0 s1 s2 (Err e) first (holds_less rest mid end left s1 s2 e last))

-- the texts of the numbers from 0 on, and of those that follow
pub texts_front : (f : ℕ → List ℕ) (n more : ℕ) → (rest : List ℕ) × (flat_map f (range_with_len 0 (n + more)) ≡ flat_map f (range_with_len 0 n) ++ rest)
texts_front f n zero =
    let same : n + 0 ≡ n = omega arith in
    ([], ap (λ k. flat_map f (range_with_len 0 k)) same ∙ sym (append-nil (flat_map f (range_with_len 0 n))))
texts_front f n (suc more) =
    let before = texts_front f n more in
    let next : n + suc more ≡ n + more + 1 = omega arith in (
      before.0 ++ f (n + more),
      ap (λ k. flat_map f (range_with_len 0 k)) next ∙ texts_more f (n + more)
          ∙ ap (λ (l : List ℕ). l ++ f (n + more)) before.1 ∙ append_assoc (flat_map f (range_with_len 0 n)) before.0 (f (n + more)),
    )

-- the lines of some claims, and of one more
pub surplus_more : {S E : Type 0} (account : S → SinkAccount) (row : ℕ) (claims : List Record) (at : ℕ) (d : Record) (held mid end left : List ℕ) (s0 s1 s2 : S)
    → at < length claims → Passes {E = E} (lent account s0 s1) (surplus_text row (take at claims)) held mid (Ok tt)
    → Passes {E = E} (lent account s1 s2) [] mid end (Ok tt)
    → left ≡ end ++ surplus_text row (get_or claims at d ∷ []) → Passes {E = E} (lent account s0 s2) (surplus_text row (take (at + 1) claims)) held left (Ok tt)
surplus_more {E = E} account row claims at d held mid end left s0 s1 s2 inside first room is =
    let more : surplus_text row (take (at + 1) claims) ≡ surplus_text row (take at claims) ++ surplus_text row (get_or claims at d ∷ []) =
    ap (surplus_text row) (take_more claims at d inside) ∙ flat_map-append _ (take at claims) (get_or claims at d ∷ []) in
    subst (λ (t : List ℕ). Passes {E = E} (lent account s0 s2) t held left (Ok tt)) (sym more)
    (passes_then account _ (surplus_text row (get_or claims at d ∷ [])) held mid left s0 s1 s2 (Ok tt) first
    (holds_more account _ mid end left s1 s2 room is))
