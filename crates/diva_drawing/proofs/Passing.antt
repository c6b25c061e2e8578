-- Texts that are written one behind the other, on their way to a sink.
use Rattle.std.proofs.Common.{◌≡◌, ◌++◌, ℕ, List, [], Result, Ok, Err, ◌∙◌, ap, sym, subst, append_assoc}
use Rattle.diva_outside.specs.Lent.{lent}
use Rattle.diva_outside.specs.Sink.{SinkAccount, LentSink, PutsTo}
use Rattle.diva_outside.proofs.Sinks.{puts_cut, puts_then}
use Rattle.diva_drawing.specs.Pieces.{Passes}

-- it is a put of what was taken, or of all
pub taken_put : {S E : Type 0} (sink : LentSink S) (text held left : List ℕ)
    (p : Passes {E = E} sink text held left (Ok tt)) → PutsTo {E = E} sink p.taken (Ok tt)
taken_put sink text held left p = record { later = p.later; ok = p.ok; uncounted = p.uncounted; part = tt; failed = tt }

pub cut_put : {S E : Type 0} (sink : LentSink S) (text held left : List ℕ) (e : E)
    → Passes sink text held left (Err e) → PutsTo sink (held ++ text) (Err e)
cut_put sink text held left e p = record { later = p.later; ok = tt; uncounted = tt; part = p.part; failed = p.failed }

-- what is held, and what the sink took before, are what was held and written
behind : (a b held mid taken : List ℕ) → held ++ a ≡ taken ++ mid → held ++ (a ++ b) ≡ taken ++ (mid ++ b)
behind a b held mid taken whole =
    sym (append_assoc held a b) ∙ ap (λ (l : List ℕ). l ++ b) whole ∙ append_assoc taken mid b

module _ {S E : Type 0} (account : S → SinkAccount) where
  -- a text was written, and then another one
  pub passes_then : (a b held mid left : List ℕ) (s0 s1 s2 : S) (result : Result (Unit {0}) E)
      → Passes {E = E} (lent account s0 s1) a held mid (Ok tt) → Passes (lent account s1 s2) b mid left result
      → Passes (lent account s0 s2) (a ++ b) held left result
  passes_then a b held mid left s0 s1 s2 (Ok u) first second =
      let put = puts_then account _ _ s0 s1 s2 _ (taken_put (lent account s0 s1) a held mid first) (taken_put (lent account s1 s2) b mid left second) in
      record {
        later = put.later;
        taken = first.taken ++ second.taken;
        whole = behind a b held mid first.taken first.whole ∙ ap (λ (l : List ℕ). first.taken ++ l) second.whole ∙ sym (append_assoc first.taken second.taken left);
        ok = put.ok;
        uncounted = put.uncounted;
        part = tt;
        failed = tt;
      }
  passes_then a b held mid left s0 s1 s2 (Err e) first second =
      let put = puts_then account _ _ s0 s1 s2 (Err e) (taken_put (lent account s0 s1) a held mid first) (cut_put (lent account s1 s2) b mid left e second) in
      record {
        later = put.later;
        taken = [];
        whole = tt;
        ok = tt;
        uncounted = tt;
        part = rw (behind a b held mid first.taken first.whole) put.part;
        failed = put.failed;
      }

  -- a text was not written whole, and the texts behind it were not written
  pub passes_cut : (a b held mid left : List ℕ) (s0 s1 : S) (e : E)
      → Passes (lent account s0 s1) a held mid (Err e) → Passes (lent account s0 s1) (a ++ b) held left (Err e)
  passes_cut a b held mid left s0 s1 e first =
      let put = puts_cut account (held ++ a) b s0 s1 e (cut_put (lent account s0 s1) a held mid e first) in
      record { later = put.later; taken = []; whole = tt; ok = tt; uncounted = tt; part = rw (append_assoc held a b) at put.part; failed = put.failed }

  -- what is held at last is put
  pub passes_put : (text held left : List ℕ) (s0 s1 s2 : S) (result : Result (Unit {0}) E)
      → Passes {E = E} (lent account s0 s1) text held left (Ok tt) → PutsTo (lent account s1 s2) left result
      → PutsTo (lent account s0 s2) (held ++ text) result
  passes_put text held left s0 s1 s2 result first last =
      rw first.whole (puts_then account _ _ s0 s1 s2 result (taken_put (lent account s0 s1) text held left first) last)

  -- ---- a line of a name, cells and an end

  module _ (name cells end held mid : List ℕ) (is : held ≡ name) (s0 s1 : S) where
    -- the cells were not written whole
    pub cells_cut : (e : E) → Passes (lent account s0 s1) cells held mid (Err e) → PutsTo (lent account s0 s1) ((name ++ cells) ++ end) (Err e)
    cells_cut e p =
        subst (λ (h : List ℕ). PutsTo (lent account s0 s1) ((h ++ cells) ++ end) (Err e)) is
        (puts_cut account (held ++ cells) end s0 s1 e (cut_put (lent account s0 s1) cells held mid e p))

    module _ (left : List ℕ) (s2 : S) (first : Passes {E = E} (lent account s0 s1) cells held mid (Ok tt)) where
      -- the end was not
      pub end_cut : (e : E) → Passes (lent account s1 s2) end mid left (Err e) → PutsTo (lent account s0 s2) ((name ++ cells) ++ end) (Err e)
      end_cut e p =
          subst (λ (h : List ℕ). PutsTo (lent account s0 s2) ((h ++ cells) ++ end) (Err e)) is
          (subst (λ (t : List ℕ). PutsTo (lent account s0 s2) t (Err e)) (sym (append_assoc held cells end))
          (cut_put (lent account s0 s2) (cells ++ end) held left e (passes_then cells end held mid left s0 s1 s2 (Err e) first p)))

      -- what is held at last was put
      pub line_put : (s3 : S) (result : Result (Unit {0}) E)
          → Passes {E = E} (lent account s1 s2) end mid left (Ok tt) → PutsTo (lent account s2 s3) left result
          → PutsTo (lent account s0 s3) ((name ++ cells) ++ end) result
      line_put s3 result p last =
          subst (λ (h : List ℕ). PutsTo (lent account s0 s3) ((h ++ cells) ++ end) result) is
          (subst (λ (t : List ℕ). PutsTo (lent account s0 s3) t result) (sym (append_assoc held cells end))
          (passes_put (cells ++ end) held left s0 s2 s3 result (passes_then cells end held mid left s0 s1 s2 (Ok tt) first p) last))
