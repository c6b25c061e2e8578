-- Pieces that are put one after the other.
use Rattle.std.proofs.Common.{◌≡◌, ◌++◌, ℕ, List, Option, Some, None, Result, Ok, Err, ◌∙◌, ap, sym, append_assoc, [], ◌∷◌, ◌+◌, ◌-◌, ◌<◌, zero, suc, length, take, drop, get_or, add-one, refl, arith, append-nil}
use Rattle.std.proofs.Math.Seq.{take-add}
use Rattle.std.proofs.lemmas.List.{take-append-drop, take_rest}
use Rattle.std.specs.List.{concat}
use Rattle.std.specs.Io.KnownBytes.{Appends, Keeps}
use Rattle.diva_outside.specs.Lent.{lent}
use Rattle.diva_outside.specs.Sink.{SinkAccount, LentSink, AppendsPart, PutsTo, TakesPart, TakesPast}

appends_then : (old mid new : Option (List ℕ)) (a b : List ℕ) → Appends old mid a → Appends mid new b → Appends old new (a ++ b)
appends_then None mid new a b first second = tt
appends_then (Some x) None new a b first second = absurd first
appends_then (Some x) (Some y) None a b first second = absurd second
appends_then (Some x) (Some y) (Some z) a b first second = second ∙ ap (λ (l : List ℕ). l ++ b) first ∙ append_assoc x a b

part_then : (old mid new : Option (List ℕ)) (a b : List ℕ) → Appends old mid a → AppendsPart mid new b → AppendsPart old new (a ++ b)
part_then old mid new a b first part = record {
  front = a ++ part.front;
  rest = part.rest;
  whole = ap (λ (l : List ℕ). a ++ l) part.whole ∙ sym (append_assoc a part.front part.rest);
  appended = appends_then old mid new a part.front first part.appended;
}

-- nothing had been put
pub past_nothing : {S : Type 0} (sink : LentSink S) (text : List ℕ) → TakesPart sink text → TakesPast sink [] text
past_nothing sink text part = record { front = part.front; rest = part.rest; whole = part.whole; appended = part.appended }

appends_nothing : (old : Option (List ℕ)) → Appends old old []
appends_nothing None = tt
appends_nothing (Some x) = sym (append-nil x)

-- no piece was put
pub puts_nothing : {S E : Type 0} (account : S → SinkAccount) (s : S) → PutsTo {E = E} (lent account s s) [] (Ok tt)
puts_nothing account s = record { later = omega arith; ok = appends_nothing (account s).contents; uncounted = refl; part = tt; failed = tt }

module _ {S E : Type 0} (account : S → SinkAccount) (a b : List ℕ) where
  -- a piece was put, and then another one
  pub puts_then : (s0 s1 s2 : S) (result : Result (Unit {0}) E)
      → PutsTo {E = E} (lent account s0 s1) a (Ok tt) → PutsTo (lent account s1 s2) b result → PutsTo (lent account s0 s2) (a ++ b) result
  puts_then s0 s1 s2 (Ok u) first second = record {
    later = omega (arith, first.later, second.later);
    ok = appends_then (account s0).contents (account s1).contents (account s2).contents a b first.ok second.ok;
    uncounted = second.uncounted ∙ first.uncounted;
    part = tt;
    failed = tt;
  }
  puts_then s0 s1 s2 (Err e) first second = record {
    later = omega (arith, first.later, second.later);
    ok = tt;
    uncounted = tt;
    part = part_then (account s0).contents (account s1).contents (account s2).contents a b first.ok second.part;
    failed = omega (arith, first.later, second.failed);
  }

  -- a piece was put, and then one failed
  pub puts_past : (s0 s1 s2 : S) (e : E)
      → PutsTo {E = E} (lent account s0 s1) a (Ok tt) → PutsTo (lent account s1 s2) b (Err e) → TakesPast (lent account s0 s2) a (a ++ b)
  puts_past s0 s1 s2 e first second = record {
    front = second.part.front;
    rest = second.part.rest;
    whole = ap (λ (l : List ℕ). a ++ l) second.part.whole ∙ sym (append_assoc a second.part.front second.part.rest);
    appended = appends_then (account s0).contents (account s1).contents (account s2).contents a second.part.front first.ok second.part.appended;
  }

  -- a put failed, and the pieces after it were not put
  pub puts_cut : (s0 s1 : S) (e : E) → PutsTo (lent account s0 s1) a (Err e) → PutsTo (lent account s0 s1) (a ++ b) (Err e)
  puts_cut s0 s1 e puts = record {
    later = puts.later;
    ok = tt;
    uncounted = tt;
    part = record {
      front = puts.part.front;
      rest = puts.part.rest ++ b;
      whole = ap (λ (l : List ℕ). l ++ b) puts.part.whole ∙ append_assoc puts.part.front puts.part.rest b;
      appended = puts.part.appended;
    };
    failed = puts.failed;
  }

-- more of a piece was taken
pub appends_more : (piece : List ℕ) (n k : ℕ) (old mid new : Option (List ℕ))
    → Appends old mid (take n piece) → Appends mid new (take k (take (length piece - n) (drop n piece))) → Appends old new (take (n + k) piece)
appends_more piece n k old mid new first second =
    rw take-add (appends_then old mid new (take n piece) (take k (drop n piece)) first (rw (take_rest piece n) at second))

pub appends_kept : (bytes : List ℕ) (old mid new : Option (List ℕ)) → Appends old mid bytes → Keeps mid new → Appends old new bytes
appends_kept bytes None mid new first kept = tt
appends_kept bytes (Some x) None new first kept = absurd first
appends_kept bytes (Some x) (Some y) None first kept = absurd kept
appends_kept bytes (Some x) (Some y) (Some z) first kept = kept ∙ first

pub part_taken : (piece : List ℕ) (n : ℕ) (old new : Option (List ℕ)) → Appends old new (take n piece) → AppendsPart old new piece
part_taken piece n old new taken = record {
  front = take n piece;
  rest = drop n piece;
  whole = sym (take-append-drop n piece);
  appended = taken;
}

-- the pieces up to one, and that one
pub concat_more : (pieces : List (List ℕ)) (i : ℕ) (piece : List ℕ) → i < length pieces → piece ≡ get_or pieces i piece
    → concat (take (i + 1) pieces) ≡ concat (take i pieces) ++ piece
concat_more [] i piece h at = absurd (omega arith)
concat_more (l ∷ ls) zero piece h at = simp append-nil (sym at)
concat_more (l ∷ ls) (suc i) piece h at =
    simp add-one (ap (λ (t : List ℕ). l ++ t) (simp add-one at (concat_more ls i piece (omega arith) at)) ∙ sym (append_assoc l (concat (take i ls)) piece))

-- and the pieces after it
concat_halves : (pieces : List (List ℕ)) (i : ℕ) → concat pieces ≡ concat (take i pieces) ++ concat (drop i pieces)
concat_halves pieces zero = refl
concat_halves [] (suc i) = refl
concat_halves (l ∷ ls) (suc i) = ap (λ (t : List ℕ). l ++ t) (concat_halves ls i) ∙ sym (append_assoc l (concat (take i ls)) (concat (drop i ls)))

pub concat_parts : (pieces : List (List ℕ)) (i : ℕ) (piece : List ℕ) → i < length pieces → piece ≡ get_or pieces i piece
    → concat pieces ≡ (concat (take i pieces) ++ piece) ++ concat (drop (i + 1) pieces)
concat_parts pieces i piece h at =
    concat_halves pieces (i + 1) ∙ ap (λ (t : List ℕ). t ++ concat (drop (i + 1) pieces)) (concat_more pieces i piece h at)
