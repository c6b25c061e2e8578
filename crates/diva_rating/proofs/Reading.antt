-- Texts that are read, one piece and one file after the other.
use Rattle.std.proofs.Common.{◌≡◌, ◌⊎◌, ◌≤◌, ◌<◌, ◌++◌, ◌+◌, ℕ, List, [], ◌∷◌, length, take, drop, get_or, Option, Some, None, Result, Ok, Err, inl, inr, refl, ap, sym, subst, ◌∙◌, append_assoc, append-nil, arith}
use Rattle.std.specs.Io.KnownBytes.{Consumes, IsAtEnd, prepend_known}
use Rattle.std.proofs.lemmas.List.{take-append-drop, take_more}
use Rattle.diva_outside.specs.Files.{Contents, IsMissing}
use Rattle.diva_outside.specs.Lent.{lent}
use Rattle.diva_outside.specs.Lines.{LineFault}
use Rattle.diva_outside.specs.Steps.{and_then}
use Rattle.diva_outside.specs.Text.{Text}
use Rattle.diva_rate.specs.Injections.{Injections, no_injections, with_text}
use Rattle.diva_source.specs.Source.{HasFailed, IsAllOf, SourceAccount}
use Rattle.diva_rating.specs.Rated.{AreTextsOf, HasKept, IsTextOf, StopsAt, with_texts}

-- ---- one text

-- a piece more was read
pub read_more : (contents : Contents) (name text piece : Text) (old new : Option Text)
    → IsAllOf contents name (prepend_known text old) → Consumes old new piece → IsAllOf contents name (prepend_known (text ++ piece) new)
read_more None name text piece old new all some = tt
read_more (Some bytes_of) name text piece None new all some = absurd all
read_more (Some bytes_of) name text piece (Some xs) None all some = absurd some
read_more (Some bytes_of) name text piece (Some xs) (Some ys) all some =
    all ∙ ap (λ (l : List ℕ). Some l) (ap (λ (l : List ℕ). text ++ l) some ∙ sym (append_assoc text piece ys))

-- nothing was read yet
pub read_none : (contents : Contents) (name : Text) (rest : Option Text) → IsAllOf contents name rest → IsAllOf contents name (prepend_known [] rest)
read_none None name rest all = tt
read_none (Some bytes_of) name None all = absurd all
read_none (Some bytes_of) name (Some xs) all = all

-- and the end was read
pub read_whole : (contents : Contents) (name text : Text) (old new : Option Text)
    → IsAllOf contents name (prepend_known text old) → Consumes old new [] → IsAtEnd new → IsTextOf contents name text
read_whole None name text old new all none end = tt
read_whole (Some bytes_of) name text None new all none end = absurd all
read_whole (Some bytes_of) name text (Some xs) None all none end = absurd none
read_whole (Some bytes_of) name text (Some xs) (Some ys) all none end =
    all ∙ ap (λ (l : List ℕ). Some l) (ap (λ (l : List ℕ). text ++ l) (none ∙ end) ∙ append-nil text)

-- ---- one text after the other

texts_more : (contents : Contents) (names texts : List Text) (name text : Text)
    → AreTextsOf contents names texts → IsTextOf contents name text → AreTextsOf contents (names ++ name ∷ []) (texts ++ text ∷ [])
texts_more contents [] [] name text are is = (is, tt)
texts_more contents (n ∷ names) (t ∷ texts) name text are is = (are.0, texts_more contents names texts name text are.1 is)
texts_more contents [] (t ∷ texts) name text are is = absurd are
texts_more contents (n ∷ names) [] name text are is = absurd are

-- what follows a text, if it has no fault
after_ok : (due : Result Injections LineFault) (texts : List Text) (text : Text) (kept more : Injections)
    → and_then due (λ k. with_texts k texts) ≡ Ok kept → with_text kept text ≡ Ok more
    → ((k : Injections) → with_texts k texts ≡ Ok kept → with_texts k (texts ++ text ∷ []) ≡ Ok more)
    → and_then due (λ k. with_texts k (texts ++ text ∷ [])) ≡ Ok more
after_ok (Ok k) texts text kept more is next so = so k is
after_ok (Err fault) texts text kept more is next so = cc

with_more : (texts : List Text) (text : Text) (first kept more : Injections) → with_texts first texts ≡ Ok kept → with_text kept text ≡ Ok more
    → with_texts first (texts ++ text ∷ []) ≡ Ok more
with_more [] text first kept more is next =
    let same : first ≡ kept = cc in
    rw (same, next) refl
with_more (t ∷ texts) text first kept more is next =
    after_ok (with_text first t) texts text kept more is next (λ k h. with_more texts text k kept more h next)

pub none_kept : (contents : Contents) → HasKept contents [] no_injections
none_kept contents = record { texts = []; of_names = tt; is = refl }

pub kept_more : (contents : Contents) (names : List Text) (name text : Text) (kept more : Injections)
    → HasKept contents names kept → IsTextOf contents name text → with_text kept text ≡ Ok more → HasKept contents (names ++ name ∷ []) more
kept_more contents names name text kept more h is next =
    record {
      texts = h.texts ++ text ∷ [];
      of_names = texts_more contents names h.texts name text h.of_names is;
      is = with_more h.texts text no_injections kept more h.is next;
    }

-- ---- the name that a loop comes to

pub named_next : (names : List Text) (index : ℕ) (name : Text) → index < length names → name ≡ get_or names index name
    → take (index + 1) names ≡ take index names ++ name ∷ []
named_next names index name within is = take_more names index name within ∙ ap (λ (n : Text). take index names ++ n ∷ []) (sym is)

pub stops_at : (contents : Contents) (names : List Text) (index : ℕ) (name : Text) (kept : Injections) (this : (name : Text) → Injections → Type 0)
    → index < length names → name ≡ get_or names index name → HasKept contents (take index names) kept → this name kept → StopsAt contents names this
stops_at contents names index name kept this within is keeps holds =
    record {
      before = take index names;
      name = name;
      later = drop (index + 1) names;
      in_order = sym (take-append-drop (index + 1) names) ∙ ap (λ (l : List Text). l ++ drop (index + 1) names) (named_next names index name within is)
          ∙ append_assoc (take index names) (name ∷ []) (drop (index + 1) names);
      kept = kept;
      keeps = keeps;
      holds = holds;
    }

pub kept_next : (contents : Contents) (names : List Text) (index : ℕ) (name text : Text) (kept more : Injections)
    → index < length names → name ≡ get_or names index name → HasKept contents (take index names) kept → IsTextOf contents name text → with_text kept text ≡ Ok more
    → HasKept contents (take (index + 1) names) more
kept_next contents names index name text kept more within is keeps read next =
    subst (λ (l : List Text). HasKept contents l more) (sym (named_next names index name within is))
    (kept_more contents (take index names) name text kept more keeps read next)

-- why a text was not read, told of the source as it was before others were
pub cause_too : {D : Type 0} (account : D → SourceAccount) (s0 s1 s2 : D) (name : Text) → (account s1).contents ≡ (account s0).contents
    → (account s0).faults ≤ (account s1).faults
    → HasFailed (lent account s1 s2) ⊎ IsMissing (account s1).contents name → HasFailed (lent account s0 s2) ⊎ IsMissing (account s0).contents name
cause_too account s0 s1 s2 name same later (inl rose) = inl (omega (arith, later, rose))
cause_too account s0 s1 s2 name same later (inr none) = inr (subst (λ (k : Contents). IsMissing k name) same none)
