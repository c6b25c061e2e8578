-- The items of a list of names, name by name.
use Rattle.std.proofs.Common.{◌≡◌, ◌∙◌, ◌<◌, ℕ, List, [], ◌∷◌, ◌++◌, length, refl, ap, sym, Option, Some, None, arith}
use Rattle.std.specs.Prelude.{option_and_then, option_map}
use Rattle.std.specs.List.{after_first, before_first, position_or_len, slice_split}
use Rattle.std.proofs.lemmas.List.{append_assoc, length-append}
use Rattle.std.proofs.lemmas.List.Splits.{slice_split_first, slice_split_none}
use Rattle.std.proofs.lemmas.List.Sums.{fails_before_first}
use Rattle.clap.specs.Walk.{Text}
use Rattle.diva_lab_args.specs.Choices.{all_named, at_most, choice_of, is_comma}
use Rattle.diva_lab_args.specs.Inner.{with_name}

-- the names of a text, with commas between them
abbrev pub names_in : Text → List Text
names_in = slice_split is_comma

-- a text with no comma is one name
one_name : (text : Text) → position_or_len is_comma text ≡ length text → names_in text ≡ text ∷ []
one_name text none = slice_split_none is_comma text (λ k d l. fails_before_first is_comma text k d (omega (arith, none, l)))

-- a text with a comma is the name before it, and those after it
pub first_name : (text name more : Text) → (position_or_len is_comma text < length text) × (name ≡ before_first is_comma text) × (more ≡ after_first is_comma text) → names_in text ≡ name ∷ names_in more
first_name text name more h = slice_split_first is_comma text 0 h.0 ∙ (λ i. sym h.1 i ∷ names_in (sym h.2 i))

-- ---- the items so far

-- the names of a word have so many items, and those of the rest that is not read yet
pub record Goes {A : Type 0} (named : Text → Option A) (word : Text) (items : List A) (rest : Text) : Type 0 where
  pub whole : all_named named (names_in word) ≡ option_map (λ more. items ++ more) (all_named named (names_in rest))

module _ {A : Type 0} (named : Text → Option A) (most : ℕ) where
  -- no item yet
  pub starts : (word : Text) → Goes named word [] word
  starts word = record { whole = same (all_named named (names_in word)) }
    where
      same : (found : Option (List A)) → found ≡ option_map (λ more. [] ++ more) found
      same None = refl
      same (Some more) = refl

  -- the items if one more name is read
  with_item : (items : List A) (x : A) (more : Option (List A)) → option_map (λ list. items ++ list) (option_map (λ xs. x ∷ xs) more) ≡ option_map (λ list. (items ++ x ∷ []) ++ list) more
  with_item items x None = refl
  with_item items x (Some more) = ap Some (sym (append_assoc items (x ∷ []) more))

  -- more items than there is room for are still more with others
  too_many : (items : List A) (more : Option (List A)) → at_most most items ≡ None → option_and_then (at_most most) (option_map (λ list. items ++ list) more) ≡ None
  too_many items None none = refl
  too_many items (Some more) none = let h = length-append items more in grind (arith, none, h)

  some_items : (items list : List A) → at_most most items ≡ Some list → list ≡ items
  some_items items list e = grind (arith, e)

  module _ (word : Text) (items : List A) (rest : Text) (so_far : Goes named word items rest) where
    module _ (name more : Text) (first : names_in rest ≡ name ∷ names_in more) where
      whole_by : all_named named (names_in word) ≡ option_map (λ list. items ++ list) (option_and_then (λ y. option_map (λ ys. y ∷ ys) (all_named named (names_in more))) (named name))
      whole_by = so_far.whole ∙ ap (λ (names : List Text). option_map (λ list. items ++ list) (all_named named names)) first

      -- the whole by what the name names
      by_item : (found : Option A) → named name ≡ found → all_named named (names_in word) ≡ option_map (λ list. items ++ list) (option_and_then (λ y. option_map (λ ys. y ∷ ys) (all_named named (names_in more))) found)
      by_item found e = whole_by ∙ ap (λ (o : Option A). option_map (λ list. items ++ list) (option_and_then (λ y. option_map (λ ys. y ∷ ys) (all_named named (names_in more))) o)) e

      -- there are no items
      pub ends : with_name named most items name ≡ None → choice_of named most word ≡ None
      unfolding choice_of
      ends none = go (named name) refl
        where
          go : (found : Option A) → named name ≡ found → option_and_then (at_most most) (all_named named (names_in word)) ≡ None
          go None e = ap (option_and_then (at_most most)) (by_item None e)
          go (Some x) e = ap (option_and_then (at_most most)) (by_item (Some x) e ∙ with_item items x (all_named named (names_in more)))
              ∙ too_many (items ++ x ∷ []) (all_named named (names_in more)) (rw e at none)

      -- there are more
      pub goes : (list : List A) → with_name named most items name ≡ Some list → Goes named word list more
      goes list some = go (named name) refl
        where
          go : (found : Option A) → named name ≡ found → Goes named word list more
          go None e = absurd (let h = rw e at some in cc)
          go (Some x) e = record {
            whole = by_item (Some x) e ∙ with_item items x (all_named named (names_in more))
                ∙ ap (λ (l : List A). option_map (λ more. l ++ more) (all_named named (names_in more))) (sym (some_items (items ++ x ∷ []) list (rw e at some)));
          }

    -- the last name
    pub last : position_or_len is_comma rest ≡ length rest → with_name named most items rest ≡ choice_of named most word
    unfolding choice_of
    last none = sym (ap (option_and_then (at_most most)) (so_far.whole ∙ ap (λ (names : List Text). option_map (λ list. items ++ list) (all_named named names)) (one_name rest none)) ∙ go (named rest))
      where
        go : (found : Option A) → option_and_then (at_most most) (option_map (λ list. items ++ list) (option_and_then (λ y. option_map (λ ys. y ∷ ys) (Some [])) found)) ≡ option_and_then (λ x. at_most most (items ++ x ∷ [])) found
        go None = refl
        go (Some x) = refl
