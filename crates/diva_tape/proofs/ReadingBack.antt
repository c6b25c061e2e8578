-- What is written is read back: the tape of a text of lists has those lists.
use Rattle.std.proofs.Common.{◌≡◌, ◌≢◌, ◌≤◌, ◌<◌, ◌+◌, ◌*◌, ◌^◌, ℕ, suc, Bool, true, false, ◌==◌, nat_le, nat_lt, List, [], ◌∷◌, ◌++◌, length, map, refl, ap, sym, ◌∙◌, arith, append_assoc, append-nil}
use Rattle.std.specs.Prelude.{Option, Some, Ok}
use Rattle.std.specs.Char.{digit_value}
use Rattle.std.specs.Fmt.{digit_glyph}
use Rattle.std.specs.List.{All, AllByRecursion, before_first, position_or_len, slice_split, filter, join_with_byte}
use Rattle.std.proofs.lemmas.Bool.Decides.{nat_tests}
use Rattle.std.proofs.lemmas.List.Elements.{All-from_recursion, recursion_from_All}
use Rattle.std.proofs.lemmas.List.Splits.{slice_split_at, slice_split_none}
use Rattle.diva_isa.specs.declared.record.Record.{Record}
use Rattle.diva_outside.specs.Lines.{is_feed, lines_of, over_lines}
use Rattle.diva_outside.specs.Numbers.{hex_of}
use Rattle.diva_outside.specs.Text.{Text, hex_word}
use Rattle.diva_outside.specs.Words.{begins_comment, is_blank, is_word, words_in, words_of}
use Rattle.diva_tape.specs.Kinds.{tape_kind_number}
use Rattle.diva_tape.specs.Tapes.{all_by, list_from, list_in, record_from, separates, tape_of, with_line}
use Rattle.diva_tape.specs.TapeText.{claim_text, numbers_of, piece_text, pieces_text, tape_text, IsClaim, IsList}
use Rattle.diva_tape.proofs.Listing.{numbers_in}

-- ---- bytes

-- a digit of a number, as it is written
record IsGlyph (b : ℕ) : Type 0 where
  low : 48 ≤ b
  other : b ≢ 59

digit-glyph : (d : ℕ) → d < 16 → IsGlyph (digit_glyph false d)
digit-glyph d low = record { low = grind (arith, nat_tests); other = λ e. grind (arith, nat_tests) }

digit-value : (d : ℕ) → d < 16 → digit_value (digit_glyph false d) ≡ d
digit-value d low = grind (arith, nat_tests)

is-less : (d : ℕ) → d < 16 → nat_lt d 16 ≡ true
is-less d low = grind (arith, nat_tests)

eight-digits : (a b c d e f g h : ℕ) → a < 16 → b < 16 → c < 16 → d < 16 → e < 16 → f < 16 → g < 16 → h < 16
    → hex_of (map (digit_glyph false) (a ∷ b ∷ c ∷ d ∷ e ∷ f ∷ g ∷ h ∷ [])) ≡ Some (((((((a * 16 + b) * 16 + c) * 16 + d) * 16 + e) * 16 + f) * 16 + g) * 16 + h)
unfolding hex_of
eight-digits a b c d e f g h la lb lc ld le lf lg lh =
    rw (digit-value a la, digit-value b lb, digit-value c lc, digit-value d ld, digit-value e le, digit-value f lf, digit-value g lg, digit-value h lh)
    (rw (is-less a la, is-less b lb, is-less c lc, is-less d ld, is-less e le, is-less f lf, is-less g lg, is-less h lh) (ap Some (omega arith)))

hex-read : (n : ℕ) → n < 2 ^ 32 → hex_of (hex_word n) ≡ Some n
hex-read n small =
    eight-digits _ _ _ _ _ _ _ _ (omega arith) (omega arith) (omega arith) (omega arith) (omega arith) (omega arith) (omega arith) (omega arith)
    ∙ ap Some (omega arith)

hex-glyphs : (n : ℕ) → AllByRecursion IsGlyph (hex_word n)
hex-glyphs n = (
  digit-glyph _ (omega arith),
  (
    digit-glyph _ (omega arith),
    (
      digit-glyph _ (omega arith),
      (
        digit-glyph _ (omega arith),
        (
          digit-glyph _ (omega arith),
          (
            digit-glyph _ (omega arith),
            (
              digit-glyph _ (omega arith),
              (
                digit-glyph _ (omega arith),
                tt,
              ),
            ),
          ),
        ),
      ),
    ),
  ),
)

-- a byte of a claim's text, and one of a line
record IsClaimByte (b : ℕ) : Type 0 where
  low : 32 ≤ b
  no_mark : b ≢ 35
  inside : b ≢ 59

record IsLineByte (b : ℕ) : Type 0 where
  low : 32 ≤ b
  no_mark : b ≢ 35

glyph-claim : (b : ℕ) → IsGlyph b → IsClaimByte b
glyph-claim b h = record { low = (let l = h.low in omega arith); no_mark = λ e. (let l = h.low in omega arith); inside = h.other }

space-claim : IsClaimByte 32
space-claim = record { low = omega arith; no_mark = λ e. omega arith; inside = λ e. omega arith }

claim-line : (b : ℕ) → IsClaimByte b → IsLineByte b
claim-line b h = record { low = h.low; no_mark = h.no_mark }

glyph-letter : (b : ℕ) → IsGlyph b → is_blank b ≡ false
glyph-letter b h = let l = h.low in grind (arith, nat_tests)

claim-inside : (b : ℕ) → IsClaimByte b → separates b ≡ false
claim-inside b h = let i = h.inside in grind (arith, nat_tests)

line-open : (b : ℕ) → IsLineByte b → begins_comment b ≡ false
line-open b h = let o = h.no_mark in grind (arith, nat_tests)

line-on : (b : ℕ) → IsLineByte b → is_feed b ≡ false
line-on b h = let l = h.low in grind (arith, nat_tests)

all-map : {P Q : ℕ → Type 0} → ((b : ℕ) → P b → Q b) → (bytes : Text) → AllByRecursion P bytes → AllByRecursion Q bytes
all-map f [] h = tt
all-map f (b ∷ bytes) h = (f b h.0, all-map f bytes h.1)

all-append : (P : ℕ → Type 0) (xs ys : Text) → AllByRecursion P xs → AllByRecursion P ys → AllByRecursion P (xs ++ ys)
all-append P [] ys h k = k
all-append P (x ∷ xs) ys h k = (h.0, all-append P xs ys h.1 k)

-- ---- words

record IsHexWord (word : Text) : Type 0 where
  some : 0 < length word
  glyphs : AllByRecursion IsGlyph word

hex-is : (n : ℕ) → IsHexWord (hex_word n)
hex-is n = record { some = omega arith; glyphs = hex-glyphs n }

kept-word : (word : Text) (words : List Text) → 0 < length word → filter is_word (word ∷ words) ≡ word ∷ filter is_word words
kept-word [] words some = absurd (omega arith)
kept-word (b ∷ word) words some = let is : is_word (b ∷ word) ≡ true = grind (arith, nat_tests) in rw is refl

letters : (word : Text) → IsHexWord word → All (λ b. is_blank b ≡ false) word
letters word is = All-from_recursion (λ b. is_blank b ≡ false) word (all-map glyph-letter word is.glyphs)

word-first : (word rest : Text) → IsHexWord word → words_in (word ++ 32 ∷ rest) ≡ word ∷ words_in rest
unfolding words_in
word-first word rest is =
    ap (filter is_word) (slice_split_at is_blank word 32 rest (letters word is) refl) ∙ kept-word word (slice_split is_blank rest) is.some

word-last : (word : Text) → IsHexWord word → words_in word ≡ word ∷ []
unfolding words_in
word-last word is = ap (filter is_word) (slice_split_none is_blank word (letters word is)) ∙ kept-word word [] is.some

words-none : words_in [] ≡ []
unfolding words_in
words-none = refl

words-behind : (text : Text) → words_in (32 ∷ text) ≡ words_in text
unfolding words_in
words-behind text = refl

words-joined : (word : Text) (words : List Text) → AllByRecursion IsHexWord (word ∷ words) → words_in (join_with_byte 32 (word ∷ words)) ≡ word ∷ words
words-joined word [] h = word-last word h.0
words-joined word (next ∷ words) h = word-first word _ h.0 ∙ ap (λ ws. word ∷ ws) (words-joined next words h.1)

-- the same, before a blank
words-before : (word : Text) (words : List Text) → AllByRecursion IsHexWord (word ∷ words) → words_in (join_with_byte 32 (word ∷ words) ++ 32 ∷ []) ≡ word ∷ words
words-before word [] h = word-first word [] h.0 ∙ ap (λ ws. word ∷ ws) words-none
words-before word (next ∷ words) h =
    ap words_in (append_assoc word (32 ∷ join_with_byte 32 (next ∷ words)) (32 ∷ []))
    ∙ word-first word (join_with_byte 32 (next ∷ words) ++ 32 ∷ []) h.0
    ∙ ap (λ ws. word ∷ ws) (words-before next words h.1)

joined-bytes : (words : List Text) → AllByRecursion IsHexWord words → AllByRecursion IsClaimByte (join_with_byte 32 words)
joined-bytes [] h = tt
joined-bytes (word ∷ []) h = all-map glyph-claim word h.0.glyphs
joined-bytes (word ∷ next ∷ words) h =
    all-append IsClaimByte word (32 ∷ join_with_byte 32 (next ∷ words)) (all-map glyph-claim word h.0.glyphs) (space-claim, joined-bytes (next ∷ words) h.1)

all-hex : (numbers : List ℕ) → AllByRecursion IsHexWord (map hex_word numbers)
all-hex [] = tt
all-hex (n ∷ numbers) = (hex-is n, all-hex numbers)

-- ---- rules for each

module _ {A B : Type 0} (rule : A → Option B) where
  all_by-cons : (x : A) (xs : List A) (y : B) (ys : List B) → rule x ≡ Some y → all_by rule xs ≡ Some ys → all_by rule (x ∷ xs) ≡ Some (y ∷ ys)
  all_by-cons x xs y ys one more = rw (one, more) refl

numbers-read : (numbers : List ℕ) → AllByRecursion (λ n. n < 2 ^ 32) numbers → all_by hex_of (map hex_word numbers) ≡ Some numbers
numbers-read [] h = refl
numbers-read (n ∷ numbers) h = all_by-cons hex_of (hex_word n) (map hex_word numbers) n numbers (hex-read n h.0) (numbers-read numbers h.1)

records-read : (list : List Record) → all_by record_from (map numbers_of list) ≡ Some list
records-read [] = refl
records-read (claim ∷ list) = all_by-cons record_from (numbers_of claim) (map numbers_of list) claim list refl (records-read list)

-- ---- parts

-- what stands before a comment, where there is none
no-comment : (text : Text) → AllByRecursion IsLineByte text → before_first begins_comment text ≡ text
no-comment [] h = refl
no-comment (b ∷ text) h =
    let open_b : begins_comment b ≡ false = line-open b h.0 in
    let one : 1 + position_or_len begins_comment text ≡ suc (position_or_len begins_comment text) = omega arith in
    rw (open_b, one) (ap (λ bytes. b ∷ bytes) (no-comment text h.1))

claim-bytes : (claim : Record) → AllByRecursion IsClaimByte (claim_text claim)
claim-bytes claim = joined-bytes (map hex_word (numbers_of claim)) (all-hex (numbers_of claim))

-- a part of a line that has a claim, before another one or not
record IsPart (part : Text) (claim : Record) : Type 0 where
  bytes : AllByRecursion IsClaimByte part
  last : numbers_in part ≡ Some (numbers_of claim)
  before : numbers_in (part ++ 32 ∷ []) ≡ Some (numbers_of claim)

module _ (claim : Record) (is : IsClaim claim) where
  part-of : (part : Text) → AllByRecursion IsClaimByte part → words_in part ≡ map hex_word (numbers_of claim) → words_in (part ++ 32 ∷ []) ≡ map hex_word (numbers_of claim) → IsPart part claim
  part-of part bytes words more =
      record {
        bytes = bytes;
        last = ap (λ t. all_by hex_of (words_in t)) (no-comment part (all-map claim-line part bytes)) ∙ ap (all_by hex_of) words ∙ numbers-read (numbers_of claim) is;
        before =
            ap (λ t. all_by hex_of (words_in t)) (no-comment (part ++ 32 ∷ []) (all-map claim-line (part ++ 32 ∷ []) (all-append IsClaimByte part (32 ∷ []) bytes (space-claim, tt))))
            ∙ ap (all_by hex_of) more
            ∙ numbers-read (numbers_of claim) is;
      }

  claim-part : IsPart (claim_text claim) claim
  claim-part = part-of (claim_text claim) (claim-bytes claim) (words-joined _ _ (all-hex (numbers_of claim))) (words-before _ _ (all-hex (numbers_of claim)))

  behind-part : IsPart (32 ∷ claim_text claim) claim
  behind-part =
      part-of (32 ∷ claim_text claim) (space-claim, claim-bytes claim)
      (words-behind (claim_text claim) ∙ words-joined _ _ (all-hex (numbers_of claim)))
      (words-behind (claim_text claim ++ 32 ∷ []) ∙ words-before _ _ (all-hex (numbers_of claim)))

insides : (part : Text) → AllByRecursion IsClaimByte part → All (λ b. separates b ≡ false) part
insides part bytes = All-from_recursion (λ b. separates b ≡ false) part (all-map claim-inside part bytes)

parts-read : (part : Text) (claim : Record) (list : List Record) → IsPart part claim → AllByRecursion IsClaim list
    → all_by numbers_in (slice_split separates (part ++ pieces_text false list)) ≡ Some (map numbers_of (claim ∷ list))
unfolding piece_text
parts-read part claim [] is fits =
    ap (λ t. all_by numbers_in (slice_split separates t)) (append-nil part)
    ∙ ap (all_by numbers_in) (slice_split_none separates part (insides part is.bytes))
    ∙ all_by-cons numbers_in part [] (numbers_of claim) [] is.last refl
parts-read part claim (next ∷ list) is fits =
    let rest : Text = (32 ∷ claim_text next) ++ pieces_text false list in
    ap (λ t. all_by numbers_in (slice_split separates t)) (sym (append_assoc part (32 ∷ []) (59 ∷ rest)))
    ∙ ap (all_by numbers_in) (slice_split_at separates (part ++ 32 ∷ []) 59 rest (insides (part ++ 32 ∷ []) (all-append IsClaimByte part (32 ∷ []) is.bytes (space-claim, tt))) refl)
    ∙ all_by-cons numbers_in (part ++ 32 ∷ []) (slice_split separates rest) (numbers_of claim) (map numbers_of (next ∷ list)) is.before
    (parts-read (32 ∷ claim_text next) next list (behind-part next fits.0) fits.1)

-- ---- lines

pieces-bytes : (first : Bool) (list : List Record) → AllByRecursion IsLineByte (pieces_text first list)
unfolding piece_text
pieces-bytes first [] = tt
pieces-bytes true (claim ∷ list) = all-append IsLineByte (claim_text claim) (pieces_text false list) (all-map claim-line (claim_text claim) (claim-bytes claim)) (pieces-bytes false list)
pieces-bytes false (claim ∷ list) =
    let space : IsLineByte 32 = record { low = omega arith; no_mark = λ e. omega arith } in
    let mark : IsLineByte 59 = record { low = omega arith; no_mark = λ e. omega arith } in
    (space, (mark, (space, all-append IsLineByte (claim_text claim) (pieces_text false list) (all-map claim-line (claim_text claim) (claim-bytes claim)) (pieces-bytes false list))))

has-words : (claim : Record) (list : List Record) → (length (words_of (pieces_text true (claim ∷ list))) == 0) ≡ false
unfolding piece_text
has-words claim list =
    let rest : Text = join_with_byte 32 (map hex_word (claim.word ∷ claim.src1 ∷ claim.src2 ∷ claim.addr ∷ claim.value ∷ claim.next ∷ claim.end ∷ [])) in
    ap (λ t. length (words_in t) == 0) (no-comment (pieces_text true (claim ∷ list)) (pieces-bytes true (claim ∷ list)))
    ∙ ap (λ ws. length ws == 0) (word-first (hex_word claim.pc) (rest ++ pieces_text false list) (hex-is claim.pc))
    ∙ grind (arith, nat_tests)

list-read : (parts : List Text) (list : List Record) → all_by numbers_in parts ≡ Some (map numbers_of list) → length list ≤ 8 → list_from parts ≡ Ok list
unfolding list_from
list-read parts list numbers few =
    let short : nat_le (length list) 8 ≡ true = grind (arith, nat_tests) in
    rw (numbers, records-read list, short) refl

line-read : (list : List Record) → length list ≤ 8 → AllByRecursion IsClaim list → list_in (pieces_text true list) ≡ Ok list
unfolding list_in piece_text words_in
line-read [] few fits = refl
line-read (claim ∷ list) few fits =
    rw (has-words claim list)
    (ap (λ t. list_from (slice_split separates t)) (no-comment (pieces_text true (claim ∷ list)) (pieces-bytes true (claim ∷ list)))
    ∙ list-read (slice_split separates (claim_text claim ++ pieces_text false list)) (claim ∷ list) (parts-read (claim_text claim) claim list (claim-part claim fits.0) fits.1) few)

-- ---- all lines

line-front : (line rest : Text) → AllByRecursion IsLineByte line → lines_of (line ++ 10 ∷ rest) ≡ line ∷ lines_of rest
line-front [] rest h = refl
line-front (b ∷ line) rest h = rw (line-on b h.0, line-front line rest h.1) refl

lines-written : (lists : List (List Record)) → lines_of (tape_text lists) ≡ map (pieces_text true) lists
lines-written [] = refl
lines-written (list ∷ lists) =
    ap lines_of (append_assoc (pieces_text true list) (10 ∷ []) (tape_text lists))
    ∙ line-front (pieces_text true list) (tape_text lists) (pieces-bytes true list)
    ∙ ap (λ lines. pieces_text true list ∷ lines) (lines-written lists)

lists-read : (n : ℕ) (before lists : List (List Record)) → AllByRecursion IsList lists → over_lines tape_kind_number with_line n before (map (pieces_text true) lists) ≡ Ok (before ++ lists)
lists-read n before [] h = ap Ok (sym (append-nil before))
lists-read n before (list ∷ lists) h =
    rw (line-read list h.0.most (recursion_from_All IsClaim list h.0.claims))
    (lists-read (n + 1) (before ++ list ∷ []) lists h.1 ∙ ap Ok (append_assoc before (list ∷ []) lists))

-- the tape of what is written of some lists has those lists
pub tape_read_back : (lists : List (List Record)) → All IsList lists → tape_of (tape_text lists) ≡ Ok lists
unfolding tape_of
tape_read_back lists are =
    ap (over_lines tape_kind_number with_line 1 []) (lines-written lists) ∙ lists-read 1 [] lists (recursion_from_All IsList lists are)
