-- Names among others.
use Rattle.std.proofs.Common.{Bor, ◌≡◌, ℕ, List, [], ◌∷◌, length, get_or, Bool, true, false, refl, sym, ◌∙◌, ap, arith}
use Rattle.std.specs.Prelude.{Option, Some, None, find, ◌==◌, ◌&&◌, map}
use Rattle.std.specs.List.{filter, list_all, list_any}
use Rattle.std.specs.Str.{bytes_eq}
use Rattle.std.specs.Option.{option_map, option_or}
use Rattle.std.proofs.lemmas.Grind.{common_steps}
use Rattle.std.proofs.lemmas.List.Folds.{find-append}
use Rattle.std.specs.Map.{lookup}
use Rattle.std.proofs.lemmas.Map.Entries.{lookup-filter-keys}
use Rattle.diva_asm.proofs.Places.{seen, looked_up}
use Rattle.diva_asm.specs.Operands.{registers, register_of}
use Rattle.std.proofs.lemmas.Slice.Eq.{bytes_eq-Decides}
use Rattle.diva_decode.specs.Table.{table}
use Rattle.diva_decode.specs.declared.op.Op.{Op}
use Rattle.diva_outside.specs.Text.{Text}
use Rattle.diva_asm.specs.Inner.{begins_with, registers_with}
use Rattle.diva_asm.specs.Mnemonics.{op_name, name_of, mnemonic_of}
use Rattle.diva_asm.specs.declared.mnemonic.Mnemonic.{Mnemonic}
use Rattle.diva_asm.specs.declared.mnemonic.Mnemonic.TheVariants.{Instruction, Nop, Ret, Mv, Li, La, J as Jump, Jr, Word, Byte, Space, Base, Size, Entry}

-- what is found stands among those that pass a test which each thing that can be found passes
find-filter : {X : Type 0} (test p : X → Bool) → ((x : X) → test x ≡ true → p x ≡ true) → (xs : List X) → find test (filter p xs) ≡ find test xs
find-filter test p passes [] = refl
find-filter test p passes (x ∷ xs) = by (test x) (p x) refl refl (find-filter test p passes xs)
  where
    by : (t q : Bool) → test x ≡ t → p x ≡ q → find test (filter p xs) ≡ find test xs → find test (filter p (x ∷ xs)) ≡ find test (x ∷ xs)
    by true true e f more = rw (f, e) refl
    by true false e f more = absurd (cc (passes x e))
    by false true e f more = rw (f, e) more
    by false false e f more = rw (f, e) more

same_first : (word name : Text) → bytes_eq name word ≡ true → begins_with (get_or word 0 0) name ≡ true
same_first word name t =
    let same : name ≡ word = (bytes_eq-Decides name word).0 t in
    rw same (grind (arith, common_steps))

find-map : {X Y : Type 0} (test : Y → Bool) (f : X → Y) (xs : List X) → find test (map f xs) ≡ option_map f (find (λ x. test (f x)) xs)
find-map test f [] = refl
find-map test f (x ∷ xs) = by (test (f x)) refl (find-map test f xs)
  where
    by : (t : Bool) → test (f x) ≡ t → find test (map f xs) ≡ option_map f (find (λ x. test (f x)) xs) → find test (map f (x ∷ xs)) ≡ option_map f (find (λ x. test (f x)) (x ∷ xs))
    by true e more = rw e refl
    by false e more = rw e more

-- ---- operations

abbrev pub op_of : Text → Option Op
op_of word = find (λ op. bytes_eq (op_name op) word) table

-- an operation stands among those that begin as the word does
pub found_among : (word : Text) → find (λ op. bytes_eq (op_name op) word) (filter (λ op. begins_with (get_or word 0 0) (op_name op)) table) ≡ op_of word
found_among word = find-filter _ _ (λ op. same_first word (op_name op)) table

-- ---- mnemonics

abbrev others : List Mnemonic
others = Nop ∷ Ret ∷ Mv ∷ Li ∷ La ∷ Jump ∷ Jr ∷ Word ∷ Byte ∷ Space ∷ Base ∷ Size ∷ Entry ∷ []

two_parts : (word : Text) → mnemonic_of word ≡ option_or (option_map (λ op. Instruction op) (op_of word)) (find (λ m. bytes_eq (name_of m) word) others)
unfolding mnemonic_of
two_parts word =
    let test = λ (m : Mnemonic). bytes_eq (name_of m) word in
    find-append test (map (λ op. Instruction op) table) others ∙ ap (λ first. option_or first (find test others)) (find-map test (λ op. Instruction op) table)

pub of_operation : (word : Text) (op : Op) → op_of word ≡ Some op → mnemonic_of word ≡ Some (Instruction op)
of_operation word op e = two_parts word ∙ ap (λ first. option_or (option_map (λ op. Instruction op) first) (find (λ m. bytes_eq (name_of m) word) others)) e

pub of_other : (word : Text) → op_of word ≡ None → mnemonic_of word ≡ find (λ m. bytes_eq (name_of m) word) others
of_other word e = two_parts word ∙ ap (λ first. option_or (option_map (λ op. Instruction op) first) (find (λ m. bytes_eq (name_of m) word) others)) e

-- ---- registers

-- a register stands among those whose names begin as the word does
pub register_among : (names : List (Bor Text × ℕ)) (word : Text) → seen names ≡ registers_with (get_or word 0 0) → lookup (λ name. bytes_eq name.now word) names ≡ register_of word
unfolding register_of registers_with
register_among names word e =
    let test = λ (name : Text). bytes_eq name word in
    sym (looked_up test names) ∙ ap (lookup test) e ∙ lookup-filter-keys test (begins_with (get_or word 0 0)) true (λ name. same_first word name) registers

pub no_register : (word : Text) → length word ≡ 0 → register_of word ≡ None
unfolding register_of
no_register [] e = refl
no_register (b ∷ word) e = absurd (omega arith)

-- with what the names of registers begin
abbrev pub begins_register : ℕ → Bool
begins_register b = list_any (λ letter. b == letter) (120 ∷ 97 ∷ 115 ∷ 116 ∷ 122 ∷ 114 ∷ 103 ∷ 102 ∷ [])

none_by : (b : ℕ) → begins_register b ≡ false → (names : List (Text × ℕ)) → list_all (λ name. begins_register (get_or name.0 0 0)) names ≡ true → filter (λ name. begins_with b name.0) names ≡ []
none_by b lacks [] all = refl
none_by b lacks (name ∷ names) all = by (begins_with b name.0) (begins_register (get_or name.0 0 0)) refl refl all (none_by b lacks names)
  where
    by : (t q : Bool) → begins_with b name.0 ≡ t → begins_register (get_or name.0 0 0) ≡ q → (q && list_all (λ name. begins_register (get_or name.0 0 0)) names) ≡ true
        → (list_all (λ name. begins_register (get_or name.0 0 0)) names ≡ true → filter (λ name. begins_with b name.0) names ≡ [])
        → filter (λ name. begins_with b name.0) (name ∷ names) ≡ []
    by t false e f both more = absurd (cc)
    by false true e f both more = rw e (more both)
    by true true e f both more =
        let same : get_or name.0 0 0 ≡ b = grind (arith, common_steps) in
        let yes : begins_register b ≡ true = rw (same) at f in
        absurd (cc)

pub none_with : (b : ℕ) → begins_register b ≡ false → registers_with b ≡ []
unfolding registers_with
none_with b lacks = none_by b lacks registers refl
