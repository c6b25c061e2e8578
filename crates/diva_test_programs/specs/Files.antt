-- Files that tests begin with: the image file of a program, a file of given numbers and bytes, and one in which a byte is altered.
-- Cited by `image_file`, `file_of` and `altered`.
use Rattle.std.specs.Prelude.{ℕ, ◌*◌, ◌-◌, List, [], ◌∷◌, ◌++◌, length, take, replicate, slice_set, codes}
use Rattle.std.specs.Int.{to_le_bytes, w32}
use Rattle.std.specs.List.{flat_map}
use Rattle.diva_test_programs.specs.declared.Program.{Program}

-- the four bytes of each number, the lowest first
abbrev pub words_bytes : List ℕ → List ℕ
words_bytes words = flat_map (to_le_bytes w32) words

-- those of both numbers of each pair
abbrev pub pairs_bytes : List (ℕ × ℕ) → List ℕ
pairs_bytes pairs = flat_map (λ pair. words_bytes (pair.0 ∷ pair.1 ∷ [])) pairs

-- a file: the letters DIVA, the numbers of its header, both numbers of each pair, and bytes
abbrev pub file_bytes : (header : List ℕ) → (pairs : List (ℕ × ℕ)) → (bytes : List ℕ) → List ℕ
file_bytes header pairs bytes = codes "DIVA" ++ words_bytes header ++ pairs_bytes pairs ++ bytes

-- an image file in version 1, whose base and entry are 0, and whose payload is the words of the program
abbrev pub image_bytes : Program → List ℕ
image_bytes program =
    let words = program.words.now in
    file_bytes (1 ∷ 0 ∷ program.size ∷ 0 ∷ length words * 4 ∷ []) [] (words_bytes words)

-- the first `size` bytes of a file, with zeros after them if it has fewer, in which the byte at a place, if there is one, is another
abbrev pub altered_bytes : (file : List ℕ) → (size at byte : ℕ) → List ℕ
altered_bytes file size at byte = slice_set (take size file ++ replicate (size - length file) 0) at byte
