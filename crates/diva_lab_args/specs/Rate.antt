-- What the words of `rate` ask for: the names of files, one or more.
-- Cited in `Lab.antt`, for `read_lab_words`.
use Rattle.std.specs.Prelude.{◌==◌, ◌++◌, Bool, false, List, [], ◌∷◌, Option, Some, None, codes, if◌then◌else◌}
use Rattle.std.specs.List.{after_first, before_first, list_any}
use Rattle.std.specs.Str.{bytes_eq}
use Rattle.clap.specs.Walk.{Text}

-- a word that looks like an option: it begins with `-` (45), and is longer
abbrev pub is_dashed : Text → Bool
is_dashed [] = false
is_dashed (first ∷ []) = false
is_dashed (first ∷ second ∷ rest) = first == 45

-- the word that ends what can be an option
abbrev pub is_end : Text → Bool
is_end word = bytes_eq word (codes "--")

-- the names, if there are any
abbrev pub some_names : List Text → Option (List Text)
some_names [] = None
some_names (name ∷ names) = Some (name ∷ names)

-- all words but the first `--` are names, and before it none looks like an option
unfoldable pub names_of : List Text → Option (List Text)
names_of words =
    if list_any is_dashed (before_first is_end words) then None
    else some_names (before_first is_end words ++ after_first is_end words)
