-- The words of a line, as far as they are kept.
-- Cited by `FewWords::lengthen` and `SourceLines::next`.
use Rattle.std.specs.Prelude.{◌-◌, ◌++◌, List, [], length, map, take}
use Rattle.std.specs.List.{slice_index_or, slice_set}
use Rattle.diva_outside.specs.Text.{Text}

-- of a line the first eleven words, and of each word the first nine bytes
abbrev pub kept_of : List Text → List Text
kept_of words = map (take 9) (take 11 words)

-- words, the last of which goes on with these bytes, as far as they are kept
abbrev pub lengthened : List Text → Text → List Text
lengthened words letters =
    slice_set words (length words - 1) (take 9 (slice_index_or words (length words - 1) [] ++ letters))
