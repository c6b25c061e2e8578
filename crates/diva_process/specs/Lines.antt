-- The lines that are written of files that can't be used.
-- Cited in `Stops.antt`, for `run_process`.
use Rattle.std.specs.Prelude.{ℕ, List, ◌++◌, codes}
use Rattle.std.specs.Fmt.{decimal}
use Rattle.diva_outside.specs.declared.files.What.{What}
use Rattle.diva_outside.specs.declared.files.What.TheVariants.{Image, Script, Tape, Source, Commands}

-- what a file is for, in a word
abbrev pub word_for : What → List ℕ
word_for Image = codes "image"
word_for Script = codes "script"
word_for Tape = codes "tape"
word_for Source = codes "source"
word_for Commands = codes "commands"

unfoldable pub unreadable_line : What → List ℕ
unreadable_line what = codes "unreadable " ++ word_for what ++ codes "\n"

-- the place is that of an image's fault; of a text's fault it is the line
unfoldable pub refused_line : What → (kind place : ℕ) → List ℕ
refused_line what kind place =
    codes "refused " ++ word_for what ++ codes " " ++ decimal kind ++ codes " at " ++ decimal place ++ codes "\n"
