-- The line that answers words which are not a valid command line.
-- Cited in `Program.antt`, for `top`.
use Rattle.std.specs.Prelude.{ℕ, List, codes}

unfoldable pub usage_line : List ℕ
usage_line = codes "usage: diva run|tape|duo IMAGE, debug IMAGE COMMANDS, asm SRC, dis|migrate IMAGE, soak SEED LENGTH, campaign IMAGE LAST\n"
