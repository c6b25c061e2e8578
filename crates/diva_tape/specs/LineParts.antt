-- How the code reads the parts of a line.
-- Only private contracts of this crate cite this: a reader of its promises can pass over it.
use Rattle.std.specs.Prelude.{List, [], Option, Some, None, Result, Ok}
use Rattle.std.specs.List.{slice_split}
use Rattle.std.specs.Option.{ok_or}
use Rattle.diva_isa.specs.declared.record.Record.{Record}
use Rattle.diva_outside.specs.Numbers.{hex_of}
use Rattle.diva_outside.specs.Steps.{and_then}
use Rattle.diva_outside.specs.Text.{Text}
use Rattle.diva_outside.specs.Words.{words_of}
use Rattle.diva_tape.specs.declared.fault.Kind.{Kind}
use Rattle.diva_tape.specs.declared.fault.Kind.TheVariants.{Word}
use Rattle.diva_tape.specs.Tapes.{all_by, record_from, separates}

-- the parts of what is left of a line, if something is
abbrev pub parts_left : Option Text → List Text
parts_left None = []
parts_left (Some rest) = slice_split separates rest

-- the claim of a part, if each of its words is a hex number; `None` where they are other than eight
unfoldable pub claim_in : Text → Result (Option Record) Kind
claim_in part = and_then (ok_or (all_by hex_of (words_of part)) Word) (λ numbers. Ok (record_from numbers))
