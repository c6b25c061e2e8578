-- The rows of a script in the order of their cycles, and what makes looking them up cheap.
-- Only private contracts of this crate cite this: a reader of its promises can pass over it.
use Rattle.std.specs.Prelude.{◌≡◌, ℕ, List}
use Rattle.diva_isa.specs.declared.record.Record.{Record}
use Rattle.diva_faults.specs.declared.rows.Row.{Row}
use Rattle.diva_faults.specs.Lists.{scripted}

-- in each cycle, some rows make of a list what others make of it
abbrev pub AreLike : List Row → List Row → Type 0
AreLike rows others = (now : ℕ) (list : List Record) → scripted rows now list ≡ scripted others now list
