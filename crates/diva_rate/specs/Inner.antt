-- What only private contracts of this crate cite. A reader of its promises can pass over it.
use Rattle.std.specs.Prelude.{◌≡◌, ℕ, ◌+◌, ◌-◌, ◌*◌, ◌/◌, ◌^◌, ◌≤◌, nat_eq, Bool, true, false, List, [], length}
use Rattle.std.specs.HashSet.{contains, HashSet}
use Rattle.std.specs.declared.hash.FoldHasher.{FoldHasher}
use Rattle.std.specs.declared.hash.BuildHasherDefault.{BuildHasherDefault}
use Rattle.diva_outside.specs.Text.{Text}
use Rattle.diva_rate.specs.Cells.{cells_of}
use Rattle.diva_rate.specs.Injections.{has_fault}
use Rattle.diva_rate.specs.declared.injection.Injection.{Injection}

-- a set of faults, by their numbers
abbrev pub Faults : Type 0
Faults = HashSet ℕ (BuildHasherDefault FoldHasher)

-- the cells that are yet to come: none, or those of the rest of a line
abbrev pub cells_left : (is_over : Bool) → Text → List Text
cells_left true rest = []
cells_left false rest = cells_of rest

-- the faults are those of the lines, and there are not too many lines
pub record IsKept (lines : List Injection) (faults : Faults) (twice : ℕ) : Type 0 where
  pub same : (fault : ℕ) → contains nat_eq faults fault ≡ has_fault lines fault
  pub few : length lines + twice ≤ 2 ^ 32 - 2

-- the place of the nearest rank of so many of a hundred among so many numbers that rise
abbrev pub place_of : (percent size : ℕ) → ℕ
place_of percent size = (percent * size + 99) / 100 - 1
