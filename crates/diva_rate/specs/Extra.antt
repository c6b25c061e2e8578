-- What faults cost in cycles.
-- Cited in `Rates.antt`, for `Injections::rates`.
use Rattle.std.specs.Prelude.{ℕ, ◌+◌, ◌-◌, ◌*◌, ◌/◌, ◌%◌, ◌==◌, ◌&&◌, nat_le, not, Bool, true, false, List, length, find, Option, if◌then◌else◌}
use Rattle.std.specs.List.{sum_by}
use Rattle.std.specs.Option.{option_map}
use Rattle.diva_rate.specs.declared.extra.Extra.{Extra}
use Rattle.diva_rate.specs.declared.injection.Injection.{Injection}

-- the cycles of the run without a fault: those of the first line whose fault hit nothing, since such a fault changes nothing
abbrev pub base_of : List Injection → Option ℕ
base_of lines = option_map (λ line. line.effect.cycles) (find (λ line. not line.effect.hit) lines)

-- the cycles of all lines
abbrev pub cycles_of : List Injection → ℕ
cycles_of lines = sum_by (λ line. line.effect.cycles) lines

-- a size in hundredths of a cycle is size / (2 * count), rounded down; there is no minus sign before 0
abbrev pub extra_over : (is_under : Bool) → (size count : ℕ) → Extra
extra_over is_under size count = record {
  is_negative = is_under && not (size / (2 * count) == 0);
  whole = size / (2 * count) / 100;
  hundredths = size / (2 * count) % 100;
}

-- the mean of the cycles of n lines over the base, in hundredths rounded to the nearest, a half up: with a sum of d cycles over
-- it, 100 * d / n + 1/2 rounded down; with one of d under it, 100 * d / n - 1/2 rounded up, with a minus sign
abbrev pub extra_of : (base : ℕ) → List Injection → Extra
extra_of base lines =
    if nat_le (base * length lines) (cycles_of lines)
    then extra_over false (200 * (cycles_of lines - base * length lines) + length lines) (length lines)
    else extra_over true (200 * (base * length lines - cycles_of lines) + length lines - 1) (length lines)
