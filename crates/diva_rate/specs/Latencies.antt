-- Latencies of the faults that were found, by the nearest rank.
-- Cited in `Rates.antt`, for `Injections::rates`.
use Rattle.std.specs.Prelude.{ℕ, ◌*◌, nat_le, Bool, List, [], ◌∷◌, filter, length, min, Option, Some, None}
use Rattle.std.specs.List.{count_by, filter_map, fold}
use Rattle.diva_rate.specs.declared.injection.Injection.{Injection}
use Rattle.diva_rate.specs.declared.latencies.Latencies.{Latencies}

-- the latencies of the lines that have one
abbrev pub latencies_of : List Injection → List ℕ
latencies_of lines = filter_map (λ line. line.effect.latency) lines

abbrev pub least : List ℕ → Option ℕ
least [] = None
least (n ∷ numbers) = Some (fold min n numbers)

-- how many of some numbers are no greater than n
abbrev pub count_to : (n : ℕ) → List ℕ → ℕ
count_to n numbers = count_by (λ m. nat_le m n) numbers

-- so many of a hundred, or more, are no greater than n
abbrev pub reaches : (percent : ℕ) → List ℕ → (n : ℕ) → Bool
reaches percent numbers n = nat_le (percent * length numbers) (100 * count_to n numbers)

-- the least of some numbers such that so many of a hundred, or more, are no greater; nothing of no numbers
unfoldable pub percentile : (percent : ℕ) → List ℕ → Option ℕ
percentile percent numbers = least (filter (reaches percent numbers) numbers)

-- what is said of the latencies of some lines; the greatest is the least that all are no greater than
abbrev pub latencies_in : List Injection → Latencies
latencies_in lines = record {
  half = percentile 50 (latencies_of lines);
  ninety = percentile 90 (latencies_of lines);
  ninety_nine = percentile 99 (latencies_of lines);
  most = percentile 100 (latencies_of lines);
}
