-- What is counted of the lines of a group.
-- Cited by `What::name`; in `Rates.antt`, for `Injections::rates`.
use Rattle.std.specs.Prelude.{ℕ, is_some, Bool, List, length, codes}
use Rattle.std.specs.List.{count_by}
use Rattle.std.specs.Str.{bytes_eq}
use Rattle.diva_outside.specs.Text.{Text}
use Rattle.diva_rate.specs.Names.{ending_name}
use Rattle.diva_rate.specs.Shares.{rate}
use Rattle.diva_rate.specs.declared.counts.What.{What}
use Rattle.diva_rate.specs.declared.counts.What.TheVariants.{Hit, Found, Same, Ended}
use Rattle.diva_rate.specs.declared.injection.Injection.{Injection}
use Rattle.diva_rate.specs.declared.shares.Share.{Share}

-- whether a line counts
abbrev pub counts_as : What → Injection → Bool
counts_as Hit line = line.effect.hit
counts_as Found line = is_some line.effect.latency
counts_as Same line = line.effect.same
counts_as (Ended ending) line = bytes_eq (ending_name line.effect.ending) (ending_name ending)

abbrev pub what_name : What → Text
what_name Hit = codes "hit"
what_name Found = codes "found"
what_name Same = codes "same"
what_name (Ended ending) = ending_name ending

-- how many of some lines count
abbrev pub count_of : What → List Injection → ℕ
count_of what lines = count_by (counts_as what) lines

-- their share
abbrev pub share_in : List Injection → What → Share
share_in lines what = rate (count_of what lines) (length lines)
