-- The lines of rates, each with its line feed.
-- Cited in `Text.antt`, for `write_rates`.
use Rattle.std.specs.Prelude.{ℕ, ◌+◌, ◌/◌, ◌%◌, Bool, true, false, [], ◌∷◌, ◌++◌, codes, Option, Some, None}
use Rattle.std.specs.Fmt.{decimal}
use Rattle.diva_outside.specs.Text.{Text}
use Rattle.diva_rate.specs.Counts.{what_name}
use Rattle.diva_rate.specs.Groups.{group_kind, group_name}
use Rattle.diva_rate.specs.declared.counts.What.{What}
use Rattle.diva_rate.specs.declared.extra.Extra.{Extra}
use Rattle.diva_rate.specs.declared.group.Group.{Group}
use Rattle.diva_rate.specs.declared.rates.GroupRates.{GroupRates}
use Rattle.diva_rate.specs.declared.shares.Share.{Share}

-- ---- cells

-- the last digit of a number
abbrev pub digit : ℕ → ℕ
digit n = 48 + n % 10

-- ten-thousandths, of which there are fewer than 100000: a digit, a point and four digits
abbrev pub share_text : ℕ → Text
share_text m = digit (m / 10000) ∷ 46 ∷ digit (m / 1000) ∷ digit (m / 100) ∷ digit (m / 10) ∷ digit m ∷ []

-- a number, if there is one
abbrev pub number_text : Option ℕ → Text
number_text None = []
number_text (Some n) = decimal n

abbrev pub sign : Bool → Text
sign true = codes "-"
sign false = []

-- cycles with two digits behind the point, if they are known
abbrev pub extra_text : Option Extra → Text
extra_text None = []
extra_text (Some extra) = sign extra.is_negative ++ decimal extra.whole ++ 46 ∷ digit (extra.hundredths / 10) ∷ digit extra.hundredths ∷ []

-- the first cells of a row: by what the group is made, and its name among those
abbrev pub group_text : Group → Text
group_text group = group_kind group ++ codes "," ++ group_name group ++ codes ","

-- ---- lines

-- a number behind its name
abbrev pub number_line : (name : Text) → ℕ → Text
number_line name n = name ++ decimal n ++ codes "\n"

-- how many faults of a group are such, with their share and its interval
unfoldable pub share_line : GroupRates → What → Share → Text
share_line rates what share =
    group_text rates.group ++ what_name what ++ codes "," ++ decimal share.count ++ codes "," ++ decimal rates.faults
    ++ codes "," ++ share_text share.share ++ codes "," ++ share_text share.low ++ codes "," ++ share_text share.high ++ codes "\n"

-- how many faults of a group were found, their latencies, and what a fault costs: in two parts
unfoldable pub latency_start : GroupRates → Text
latency_start rates = group_text rates.group ++ decimal rates.found.count ++ codes "," ++ number_text rates.latencies.half ++ codes ","

unfoldable pub latency_end : GroupRates → Text
latency_end rates =
    number_text rates.latencies.ninety ++ codes "," ++ number_text rates.latencies.ninety_nine ++ codes ","
    ++ number_text rates.latencies.most ++ codes "," ++ extra_text rates.extra ++ codes "\n"

abbrev pub latency_line : GroupRates → Text
latency_line rates = latency_start rates ++ latency_end rates
