-- The text of rates.
-- Cited by `write_rates`.
use Rattle.std.specs.Prelude.{[], ◌∷◌, ◌++◌, map, codes}
use Rattle.std.specs.List.{concat}
use Rattle.diva_outside.specs.Text.{Text}
use Rattle.diva_rate.specs.Injections.{Injections}
use Rattle.diva_rate.specs.Lines.{latency_line, number_line, share_line}
use Rattle.diva_rate.specs.Rates.{Rates, rates_of}
use Rattle.diva_rate.specs.declared.counts.What.TheVariants.{Hit, Found, Same, Ended}
use Rattle.diva_rate.specs.declared.injection.OpenEnding.TheVariants.{Masked, Silent, Trap, Hang, Stray}
use Rattle.diva_rate.specs.declared.rates.GroupRates.{GroupRates}

-- how many faults there are, how many further lines, and how many numbers have no line; and what the columns of shares are
unfoldable pub head_text : Rates → Text
head_text rates =
    number_line (codes "faults ") rates.faults
    ++ number_line (codes "twice ") rates.twice
    ++ number_line (codes "missing ") rates.missing
    ++ codes "of,name,what,count,faults,share,low,high\n"

-- the shares of a group
unfoldable pub shares_text : GroupRates → Text
shares_text rates = concat (
    share_line rates Hit rates.hit
    ∷ share_line rates Found rates.found
    ∷ share_line rates Same rates.same
    ∷ share_line rates (Ended Masked) rates.masked
    ∷ share_line rates (Ended Silent) rates.silent
    ∷ share_line rates (Ended Trap) rates.trap
    ∷ share_line rates (Ended Hang) rates.hang
    ∷ share_line rates (Ended Stray) rates.stray
    ∷ [])

-- the columns of latencies
abbrev pub latency_head : Text
latency_head = codes "of,name,found,latency50,latency90,latency99,latency_most,extra\n"

-- the text of some rates: the shares of each group, and then the latencies of each
abbrev pub text_in : Rates → Text
text_in rates =
    head_text rates
    ++ concat (map shares_text rates.groups)
    ++ latency_head
    ++ concat (map latency_line rates.groups)

-- the text of the rates of lines that are kept
abbrev pub rates_text : Injections → Text
rates_text kept = text_in (rates_of kept)
