-- Step 3, finish: what runs has one cycle less to run.
-- Cited in `Ooo.antt`, for what `Ooo` gives.
use Rattle.std.specs.Prelude.{ℕ, ◌-◌, ◌==◌, nat_le, List, [], ◌∷◌, ◌++◌, Bool, true, false, if◌then◌else◌}
use Rattle.diva_isa.specs.declared.record.Record.{Record}
use Rattle.diva_ooo.specs.WindowEntry.{WindowEntry}
use Rattle.diva_ooo.specs.declared.entry.Progress.{Progress}
use Rattle.diva_ooo.specs.declared.entry.Progress.TheVariants.{Waiting, Running, Done}
use Rattle.diva_ooo.specs.declared.finishing.Redirect.{Redirect}
use Rattle.diva_ooo.specs.declared.finishing.Redirect.TheVariants.{On, Dry, To}

abbrev pub is_running : Progress → Bool
is_running Waiting = false
is_running (Running left) = true
is_running Done = false

-- it has run its last cycle
abbrev pub is_last : Progress → Bool
is_last Waiting = false
is_last (Running left) = nat_le left 1
is_last Done = false

-- one cycle later
abbrev pub later : Progress → Progress
later Waiting = Waiting
later (Running left) = if nat_le left 1 then Done else Running (left - 1)
later Done = Done

abbrev pub ran : WindowEntry → WindowEntry
ran e = record e { progress = later e.progress }

-- what a record, where next was predicted, makes of the fetch: it stops behind an end, and is redirected to the record's next
-- where that is another
abbrev pub redirect_by : Record → ℕ → Redirect
redirect_by r predicted = if r.end == 0 then (if r.next == predicted then On else To r.next) else Dry

-- the same of an entry that becomes done in this call
abbrev pub redirect_of : WindowEntry → Redirect
redirect_of e = if is_last e.progress then redirect_by e.result e.predicted else On

-- the window after it, and what becomes of the fetch
pub record Finish : Type 0 where
  pub window : List WindowEntry
  pub redirect : Redirect

-- where the fetch stops or is redirected, all younger entries are removed; else what follows is looked at
abbrev pub redirected : List WindowEntry → Redirect → Finish → Finish
redirected older On next = next
redirected older Dry next = record { window = older; redirect = Dry }
redirected older (To pc) next = record { window = older; redirect = To pc }

-- the rest behind the older entries, which were looked at
abbrev pub finished_from : List WindowEntry → List WindowEntry → Finish
finished_from older [] = record { window = older; redirect = On }
finished_from older (e ∷ rest) = redirected (older ++ ran e ∷ []) (redirect_of e) (finished_from (older ++ ran e ∷ []) rest)

abbrev pub finished : List WindowEntry → Finish
finished window = finished_from [] window
