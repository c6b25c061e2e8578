-- Step 5, issue: waiting entries begin to run.
-- Cited in `Ooo.antt`, for what `Ooo` gives.
use Rattle.std.specs.Prelude.{ℕ, ◌+◌, ◌==◌, ◌&&◌, ◌||◌, nat_lt, not, List, [], ◌∷◌, ◌++◌, length, map, Bool, true, false, if◌then◌else◌}
use Rattle.std.specs.List.{list_all}
use Rattle.diva_isa.specs.State.{State}
use Rattle.diva_isa.specs.Regs.{with_reg}
use Rattle.diva_isa.specs.Step.{record_fetched}
use Rattle.diva_isa.specs.declared.record.Record.{Record}
use Rattle.diva_ahead.specs.Effects.{done_by}
use Rattle.diva_ahead.specs.Ahead.{Ahead, seen}
use Rattle.diva_ooo.specs.WindowEntry.{WindowEntry, profile_of}
use Rattle.diva_ooo.specs.declared.entry.Progress.{Progress}
use Rattle.diva_ooo.specs.declared.entry.Progress.TheVariants.{Waiting, Running, Done}
use Rattle.diva_ooo.specs.declared.profile.Class.{Class}
use Rattle.diva_ooo.specs.declared.profile.Class.TheVariants.{Plain, Loads, Stores, Oldest}

abbrev pub is_waiting : Progress → Bool
is_waiting Waiting = true
is_waiting (Running left) = false
is_waiting Done = false

abbrev pub is_done : Progress → Bool
is_done Waiting = false
is_done (Running left) = false
is_done Done = true

abbrev pub is_storing : Class → Bool
is_storing Plain = false
is_storing Loads = false
is_storing Stores = true
is_storing Oldest = false

-- ---- who begins

-- whether the youngest of some entries that write a register is still under way; `so` where none writes it
abbrev pub is_awaited : (so : Bool) → List WindowEntry → ℕ → Bool
is_awaited so [] n = so
is_awaited so (e ∷ older) n = is_awaited (if (profile_of e).rd == n then not (is_done e.progress) else so) older n

-- a register is available where no older entry writes it, or the youngest that does is done; x0 always is
abbrev pub is_available : List WindowEntry → ℕ → Bool
is_available older n = (n == 0) || not (is_awaited false older n)

-- each older store is done
abbrev pub are_stored : List WindowEntry → Bool
are_stored older = list_all (λ e. is_done e.progress || not (is_storing (profile_of e).class)) older

-- a load waits for each older store, and a call, or a read of `instret`, until it is the oldest
abbrev pub is_free : Class → List WindowEntry → Bool
is_free Plain older = true
is_free Loads older = are_stored older
is_free Stores older = true
is_free Oldest older = length older == 0

unfoldable pub is_ready : List WindowEntry → WindowEntry → Bool
is_ready older e = is_available older (profile_of e).rs1 && is_available older (profile_of e).rs2 && is_free (profile_of e).class older

abbrev pub can_begin : List WindowEntry → WindowEntry → Bool
can_begin older e = is_waiting e.progress && is_ready older e

-- an entry begins that waits and is ready, where fewer than two have begun
abbrev pub begins : (begun : ℕ) → List WindowEntry → WindowEntry → Bool
begins begun older e = nat_lt begun 2 && can_begin older e

-- ---- what it computes

-- the registers behind some entries: those that are done have written theirs
abbrev pub written : List ℕ → List WindowEntry → List ℕ
written regs [] = regs
written regs (e ∷ older) = written (if is_done e.progress then with_reg regs (profile_of e).rd e.result.value else regs) older

-- what an entry sees, as if the core had handed over the older ones: each byte of memory is that of the youngest older store
-- of the window that covers it, else of the ring, else that of s
abbrev pub seen_by : Ahead → State → List WindowEntry → WindowEntry → State
seen_by ahead s older e =
    seen (record ahead { regs = written ahead.regs older; pc = e.pc; ring = ahead.ring ++ map (λ x. done_by x.result) older }) s

-- an entry that begins with a record
abbrev pub running : WindowEntry → Record → WindowEntry
running e r = record e { progress = Running (profile_of e).cycles; result = r }

-- it computes its record at once, by the word that was fetched
unfoldable pub started : Ahead → State → List WindowEntry → WindowEntry → WindowEntry
started ahead s older e = running e (record_fetched (seen_by ahead s older e) e.word)

-- ---- the walk, oldest first

-- the rest behind the older entries, which were looked at, and of which some have begun
abbrev pub issued_from : Ahead → State → (begun : ℕ) → List WindowEntry → List WindowEntry → List WindowEntry
issued_from ahead s begun older [] = older
issued_from ahead s begun older (e ∷ rest) =
    if begins begun older e then issued_from ahead s (begun + 1) (older ++ started ahead s older e ∷ []) rest
    else issued_from ahead s begun (older ++ e ∷ []) rest

unfoldable pub issued : Ahead → State → List WindowEntry → List WindowEntry
issued ahead s window = issued_from ahead s 0 [] window
