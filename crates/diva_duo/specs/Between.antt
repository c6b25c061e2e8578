-- What holds of two harts between two cycles, and what a cycle promises.
-- Cited by `Duo::cycle`, `drive2` and the type `Duo`.
use Rattle.std.specs.Prelude.{ℕ, ◌≡◌, ◌≤◌, ◌+◌, ◌/◌, ◌^◌, ◌<◌, List, [], ◌∷◌, length}
use Rattle.diva_memory.specs.Bytes.{Bytes}
use Rattle.diva_isa.specs.declared.record.Record.{Record}
use Rattle.diva_core.specs.Timed.{depth}
use Rattle.diva_core.specs.Machine.{IsMachine}
use Rattle.diva_commit.specs.Committing.{AreInside}
use Rattle.diva_duo.specs.Duo.{Duo, Hart, timed, duo_cycle_of}
use Rattle.diva_duo.specs.Which.{Which, hart_at}

-- a hart after the cycle `now`: an ended one is the machine of the cycle in which it ended
pub record IsHart (now : ℕ) (memory : Bytes) (h : Hart) : Type 0 where
  pub at : ℕ
  pub within : at ≤ now
  pub running : h.state.end ≡ 0 → at ≡ now
  pub machine : IsMachine (timed at memory h)
  -- in each cycle a store goes to memory
  pub port : h.config.port ≡ 1
  -- no instruction is taken back
  pub undos : h.under.undos ≡ 0
  -- the stores that wait lie inside memory
  pub inside : AreInside memory h.state.buffer

pub record IsDuo (d : Duo) : Type 0 where
  pub range : d.memory.base + length d.memory.items ≤ 2 ^ 32
  pub first : IsHart d.cycles d.memory d.first
  pub second : IsHart d.cycles d.memory d.second

-- in a cycle from d to e a hart counts as many instructions as its width at most
abbrev pub CountsFew : Which → (d e : Duo) → Type 0
CountsFew w d e = (hart_at w e).state.instret ≤ (hart_at w d).state.instret + (hart_at w d).config.width

-- ---- until its end, a hart counts an instruction in every W + 6 cycles, W being the watchdog's limit

-- the two harts after these pairs of lists
abbrev pub duo_run : Duo → List (List Record × List Record) → Duo
duo_run d [] = d
duo_run d (lists ∷ rest) = duo_run (duo_cycle_of d lists.0 lists.1) rest

-- from these harts on, whatever is handed over
abbrev pub WillGo : Which → Duo → Type 0
WillGo w d =
    (hart_at w d).state.end ≡ 0 → (lists : List (List Record × List Record)) → (hart_at w d).config.limit + depth ≤ length lists
    → (hart_at w d).state.instret < (hart_at w (duo_run d lists)).state.instret

-- since they were new
abbrev pub HasGone : Which → Duo → Type 0
HasGone w d = (hart_at w d).state.end ≡ 0 → d.cycles / ((hart_at w d).config.limit + depth) ≤ (hart_at w d).state.instret
