-- What the core `Scalar` hands over, and what it keeps.
-- Cited by `Scalar::new`, what `Scalar` gives, and the laws of it, as `scalar_is_right`.
use Rattle.std.specs.Prelude.{◌≡◌, ◌≤◌, ◌==◌, nat_lt, ◌&&◌, false, List, [], ◌∷◌, length, None, IfSome, if◌then◌else◌}
use Rattle.diva_isa.specs.State.{State, goes_on}
use Rattle.diva_isa.specs.Step.{record_of, steps}
use Rattle.diva_isa.specs.declared.record.Record.{Record}
use Rattle.diva_core.specs.Timed.{Timed, epoch_of, room_of}
use Rattle.diva_core.specs.Machine.{IsMachine}
use Rattle.diva_core.specs.Right.{IsCalm}
use Rattle.diva_core.specs.Told.{Told}
use Rattle.diva_ahead.specs.Ahead.{Ahead, is_epoch, new_ahead, with_record, seen, synced, trimmed}

-- a new core, which has not taken a machine's state yet
abbrev pub new_scalar : Ahead
new_scalar = new_ahead

-- what a call hands over, and the core after it
pub record ScalarCall : Type 0 where
  pub list : List Record
  pub core : Ahead

-- the record of its own state, unless it has handed over one that ends
abbrev pub next_call : Ahead → State → ScalarCall
next_call ahead s =
    if ahead.stopped then record { list = []; core = ahead }
    else record { list = record_of (seen ahead s) ∷ []; core = with_record ahead s (record_of (seen ahead s)) }

-- one call: where there is no room nothing happens; else the core takes a new epoch, drops what is no longer pending, and
-- hands over
unfoldable pub scalar_call : Ahead → Told → State → ScalarCall
scalar_call ahead told s =
    if told.room == 0 then record { list = []; core = ahead } else next_call (trimmed (synced ahead told s) told) s

-- the meaning of Scalar: the list and the core after are those of its call
pub record IsScalarCall (before : Ahead) (told : Told) (s : State) (list : List Record) (after : Ahead) : Type 0 where
  pub lists : list ≡ (scalar_call before told s).list
  pub keeps : after ≡ (scalar_call before told s).core

-- Scalar at each machine, as long as it is right: the record that is due behind the pending claims, where there is room and
-- the machine goes on behind them
abbrev pub scalar_list : Timed → List Record
scalar_list m =
    let s = steps (length m.under.pending) m.arch in
    if nat_lt 0 (room_of m) && goes_on s then record_of s ∷ [] else []

-- Scalar may lead from a machine on: it has not taken the machine's epoch, and an instruction runs solo, or the machine is
-- calm and nothing is pending
pub record MayLead (m : Timed) (core : Ahead) : Type 0 where
  pub machine : IsMachine m
  pub epoch : is_epoch core.epoch (epoch_of m) ≡ false
  pub rests : m.under.solo ≡ None → IsCalm m × (m.under.pending ≡ [])

-- the epoch that Scalar has taken, if any, is the machine's or an earlier one
abbrev pub IsPast : Ahead → Timed → Type 0
IsPast core m = IfSome core.epoch (λ epoch. epoch ≤ epoch_of m)
