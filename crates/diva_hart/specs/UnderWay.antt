-- What is under way: the pending claims, the instruction that runs solo, the watchdog, the log, and the number of undos.
-- Cited by `UnderWay::new`, `room`, `told`, `told_where`, `accept` and `tick`.
use Rattle.std.specs.Prelude.{ℕ, [], map, Bool, ◌&&◌, is_none}
use Rattle.circular_buffer.specs.Buffer.{buffer}
use Rattle.diva_isa.specs.State.{State, goes_on}
use Rattle.diva_core.specs.Timed.{Config, Timed, new_log, UnderWay as Under}
use Rattle.diva_core.specs.Entries.{pending_claim_of}
use Rattle.diva_watchdog.specs.Solo.{solo_of}
use Rattle.diva_watchdog.specs.declared.recover.Recover.TheVariants.{Running}
use Rattle.diva_hart.specs.HartArch.{HartState}
use Rattle.diva_hart.specs.declared.under_way.UnderWay.{UnderWay}

-- the same as a timed machine has it
abbrev pub under_of : UnderWay → Under
under_of u =
    record {
      pending = map pending_claim_of u.pending.items;
      solo = solo_of u.recover;
      idle = u.watchdog.idle;
      log = u.log;
      undos = u.undos;
    }

-- the numbers of its machine, with room for so many stores, and with this port
abbrev pub config_of : (stores port : ℕ) → UnderWay → Config
config_of stores port u =
    record { width = u.width; window = u.pending.capacity; stores = stores; limit = u.watchdog.limit; port = port }

-- the timed machine of a committed state and of what is under way
abbrev pub timed_of : State → (owed stores port cycles : ℕ) → UnderWay → Timed
timed_of s owed stores port cycles u =
    record { config = config_of stores port u; cycles = cycles; arch = s; count = s.instret; owed = owed; under = under_of u }

-- nothing is, on a machine with these numbers
abbrev pub new_under_way : Config → UnderWay
new_under_way config =
    record {
      width = config.width;
      pending = buffer [] config.window;
      recover = Running;
      watchdog = record { limit = config.limit; idle = 0 };
      log = new_log;
      undos = 0;
    }

-- as much of a hart's state as a core is told: its pc, how many instructions led to it, and how it ended, if it has
abbrev pub told_state : HartState → State
told_state h = record { regs = []; pc = h.pc; base = 0; bytes = []; output = []; instret = h.instret; end = h.end }

-- as much of a hart's machine
abbrev pub told_machine : HartState → (port cycles : ℕ) → UnderWay → Timed
told_machine h port cycles u = timed_of (told_state h) 0 0 port cycles u

-- claims may be accepted behind phase 2, if there was room before it: the hart goes on, and no instruction runs solo
abbrev pub takes_claims : Timed → Bool
takes_claims m = goes_on m.arch && is_none m.under.solo
