-- How far a command moves a machine along the table's steps, told from the state before it.
-- Cited by `Session::reply`, `reply_to` and `commands`.
use Rattle.std.specs.Prelude.{ℕ, zero, suc, ◌≡◌, ◌≢◌, ◌≤◌, ◌+◌, ◌-◌, ◌*◌, ◌==◌, ◌&&◌, min, nat_le, Bool, true, false, if◌then◌else◌}
use Rattle.diva_isa.specs.State.{State, goes_on}
use Rattle.diva_isa.specs.Step.{step, steps}
use Rattle.diva_core.specs.Timed.{Timed, depth}
use Rattle.diva_debug.specs.declared.command.Command.{Command}
use Rattle.diva_debug.specs.declared.command.Command.TheVariants.{Step, Until, Back, Reg, Mem, Why}

-- one step more and those that follow it, where the state goes on
abbrev pub one_more : (State → ℕ) → Bool → State → ℕ
one_more next true s = suc (next (step s))
one_more next false s = 0

-- how many of k steps there are: none follows an end
abbrev pub steps_in : ℕ → State → ℕ
steps_in zero s = 0
steps_in (suc k) s = one_more (steps_in k) (goes_on s) s

-- the state goes on, with this pc
abbrev pub stands_at : ℕ → State → Bool
stands_at pc s = goes_on s && (s.pc == pc)

-- what follows where this does not hold
abbrev pub unless : Bool → (State → ℕ) → State → ℕ
unless true next s = 0
unless false next s = next s

-- how many of k steps there are until the state stands at a pc; the first is taken in any case, and none follows an end
abbrev pub steps_until : ℕ → (pc : ℕ) → State → ℕ
steps_until zero pc s = 0
steps_until (suc k) pc s = one_more (λ t. unless (stands_at pc t) (steps_until k pc) t) (goes_on s) s

-- the most steps of a command
abbrev pub most_steps : Command → ℕ
most_steps (Step k) = k
most_steps (Until pc) = 100000
most_steps (Back k) = 0
most_steps (Reg n) = 0
most_steps (Mem range) = 0
most_steps Why = 0

-- it takes a million steps at most, as every command does
abbrev pub IsShort : Command → Type 0
IsShort command = most_steps command ≤ 1000000

-- the most cycles of a command: W + 6 for each step, W being the watchdog's limit
abbrev pub most_cycles : Command → Timed → ℕ
most_cycles command m = most_steps command * (m.config.limit + depth)

-- how many steps a command takes; one that goes back takes none
unfoldable pub steps_by : Command → State → ℕ
steps_by (Step k) s = steps_in k s
steps_by (Until pc) s = steps_until 100000 pc s
steps_by (Back k) s = 0
steps_by (Reg n) s = 0
steps_by (Mem range) s = 0
steps_by Why s = 0

-- where a session stands: how many instructions have committed, less those that were taken back, and how many of them can be taken
-- back
pub record Standing : Type 0 where
  pub place : ℕ
  pub kept : ℕ

-- n instructions on, where `keep` undos are kept at most
abbrev pub steps_on : (keep n : ℕ) → Standing → Standing
steps_on keep n w = record { place = w.place + n; kept = min keep (w.kept + n) }

-- k instructions back, where so many undos are kept, and else it stands where it stood
abbrev pub steps_back : (k : ℕ) → Standing → Standing
steps_back k w = if nat_le k w.kept then record { place = w.place - k; kept = w.kept - k } else w

-- where a command leads, the state at the place being s, where `keep` undos are kept at most
unfoldable pub standing_after : (keep : ℕ) → Command → Standing → State → Standing
standing_after keep (Step k) w s = steps_on keep (steps_by (Step k) s) w
standing_after keep (Until pc) w s = steps_on keep (steps_by (Until pc) s) w
standing_after keep (Back k) w s = steps_back k w
standing_after keep (Reg n) w s = w
standing_after keep (Mem range) w s = w
standing_after keep Why w s = w

-- the command is one that goes back
abbrev pub goes_back : Command → Bool
goes_back (Step k) = false
goes_back (Until pc) = false
goes_back (Back k) = true
goes_back (Reg n) = false
goes_back (Mem range) = false
goes_back Why = false

-- a machine has moved n steps on
pub record Moves (n : ℕ) (m last : Timed) : Type 0 where
  pub count : last.count ≡ m.count + n
  pub arch : last.arch ≡ steps n m.arch

-- 100,000 instructions were stepped, the machine goes on, and its pc is another one
pub record IsFar (pc : ℕ) (m last : Timed) : Type 0 where
  pub stepped : last.count ≡ m.count + 100000
  pub on : goes_on last.arch ≡ true
  pub elsewhere : last.arch.pc ≢ pc
