-- Commands one after the other, and the replies to them.
-- Cited in `DebugTexts.antt`, for `top`.
use Rattle.std.specs.Prelude.{ℕ, ◌≡◌, ◌*◌, ◌+◌, List, [], ◌∷◌, ◌++◌, length, Option, nat_le, if◌then◌else◌}
use Rattle.diva_outside.specs.Text.{Text}
use Rattle.diva_isa.specs.State.{State}
use Rattle.diva_isa.specs.Step.{steps}
use Rattle.diva_core.specs.Timed.{Timed, depth}
use Rattle.diva_core.specs.Cycle.{run_of}
use Rattle.diva_core.specs.Legs.{Part, Handed, TakenBack, run_part}
use Rattle.diva_core.specs.Undone.{CanUndoAll}
use Rattle.diva_core.specs.declared.flushes.FlushRow.{FlushRow}
use Rattle.diva_machine.specs.Counts.{StopsAtOnce}
use Rattle.diva_debug.specs.Moves.{Moves, Standing, standing_after, steps_by}
use Rattle.diva_debug.specs.Replies.{reply_from}
use Rattle.diva_debug.specs.declared.command.Command.{Command}
use Rattle.diva_debug.specs.declared.command.Command.TheVariants.{Step, Until, Reg, Mem, Why, Back}

-- how many undos a session of the program keeps at most
abbrev pub keep : ℕ
keep = 4096

-- where a session begins
abbrev pub at_start : Standing
at_start = record { place = 0; kept = 0 }

-- where a command leads from a standing, told from the state of place 0
abbrev pub next_standing : (start : State) → Command → Standing → Standing
next_standing start command w = standing_after keep command w (steps w.place start)

-- the replies to commands from a standing on, told from the state of place 0; the newest flush behind each command is given, which
-- is all that a core has a part in
abbrev pub replies_of : (start : State) → List Command → Standing → (newest : List (Option FlushRow)) → Text
replies_of start [] w newest = []
replies_of start (command ∷ commands) w [] = []
replies_of start (command ∷ commands) w (row ∷ newest) =
    reply_from start keep command w row ++ replies_of start commands (next_standing start command w) newest

-- a machine stands there: so many instructions are counted, and its committed state is the table's after so many steps
pub record StandsAt (start : State) (w : Standing) (m : Timed) : Type 0 where
  pub counted : m.count ≡ w.place
  pub stepped : m.arch ≡ steps w.place start

-- what is handed over leads the machine just as far as the command says
abbrev pub IsMoved : Command → Timed → Part → Type 0
IsMoved command m (Handed lists) = Moves (steps_by command m.arch) m (run_of m lists) × StopsAtOnce m (run_of m lists)
IsMoved command m (TakenBack undos) = ⊥

-- so many instructions are taken back
abbrev pub IsTakenBack : (n : ℕ) → Timed → Part → Type 0
IsTakenBack n m (Handed lists) = ⊥
IsTakenBack n m (TakenBack undos) = (length undos ≡ n) × CanUndoAll m undos

-- what a command makes of the machine: one that goes back takes as many instructions back as it says, where so many can be, and else
-- none; any other one moves it
abbrev pub LeadsBy : Command → Standing → Timed → Part → Type 0
LeadsBy (Back k) w m part = IsTakenBack (if nat_le k w.kept then k else 0) m part
LeadsBy (Step k) w m part = IsMoved (Step k) m part
LeadsBy (Until pc) w m part = IsMoved (Until pc) m part
LeadsBy (Reg n) w m part = IsMoved (Reg n) m part
LeadsBy (Mem range) w m part = IsMoved (Mem range) m part
LeadsBy Why w m part = IsMoved Why m part

-- each of the commands has its part, and behind each, as before the first, the machine stands where the commands have led
abbrev pub AreLed : (start : State) → List Command → Standing → Timed → List Part → Type 0
AreLed start [] w m parts = (parts ≡ []) × StandsAt start w m
AreLed start (command ∷ commands) w m [] = ⊥
AreLed start (command ∷ commands) w m (part ∷ parts) =
    StandsAt start w m × (LeadsBy command w m part × AreLed start commands (next_standing start command w) (run_part m part) parts)

-- the newest flush behind each part
abbrev pub newest_after : Timed → List Part → List (Option FlushRow)
newest_after m [] = []
newest_after m (part ∷ parts) = (run_part m part).under.log.newest ∷ newest_after (run_part m part) parts

-- the most cycles of n commands: a million steps each, and W + 6 cycles a step, W being the watchdog's limit
abbrev pub cycles_of : (n limit : ℕ) → ℕ
cycles_of n limit = n * (1000000 * (limit + depth))
