-- Runs of right lists.
use Rattle.std.proofs.Common.{List, [], ◌∷◌, refl, ◌∙◌, arith}
use Rattle.diva_isa.specs.State.{State}
use Rattle.diva_isa.specs.declared.record.Record.{Record}
use Rattle.diva_core.specs.Timed.{Timed, Config, new_timed}
use Rattle.diva_core.specs.Cycle.{cycle_of, run_of}
use Rattle.diva_core.specs.Told.{told_of}
use Rattle.diva_core.specs.History.{Meaning, IsHistory, lists_of}
use Rattle.diva_core.specs.Machine.{IsMachine, IsConfig}
use Rattle.diva_core.specs.Right.{IsRight, AreRight, IsCalm, StaysCalm}
use Rattle.diva_core.proofs.Keeping.{stays}
use Rattle.diva_core.proofs.Calming.{due_at, stays_calm}

-- right lists leave a calm machine calm, and its flushes as they were
pub run_calm : (m : Timed) (lists : List (List Record)) → IsMachine m → IsCalm m → AreRight m lists → StaysCalm m (run_of m lists)
run_calm m [] inv calm right = record { calm = calm; log = refl }
run_calm m (list ∷ rest) inv calm right =
    let one : StaysCalm m (cycle_of m list) = stays_calm m list inv calm right.0 in
    let more : StaysCalm (cycle_of m list) (run_of (cycle_of m list) rest) = run_calm (cycle_of m list) rest (stays m list inv) one.calm right.1 in
    record { calm = more.calm; log = more.log ∙ one.log }

-- every history of a core whose lists are right has right lists
pub log_right :
    {C : Type 0} (gives : Meaning C)
    → ((m : Timed) (before : C) (list : List Record) (after : C) → gives before (told_of m) m.arch list after → IsRight m list)
    → (m : Timed) (core : C) (history : List (List Record × C)) (last : Timed) (final : C)
    → IsHistory gives m core history last final
    → AreRight m (lists_of history)
log_right gives is_right m core [] last final h = tt
log_right gives is_right m core (turn ∷ rest) last final h =
    (is_right m core turn.0 turn.1 h.1.0, log_right gives is_right (cycle_of m turn.0) turn.1 rest last final h.1.1)

-- a new machine is calm
pub new_calm : (z : Config) (s : State) → IsConfig z → IsCalm (new_timed z s)
new_calm z s ok = λ on. record { running = refl; claims = due_at s [] tt; waits = (let l = ok.limit_low in omega arith) }
