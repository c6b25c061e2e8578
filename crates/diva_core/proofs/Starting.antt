-- A new machine, and what holds of each machine that is reached from it.
use Rattle.std.proofs.Common.{◌≡◌, ◌+◌, ◌/◌, ◌≤◌, List, ap, ◌∙◌, arith}
use Rattle.diva_isa.specs.State.{State}
use Rattle.diva_isa.specs.declared.record.Record.{Record}
use Rattle.diva_isa.specs.Step.{steps}
use Rattle.diva_core.specs.Timed.{Config, new_timed}
use Rattle.diva_core.specs.Cycle.{run_of}
use Rattle.diva_core.specs.Machine.{IsMachine, IsConfig}
use Rattle.diva_core.specs.Headline.{Rises}
use Rattle.diva_core.proofs.Progressing.{run-rises}

-- so it begins with a state to which no instruction has led
pub new-machine : (z : Config) (s : State) → IsConfig z → s.instret ≡ 0 → IsMachine (new_timed z s)
new-machine z s ok none =
    record { config = ok; counted = none; lives = (let l = ok.limit_low in omega arith); owed = omega arith; rows = omega arith; past = tt; window = omega arith; flushes = omega arith; silent = omega arith; count = omega arith; pace = λ none. omega arith }

pub headline : (z : Config) (s : State) (lists : List (List Record)) → IsConfig z → s.instret ≡ 0 → (run_of (new_timed z s) lists).arch ≡ steps (run_of (new_timed z s) lists).count s
headline z s lists ok none =
    let r : Rises (new_timed z s) (run_of (new_timed z s) lists) = run-rises (new_timed z s) lists (new-machine z s ok none) in
    r.stepped ∙ ap (λ k. steps k s) (omega arith)
