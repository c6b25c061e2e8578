-- Computing with the definitions gives the worked values.
use Rattle.std.proofs.Common.{refl}
use Rattle.diva_decode.specs.Table.{row_of}
use Rattle.diva_isa.specs.Step.{record_of, apply, step}
use Rattle.diva_storeq.specs.Masked.{merge}
use Rattle.diva_core.specs.Cycle.{accepts, watched, flushed, committed, puts_store, commits_under}
use Rattle.diva_core.specs.Difference.{first_difference}
use Rattle.diva_commit.specs.Committing.{buffered}
use Rattle.diva_duo.specs.Rules.{is_fence}
use Rattle.diva_duo.specs.Duo.{hart_cycle, duo_drained, duo_cycle_of, actions}
use Rattle.diva_duo.proofs.worked.neither_hart_sees_the_other_store.Goals as goal

pub returns : goal.returns
unfolding record_of row_of apply step merge accepts watched flushed committed puts_store commits_under first_difference buffered is_fence hart_cycle duo_drained duo_cycle_of actions
returns c = record { ninth = refl; tenth = refl; summary = refl; over = refl; before = refl }
