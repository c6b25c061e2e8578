use Rattle.std.proofs.Common.{◌≡◌, drop}
use Rattle.std.specs.Prelude.{find}
use Rattle.diva_trial.specs.Trials.{is_caused}
use Rattle.diva_trial.proofs.outcomes.latency_of.Given as goal

abbrev pub invariant-loop-row : goal.invariant-loop-row
invariant-loop-row l = find (is_caused l.fault l.known) (drop l.row-index l.rows) ≡ find (is_caused l.fault l.known) l.rows
