-- A line for each core.
use Rattle.diva_workbench.proofs.injecting.inject_loaded.Goals as goal

pub returns-in-Own-clause-injects : goal.returns-in-Own-clause-injects
returns-in-Own-clause-injects g c = rw c.in-Own.is c.inject_under.ensures.injects
