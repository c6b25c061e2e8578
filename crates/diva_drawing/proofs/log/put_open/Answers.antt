-- All that is held at last is put.
use Rattle.diva_drawing.proofs.Passing.{passes_put}
use Rattle.diva_drawing.proofs.log.put_open.Goals as goal

pub returns : goal.returns
returns g c = passes_put _ _ _ _ _ _ _ _ (rw c.clear.ensures at c.in_ok-push_open.ensures) c.put.ensures
