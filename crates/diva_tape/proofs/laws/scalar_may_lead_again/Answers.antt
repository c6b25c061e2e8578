use Rattle.diva_tape.proofs.Following.{leads_after_flush, leads_after_undo, leads_again, stays_past}
use Rattle.diva_tape.proofs.laws.scalar_may_lead_again.Goals as goal

pub returns : goal.returns
returns c = record { flushed = leads_after_flush; past = stays_past; committed = leads_again; undone = leads_after_undo }
