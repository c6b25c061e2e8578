use Rattle.diva_ooo.proofs.Handing.{call_room}
use Rattle.diva_ooo.proofs.laws.no_more_than_room.Goals as goal

pub returns : goal.returns
returns c = λ before after told s list call. call_room before after told s list call
