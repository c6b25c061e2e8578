use Rattle.diva_claims.proofs.Masking.{shifted_mask}
use Rattle.diva_claims.proofs.said.mask_stored.Goals as goal

pub returns-in-Stores : goal.returns-in-Stores
returns-in-Stores c = shifted_mask c.args.effect c.in-Stores.width c.in-Stores.addr c.in-Stores.value c.lowest.result c.in-Stores.is c.lowest.ensures.value
