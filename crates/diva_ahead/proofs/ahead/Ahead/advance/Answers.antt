use Rattle.diva_isa.proofs.Parts.{effect_is}
use Rattle.diva_ahead.specs.Ahead.{seen}
use Rattle.diva_ahead.proofs.ahead.Ahead.advance.Goals as goal

pub hand_over-requires-clause-effect : goal.hand_over-requires-clause-effect
hand_over-requires-clause-effect c =
    rw (c.due_by-effect.ensures.effect, c.decoded_of-decoded.ensures.decoded, c.fetch-fetched.ensures, c.due_by-effect.ensures.record) (effect_is (seen c.args.self.now c.args.view.now))
