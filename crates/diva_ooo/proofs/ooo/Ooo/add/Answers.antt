use Rattle.diva_ooo.proofs.Knowing.{known_new}
use Rattle.diva_ooo.proofs.ooo.Ooo.add.Goals as goal

pub invariant_of-push : goal.invariant_of-push
invariant_of-push c =
    known_new c.self.inside.fetch_pc c.predicted-self-inside.result c.args.word c.args.decoded c.of.result c.requires.says c.requires.registers c.of.ensures.value c.of.ensures.below
