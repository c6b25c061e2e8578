use Rattle.diva_ooo.proofs.Marking.{put_member}
use Rattle.diva_ooo.proofs.mark_set.MarkSet.put.Goals as goal

pub returns : goal.returns
returns c = put_member c.args.member c.from.result c.args.self.now.bits c.args.mark c.from.ensures c.requires
