-- No store is owed by then, so memory is what is seen.
use Rattle.diva_hart.proofs.Undoing.{restored_base}
use Rattle.diva_hart.proofs.arch.HartArch.restore.Goals as goal

pub returns-clause-base : goal.returns-clause-base
returns-clause-base c = restored_base c.args.memory.now c.args.self.now.state c.args.u.now c.drain_all.new.memory c.put_bytes.new.memory c.drain_all.ensures.memory c.put_bytes.ensures
