-- The kind is that of the arm, and the piece that the arm calls has its outcome in any state.
use Rattle.diva_isa.proofs.due.compute.Goals as goal

pub returns-in-Branch : goal.returns-in-Branch
returns-in-Branch c s moves no_call no_counter = rw c.in-Branch.is (c.branch-i.ensures s)

pub returns-in-OpImm : goal.returns-in-OpImm
returns-in-OpImm c s moves no_call no_counter = rw c.in-OpImm.is (c.operate_with_immediate.ensures s)

pub returns-in-OpReg : goal.returns-in-OpReg
returns-in-OpReg c s moves no_call no_counter = rw c.in-OpReg.is (c.operate.ensures s)
