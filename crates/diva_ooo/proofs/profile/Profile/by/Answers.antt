use Rattle.std.proofs.Common.{sym, ◌∙◌}
use Rattle.diva_ooo.proofs.Profiling.{row_profile}
use Rattle.diva_ooo.proofs.profile.Profile.by.Goals as goal

pub returns-clause-value : goal.returns-clause-value
returns-clause-value c =
    c.with.ensures
    ∙ rw (c.needs_of-class.ensures.class, c.needs_of-class.ensures.cycles) (sym (row_profile c.requires.says.0 c.args.i.now c.requires.says.1))
