use Rattle.diva_ooo.specs.Ooo.{new_ooo}
use Rattle.diva.proofs.laws.text_is_determined.Goals as goal

pub returns-clause-run : goal.returns-clause-run
returns-clause-run c = λ options bytes after last status other text same own h k asked.
    c.own_run_is_determined.ensures.run options bytes new_ooo after last status other text same own h k asked

pub returns-clause-soak : goal.returns-clause-soak
returns-clause-soak c = λ options after last status other text same h k.
    c.own_run_is_determined.ensures.soak options new_ooo after last status other text same h k
