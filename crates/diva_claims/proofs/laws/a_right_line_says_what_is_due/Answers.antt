use Rattle.diva_claims.proofs.Saying.{is_right, says}
use Rattle.diva_claims.proofs.laws.a_right_line_says_what_is_due.Goals as goal

pub returns : goal.returns
returns c = record { said = says; right = is_right }
