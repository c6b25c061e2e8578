-- One piece behind the other.
use Rattle.std.proofs.lemmas.List.{append_assoc}
use Rattle.diva_image.proofs.header.Header.write.Goals as goal

pub returns : goal.returns
returns c =
    rw (c.in_ok-push_number-4.ensures, c.in_ok-push_number-3.ensures, c.in_ok-push_number-2.ensures, c.in_ok-push_number.ensures, c.in_ok-push_start.ensures)
    (simp append_assoc)
