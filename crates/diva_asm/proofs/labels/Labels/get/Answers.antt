use Rattle.std.proofs.Common.{◌∙◌, sym}
use Rattle.std.specs.Cmp.Lexicographic.{slice_cmp}
use Rattle.std.specs.Ordering.{is_eq, nat_cmp}
use Rattle.diva_asm.proofs.Places.{looked_up}
use Rattle.diva_asm.proofs.labels.Labels.get.Goals as goal

pub returns : goal.returns
returns c =
    rw (← c.self.view_is) (c.copied.ensures ∙ c.get.ensures.value ∙ sym (looked_up (λ label. is_eq (slice_cmp nat_cmp c.args.name.now label)) c.self.inside.addresses.entries))
