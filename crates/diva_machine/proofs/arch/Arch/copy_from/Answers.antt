-- Stores that are laid over memory leave its size.
use Rattle.std.proofs.Common.{◌≡◌, length, ap, sym, ◌∙◌}
use Rattle.diva_storeq.proofs.Laying.{laid_length}
use Rattle.diva_machine.specs.Inner.{Arch}
use Rattle.diva_machine.proofs.arch.Arch.copy_from.Goals as goal

pub copy_from-requires-2 : goal.copy_from-requires-2
copy_from-requires-2 c =
    let a = c.self.inside in
    let b = c.other.inside in
    sym (laid_length a.memory a.own.state.buffer)
    ∙ ap (λ (x : Arch). length x.state.bytes) c.self.view_is
    ∙ c.requires.size
    ∙ sym (ap (λ (x : Arch). length x.state.bytes) c.other.view_is)
    ∙ laid_length b.memory b.own.state.buffer
