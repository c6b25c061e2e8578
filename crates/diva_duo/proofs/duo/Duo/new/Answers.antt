use Rattle.std.proofs.Common.{◌≡◌, ℕ, ◌+◌, ◌-◌, ◌≤◌, ◌^◌, ◌++◌, List, length, refl, ap, sym, ◌∙◌, subst, arith}
use Rattle.std.specs.Prelude.{replicate}
use Rattle.diva_memory.specs.Bytes.{Bytes}
use Rattle.diva_isa.specs.State.{State, memory_of}
use Rattle.diva_image.specs.ImageLayout.{layout}
use Rattle.diva_hart.specs.Start.{start_of}
use Rattle.diva_duo.specs.Duo.{new_duo}
use Rattle.diva_duo.specs.Between.{IsDuo}
use Rattle.diva_duo.proofs.Readying.{new_holds}
use Rattle.diva_duo.proofs.duo.Duo.new.Goals as goal

pub invariant_of-result : goal.invariant_of-result
invariant_of-result c =
    let s : State = start_of (layout c.args.image.now) in
    let memory : c.in_ok-memory.memory ≡ memory_of s = c.in_ok-memory.ensures ∙ ap (λ (xs : List ℕ). record { base = c.args.image.now.base; items = xs ++ replicate (c.args.image.now.size - length xs) 0 }) c.bytes.ensures in
    let range : s.base + length s.bytes ≤ 2 ^ 32 = subst (λ (m : Bytes). m.base + length m.items ≤ 2 ^ 32) memory c.recall.ensures in
    let is : record { memory = c.in_ok-memory.memory; cycles = 0; first = c.in_ok-first.first; second = c.in_ok-second.second } ≡ new_duo c.args.config s =
    λ i. record { memory = memory i; cycles = 0; first = c.in_ok-first.ensures i; second = c.in_ok-second.ensures i } in
    (subst IsDuo (sym is) (new_holds c.args.config s c.width.ensures.config c.requires refl range), omega arith)
