-- The state that an image starts.
use Rattle.std.proofs.Common.{◌≡◌, ℕ, List, [], replicate, refl}
use Rattle.diva_isa.specs.State.{State}
use Rattle.diva_image.specs.Layout.{BeginsAs, Layout, memory_of}
use Rattle.diva_hart.specs.Start.{start_of}

same_state : (entry entry' base base' : ℕ) (bytes bytes' : List ℕ) → entry ≡ entry' → base ≡ base' → bytes ≡ bytes'
    → (let a : State = record { regs = replicate 32 0; pc = entry; base = base; bytes = bytes; output = []; instret = 0; end = 0 } in
    let b : State = record { regs = replicate 32 0; pc = entry'; base = base'; bytes = bytes'; output = []; instret = 0; end = 0 } in a ≡ b)
same_state entry entry' base base' bytes bytes' p q r = rw (p, q, r) refl

-- images that begin the same start the same state
pub starts_as : (i j : Layout) → BeginsAs i j → start_of i ≡ start_of j
starts_as i j same = same_state i.entry j.entry i.base j.base (memory_of i) (memory_of j) same.entry same.base same.memory
