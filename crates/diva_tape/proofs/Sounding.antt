-- The lists that Noise hands over.
use Rattle.std.proofs.Common.{◌≡◌, ℕ, List, [], ◌∷◌, length, refl, ap, ◌∙◌}
use Rattle.diva_isa.specs.declared.record.Record.{Record}
use Rattle.diva_core.specs.Cycle.{cycle_of}
use Rattle.diva_core.specs.History.{IsHistory, lists_of}
use Rattle.diva_core.specs.Timed.{Timed}
use Rattle.diva_tape.specs.Noise.{noise_call, noise_claim, noise_lists}

pub log_noise : (m last : Timed) (before after : ℕ) (history : List (List Record × ℕ))
    → IsHistory noise_call m before history last after
    → lists_of history ≡ noise_lists (length history) before
log_noise m last before after [] h = refl
log_noise m last before after (turn ∷ history) h =
    let more : lists_of history ≡ noise_lists (length history) turn.1 = log_noise (cycle_of m turn.0) last turn.1 after history h.1.1 in
    ap (λ list. list ∷ lists_of history) h.1.0.lists
    ∙ ap (λ lists. (noise_claim before ∷ []) ∷ lists) (more ∙ ap (noise_lists (length history)) h.1.0.keeps)
