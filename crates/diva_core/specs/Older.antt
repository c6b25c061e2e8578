-- The state in which a pending claim stands: the committed one after the claims before it, right ones and wrong ones.
-- Cited by `Bypass::new`; by `check` of diva_fetchchk, diva_opchk and diva_execchk; by `Machine::entry` of diva_machine.
use Rattle.std.specs.Prelude.{ℕ, ◌+◌, List, [], ◌∷◌, length, map, take}
use Rattle.diva_isa.specs.State.{State}
use Rattle.diva_isa.specs.Step.{apply, effect_of}
use Rattle.diva_isa.specs.declared.record.Record.{Record}
use Rattle.diva_core.specs.declared.pending.Entry.{Entry}
use Rattle.diva_core.specs.Effects.{with_effects}

-- the state after some claims, the oldest first
abbrev pub after : State → List Record → State
after s [] = s
after s (r ∷ rest) = after (apply s r) rest

-- the oldest k claims of those pending
abbrev pub older : List Entry → ℕ → List Record
older entries k = take k (map (λ e. e.claim) entries)

-- the state in which the claim at place k stands
abbrev pub before_entry : State → List Entry → ℕ → State
before_entry s entries k = after s (older entries k)

-- ---- how it is looked at: the same as if no claim ended

-- what the claims did
abbrev pub with_claims : State → List Record → State
with_claims s claims = with_effects s (map effect_of claims)

-- where they lead, from pc on
abbrev pub led : (pc : ℕ) → List Record → ℕ
led pc [] = pc
led pc (r ∷ rest) = led r.next rest

-- each claim is one instruction
abbrev pub bypassed : State → List Record → State
bypassed s claims = record (with_claims s claims) { pc = led s.pc claims; instret = s.instret + length claims }
