-- What is noted of the claims that are pending.
-- Cited by `Pending::accept_all`, `entry` and the type `Pending`; by `Machine::entry` of diva_machine.
use Rattle.std.specs.Prelude.{ℕ, ◌≡◌, ◌==◌, Bool, true, Some, None, IfSome}
use Rattle.diva_decode.specs.Fields.{opcode}
use Rattle.diva_decode.specs.Table.{row_of}
use Rattle.diva_isa.specs.declared.record.Record.{Record}
use Rattle.diva_core.specs.Timed.{PendingClaim}
use Rattle.diva_core.specs.declared.pending.Entry.{Entry}

-- a claim that was accepted in this cycle, neither decoded nor checked yet
abbrev pub fresh : (cycle : ℕ) → Record → Entry
fresh cycle claim = record { claim = claim; cycle = cycle; decoded = None; verdict = None }

-- a pending entry as the timed machine has it
abbrev pub pending_claim_of : Entry → PendingClaim
pending_claim_of e = record { claim = e.claim; cycle = e.cycle }

-- a decoded form is what the table says of the claim's word
abbrev pub IsDecoded : Entry → Type 0
IsDecoded e = IfSome e.decoded (λ i. row_of e.claim.word ≡ Some i)

-- a word of this opcode is a store, if it is an instruction
abbrev pub has_store_opcode : ℕ → Bool
has_store_opcode word = opcode word == 0b0100011

abbrev pub may_store : Entry → Bool
may_store e = has_store_opcode e.claim.word

-- an entry may store the four bytes from its claim's address on
abbrev pub MayStore : Entry → (addr n : ℕ) → Type 0
MayStore e addr n = (may_store e ≡ true) × (addr ≡ e.claim.addr) × (n ≡ 4)
