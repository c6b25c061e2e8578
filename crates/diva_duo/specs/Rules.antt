-- The rule of two harts: for what an equal claim waits.
-- Cited in `Duo.antt`, for `Duo::cycle`.
use Rattle.std.specs.Prelude.{ℕ, ◌==◌, Bool, true, false, not, ◌&&◌, ◌||◌, Option, Some, None}
use Rattle.diva_decode.specs.declared.instr.Instr.{Instr}
use Rattle.diva_decode.specs.Table.{row_of}
use Rattle.diva_isa.specs.Kind.{kind}
use Rattle.diva_isa.specs.declared.kind.Kind.{Kind}
use Rattle.diva_isa.specs.declared.kind.Kind.TheVariants.{Lui, Auipc, Jal, Jalr, Branch, Load, Store, OpImm, OpReg, Fence, Ecall, Ebreak, Counter}
use Rattle.diva_isa.specs.declared.record.Record.{Record}
use Rattle.diva_core.specs.Cycle.{Rule, stores_wait}

abbrev pub is_fence_kind : Kind → Bool
is_fence_kind Lui = false
is_fence_kind Auipc = false
is_fence_kind Jal = false
is_fence_kind Jalr = false
is_fence_kind Branch = false
is_fence_kind (Load width) = false
is_fence_kind (Store width) = false
is_fence_kind OpImm = false
is_fence_kind OpReg = false
is_fence_kind Fence = true
is_fence_kind Ecall = false
is_fence_kind Ebreak = false
is_fence_kind Counter = false

abbrev pub is_fence_by : Option Instr → Bool
is_fence_by None = false
is_fence_by (Some i) = is_fence_kind (kind i.op)

-- the record is that of a FENCE
unfoldable pub is_fence : Record → Bool
is_fence r = is_fence_by (row_of r.word)

-- a FENCE waits where a store is owed
abbrev pub fence_waits : (owed : ℕ) → Record → Bool
fence_waits owed r = is_fence r && not (owed == 0)

-- so does a store where all are owed
abbrev pub fences_wait : Rule
fences_wait stores owed r = stores_wait stores owed r || fence_waits owed r
