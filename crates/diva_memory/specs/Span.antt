-- Where the stores are that a list has among its items.
-- Cited by `Span::extend`, `drop_oldest` and `is_apart`.
use Rattle.std.specs.Prelude.{ℕ, ◌≡◌, ◌<◌, List, slice_get, Some}
use Rattle.diva_memory.specs.Interval.{LiesIn}
use Rattle.diva_memory.specs.declared.span.Span.{Span}

-- the item at a place is in a span, with the n bytes from an address on
abbrev pub Spans : Span → (place addr n : ℕ) → Type 0
Spans s place addr n = (place < s.count) × LiesIn s.interval addr n

-- each item of a list that may store is in its span, with all bytes that it may store
abbrev pub IsSpan : {X : Type 0} → (X → (addr n : ℕ) → Type 0) → Span → List X → Type 0
IsSpan {X} MayStore s items = (place : ℕ) (x : X) (addr n : ℕ) → slice_get items place ≡ Some x → MayStore x addr n → Spans s place addr n
