-- What becomes of an object that is handed to a call, as far as objects of its type tell of themselves.
-- Cited by `Sink::put`, `put_line` and `put_lines`; by the writers of diva_trace and diva_drawing; by `top` of diva_cli.

-- an object that was lent to a call: the account that objects of its type give of themselves, what it was before, and what it is
-- after
pub record Lent (A B : Type 0) : Type 0 where
  pub account : A → B
  pub before : A
  pub after : A

abbrev pub lent : {A B : Type 0} → (account : A → B) → (before after : A) → Lent A B
lent account before after = record { account = account; before = before; after = after }

-- the account that it gave before
abbrev pub given : {A B : Type 0} → Lent A B → B
given it = it.account it.before

-- the account that it gives after
abbrev pub left : {A B : Type 0} → Lent A B → B
left it = it.account it.after
