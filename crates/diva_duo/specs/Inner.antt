-- What only private contracts of this crate cite. A reader of its promises can pass over it.
use Rattle.std.specs.Prelude.{◌≡◌, ◌<◌, ◌≤◌, ◌+◌, ◌-◌, ◌^◌, ◌++◌, length, flat_map}
use Rattle.diva_memory.specs.Bytes.{Bytes}
use Rattle.diva_core.specs.Headline.{dues}
use Rattle.diva_commit.specs.Committing.{buffered}
use Rattle.diva_hart.specs.HartArch.{seen}
use Rattle.diva_duo.specs.Duo.{Hart}

-- a hart has put into its buffer what the instructions store that it counted
abbrev pub Puts : Bytes → (h g : Hart) → Type 0
Puts memory h g = g.state.buffer ≡ h.state.buffer ++ flat_map buffered (dues (g.state.instret - h.state.instret) (seen memory h.state))

-- a hart's numbers leave room for a cycle
pub record CanCycle (h : Hart) : Type 0 where
  pub width : h.config.width ≤ 4
  pub limit : 1 ≤ h.config.limit
  pub pending : length h.under.pending ≤ h.config.window
  pub owed : h.state.end ≡ 0 → length h.state.buffer < h.config.stores
  pub count : h.state.instret + 4 ≤ 2 ^ 62
  pub flushes : h.under.log.flushes < 2 ^ 62
  pub silent : h.under.log.silent < 2 ^ 62
  pub idle : h.under.idle < 2 ^ 31
