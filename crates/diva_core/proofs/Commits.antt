-- Claims that commit, by their number and the state.
use Rattle.std.proofs.Common.{◌≡◌, ℕ, zero, suc, ◌+◌, ◌-◌, ◌≤◌, List, [], ◌∷◌, ◌++◌, length, Some, refl, ◌∙◌, ◌⊎◌, inl, inr, arith}
use Rattle.diva_isa.specs.State.{State}
use Rattle.diva_isa.specs.Step.{record_of, step}
use Rattle.diva_core.specs.Timed.{Timed, PendingClaim, depth}
use Rattle.diva_core.specs.Headline.{dues, AreClaims, ByClaims, BySolo}

-- k claims, each the record of its state and accepted six or more cycles before, lead from those that waited to the rest
abbrev pub Commits : ℕ → State → ℕ → List PendingClaim → List PendingClaim → Type 0
Commits zero s cycle waiting rest = rest ≡ waiting
Commits (suc k) s cycle [] rest = ⊥
Commits (suc k) s cycle (p ∷ waiting) rest = (p.claim ≡ record_of s) × (p.cycle + depth ≤ cycle) × Commits k (step s) cycle waiting rest

-- what commits between two machines are claims, or one instruction that ran solo
pub record CommitsClaims (m last : Timed) : Type 0 where
  pub rest : List PendingClaim
  pub commits : Commits (last.count - m.count) m.arch (m.cycles + 1) m.under.pending rest

pub record CommitsItself (m last : Timed) : Type 0 where
  pub start : ℕ
  pub since : m.under.solo ≡ Some start
  pub sixth : m.cycles + 1 ≡ start + depth
  pub one : last.count ≡ m.count + 1

pub length-dues : (k : ℕ) (s : State) → length (dues k s) ≡ k
length-dues zero s = refl
length-dues (suc k) s = let e = length-dues k (step s) in omega arith

Commits-dues : (k : ℕ) (s : State) (c : ℕ) (xs rest : List PendingClaim) → Commits k s c xs rest → AreClaims (dues k s) c xs rest
Commits-dues zero s c xs rest h = h
Commits-dues (suc k) s c [] rest h = h
Commits-dues (suc k) s c (p ∷ xs) rest h = (h.0, h.1, Commits-dues k (step s) c xs rest h.2)

pub commits-records : (m last : Timed) → CommitsClaims m last ⊎ CommitsItself m last → ByClaims m (dues (last.count - m.count) m.arch) ⊎ BySolo m (dues (last.count - m.count) m.arch)
commits-records m last (inl c) = inl (record { rest = c.rest; claims = Commits-dues (last.count - m.count) m.arch (m.cycles + 1) m.under.pending c.rest c.commits })
commits-records m last (inr i) = inr (record { start = i.start; since = i.since; passed = i.sixth; one = length-dues (last.count - m.count) m.arch ∙ (let e = i.one in omega arith) })
