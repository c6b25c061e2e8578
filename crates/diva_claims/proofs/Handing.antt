-- What is handed over by a line, and what becomes of it.
use Rattle.std.proofs.Common.{◌≡◌, ℕ, zero, suc, ◌+◌, List, [], ◌∷◌, ◌++◌, length, map, take, Option, Some, None, sym, ◌∙◌, refl, arith, subst, if◌then◌else◌}
use Rattle.std.specs.Prelude.{nat_lt, ◌&&◌, ◌==◌}
use Rattle.std.proofs.lemmas.Bool.{cond_both, ne_eqb}
use Rattle.diva_isa.specs.State.{State}
use Rattle.diva_isa.specs.declared.record.Record.{Record}
use Rattle.diva_isa.specs.Step.{record_of}
use Rattle.diva_core.specs.Timed.{Timed, PendingClaim, room_of}
use Rattle.diva_core.specs.Cycle.{accepted_in, stores_wait}
use Rattle.diva_core.proofs.Commits.{Commits}
use Rattle.diva_core.proofs.Cycling.{Ran}
use Rattle.diva_claims.specs.Calls.{claim_by}
use Rattle.diva_claims.specs.Said.{filled, IsLineOf}
use Rattle.diva_claims.specs.declared.said.Said.{Said}

-- ---- what is pending: at most one claim, that of the next instruction's line

abbrev pub IsHanded : Option Said → Record → Record → Type 0
IsHanded None due claim = ⊥
IsHanded (Some said) due claim = claim ≡ filled said due

abbrev pub AreHanded : Option Said → Record → List PendingClaim → Type 0
AreHanded o due [] = Unit {0}
AreHanded o due (p ∷ []) = IsHanded o due p.claim
AreHanded o due (p ∷ q ∷ xs) = ⊥

handed-taken : (o : Option Said) (t : State) (c r : ℕ) → AreHanded o (record_of t) (map (accepted_in c) (take r (claim_by o t)))
handed-taken None t c zero = tt
handed-taken None t c (suc r) = tt
handed-taken (Some said) t c zero = tt
handed-taken (Some said) t c (suc zero) = refl
handed-taken (Some said) t c (suc (suc r)) = refl

take-nothing : (c r : ℕ) → map (accepted_in c) (take r []) ≡ []
take-nothing c zero = refl
take-nothing c (suc r) = refl

handed-none : (o : Option Said) (t : State) (c r : ℕ) → AreHanded o (record_of t) (map (accepted_in c) (take r []))
handed-none o t c r = rw (take-nothing c r) tt

-- the list of a call, by the line that it has, if any, by how many are pending, and how many there is room for
abbrev call : Option Said → State → (pending room : ℕ) → List Record
call o t n r = if (n == 0) && nat_lt 0 r then claim_by o t else []

-- so it is at a machine
abbrev pub call_by : Option Said → Timed → List Record
call_by o m = call o m.arch (length m.under.pending) (room_of m)

pub handed-more : (o : Option Said) (t : State) (xs : List PendingClaim) (c r : ℕ) → AreHanded o (record_of t) xs
    → AreHanded o (record_of t) (xs ++ map (accepted_in c) (take r (call o t (length xs) r)))
handed-more o t [] c r h =
    cond_both ((length {A = PendingClaim} [] == 0) && nat_lt 0 r) _ _ (λ list. AreHanded o (record_of t) (map (accepted_in c) (take r list)))
    (λ yes. handed-taken o t c r) (λ no. handed-none o t c r)
handed-more o t (p ∷ []) c r h = rw (take-nothing c r) h
handed-more o t (p ∷ q ∷ xs) c r h = absurd h

-- ---- what commits is a line that is right

line-of : (o : Option Said) (due claim : Record) → IsHanded o due claim → claim ≡ due → IsLineOf o due
line-of None due claim h e = h
line-of (Some said) due claim h e = sym h ∙ e

pub record One (o : Option Said) (due : Record) (k : ℕ) (rest : List PendingClaim) (n : ℕ) : Type 0 where
  pub only : k ≡ 0
  pub none : rest ≡ []
  pub line : IsLineOf o due
  pub was : n ≡ 1

pub one-commits : (o : Option Said) (t : State) (k c : ℕ) (xs rest : List PendingClaim) → AreHanded o (record_of t) xs → Commits (suc k) t c xs rest → One o (record_of t) k rest (length xs)
one-commits o t k c [] rest h m = absurd m
one-commits o t zero c (p ∷ []) rest h m = record { only = refl; none = m.2; line = line-of o (record_of t) p.claim h m.0; was = refl }
one-commits o t (suc k) c (p ∷ []) rest h m = absurd m.2
one-commits o t k c (p ∷ q ∷ xs) rest h m = absurd h

-- ---- what differs is a line that is wrong

first-handed : (o : Option Said) (due : Record) (p : PendingClaim) (rest : List PendingClaim) → AreHanded o due (p ∷ rest) → IsHanded o due p.claim
first-handed o due p [] h = h
first-handed o due p (q ∷ rest) h = absurd h

pub record Refused (o : Option Said) (due : Record) (k : ℕ) (p : PendingClaim) : Type 0 where
  pub none : k ≡ 0
  pub handed : IsHanded o due p.claim

pub one-differs : (o : Option Said) (t : State) (k c : ℕ) (xs : List PendingClaim) (p : PendingClaim) (rest : List PendingClaim)
    → AreHanded o (record_of t) xs → Commits k t c xs (p ∷ rest) → Refused o (record_of t) k p
one-differs o t zero c xs p rest h m = record { none = refl; handed = first-handed o (record_of t) p rest (subst (AreHanded o (record_of t)) (sym m) h) }
one-differs o t (suc k) c [] p rest h m = absurd m
one-differs o t (suc zero) c (q ∷ []) p rest h m = absurd (grind (arith, m.2))
one-differs o t (suc (suc k)) c (q ∷ []) p rest h m = absurd m.2
one-differs o t (suc k) c (q ∷ r ∷ xs) p rest h m = absurd h

-- nothing is pending after a claim has committed
pub ran-empty : (o : Option Said) (m n : Timed) (list : List Record) → AreHanded o (record_of m.arch) m.under.pending → list ≡ call_by o m → Ran stores_wait m list n
    → n.under.pending ≡ []
ran-empty o m n list handed given r =
    let one : One o (record_of m.arch) r.k r.rest (length m.under.pending) = one-commits o m.arch r.k (m.cycles + 1) m.under.pending r.rest handed r.claims in
    let none : list ≡ [] = given ∙ rw (ne_eqb (length m.under.pending) 0 (let w = one.was in λ f. omega arith)) refl in
    r.pending ∙ rw (one.none, none, take-nothing (m.cycles + 1) (room_of m)) refl
