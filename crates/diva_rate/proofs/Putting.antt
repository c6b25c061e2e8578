-- Texts of groups that are put one after the other.
use Rattle.std.proofs.Common.{◌≡◌, ◌≤◌, ◌<◌, ◌+◌, ℕ, List, length, get_or, map, take, take_all, Ok, Err, sym, subst, arith}
use Rattle.std.specs.List.{concat}
use Rattle.std.proofs.lemmas.List.{get_or-map, length-map}
use Rattle.diva_outside.specs.Lent.{lent}
use Rattle.diva_outside.specs.Sink.{PutsTo, SinkAccount}
use Rattle.diva_outside.proofs.Sinks.{concat_more, concat_parts, puts_cut, puts_then}
use Rattle.diva_rate.specs.declared.rates.GroupRates.{GroupRates}

inside_map : (text : GroupRates → List ℕ) (groups : List GroupRates) (at : ℕ) → at < length groups → at < length (map text groups)
inside_map text groups at inside = let e = length-map groups text in omega (arith, e, inside)

text_at : (text : GroupRates → List ℕ) (groups : List GroupRates) (at : ℕ) (d : GroupRates) → at < length groups
    → text (get_or groups at d) ≡ get_or (map text groups) at (text (get_or groups at d))
text_at text groups at d inside = sym (get_or-map text groups at d (text (get_or groups at d)) inside)

module _ {S E : Type 0} (account : S → SinkAccount) (text : GroupRates → List ℕ) (groups : List GroupRates) (at : ℕ) where
  -- one group more was put
  pub put_more : (s0 s1 s2 : S) (d : GroupRates) → at < length groups
      → PutsTo {E = E} (lent account s0 s1) (concat (take at (map text groups))) (Ok tt)
      → PutsTo {E = E} (lent account s1 s2) (text (get_or groups at d)) (Ok tt)
      → PutsTo {E = E} (lent account s0 s2) (concat (take (at + 1) (map text groups))) (Ok tt)
  put_more s0 s1 s2 d inside before now =
      subst (λ (put : List ℕ). PutsTo {E = E} (lent account s0 s2) put (Ok tt))
      (sym (concat_more (map text groups) at (text (get_or groups at d)) (inside_map text groups at inside) (text_at text groups at d inside)))
      (puts_then account (concat (take at (map text groups))) (text (get_or groups at d)) s0 s1 s2 (Ok tt) before now)

  -- one group failed
  pub put_less : (s0 s1 s2 : S) (d : GroupRates) (e : E) → at < length groups
      → PutsTo {E = E} (lent account s0 s1) (concat (take at (map text groups))) (Ok tt)
      → PutsTo {E = E} (lent account s1 s2) (text (get_or groups at d)) (Err e)
      → PutsTo {E = E} (lent account s0 s2) (concat (map text groups)) (Err e)
  put_less s0 s1 s2 d e inside before now =
      subst (λ (put : List ℕ). PutsTo {E = E} (lent account s0 s2) put (Err e))
      (sym (concat_parts (map text groups) at (text (get_or groups at d)) (inside_map text groups at inside) (text_at text groups at d inside)))
      (puts_cut account _ _ s0 s2 e (puts_then account (concat (take at (map text groups))) (text (get_or groups at d)) s0 s1 s2 (Err e) before now))

  -- all were put
  pub put_all : (s0 s1 : S) → length groups ≤ at
      → PutsTo {E = E} (lent account s0 s1) (concat (take at (map text groups))) (Ok tt)
      → PutsTo {E = E} (lent account s0 s1) (concat (map text groups)) (Ok tt)
  put_all s0 s1 all put =
      let e = length-map groups text in
      subst (λ (texts : List (List ℕ)). PutsTo {E = E} (lent account s0 s1) (concat texts) (Ok tt))
      (take_all at (map text groups) (omega (arith, e, all))) put
