use Rattle.std.proofs.Common.{◌≡◌, ◌∷◌, [], ◌∙◌, sym, rules}
use Rattle.std.proofs.lemmas.List.{length-set}
use Rattle.diva_tape.proofs.Numbering.{read-kept, read-over, claim-all}
use Rattle.diva_tape.proofs.reading.claim_in.Goals as goal

pub loop-word-preserved-then-count-lt8 : goal.loop-word-preserved-then-count-lt8
loop-word-preserved-then-count-lt8 c =
    let next : c.loop-word.word-iterator ≡ c.in-Some.word.now ∷ c.next.new.self = search rules in
    record {
      can_next = tt;
      is_finite = tt;
      eight = length-set c.loop-word.numbers c.loop-word.count c.in-Some-hex.number ∙ c.loop-word.invariant.eight;
      read = read-kept _ _ _ _ _ _ _ (sym c.in-Some-hex.ensures) c.loop-word.invariant.eight (rw next at c.loop-word.invariant.read) c.if-count-lt8.true;
    }

pub loop-word-preserved : goal.loop-word-preserved
loop-word-preserved c =
    let next : c.loop-word.word-iterator ≡ c.in-Some.word.now ∷ c.next.new.self = search rules in
    record {
      can_next = tt;
      is_finite = tt;
      eight = c.loop-word.invariant.eight;
      read = read-over _ _ _ _ _ _ _ (sym c.in-Some-hex.ensures) c.loop-word.invariant.eight (rw next at c.loop-word.invariant.read) c.if-count-lt8.false;
    }

pub returns : goal.returns
returns c =
    let none : c.loop-word.word-iterator ≡ [] = search rules in
    claim-all _ _ _ _ c.loop-word.invariant.eight (rw none at c.loop-word.invariant.read) c.if-count-lt8-2.false c.if-is_over.false
