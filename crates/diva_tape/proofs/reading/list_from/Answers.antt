use Rattle.std.proofs.Common.{◌≡◌, ◌<◌, [], ◌∷◌, ◌++◌, ◌∙◌, length, ap, sym, arith, rules}
use Rattle.std.specs.Prelude.{Err}
use Rattle.std.proofs.lemmas.Grind.{common_steps}
use Rattle.std.proofs.lemmas.List.{length_push}
use Rattle.diva_tape.proofs.Listing.{with_parts, part-wrong, part-taken, part-full, part-miscounted}
use Rattle.diva_tape.proofs.reading.list_from.Goals as goal

pub returns-in_err-claim_in : goal.returns-in_err-claim_in
returns-in_err-claim_in c =
    let next : c.loop-part.part-iterator ≡ c.in-Some.part.now ∷ c.next.new.self = search rules in
    let result : c.from_residual.result ≡ Err c.in_err-claim_in.field-0.0 = search rules in
    result
    ∙ sym ((rw next at c.loop-part.invariant.same)
    ∙ part-wrong c.loop-part.list c.loop-part.is_miscounted c.loop-part.is_overfull c.in-Some.part.now c.next.new.self c.in_err-claim_in.field-0.0 (search rules))

pub loop-part-preserved-then-is_full : goal.loop-part-preserved-then-is_full
loop-part-preserved-then-is_full c =
    let next : c.loop-part.part-iterator ≡ c.in-Some.part.now ∷ c.next.new.self = search rules in
    record {
      can_next = tt;
      is_finite = tt;
      most = c.loop-part.invariant.most;
      same =
          (rw next at c.loop-part.invariant.same)
          ∙ part-full c.loop-part.list c.loop-part.is_miscounted c.loop-part.is_overfull c.in-Some.part.now c.next.new.self c.in-Some-2.field-0 (search rules) (search rules);
    }

pub loop-part-preserved-in-Some-2-2 : goal.loop-part-preserved-in-Some-2-2
loop-part-preserved-in-Some-2-2 c =
    let next : c.loop-part.part-iterator ≡ c.in-Some.part.now ∷ c.next.new.self = search rules in
    let pushed : c.push.new.self ≡ c.loop-part.list ++ c.in-Some-2-2.claim ∷ [] = search rules in
    let room : length c.loop-part.list < 8 = grind (arith, common_steps) in
    record {
      can_next = tt;
      is_finite = tt;
      most = rw pushed (omega (arith, length_push c.loop-part.list c.in-Some-2-2.claim));
      same =
          (rw next at c.loop-part.invariant.same)
          ∙ part-taken c.loop-part.list c.loop-part.is_miscounted c.loop-part.is_overfull c.in-Some.part.now c.next.new.self c.in-Some-2-2.claim (search rules)
          ∙ ap (λ list. with_parts list c.loop-part.is_miscounted c.loop-part.is_overfull c.next.new.self) (sym pushed);
    }

pub loop-part-preserved : goal.loop-part-preserved
loop-part-preserved c =
    let next : c.loop-part.part-iterator ≡ c.in-Some.part.now ∷ c.next.new.self = search rules in
    record {
      can_next = tt;
      is_finite = tt;
      most = c.loop-part.invariant.most;
      same =
          (rw next at c.loop-part.invariant.same)
          ∙ part-miscounted c.loop-part.list c.loop-part.is_miscounted c.loop-part.is_overfull c.in-Some.part.now c.next.new.self (search rules);
    }
