-- The lines of one claim more are written, or no room could be made for them.
use Rattle.std.proofs.Common.{◌≡◌, ℕ, ◌+◌, ◌-◌, List, length, slice_get, ap, ◌∙◌, arith}
use Rattle.std.proofs.lemmas.Result.{err_from_is_err_and}
use Rattle.std.specs.List.{flat_map, range_with_len}
use Rattle.diva_drawing.proofs.Fronts.{texts_more}
use Rattle.diva_drawing.proofs.Holding.{holds_front, holds_more, texts_front}
use Rattle.diva_drawing.proofs.Passing.{passes_then}
use Rattle.diva_drawing.specs.Log.{claim_text, was_noted}
use Rattle.diva_drawing.proofs.log.push_each.Goals as goal

pub returns-in_err-make_room : goal.returns-in_err-make_room
returns-in_err-make_room g c =
    let text : ℕ → List ℕ = λ n. claim_text (c.args.first.row + n) (c.args.first.place + n) c.args.now (was_noted (slice_get c.args.was.now n)) (slice_get c.args.claims.now n) in
    let failed = err_from_is_err_and c.from_residual.result c.from_residual.ensures.1 in
    let n = c.loop-n.n in
    let all : length c.args.claims.now ≡ n + (length c.args.claims.now - n) = omega arith in
    let front = texts_front text n (length c.args.claims.now - n) in
    rw failed.1 (holds_front _ _ _ front.0 _ _ _ _ _ _ _ _ (ap (λ k. flat_map text (range_with_len 0 k)) all ∙ front.1) c.loop-n.invariant c.in_err-make_room.ensures.passes)

pub loop-n-preserved : goal.loop-n-preserved
loop-n-preserved g c =
    let text : ℕ → List ℕ = λ n. claim_text (c.args.first.row + n) (c.args.first.place + n) c.args.now (was_noted (slice_get c.args.was.now n)) (slice_get c.args.claims.now n) in
    rw (texts_more text c.loop-n.n)
    (passes_then _ _ (text c.loop-n.n) _ _ _ _ _ _ _ c.loop-n.invariant
    (holds_more _ (text c.loop-n.n) _ _ _ _ _ c.in_ok-make_room.ensures.passes c.push_numbered.ensures.bytes))
