-- One claim more was put, or a prefix of it; and the line feed.
use Rattle.std.proofs.Common.{◌≡◌, ◌<◌, ◌==◌, ℕ, List, length, get_or, ap, subst, codes, arith}
use Rattle.std.proofs.lemmas.List.Elements.{All-more}
use Rattle.std.proofs.lemmas.Result.{err_from_is_err_and}
use Rattle.diva_isa.specs.declared.record.Record.{Record}
use Rattle.diva_outside.proofs.Sinks.{puts_then, puts_cut}
use Rattle.diva_tape.specs.TapeText.{IsClaim, piece_text}
use Rattle.diva_cli.proofs.Pieces.{pieces_more, pieces_parts, pieces_whole}
use Rattle.diva_cli.proofs.watching.write_list.Goals as goal

-- where there is no claim
abbrev none : Record
none = record { pc = 0; word = 0; src1 = 0; src2 = 0; addr = 0; value = 0; next = 0; end = 0 }

pub loop-place-preserved : goal.loop-place-preserved
loop-place-preserved g c =
    let inv = c.loop-place.invariant in
    let i : ℕ = c.loop-place.place in
    let same = c.as_slice-claim-items.ensures.value in
    let inside : i < length c.args.list.now = (let e = ap (λ (l : List Record). length l) same in omega arith) in
    let text : c.tape_piece.result ≡ piece_text (get_or c.args.list.now i none) (i == 0) = subst (λ (l : List Record). c.tape_piece.result ≡ piece_text (get_or l i none) (i == 0)) same c.tape_piece.ensures.text in
    record {
      put = rw (pieces_more c.args.list.now i none inside, ← text) (puts_then _ _ _ _ _ _ _ inv.put c.in_ok-put_line.ensures);
      claims = All-more IsClaim c.args.list.now i none inside inv.claims (subst (λ (l : List Record). IsClaim (get_or l i none)) same c.tape_piece.ensures.numbers);
    }

pub returns-in_err-put_line-clause-put : goal.returns-in_err-put_line-clause-put
returns-in_err-put_line-clause-put g c =
    let i : ℕ = c.loop-place.place in
    let same = c.as_slice-claim-items.ensures.value in
    let inside : i < length c.args.list.now = (let e = ap (λ (l : List Record). length l) same in omega arith) in
    let text : c.tape_piece.result ≡ piece_text (get_or c.args.list.now i none) (i == 0) = subst (λ (l : List Record). c.tape_piece.result ≡ piece_text (get_or l i none) (i == 0)) same c.tape_piece.ensures.text in
    let failed = err_from_is_err_and c.from_residual.result c.from_residual.ensures.1 in
    rw (failed.1, pieces_parts c.args.list.now i none (codes "\n") inside, ← text)
    (puts_cut _ _ _ _ _ _ (puts_then _ _ _ _ _ _ _ c.loop-place.invariant.put c.in_err-put_line.ensures))

pub returns-clause-put : goal.returns-clause-put
returns-clause-put g c =
    let all : length c.args.list.now ≡ c.loop-place.place = (let e = ap (λ (l : List Record). length l) c.as_slice-claim-items.ensures.value in let f = c.loop-place.auto.place-end in let h = c.loop-place-test.false in omega arith) in
    rw (← pieces_whole c.args.list.now c.loop-place.place all) (puts_then _ _ _ _ _ _ _ c.loop-place.invariant.put c.put.ensures)
