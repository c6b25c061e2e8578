-- Name by name.
use Rattle.std.proofs.Common.{◌∙◌, refl, arith}
use Rattle.diva_rating.proofs.Reading.{cause_too, kept_next, stops_at}
use Rattle.diva_rating.proofs.rating.read_files.Goals as goal

pub returns-in-Err-Unread-clause-stopped : goal.returns-in-Err-Unread-clause-stopped
returns-in-Err-Unread-clause-stopped g c =
    let inv = c.loop-name.invariant in
    stops_at _ _ c.loop-name.name-index c.name-item.result c.loop-name.kept _ c.loop-name-test.true c.name-item.is inv.kept (
      refl,
      cause_too g.D.Source.account c.args.source.now c.loop-name.source c.read_text.new.source c.name-item.result inv.stays inv.later
          (rw c.as_str.ensures at (rw c.in-Err-Unread.field-0-is at c.in-Err-Unread.ensures.unread)),
    )

pub returns-in-Err-Bad-clause-stopped : goal.returns-in-Err-Bad-clause-stopped
returns-in-Err-Bad-clause-stopped g c =
    let inv = c.loop-name.invariant in
    stops_at _ _ c.loop-name.name-index c.name-item.result c.loop-name.kept _ c.loop-name-test.true c.name-item.is inv.kept
    (record {
      same = refl;
      bytes = c.in-Ok.text.items;
      read = rw (inv.stays, c.as_str.ensures) at c.in-Ok.ensures.text;
      first = rw (c.in-Err-Bad.field-0-is, c.deref.ensures.value, ← c.in-Err-Bad.line-is, ← c.in-Err-Bad.kind-is) at c.in-Err-Bad.ensures;
    })

pub loop-name-preserved : goal.loop-name-preserved
loop-name-preserved g c =
    let inv = c.loop-name.invariant in
    record {
      stays = c.read_text.ensures.stays ∙ inv.stays;
      later = (let a = c.read_text.ensures.later in let b = inv.later in omega arith);
      kept = kept_next _ _ c.loop-name.name-index c.name-item.result c.in-Ok.text.items c.loop-name.kept _ c.loop-name-test.true c.name-item.is inv.kept
          (rw (inv.stays, c.as_str.ensures) at c.in-Ok.ensures.text) (rw c.deref.ensures.value at c.in-Ok-read.ensures);
    }
