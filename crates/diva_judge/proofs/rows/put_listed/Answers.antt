-- What was put is the line of the listing without its line feed.
use Rattle.std.proofs.Common.{sym}
use Rattle.diva_judge.proofs.Listing.{listed_line}
use Rattle.diva_judge.proofs.rows.put_listed.Goals as goal

pub returns : goal.returns
returns g c =
    rw (sym (listed_line c.args.due.now), sym c.list_line-line.ensures, sym c.bytes.ensures.bytes, sym c.without_feed.ensures) c.put.ensures
