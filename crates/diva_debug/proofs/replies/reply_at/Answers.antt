-- There is a newest row exactly where a flush came.
use Rattle.std.proofs.Common.{sym, ◌∙◌}
use Rattle.diva_debug.proofs.Answering.{tells_none}
use Rattle.diva_debug.proofs.replies.reply_at.Goals as goal

pub returns-in-Why-clause-no_flush : goal.returns-in-Why-clause-no_flush
returns-in-Why-clause-no_flush c why =
    let none = tells_none c.newest.result c.args.m.now.timed.under.log.flushes c.newest.ensures.none in
    (λ e. none.0 (sym c.why_line.ensures ∙ e), λ zero. c.why_line.ensures ∙ none.1 zero)
