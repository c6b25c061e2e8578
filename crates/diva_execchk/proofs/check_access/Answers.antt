-- What the load or the store comes to is looked at in the state in which the claim stands.
use Rattle.std.proofs.Common.{◌≡◌, Some, true, sym, ap, ◌∙◌}
use Rattle.diva_decode.specs.Table.{row_of}
use Rattle.diva_isa.specs.Step.{record_of}
use Rattle.diva_core.specs.Older.{before_entry}
use Rattle.diva_core.specs.Stages.{earlier, fields_at, is_memory, is_memory_by, memory}
use Rattle.diva_core.proofs.Agreeing.{outcome_filled}
use Rattle.diva_core.proofs.Differing.{in-none}
use Rattle.diva_execchk.proofs.check_access.Goals as goal

pub returns : goal.returns
unfolding fields_at
returns c = λ on agrees.
    let s = before_entry c.args.view.now c.args.pending.now.items c.args.at in
    let claim = c.args.entry.now.claim in
    let i = c.args.i.now in
    let word : claim.word ≡ (record_of s).word = (in-none (earlier memory) claim (record_of s) agrees).1.0 in
    let access : is_memory (record_of s) ≡ true = ap (λ w. is_memory_by (row_of w)) (sym word) ∙ ap is_memory_by c.requires.says ∙ c.requires.access in
    let filled = outcome_filled claim s true (Some i) (sym c.requires.says) (λ e. absurd (cc)) agrees in
    rw access (c.compare_with.ensures (record_of s) (rw (c.access.ensures c.requires.access, c.new-state.ensures on) filled))
