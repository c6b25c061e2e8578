-- Nothing is kept of the rest of a line, and letters are read at once.
use Rattle.std.proofs.Common.{◌≡◌, ◌∙◌, ◌<◌, ℕ, false, not, arith, length, rules, slice_index_or, sym, take}
use Rattle.std.proofs.lemmas.Grind.{common_steps}
use Rattle.std.proofs.lemmas.List.{length-take-le}
use Rattle.std.proofs.lemmas.List.Sums.{prefix_len-le-length}
use Rattle.std.specs.List.{position_or_len}
use Rattle.diva_outside.specs.Words.{begins_comment, is_blank}
use Rattle.diva_outside.specs.Text.{Text}
use Rattle.diva_source.specs.Scanned.{ends_word}
use Rattle.diva_source.proofs.Runs.{letters_at_once, letters_some, letters_within, none_before}
use Rattle.diva_source.proofs.Scanning.{rest_stays}
use Rattle.diva_source.proofs.line_scan.take_run.Goals as goal

pub returns-in-Rest-clause-after : goal.returns-in-Rest-clause-after
returns-in-Rest-clause-after c =
    rw c.in-Rest.is (sym (rest_stays c.args.words.now (take c.line_end.result c.args.bytes.now)))

pub returns : goal.returns
returns c =
    let bytes : Text = c.args.bytes.now in
    let count : ℕ = c.word_end-count.result in
    let blank : is_blank (slice_index_or bytes 0 0) ≡ false = search rules in
    let comment : begins_comment (slice_index_or bytes 0 0) ≡ false = grind (arith, common_steps) in
    let some : 0 < position_or_len ends_word bytes = letters_some bytes 0 c.requires blank comment in
    let within = letters_within bytes in
    let inside = prefix_len-le-length (λ b. not (ends_word b)) bytes in
    let long : length (take (position_or_len ends_word bytes) bytes) ≡ position_or_len ends_word bytes = length-take-le (position_or_len ends_word bytes) bytes inside in
    record {
      some = omega (arith, c.word_end-count.ensures);
      within = omega (arith, c.word_end-count.ensures);
      after = c.take_letters.ensures ∙ rw c.word_end-count.ensures (letters_at_once c.args.words.now c.args.place.now (take (position_or_len ends_word bytes) bytes) (omega arith) c.in_default.not-Rest (none_before ends_word bytes));
    }
