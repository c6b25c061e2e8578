-- The name before the first comma is read, and then those after it.
use Rattle.std.proofs.Common.{rules, ◌∙◌, lit<, sym, Some, None}
use Rattle.std.proofs.lemmas.Str.Pattern.{split_once_first}
use Rattle.diva_lab_args.specs.Inner.{items_in}
use Rattle.diva_lab_args.proofs.ChoiceLemmas.{ends, first_name, goes, last}
use Rattle.diva_lab_args.proofs.choices.choice.Goals as goal

pub returns-in_err-with_name : goal.returns-in_err-with_name
returns-in_err-with_name g c =
    let first = first_name c.loop-name.rest.now c.in-Some.name.now c.in-Some.more.now (split_once_first 44 c.loop-name.rest.now (Some (c.in-Some.name, c.in-Some.more)) c.in-Some.ensures.cases (lit< tt)) in
    let e = ends g.T.Named.named g.row.MOST c.args.word.now (items_in c.loop-name.choice) c.loop-name.rest.now c.loop-name.invariant.1 c.in-Some.name.now c.in-Some.more.now first (sym c.with_name.ensures ∙ c.in_err-with_name.was) in
    search rules

pub loop-name-preserved : goal.loop-name-preserved
loop-name-preserved g c =
    let first = first_name c.loop-name.rest.now c.in-Some.name.now c.in-Some.more.now (split_once_first 44 c.loop-name.rest.now (Some (c.in-Some.name, c.in-Some.more)) c.in-Some.ensures.cases (lit< tt)) in (
      search rules,
      goes g.T.Named.named g.row.MOST c.args.word.now (items_in c.loop-name.choice) c.loop-name.rest.now c.loop-name.invariant.1 c.in-Some.name.now c.in-Some.more.now first _ (sym c.with_name.ensures ∙ c.in_ok-with_name.was),
    )

pub returns : goal.returns
returns g c = c.with_name-2.ensures ∙ last g.T.Named.named g.row.MOST c.args.word.now (items_in c.loop-name.choice) c.loop-name.rest.now c.loop-name.invariant.1 (split_once_first 44 c.loop-name.rest.now None c.in_default.ensures.cases (lit< tt))
