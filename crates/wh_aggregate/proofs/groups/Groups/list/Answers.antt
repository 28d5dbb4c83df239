use Rattle.std.proofs.Common.{List, ◌≡◌, [], ◌∷◌, ◌++◌, ◌∙◌, ap, sym, append-nil, Some, Ok, arith}
use Rattle.std.proofs.lemmas.Grind.{common_steps}
use Rattle.std.specs.Option.{option_map}
use Rattle.std.specs.FinMap.{entries}
use Rattle.wh_value.specs.Value.{Row}
use Rattle.wh_value.specs.Order.{row_total}
use Rattle.wh_meaning.specs.Query.{Total}
use Rattle.wh_algebra.specs.View.{calls_of}
use Rattle.wh_aggregate.specs.Given.{GivesListed}
use Rattle.wh_aggregate.specs.Groups.{listed}
use Rattle.wh_aggregate.proofs.FaultLemmas.{still, passed_on}
use Rattle.wh_aggregate.proofs.LoopLemmas.{listed_more, listed_none, rows_given}
use Rattle.wh_meaning.proofs.KeyMaps.{entries_in_order}
use Rattle.wh_aggregate.proofs.groups.Groups.list.Goals as goal

pub returns-in_err-row : goal.returns-in_err-row
returns-in_err-row c = λ by b over.
    let calls = calls_of c.args.calls.now in
    let at = c.loop-key in
    let all : entries c.args.self ≡ c.into_iter-key-iterator.result =
    ap entries (sym c.self.view_is) ∙ entries_in_order row_total c.self.inside.map.entries c.len.ensures.ordered
    ∙ sym c.into_iter-key-iterator.ensures.into_iter_gives.0 in
    let e : Row × List Total = (c.in-Some.key, c.in-Some.tallies) in
    let left : at.key-iterator ≡ e ∷ c.next.new.self = c.in-Some.ensures.steps in
    rows_given by calls b c.args.self over c.from_residual-in_err-row.result
    (passed_on c.from_residual-in_err-row.result c.in_err-row.field-0.0
    (λ r. GivesListed r (listed calls (entries c.args.self))) c.from_residual-in_err-row.ensures.1
    (still c.in_err-row.field-0.0 _ _ (λ none. ap (listed calls) all ∙ at.invariant ∙ ap (λ es. option_map
    (λ r. at.rows.items ++ r) (listed calls es)) left ∙ listed_none calls at.rows.items e c.next.new.self none)
    c.in_err-row.ensures))

pub loop-key-preserved : goal.loop-key-preserved
loop-key-preserved c =
    let calls = calls_of c.args.calls.now in
    let at = c.loop-key in
    let e : Row × List Total = (c.in-Some.key, c.in-Some.tallies) in
    let left : at.key-iterator ≡ e ∷ c.next.new.self = c.in-Some.ensures.steps in
    let pushed : c.push.new.self.items ≡ at.rows.items ++ c.in_ok-row.row ∷ [] = grind (arith, common_steps) in
    at.invariant
    ∙ ap (λ es. option_map (λ r. at.rows.items ++ r) (listed calls es)) left
    ∙ listed_more calls at.rows.items e c.next.new.self c.in_ok-row.row c.in_ok-row.ensures
    ∙ ap (λ rows. option_map (λ r. rows ++ r) (listed calls c.next.new.self)) (sym pushed)

pub returns : goal.returns
returns c = λ by b over.
    let calls = calls_of c.args.calls.now in
    let at = c.loop-key in
    let all : entries c.args.self ≡ c.into_iter-key-iterator.result =
    ap entries (sym c.self.view_is) ∙ entries_in_order row_total c.self.inside.map.entries c.len.ensures.ordered
    ∙ sym c.into_iter-key-iterator.ensures.into_iter_gives.0 in
    rows_given by calls b c.args.self over (Ok at.rows) (ap (listed calls) all
    ∙ at.invariant
    ∙ ap (λ es. option_map (λ r. at.rows.items ++ r) (listed calls es)) c.in-None.ensures.steps.0
    ∙ ap Some (append-nil at.rows.items))
