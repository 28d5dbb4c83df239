use Rattle.std.proofs.Common.{◌≡◌, ◌∙◌, ap, sym, drop, Option, Some, None, arith}
use Rattle.wh_value.specs.Value.{Row}
use Rattle.wh_meaning.specs.Scalar.{of_two}
use Rattle.wh_meaning.specs.Query.{values_on}
use Rattle.wh_algebra.specs.View.{calls_of, scalars_of}
use Rattle.wh_aggregate.proofs.FaultLemmas.{stopped}
use Rattle.wh_group.specs.Moves.{Moves, noted, added}
use Rattle.wh_group.proofs.LoopLaws.{stopped_at}
use Rattle.wh_group.proofs.touched.Touched.add.Goals.{After-values_on}
use Rattle.wh_group.proofs.touched.Touched.add.Goals as goal

-- the moves with the row, by its key
abbrev with_row : After-values_on → Option Row → Option Moves
with_row c key = of_two (noted c.args.side (calls_of c.args.calls.now) c.index-rows-left.result) key
    (Some c.loop-left.self)

-- where the row can't be noted, there are no moves with all rows
none_of_all : (c : After-values_on) → with_row c (values_on (scalars_of c.args.by.now) c.index-rows-left.result) ≡ None
    → added c.args.side (scalars_of c.args.by.now) (calls_of c.args.calls.now) c.args.self.now c.args.rows.now ≡ None
none_of_all c =
    let at = c.loop-left in
    stopped_at c.args.side _ _ c.args.rows.now at.left c.index-rows-left.result c.args.self.now at.self record {
      some = omega arith;
      within = at.invariant.in_range;
      row_is = c.index-rows-left.is;
    } at.invariant.so_far

pub returns-in_err-key : goal.returns-in_err-key
returns-in_err-key c =
    let at = (goal.at.returns-in_err-key c).After-values_on in
    stopped c.from_residual.result c.in_err-key.field-0.0 _ _ _ c.from_residual.ensures.1
    (λ none. none_of_all at (ap (with_row at) none)) c.in_err-key.ensures

pub returns-in_err-note : goal.returns-in_err-note
returns-in_err-note c =
    let at = (goal.at.returns-in_err-note c).After-values_on in
    stopped c.from_residual-in_err-note.result c.in_err-note.field-0.0 _ _ _ c.from_residual-in_err-note.ensures.1
    (λ none. none_of_all at (ap (with_row at) c.in_ok-key.ensures ∙ none)) c.in_err-note.ensures

pub returns : goal.returns
returns c =
    let at = c.loop-left in
    let all : at.left ≡ 0 = omega arith in
    ap (λ i. added c.args.side (scalars_of c.args.by.now) (calls_of c.args.calls.now) c.args.self.now
    (drop i c.args.rows.now)) (sym all) ∙ at.invariant.so_far
