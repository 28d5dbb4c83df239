use Rattle.std.proofs.Common.{Option, Some, None, subst}
use Rattle.std.specs.FinMap.{values}
use Rattle.wh_bag.specs.declared.change.Signed.{Signed}
use Rattle.wh_meaning.specs.Bag.{Bag, bag_of}
use Rattle.wh_meaning.specs.BagChange.{IsNet}
use Rattle.wh_filed.proofs.FetchingLaws.{still_covered}
use Rattle.wh_state.specs.State.{Rows, last_rows}
use Rattle.wh_state.specs.Stored.{table_meant}
use Rattle.wh_state.specs.Moments.{evaluated_at}
use Rattle.wh_dynamic.specs.View.{dynamic_of}
use Rattle.wh_delta.specs.Found.{FindsNet}
use Rattle.wh_table.specs.Table.{table_of, filed_of}
use Rattle.wh_machine.specs.Brought.{after_all}
use Rattle.wh_refresh.specs.Objects.{objects_in}
use Rattle.wh_refresh.specs.Rebased.{IsRebased, RebasesTo}
use Rattle.wh_refresh.specs.declared.rebase.Rebased.{Rebased}
use Rattle.wh_refresh.proofs.AskLaws.{change_alone, change_then_own}
use Rattle.wh_refresh.proofs.SourceLemmas.{still_shown}
use Rattle.wh_refresh.proofs.rows.rebased_by_change.Goals as goal

-- a change that was found leads to what the query gives
nothing_found : (old : Rows) (was : Bag) (now : Option Bag) → FindsNet was now None → RebasesTo old now None
nothing_found old was None finds = tt
nothing_found old was (Some new) finds = absurd finds

change_found : (old : Rows) (was : Bag) (now : Option Bag) (change : Signed) (made : Rebased)
    → FindsNet was now (Some change)
    → ((new : Bag) → IsNet was new change.plus change.minus → IsRebased made old new) → RebasesTo old now (Some made)
change_found old was None change made finds by_net = absurd finds
change_found old was (Some new) change made finds by_net = by_net new finds

pub returns-in_default-clause-rebased : goal.returns-in_default-clause-rebased
returns-in_default-clause-rebased g c shown own has stamp bs are above =
    let old = last_rows (table_meant (table_of c.args.table.now)) in
    let was = bag_of (values old) in
    let now = evaluated_at (after_all stamp c.args.moment bs (objects_in c.args.objects.now)) c.args.moment
    (dynamic_of c.args.dynamic.now) in
    nothing_found old was now (subst (λ (f : Option Signed). FindsNet was now f) c.in_default.is
    (c.in_ok-change.ensures.change shown stamp bs was are above has.rows))

pub rebased_with-requires : goal.rebased_with-requires
rebased_with-requires g c =
    still_covered _ _ (filed_of c.args.table.now)
    (λ part. g.met.F.Fetch.covers_on _ _ part c.in_ok-change.ensures.goes) c.requires.own

pub returns-clause-rebased : goal.returns-clause-rebased
returns-clause-rebased g c shown own has stamp bs are above =
    let old = last_rows (table_meant (table_of c.args.table.now)) in
    let was = bag_of (values old) in
    let now = evaluated_at (after_all stamp c.args.moment bs (objects_in c.args.objects.now)) c.args.moment
    (dynamic_of c.args.dynamic.now) in
    change_found old was now c.in-Some.change c.in_ok-rebased.rebased
    (subst (λ (f : Option Signed). FindsNet was now f) c.in-Some.is
    (c.in_ok-change.ensures.change shown stamp bs was are above has.rows))
    (c.in_ok-rebased.ensures.rebased
    (still_shown _ _ (filed_of c.args.table.now) c.in_ok-change.ensures.same own))

pub returns-in_default-clause-asks : goal.returns-in_default-clause-asks
returns-in_default-clause-asks g c = λ linear. change_alone c.args.objects.now c.args.before.now (filed_of c.args.table.now) _ _ _ _
    _ _ (c.in_ok-change.ensures.asks linear)

pub returns-clause-asks : goal.returns-clause-asks
returns-clause-asks g c = λ linear. change_then_own c.args.objects.now c.args.before.now (filed_of c.args.table.now) _ _ _ _ _ _ _
    (c.in_ok-change.ensures.asks linear) c.in_ok-rebased.ensures.asks
