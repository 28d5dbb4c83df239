use Rattle.std.proofs.Common.{◌≡◌, Some, Err, sym, ap, refl}
use Rattle.wh_meaning.specs.Query.{eval}
use Rattle.wh_filed.specs.Fetching.{AllShownBy}
use Rattle.wh_filed.proofs.FetchingLaws.{still_covered}
use Rattle.wh_exec.specs.Source.{filed_in, instance_in}
use Rattle.wh_maintenance.specs.Carried.{sided}
use Rattle.wh_maintenance.specs.Above.{Grouping}
use Rattle.wh_algebra.specs.View.{query_of}
use Rattle.wh_group.specs.Slots.{kept_groups}
use Rattle.wh_group.specs.Grouping.{grouping_in}
use Rattle.wh_group.specs.Updates.{change_of}
use Rattle.wh_delta.specs.Moves.{turning}
use Rattle.wh_delta.specs.Asked.{asked_over}
use Rattle.wh_delta.proofs.AskedLaws.{below_first, below_both}
use Rattle.wh_filed.proofs.AskingLaws.{none_among}
use Rattle.wh_delta.proofs.KeptLaws.{still_shown, no_comes, no_goes, both_sides}
use Rattle.wh_delta.proofs.KeptLaws.{side_none, range_none, above_none, kept_found}
use Rattle.wh_delta.proofs.kept.kept_delta.Given.{Over}
use Rattle.wh_delta.proofs.kept.kept_delta.Goals.{After-deref-2}
use Rattle.wh_delta.proofs.kept.kept_delta.Goals as goal

pub rows_of-requires-2 : goal.rows_of-requires-2
rows_of-requires-2 g c = (
  c.type_bounds.sync-R,
  still_covered _ _ (filed_in c.args.goes.now)
      (λ part. g.met.F.Fetch.covers_on _ _ part c.in_ok-comes.ensures.goes) c.requires.goes,
)

pub returns-in_default-2-clause-change : goal.returns-in_default-2-clause-change
returns-in_default-2-clause-change g c = λ came went old.
    side_none (query_of c.args.query.now) (grouping_in c.in-Some.field-0) (sym c.in-Some.ensures)
    (turning old c.args.comes.now c.args.goes.now) (kept_groups c.args.groups.now)
    (no_comes _ _ ((rw c.in_default-2.is at c.in_ok-comes.ensures.rows) came))

pub returns-in_default-3-clause-change : goal.returns-in_default-3-clause-change
returns-in_default-3-clause-change g c = λ came went old.
    side_none (query_of c.args.query.now) (grouping_in c.in-Some.field-0) (sym c.in-Some.ensures)
    (turning old c.args.comes.now c.args.goes.now) (kept_groups c.args.groups.now)
    (no_goes _ _ c.in-Some-2.comes.items ((rw c.in-Some-2.is at c.in_ok-comes.ensures.rows) came)
    ((rw c.in_default-3.is at c.in_ok-goes.ensures.rows)
    (still_shown _ _ (filed_in c.args.goes.now) c.in_ok-comes.ensures.same went)))

-- what the query below gives over what came and what went
module _ (g : Over) (c : After-deref-2 g) where
  abbrev group : Grouping
  group = grouping_in c.in-Some.field-0

  sides : AllShownBy (g.F.Fetch.contents c.args.fetch.now) (filed_in c.args.comes.now)
      → AllShownBy (g.F.Fetch.contents c.args.fetch.now) (filed_in c.args.goes.now)
      → sided (eval group.below (instance_in c.args.comes.now)) (eval group.below (instance_in c.args.goes.now))
      ≡ Some (change_of c.deref.result.now c.deref-2.result.now)
  sides came went =
      both_sides _ _ c.in-Some-2.comes.items c.in-Some-3.goes.items _ _
      ((rw c.in-Some-2.is at c.in_ok-comes.ensures.rows) came)
      ((rw c.in-Some-3.is at c.in_ok-goes.ensures.rows)
      (still_shown _ _ (filed_in c.args.goes.now) c.in_ok-comes.ensures.same went)) c.deref.ensures.value
      c.deref-2.ensures.value

pub returns-in-Err-NumberOutOfRange-clause-change : goal.returns-in-Err-NumberOutOfRange-clause-change
returns-in-Err-NumberOutOfRange-clause-change g c = λ came went old.
    let after = (goal.at.returns-in-Err-NumberOutOfRange-clause-change g c).After-deref-2 in
    range_none (query_of c.args.query.now) (group g after) (sym c.in-Some.ensures)
    (turning old c.args.comes.now c.args.goes.now) (kept_groups c.args.groups.now)
    (change_of c.deref.result.now c.deref-2.result.now) (sides g after came went)
    (c.in-Err-NumberOutOfRange.ensures.out_of_range (ap Err c.in-Err-NumberOutOfRange.field-0-is))

pub returns-in_default-4-clause-change : goal.returns-in_default-4-clause-change
returns-in_default-4-clause-change g c = λ came went old.
    let after = (goal.at.returns-in_default-4-clause-change g c).After-deref-2 in
    above_none (query_of c.args.query.now) (group g after) (sym c.in-Some.ensures)
    (turning old c.args.comes.now c.args.goes.now) (kept_groups c.args.groups.now)
    (change_of c.deref.result.now c.deref-2.result.now) (sides g after came went) c.in-Ok.found
    c.in-Ok.ensures.updated (rw c.in_default-4.is at c.in_ok-moves.ensures)

pub returns-clause-change : goal.returns-clause-change
returns-clause-change g c = λ came went old.
    let after = (goal.at.returns-clause-change g c).After-deref-2 in
    kept_found (query_of c.args.query.now) (group g after) (sym c.in-Some.ensures)
    (turning old c.args.comes.now c.args.goes.now) (kept_groups c.args.groups.now)
    (change_of c.deref.result.now c.deref-2.result.now) (sides g after came went) c.in-Ok.found
    c.in-Ok.ensures.updated c.in-Some-4.moves _ (rw c.in-Some-4.is at c.in_ok-moves.ensures) c.in_ok-rows.ensures refl

-- ---- what is asked for

pub returns-in_default-clause-asks : goal.returns-in_default-clause-asks
returns-in_default-clause-asks g c =
    none_among (asked_over (query_of c.args.query.now) c.args.comes.now c.args.goes.now)
    (g.F.Fetch.asked c.args.fetch.now)

pub returns-in_default-2-clause-asks : goal.returns-in_default-2-clause-asks
returns-in_default-2-clause-asks g c =
    below_first (query_of c.args.query.now) (grouping_in c.in-Some.field-0) c.args.comes.now c.args.goes.now _ _
    (sym c.in-Some.ensures) c.in_ok-comes.ensures.asks

pub returns-in_default-3-clause-asks : goal.returns-in_default-3-clause-asks
returns-in_default-3-clause-asks g c =
    below_both (query_of c.args.query.now) (grouping_in c.in-Some.field-0) c.args.comes.now c.args.goes.now _ _ _
    (sym c.in-Some.ensures) c.in_ok-comes.ensures.asks c.in_ok-goes.ensures.asks

pub returns-in-Err-NumberOutOfRange-clause-asks : goal.returns-in-Err-NumberOutOfRange-clause-asks
returns-in-Err-NumberOutOfRange-clause-asks g c =
    below_both (query_of c.args.query.now) (grouping_in c.in-Some.field-0) c.args.comes.now c.args.goes.now _ _ _
    (sym c.in-Some.ensures) c.in_ok-comes.ensures.asks c.in_ok-goes.ensures.asks

pub returns-in_default-4-clause-asks : goal.returns-in_default-4-clause-asks
returns-in_default-4-clause-asks g c =
    below_both (query_of c.args.query.now) (grouping_in c.in-Some.field-0) c.args.comes.now c.args.goes.now _ _ _
    (sym c.in-Some.ensures) c.in_ok-comes.ensures.asks c.in_ok-goes.ensures.asks

pub returns-clause-asks : goal.returns-clause-asks
returns-clause-asks g c =
    below_both (query_of c.args.query.now) (grouping_in c.in-Some.field-0) c.args.comes.now c.args.goes.now _ _ _
    (sym c.in-Some.ensures) c.in_ok-comes.ensures.asks c.in_ok-goes.ensures.asks
