use Rattle.std.proofs.Common.{◌≡◌, List, Option, Some, subst, sym, ap, ◌∙◌}
use Rattle.std.specs.FinMap.{empty, values}
use Rattle.std.specs.Option.{IfSome}
use Rattle.wh_meaning.specs.Bag.{Bag, no_rows, bag_of}
use Rattle.wh_filed.proofs.FetchingLaws.{still_covered}
use Rattle.wh_group.specs.Slots.{kept_groups}
use Rattle.wh_delta.specs.declared.kept.KeptChange.{KeptChange}
use Rattle.wh_state.specs.State.{Object, last_rows}
use Rattle.wh_state.specs.Stored.{table_meant}
use Rattle.wh_state.specs.Dynamic.{Kept}
use Rattle.wh_state.specs.Moments.{groups_at}
use Rattle.wh_dynamic.specs.View.{dynamic_of, kept_of}
use Rattle.wh_table.specs.Table.{table_of, filed_of}
use Rattle.wh_machine.specs.Brought.{after_all}
use Rattle.wh_refresh.specs.Objects.{objects_in}
use Rattle.wh_refresh.specs.Groups.{FindsGroups, StandsWith}
use Rattle.wh_refresh.specs.Rebased.{IsRebased}
use Rattle.wh_refresh.specs.declared.rebase.Rebased.{Rebased}
use Rattle.wh_refresh.proofs.SourceLemmas.{still_shown}
use Rattle.wh_refresh.proofs.GroupLaws.{none_regrouped, some_regrouped, first_stood, net_first}
use Rattle.wh_refresh.proofs.groups.rebased_from_nothing.Goals as goal

pub returns-in_default-clause-rebased : goal.returns-in_default-clause-rebased
returns-in_default-clause-rebased g c shown own has stamp bs are above =
    let now : List Object = after_all stamp c.args.moment bs (objects_in c.args.objects.now) in
    let d = dynamic_of c.args.dynamic.now in
    none_regrouped (table_of c.args.table.now) now c.args.moment d no_rows empty
    (subst (λ (found : Option KeptChange). FindsGroups no_rows empty now c.args.moment d found) c.in_default.is
    (c.in_ok-found.ensures.change shown has stamp bs are above))

pub rebased-requires : goal.rebased-requires
rebased-requires g c =
    still_covered _ _ (filed_of c.args.table.now)
    (λ part. g.met.F.Fetch.covers_on _ _ part c.in_ok-found.ensures.goes) c.requires.own

pub returns-clause-rebased : goal.returns-clause-rebased
returns-clause-rebased g c shown own has stamp bs are above =
    let now : List Object = after_all stamp c.args.moment bs (objects_in c.args.objects.now) in
    let t = table_of c.args.table.now in
    let old = last_rows (table_meant t) in
    let d = dynamic_of c.args.dynamic.now in
    let k = kept_of c.args.kept.now in
    let rows = c.in-Some.field-0.rows in
    let made : IsRebased c.regrouped.result.rebased old rows.plus =
    subst (λ (r : Rebased). IsRebased r old rows.plus) (sym c.regrouped.ensures.rebased)
    (c.in_ok-rebased.ensures.rebased
    (still_shown _ _ (filed_of c.args.table.now) c.in_ok-found.ensures.same own)) in
    some_regrouped t now c.args.moment d no_rows empty k _ c.regrouped.result c.requires.kept
    (first_stood d k c.requires.first)
    (subst (λ (found : Option KeptChange). FindsGroups no_rows empty now c.args.moment d found) c.in-Some.is
    (c.in_ok-found.ensures.change shown has stamp bs are above))
    (λ new net. subst (λ (bag : Bag). IsRebased c.regrouped.result.rebased old bag)
    (net_first new rows.plus rows.minus net) made) c.regrouped.ensures.groups
