use Rattle.std.proofs.Common.{◌≡◌, List, Option, Some, subst, sym, ap, ◌∙◌}
use Rattle.std.specs.FinMap.{empty, values}
use Rattle.std.specs.Option.{IfSome}
use Rattle.wh_meaning.specs.Bag.{Bag, no_rows, bag_of}
use Rattle.wh_filed.proofs.FetchingLaws.{still_covered}
use Rattle.wh_group.specs.Slots.{kept_groups}
use Rattle.wh_delta.specs.declared.kept.KeptChange.{KeptChange}
use Rattle.wh_state.specs.State.{Object, last_rows}
use Rattle.wh_state.specs.Stored.{table_meant}
use Rattle.wh_state.specs.Dynamic.{Kept}
use Rattle.wh_state.specs.Moments.{groups_at}
use Rattle.wh_dynamic.specs.View.{dynamic_of, kept_of}
use Rattle.wh_table.specs.Table.{table_of, filed_of}
use Rattle.wh_machine.specs.Brought.{after_all}
use Rattle.wh_refresh.specs.Objects.{objects_in}
use Rattle.wh_refresh.specs.Groups.{FindsGroups, StandsWith}
use Rattle.wh_refresh.specs.Rebased.{IsRebased}
use Rattle.wh_refresh.specs.declared.rebase.Rebased.{Rebased}
use Rattle.wh_refresh.proofs.AskLaws.{change_alone, change_then_own}
use Rattle.wh_refresh.proofs.SourceLemmas.{still_shown}
use Rattle.wh_refresh.proofs.GroupLaws.{none_regrouped, some_regrouped, later_stood, stands_with}
use Rattle.wh_refresh.proofs.groups.rebased_from_groups.Goals as goal

pub returns-in_default-clause-rebased : goal.returns-in_default-clause-rebased
returns-in_default-clause-rebased g c shown own keys has stamp bs are above =
    let now : List Object = after_all stamp c.args.moment bs (objects_in c.args.objects.now) in
    let t = table_of c.args.table.now in
    let d = dynamic_of c.args.dynamic.now in
    let was = bag_of (values (last_rows (table_meant t))) in
    let groups = kept_groups c.groups-groups.result.now in
    none_regrouped t now c.args.moment d was groups
    (subst (λ (found : Option KeptChange). FindsGroups was groups now c.args.moment d found) c.in_default.is
    (c.in_ok-found.ensures.change shown keys stamp bs are above was
    (stands_with (objects_in c.args.objects.now) d (table_meant t) (kept_of c.args.kept.now) groups c.requires.kept
    c.groups-groups.ensures.groups has)))

pub rebased_with-requires : goal.rebased_with-requires
rebased_with-requires g c =
    still_covered _ _ (filed_of c.args.table.now)
    (λ part. g.met.F.Fetch.covers_on _ _ part c.in_ok-found.ensures.goes) c.requires.own

pub returns-clause-rebased : goal.returns-clause-rebased
returns-clause-rebased g c shown own keys has stamp bs are above =
    let now : List Object = after_all stamp c.args.moment bs (objects_in c.args.objects.now) in
    let t = table_of c.args.table.now in
    let old = last_rows (table_meant t) in
    let was = bag_of (values old) in
    let d = dynamic_of c.args.dynamic.now in
    let k = kept_of c.args.kept.now in
    let groups = kept_groups c.groups-groups.result.now in
    some_regrouped t now c.args.moment d was groups k _ c.regrouped.result c.requires.kept
    (c.groups-groups.ensures.groups ∙ later_stood d k c.requires.later)
    (subst (λ (found : Option KeptChange). FindsGroups was groups now c.args.moment d found) c.in-Some.is
    (c.in_ok-found.ensures.change shown keys stamp bs are above was
    (stands_with (objects_in c.args.objects.now) d (table_meant t) k groups c.requires.kept
    c.groups-groups.ensures.groups has)))
    (λ new net. subst (λ (r : Rebased). IsRebased r old new) (sym c.regrouped.ensures.rebased)
    (c.in_ok-rebased.ensures.rebased
    (still_shown _ _ (filed_of c.args.table.now) c.in_ok-found.ensures.same own) new net))
    c.regrouped.ensures.groups

pub returns-in_default-clause-asks : goal.returns-in_default-clause-asks
returns-in_default-clause-asks g c = change_alone c.args.objects.now c.args.before.now (filed_of c.args.table.now) _ _ _ _
    _ _ c.in_ok-found.ensures.asks

pub returns-clause-asks : goal.returns-clause-asks
returns-clause-asks g c = change_then_own c.args.objects.now c.args.before.now (filed_of c.args.table.now) _ _ _ _ _ _ _
    c.in_ok-found.ensures.asks c.in_ok-rebased.ensures.asks
