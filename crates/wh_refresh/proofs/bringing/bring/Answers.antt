use Rattle.std.proofs.Common.{◌≡◌, ℕ, zero, suc, ◌<◌, ◌++◌, ◌∷◌, [], cond, List, Option, Some, None, option_map, refl, subst, sym, ap}
use Rattle.std.proofs.Common.{◌∙◌, arith}
use Rattle.std.specs.Prelude.{nat_eq}
use Rattle.std.proofs.lemmas.Option.{same_Some}
use Rattle.wh_meaning.specs.Bag.{Bag}
use Rattle.wh_filed.specs.Fetching.{IsShownBy, AllShownBy, IsCovered}
use Rattle.wh_reply.specs.Reply as reply
use Rattle.wh_reply.specs.View.{action_view}
use Rattle.wh_reply.specs.declared.reply.RefreshAction.{RefreshAction}
use Rattle.wh_reply.specs.declared.reply.RefreshAction.TheVariants.{NoData, Full, Incremental}
use Rattle.wh_state.specs.State.{Object, Table, last_rows}
use Rattle.wh_state.specs.Dynamic.{Dynamic, GroupsChange, ids_read}
use Rattle.wh_state.specs.Objects.{table_at, dynamic_at}
use Rattle.wh_state.specs.Stored.{StoredTable, table_meant}
use Rattle.wh_state.specs.Moments.{evaluated_at}
use Rattle.wh_moment.specs.Rebase.{rebase}
use Rattle.wh_moment.specs.Moment.{brought_to}
use Rattle.wh_dynamic.specs.View.{dynamic_of}
use Rattle.wh_machine.specs.Refresh as machine
use Rattle.wh_machine.specs.Refresh.{brought_by, brought_as, brought_one, has_new_data, by_mode, action_of}
use Rattle.wh_machine.specs.Refresh.{groups_brought}
use Rattle.wh_machine.specs.Brought.{after_all, AreAbove, sought}
use Rattle.wh_version.proofs.Among.{each_held}
use Rattle.wh_table.specs.Table.{table_of, filed_of}
use Rattle.wh_table.specs.Edited.{IsEdited}
use Rattle.wh_refresh.specs.Objects.{objects_in, stored_in, filed_at_objects}
use Rattle.wh_refresh.specs.Brought.{AreBrought, MakesRows, BringsOne}
use Rattle.wh_refresh.specs.Standing.{StandsBy, AllStand}
use Rattle.wh_refresh.specs.declared.brought.NewRows.{NewRows}
use Rattle.wh_refresh.specs.Asked.{ids_of, IsFiledIn, Besides}
use Rattle.wh_refresh.proofs.AskLaws.{no_change, moves_wider, own_besides, by_a_change}
use Rattle.wh_refresh.proofs.RefreshLemmas.{one_without, one_by}
use Rattle.wh_refresh.proofs.bringing.bring.Given.{Over}
use Rattle.wh_refresh.proofs.bringing.bring.Goals.{After-new_rows}
use Rattle.wh_refresh.proofs.bringing.bring.Goals as goal

-- what the table has in the file is covered, and is shown where that of all is
pub new_rows-requires-clause-own : goal.new_rows-requires-clause-own
new_rows-requires-clause-own g c κs bounds =
    each_held (IsCovered (g.F.Fetch.covers c.args.fetch.now)) (filed_of c.in-Some-table_at.table.now)
    (filed_at_objects c.args.objects.now) c.in-Some-table_at.ensures.among c.requires

own_shown : (g : Over) (c : After-new_rows g)
    → AllShownBy (g.F.Fetch.contents c.args.fetch.now) (filed_at_objects c.args.objects.now)
    → AllShownBy (g.F.Fetch.contents c.args.fetch.now) (filed_of c.in-Some-table_at.table.now)
own_shown g c shown =
    each_held (IsShownBy (g.F.Fetch.contents c.args.fetch.now)) (filed_of c.in-Some-table_at.table.now)
    (filed_at_objects c.args.objects.now) c.in-Some-table_at.ensures.among shown

-- one that is brought by a change stands for a moment
later_moment : (objects : List Object) (moment : ℕ) (d : Dynamic) (action : RefreshAction) → action ≡ Incremental
    → action_view action ≡ action_of objects moment d → 0 < d.state.moment
later_moment objects moment d action is acts = by_moment d.state.moment refl
  where
    by_moment : (m : ℕ) → d.state.moment ≡ m → 0 < m
    by_moment zero none =
        let full : reply.Incremental ≡ reply.Full = sym (ap action_view is) ∙ acts
        ∙ ap (λ (m : ℕ). cond (nat_eq m 0) reply.Full
        (cond (has_new_data objects d.state.moment moment (ids_read d.query)) (by_mode d.is_incremental) reply.NoData))
        none in
        absurd cc
    by_moment (suc m) later = omega arith

stands : (g : Over) (c : After-new_rows g) → AllStand (objects_in c.args.objects.now) → (stamp : ℕ)
    (bs : List machine.Brought) → AreBrought (stored_in c.args.objects.now) c.args.before.now bs → AreAbove 0 bs
    → StandsBy c.action-action.result (objects_in c.args.objects.now) (dynamic_of c.in-Some.dynamic.now)
    (table_meant (table_of c.in-Some-table_at.table.now))
stands g c stand stamp bs are above =
    let objects = objects_in c.args.objects.now in
    let d = dynamic_of c.in-Some.dynamic.now in
    record {
      moment = λ is. later_moment (after_all stamp c.args.moment bs objects) c.args.moment d c.action-action.result is
          (c.action-action.ensures.action stamp bs are above);
      rows = stand.each c.args.id d (table_meant (table_of c.in-Some-table_at.table.now)) (sym c.in-Some.ensures)
          (sym c.in-Some-table_at.ensures.meant);
      keyed = stand.keyed c.args.id d (sym c.in-Some.ensures);
    }

-- the rows of its query, brought to by an action
abbrev by_rows : List Object → ℕ → ℕ → Dynamic → Table → RefreshAction → Option Bag → Option machine.Brought
by_rows objects moment id d t action found =
    option_map (λ rows. brought_as id moment d.state (action_view action) (Some (rebase (last_rows t) rows))
    (groups_brought objects moment d)) found

-- where there is new data, or no moment yet, its query says what is done
by_query : (objects : List Object) (moment id : ℕ) (d : Dynamic) (t : Table) (action : RefreshAction)
    → (action ≡ NoData → ⊥) → brought_by objects moment id d t (action_view action)
    ≡ by_rows objects moment id d t action (evaluated_at objects moment d)
by_query objects moment id d t NoData some = absurd (some refl)
by_query objects moment id d t Full some = refl
by_query objects moment id d t Incremental some = refl

-- so it is behind others that were brought
found_by : (stamp moment id : ℕ) (bs : List machine.Brought) (objects : List Object) (d : Dynamic) (t : Table)
    (action : RefreshAction) → AreAbove 0 bs → sought id bs ≡ None → dynamic_at objects id ≡ Some d
    → table_at objects id ≡ Some t → action_view action ≡ action_of (after_all stamp moment bs objects) moment d
    → (action ≡ NoData → ⊥) → brought_one (after_all stamp moment bs objects) moment id
    ≡ by_rows (after_all stamp moment bs objects) moment id d t action
    (evaluated_at (after_all stamp moment bs objects) moment d)
found_by stamp moment id bs objects d t action above none is there acts some =
    let now : List Object = after_all stamp moment bs objects in
    one_by stamp moment bs objects above id d t none is there
    ∙ ap (brought_by now moment id d t) (sym acts)
    ∙ by_query now moment id d t action some

pub returns-in_default-clause-brought : goal.returns-in_default-clause-brought
returns-in_default-clause-brought g c shown stand stamp bs are above none =
    one_without stamp c.args.moment bs (objects_in c.args.objects.now) above c.args.id none (sym c.in_default.ensures)

pub returns-in-NoData-clause-brought : goal.returns-in-NoData-clause-brought
returns-in-NoData-clause-brought g c shown stand stamp bs are above none =
    let objects = objects_in c.args.objects.now in
    let d = dynamic_of c.in-Some.dynamic.now in
    let t = table_meant (table_of c.in-Some-table_at.table.now) in
    let acts : machine.action_of (after_all stamp c.args.moment bs objects) c.args.moment d ≡ reply.NoData =
    sym (c.action-action.ensures.action stamp bs are above) ∙ ap action_view c.in-NoData.is in
    record {
      brought = brought_as c.args.id c.args.moment d.state reply.NoData None None;
      is = one_by stamp c.args.moment bs objects above c.args.id d t none (sym c.in-Some.ensures)
          (sym c.in-Some-table_at.ensures.meant)
          ∙ ap (brought_by (after_all stamp c.args.moment bs objects) c.args.moment c.args.id d t) acts;
      same = record {
        id = refl;
        action = sym (ap action_view c.in-NoData.is);
        rows = tt;
        groups = refl;
        state = sym (c.brought_to-state.ensures ∙ ap (brought_to c.args.moment) c.state.ensures);
      };
    }

pub returns-in_default-found-clause-brought : goal.returns-in_default-found-clause-brought
returns-in_default-found-clause-brought g c shown stand stamp bs are above none =
    let after = (goal.at.returns-in_default-found-clause-brought g c).After-new_rows in
    let objects = objects_in c.args.objects.now in
    let now : List Object = after_all stamp c.args.moment bs objects in
    let d = dynamic_of c.in-Some.dynamic.now in
    let table : StoredTable = table_of c.in-Some-table_at.table.now in
    let nothing : evaluated_at now c.args.moment d ≡ None =
    none_made table (evaluated_at now c.args.moment d) (groups_brought now c.args.moment d)
    (subst (λ (rows : Option NewRows).
    MakesRows rows table (evaluated_at now c.args.moment d) (groups_brought now c.args.moment d))
    c.in_default-found.is
    (c.in_ok-found.ensures.made shown (own_shown g after shown) (stands g after stand stamp bs are above) stamp bs are
    above)) in
    found_by stamp c.args.moment c.args.id bs objects d (table_meant table) c.action-action.result above none
    (sym c.in-Some.ensures) (sym c.in-Some-table_at.ensures.meant) (c.action-action.ensures.action stamp bs are above)
    c.in_default-action.not-NoData
    ∙ ap (by_rows now c.args.moment c.args.id d (table_meant table) c.action-action.result) nothing
  where
    none_made : (t : StoredTable) (found : Option Bag) (groups : Option GroupsChange) → MakesRows None t found groups
        → found ≡ None
    none_made t None groups made = refl
    none_made t (Some bag) groups made = absurd made

pub returns-clause-brought : goal.returns-clause-brought
returns-clause-brought g c shown stand stamp bs are above none =
    let after = (goal.at.returns-clause-brought g c).After-new_rows in
    let stored = stored_in c.args.objects.now in
    let objects = objects_in c.args.objects.now in
    let now : List Object = after_all stamp c.args.moment bs objects in
    let d = dynamic_of c.in-Some.dynamic.now in
    let table : StoredTable = table_of c.in-Some-table_at.table.now in
    let t = table_meant table in
    let groups = groups_brought now c.args.moment d in
    let made = subst (λ (rows : Option NewRows). MakesRows rows table (evaluated_at now c.args.moment d) groups)
    c.in-Some-found.is (c.in_ok-found.ensures.made shown (own_shown g after shown)
    (stands g after stand stamp bs are above) stamp bs are above) in
    let by_found : (found : Option Bag) → evaluated_at now c.args.moment d ≡ found
    → MakesRows (Some c.in-Some-found.rows) table found groups
    → BringsOne stored (record {
      id = c.args.id;
      action = c.action-action.result;
      rows = Some c.in-Some-found.rows;
      state = c.brought_to-state.result;
    }) (brought_one now c.args.moment c.args.id) =
    elim [
      | None ↦ λ same made. absurd made
      | Some bag ↦ λ same made. record {
        brought = brought_as c.args.id c.args.moment d.state (action_view c.action-action.result)
            (Some (rebase (last_rows t) bag)) groups;
        is = found_by stamp c.args.moment c.args.id bs objects d t c.action-action.result above none
            (sym c.in-Some.ensures) (sym c.in-Some-table_at.ensures.meant)
            (c.action-action.ensures.action stamp bs are above) c.in_default-action.not-NoData
            ∙ ap (by_rows now c.args.moment c.args.id d t c.action-action.result) same;
        same = record {
          id = refl;
          action = refl;
          rows = record {
            edited = λ other there. subst (λ (o : StoredTable). IsEdited c.in-Some-found.rows.edited
                (rebase (last_rows t) bag) o)
                (same_Some _ _ (c.in-Some-table_at.ensures.stored ∙ there)) made.edited;
            plus = made.plus;
            minus = made.minus;
          };
          groups = made.regrouped;
          state = sym (c.brought_to-state.ensures ∙ ap (brought_to c.args.moment) c.state.ensures);
        };
      }
    ] in
    by_found (evaluated_at now c.args.moment d) refl made

-- ---- where the table's partitions are sound

pub returns-in_err-found-clause-sound : goal.returns-in_err-found-clause-sound
returns-in_err-found-clause-sound g c shown =
    c.in_err-found.ensures.sound shown
    (own_shown g (goal.at.returns-in_err-found-clause-sound g c).After-new_rows shown)

pub returns-in_default-found-clause-sound : goal.returns-in_default-found-clause-sound
returns-in_default-found-clause-sound g c shown =
    c.in_ok-found.ensures.sound shown
    (own_shown g (goal.at.returns-in_default-found-clause-sound g c).After-new_rows shown)

pub returns-clause-sound : goal.returns-clause-sound
returns-clause-sound g c shown =
    c.in_ok-found.ensures.sound shown (own_shown g (goal.at.returns-clause-sound g c).After-new_rows shown)

-- ---- what is asked for

pub returns-in-NoData-clause-asks : goal.returns-in-NoData-clause-asks
returns-in-NoData-clause-asks g c = λ counted. record {
  dynamic = dynamic_of c.in-Some.dynamic.now;
  found = sym c.in-Some.ensures;
  asks = no_change (IsFiledIn c.args.objects.now (ids_of c.args.before.now ++ c.args.id ∷ [])) c.args.objects.now _ _ _ _
      (g.F.Fetch.asked c.args.fetch.now);
}

pub returns-clause-asks : goal.returns-clause-asks
returns-clause-asks g c = λ counted.
    let d = dynamic_of c.in-Some.dynamic.now in
    let own = filed_of c.in-Some-table_at.table.now in
    let objects = c.args.objects.now in
    let before = c.args.before.now in
    let by = by_a_change objects c.args.id c.action-action.result counted c.in_default-action.not-NoData in
    record {
      dynamic = d;
      found = sym c.in-Some.ensures;
      asks = moves_wider (Besides objects before own) (IsFiledIn objects (ids_of before ++ c.args.id ∷ [])) objects _ _ _ _
          _ _ (own_besides objects before c.args.id own c.in-Some-table_at.ensures.filed)
          (c.in_ok-found.ensures.asks by.0 (c.action-action.ensures.later by.0) (by.1 d (sym c.in-Some.ensures)));
    }
