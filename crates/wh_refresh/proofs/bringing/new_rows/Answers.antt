use Rattle.std.proofs.Common.{◌≡◌, inr, Contains, List, Option, Some, None, option_map, refl, subst, ◌∙◌}
use Rattle.wh_meaning.specs.Bag.{Bag}
use Rattle.wh_state.specs.State.{Object, last_rows}
use Rattle.wh_state.specs.Dynamic.{GroupsChange}
use Rattle.wh_state.specs.Stored.{StoredTable, table_meant}
use Rattle.wh_state.specs.Edits.{Edits}
use Rattle.wh_state.specs.Moments.{evaluated_at}
use Rattle.wh_filed.proofs.FetchingLaws.{still_covered}
use Rattle.wh_dynamic.specs.View.{dynamic_of, groups_change_of}
use Rattle.wh_machine.specs.Refresh.{groups_brought}
use Rattle.wh_machine.specs.Brought.{after_all}
use Rattle.wh_version.specs.Edits.{edits_in}
use Rattle.wh_table.specs.Table.{table_of, filed_of}
use Rattle.wh_table.specs.Edited.{IsEdited}
use Rattle.wh_refresh.specs.Objects.{objects_in}
use Rattle.wh_refresh.specs.Brought.{MakesRows}
use Rattle.wh_refresh.specs.Rebased.{RebasesTo, RegroupsTo}
use Rattle.wh_refresh.specs.declared.brought.NewRows.{NewRows}
use Rattle.wh_refresh.specs.declared.rebase.Rebased.{Rebased}
use Rattle.wh_refresh.specs.declared.rows.Regrouped.{Regrouped}
use Rattle.wh_refresh.specs.Asked.{Besides}
use Rattle.wh_refresh.proofs.AskLaws.{moves_then_own}
use Rattle.wh_refresh.proofs.SourceLemmas.{still_shown}
use Rattle.wh_refresh.proofs.bringing.new_rows.Goals as goal

none_made : (t : StoredTable) (now : Option Bag) (groups : Option GroupsChange)
    → RebasesTo (last_rows (table_meant t)) now None → MakesRows None t now groups
none_made t None groups rebases = tt
none_made t (Some bag) groups rebases = absurd rebases

one_made : (t : StoredTable) (now : Option Bag) (groups : Option GroupsChange) (made : Rebased) (rows : NewRows)
    → RebasesTo (last_rows (table_meant t)) now (Some made) → IsEdited rows.edited (edits_in made.edits) t
    → rows.plus ≡ made.plus → rows.minus ≡ made.minus → option_map groups_change_of rows.groups ≡ groups
    → MakesRows (Some rows) t now groups
one_made t None groups made rows rebases edited plus minus regrouped = absurd rebases
one_made t (Some bag) groups made rows is edited plus minus regrouped = record {
  edited = subst (λ (e : Edits). IsEdited rows.edited e t) is.edits edited;
  plus = plus ∙ is.plus;
  minus = minus ∙ is.minus;
  regrouped = regrouped;
}

pub returns-in_default-clause-made : goal.returns-in_default-clause-made
returns-in_default-clause-made g c shown own stands stamp bs are above =
    let t = table_of c.args.table.now in
    let d = dynamic_of c.args.dynamic.now in
    let now : List Object = after_all stamp c.args.moment bs (objects_in c.args.objects.now) in
    let regroups = subst (λ (found : Option Regrouped). RegroupsTo found t now c.args.moment d) c.in_default.is
    (c.in_ok-found.ensures.rebased shown own stands stamp bs are above) in
    none_made t (evaluated_at now c.args.moment d) (groups_brought now c.args.moment d) regroups.rows

pub edited-requires : goal.edited-requires
edited-requires g c =
    still_covered _ _ (filed_of c.args.table.now)
    (λ part. g.met.F.Fetch.covers_on _ _ part c.in_ok-found.ensures.goes) c.requires.own

pub returns-clause-made : goal.returns-clause-made
returns-clause-made g c shown own stands stamp bs are above =
    let t = table_of c.args.table.now in
    let d = dynamic_of c.args.dynamic.now in
    let now : List Object = after_all stamp c.args.moment bs (objects_in c.args.objects.now) in
    let then = still_shown _ _ (filed_of c.args.table.now) c.in_ok-found.ensures.same own in
    let regroups = subst (λ (found : Option Regrouped). RegroupsTo found t now c.args.moment d) c.in-Some.is
    (c.in_ok-found.ensures.rebased shown own stands stamp bs are above) in
    one_made t (evaluated_at now c.args.moment d) (groups_brought now c.args.moment d) _ _ regroups.rows
    (c.in_ok-edited.ensures.edited then) refl refl regroups.groups

pub returns-in_default-clause-asks : goal.returns-in_default-clause-asks
returns-in_default-clause-asks g c = λ is later counted. c.in_ok-found.ensures.asks is later counted

pub returns-clause-asks : goal.returns-clause-asks
returns-clause-asks g c = λ is later counted.
    let own = filed_of c.args.table.now in
    moves_then_own (Besides c.args.objects.now c.args.before.now own) (Contains own) c.args.objects.now _ _ _ _ _ _ _
    (λ f there. inr there) (c.in_ok-found.ensures.asks is later counted) c.in_ok-edited.ensures.asks
