use Rattle.wh_refresh.proofs.StandLaws.{all_stand}
use Rattle.std.proofs.Common.{◌≡◌, List, ◌++◌, map, Option, Some, None, option_map, subst, sym, ap, ◌∙◌}
use Rattle.std.proofs.lemmas.List.{append_assoc}
use Rattle.wh_state.specs.State.{at_id}
use Rattle.wh_state.specs.Edits.{Edits}
use Rattle.wh_state.specs.Commit.{Change}
use Rattle.wh_state.specs.Written.{version_written_to, groups_written}
use Rattle.wh_record.specs.View.{change_of}
use Rattle.wh_dynamic.specs.View.{groups_change_of}
use Rattle.wh_refresh.specs.Objects.{stored_in}
use Rattle.wh_refresh.specs.Brought.{IsRowsOf, groups_of_rows}
use Rattle.wh_refresh.specs.Writing.{rows_written}
use Rattle.wh_refresh.specs.declared.brought.NewRows.{NewRows}
use Rattle.wh_refresh.proofs.writing.add_version.Goals as goal

pub returns-clause-written : goal.returns-clause-written
returns-clause-written c edits new =
    by_edits edits (subst (λ (rows : Option NewRows). IsRowsOf (stored_in c.args.objects.now) c.args.id rows edits)
    c.in-Some.is new)
    ∙ ap (λ (rows : Option NewRows). map change_of c.args.changes.now.items
    ++ rows_written (stored_in c.args.objects.now) c.args.moment c.args.id edits (groups_of_rows rows))
    (sym c.in-Some.is)
  where
    by_edits : (edits : Option Edits)
        → IsRowsOf (stored_in c.args.objects.now) c.args.id (Some c.in-Some.field-0) edits
        → map change_of c.add_groups.new.changes.items ≡ map change_of c.args.changes.now.items
        ++ rows_written (stored_in c.args.objects.now) c.args.moment c.args.id edits
        (option_map groups_change_of c.in-Some.field-0.groups)
    by_edits None new = absurd new
    by_edits (Some e) new =
        let stored = stored_in c.args.objects.now in
        let old = map change_of c.args.changes.now.items in
        let groups = groups_written c.args.id (option_map groups_change_of c.in-Some.field-0.groups) in
        c.in_ok-add_groups.ensures.written
        ∙ ap (λ (chs : List Change). chs ++ groups) (c.in_ok-add_edits.ensures.written e new.edited new.plus)
        ∙ append_assoc old (version_written_to c.args.moment c.args.id e (at_id stored c.args.id)) groups
