use Rattle.std.proofs.Common.{◌≡◌, ℕ, ◌+◌, ◌++◌, List, [], ◌∷◌, map, length, Option, Some, None, option_map, subst}
use Rattle.std.proofs.Common.{sym, ap, ◌∙◌}
use Rattle.std.specs.Option.{option_and_then, option_to_list}
use Rattle.std.proofs.lemmas.List.{map_push}
use Rattle.wh_state.specs.State.{at_id}
use Rattle.wh_state.specs.Objects.{as_table}
use Rattle.wh_state.specs.Stored.{StoredObject, StoredTable}
use Rattle.wh_state.specs.Edits.{Edits}
use Rattle.wh_state.specs.Commit.{Change, PushesVersion}
use Rattle.wh_state.specs.Written.{version_written, version_written_to}
use Rattle.wh_record.specs.View.{change_of}
use Rattle.wh_table.specs.Table.{table_of}
use Rattle.wh_refresh.specs.Objects.{stored_in}
use Rattle.wh_refresh.proofs.writing.add_edits.Goals as goal

written_there : (moment id : ℕ) (e : Edits) (t : StoredTable) (found : Option StoredObject)
    → option_and_then as_table found ≡ Some t → version_written_to moment id e found
    ≡ version_written moment id e t ∷ []
written_there moment id e t None is = absurd cc
written_there moment id e t (Some o) is =
    ap (λ (f : Option StoredTable). option_to_list (option_map (version_written moment id e) f)) is

pub returns-clause-written : goal.returns-clause-written
returns-clause-written c e is plus =
    let stored = stored_in c.args.objects.now in
    let t = table_of c.in-Some.table.now in
    let there = sym c.in-Some.ensures.stored in
    let edited = is t there in
    let same : change_of c.in_ok-version.version ≡ version_written c.args.moment c.args.id e t =
    c.in_ok-version.ensures
    ∙ (λ i. PushesVersion (record {
      id = c.args.id;
      data_timestamp = c.args.moment;
      next_row = t.next_row + plus i;
      width = length t.columns;
      removed = edited.removed i;
      added = edited.added i;
    })) in
    ap (map change_of) c.in_ok-push.ensures.items
    ∙ map_push change_of c.args.changes.now.items c.in_ok-version.version
    ∙ ap (λ (ch : Change). map change_of c.args.changes.now.items ++ ch ∷ []) same
    ∙ ap (λ (chs : List Change). map change_of c.args.changes.now.items ++ chs)
    (sym (written_there c.args.moment c.args.id e t (at_id stored c.args.id) there))
