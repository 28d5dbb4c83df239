use Rattle.std.proofs.Common.{◌∙◌, ap, ◌++◌, ◌∷◌, []}
use Rattle.wh_state.specs.State.{new_object, metadata_columns, StreamKind}
use Rattle.wh_state.specs.Commit.{changed}
use Rattle.wh_catalog.specs.Catalog.{objects_of}
use Rattle.wh_catalog.proofs.catalog.Catalog.new_stream.Goals as goal

pub returns-clause-made : goal.returns-clause-made
unfolding changed
returns-clause-made c = λ _.
    let change = c.args.change in
    ap (λ columns. objects_of c.args.self.now ++ new_object change.name (StreamKind (record {
      source = change.source;
      is_append_only = change.is_append_only;
      offset = change.offset;
      columns = columns;
    })) ∷ [])
    (c.in-Ok.ensures
    ∙ ap (λ columns. columns ++ metadata_columns) (c.columns.ensures.columns ∙ c.in-Some.ensures.columns))
