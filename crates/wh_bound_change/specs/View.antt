-- What the types of the code stand for.
--     rows_of                  the scalars of rows
--     clause_of, clauses_of    a clause of MERGE, and all of them
--     change_of                what becomes of the target's rows
use Rattle.std.specs.Prelude.{List, map, Vec}
use Rattle.std.specs.declared.alloc.Global.{Global}
use Rattle.wh_meaning.specs.Scalar as meaning
use Rattle.wh_scalar.specs.View.{scalar_of}
use Rattle.wh_scalar.specs.declared.scalar.Scalar.{Scalar}
use Rattle.wh_algebra.specs.View.{query_of, scalars_of}
use Rattle.wh_naming.specs.Changes as naming
use Rattle.wh_bound_change.specs.declared.change.Modification.{Modification}
use Rattle.wh_bound_change.specs.declared.change.Modification.TheVariants.{InsertRows, InsertQuery, Update, Delete}
use Rattle.wh_bound_change.specs.declared.change.Modification.TheVariants.{Merge}
use Rattle.wh_bound_change.specs.declared.change.BoundClause.{BoundClause}
use Rattle.wh_bound_change.specs.declared.change.BoundClause.TheVariants.{UpdateMatched, DeleteMatched, InsertUnmatched}

abbrev pub rows_of : List (Vec Scalar Global) → List (List meaning.Scalar)
rows_of rows = map (λ row. scalars_of row.items) rows

abbrev pub clause_of : BoundClause → naming.BoundClause
clause_of (UpdateMatched condition row) = naming.UpdateMatched (scalar_of condition) (scalars_of row.items)
clause_of (DeleteMatched condition) = naming.DeleteMatched (scalar_of condition)
clause_of (InsertUnmatched condition row) = naming.InsertUnmatched (scalar_of condition) (scalars_of row.items)

abbrev pub clauses_of : List BoundClause → List naming.BoundClause
clauses_of clauses = map clause_of clauses

abbrev pub change_of : Modification → naming.Modification
change_of (InsertRows rows) = naming.InsertRows (rows_of rows.items)
change_of (InsertQuery query row) = naming.InsertQuery (query_of query) (scalars_of row.items)
change_of (Update condition row) = naming.Update (scalar_of condition) (scalars_of row.items)
change_of (Delete condition) = naming.Delete (scalar_of condition)
change_of (Merge source on clauses) = naming.Merge (query_of source) (scalar_of on) (clauses_of clauses.items)
