-- The names of objects that a statement writes, in the order of the text.
--     names_at                      the names that references point to
--     all_names                     the names of parts, one after the other
--     names_in_source, names_in_join, names_in_core, names_in_query     of a layer of a query, over those of its parts
--     source_names, join_names, core_names, query_names                 of an entry of FROM, and so on to a whole query
--     names_in_rows, changed_names  of the rows of INSERT, and of a changing statement
--     names_of                      of a statement
--     looked_up                     of each name the object that has it, where there is one
use Rattle.std.specs.Prelude.{List, [], ◌∷◌, ◌++◌, map, filter_map}
use Rattle.std.specs.List.{flat_map}
use denote.Ref.{Bor}
use Rattle.wh_ast.specs.declared.query.FromItem.{FromItem, fold-FromItem}
use Rattle.wh_ast.specs.declared.query.FromItem.TheOpen.{FromItem-F, Join-F}
use Rattle.wh_ast.specs.declared.query.Join.{Join, fold-Join}
use Rattle.wh_ast.specs.declared.query.Core.{Core, Core-F, fold-Core}
use Rattle.wh_ast.specs.declared.query.Query.{Query, Query-F, fold-Query}
use Rattle.wh_ast.specs.declared.dml.Dml.{Dml}
use Rattle.wh_ast.specs.declared.dml.Dml.TheVariants as dml
use Rattle.wh_ast.specs.declared.dml.Rows.{Rows}
use Rattle.wh_ast.specs.declared.dml.Rows.TheVariants as rows
use Rattle.wh_ast.specs.declared.statement.Statement.{Statement}
use Rattle.wh_ast.specs.declared.statement.Statement.TheVariants as written
use Rattle.wh_naming.specs.Findings.{Name}
use Rattle.wh_naming.specs.Scope.{Named, named}

abbrev pub names_at : List (Bor Name) → List Name
names_at names = map (λ name. name.now) names

-- ---- a query

abbrev pub all_names : List (List Name) → List Name
all_names parts = flat_map (λ names. names) parts

abbrev pub names_in_source : FromItem-F (List Name) (List Name) (List Name) (List Name) → List Name
names_in_source (FromItem-F.Named name alias) = name ∷ []
names_in_source (FromItem-F.Subquery names alias) = names

abbrev pub names_in_join : Join-F (List Name) (List Name) (List Name) (List Name) → List Name
names_in_join j = j.source

abbrev pub names_in_core : Core-F (List Name) (List Name) (List Name) (List Name) → List Name
names_in_core c = c.from ++ all_names c.joins

abbrev pub names_in_query : Query-F (List Name) (List Name) (List Name) (List Name) → List Name
names_in_query q = all_names q.cores

abbrev pub source_names : FromItem → List Name
source_names s = fold-FromItem (List Name) (List Name) (List Name) (List Name) names_in_source names_in_core
    names_in_join names_in_query s

abbrev pub join_names : Join → List Name
join_names j = fold-Join (List Name) (List Name) (List Name) (List Name) names_in_source names_in_core
    names_in_join names_in_query j

abbrev pub core_names : Core → List Name
core_names c = fold-Core (List Name) (List Name) (List Name) (List Name) names_in_source names_in_core
    names_in_join names_in_query c

abbrev pub query_names : Query → List Name
query_names q = fold-Query (List Name) (List Name) (List Name) (List Name) names_in_source names_in_core
    names_in_join names_in_query q

-- ---- a statement

abbrev pub names_in_rows : Rows → List Name
names_in_rows (rows.Values found) = []
names_in_rows (rows.Query q) = query_names q

-- the target stands first
abbrev pub changed_names : Dml → List Name
changed_names (dml.Insert name listed found) = name ∷ names_in_rows found
changed_names (dml.Update name parts filter) = name ∷ []
changed_names (dml.Delete name filter) = name ∷ []
changed_names (dml.Merge name alias source on written_clauses) = name ∷ source_names source

-- a task's WHEN and body are named when it runs
abbrev pub names_of : Statement → List Name
names_of (written.Select q sorts) = query_names q
names_of (written.HasData stream) = stream ∷ []
names_of (written.Dml statement) = changed_names statement
names_of (written.CreateTable t) = t.name ∷ []
names_of (written.CreateStream name table is_append_only) = name ∷ table ∷ []
names_of (written.CreateTask t) = t.name ∷ t.after
names_of (written.ResumeTask task) = task ∷ []
names_of (written.SuspendTask task) = task ∷ []
names_of (written.ExecuteTask task) = task ∷ []
names_of (written.CreateDynamicTable t) = t.name ∷ query_names t.query
names_of (written.ResumeDynamicTable table) = table ∷ []
names_of (written.SuspendDynamicTable table) = table ∷ []
names_of (written.RefreshDynamicTable table) = table ∷ []
names_of (written.SetTargetLag table lag) = table ∷ []
names_of (written.DropTable table) = table ∷ []
names_of (written.DropStream stream) = stream ∷ []
names_of (written.DropTask task) = task ∷ []
names_of (written.DropDynamicTable table) = table ∷ []
names_of written.Begin = []
names_of written.Commit = []
names_of written.Rollback = []

-- ---- objects

abbrev pub looked_up : List Named → List Name → List Named
looked_up objects names = filter_map (named objects) names
