-- What a statement stands for hangs on the objects of its names alone.
--     bound_by_names      so it is over two lists that have the same object of each name
--     found_names         objects that are looked up by names are found by them
--     bound_looked_up     so it stands for the same over them
use Rattle.std.proofs.Common.{◌≡◌, ℕ, Bool, true, false, cond, ◌⊎◌, inl, inr, List, [], ◌∷◌, map, Option, Some, None}
use Rattle.std.proofs.Common.{option_map, refl, sym, ap, ◌∙◌}
use Rattle.std.specs.Prelude.{bytes_eq, is_some, unwrap_or}
use Rattle.std.specs.List.{AllByRecursion, cons_option}
use Rattle.std.specs.Cmp.Lexicographic.{bytes_decides}
use Rattle.wh_ast.specs.declared.dml.Dml.{Dml}
use Rattle.wh_ast.specs.declared.dml.Dml.TheVariants as dml
use Rattle.wh_ast.specs.declared.dml.Rows.TheVariants as rows
use Rattle.wh_ast.specs.declared.statement.CreateTask.{CreateTask}
use Rattle.wh_ast.specs.declared.statement.CreateDynamicTable.{CreateDynamicTable}
use Rattle.wh_ast.specs.declared.statement.Statement.{Statement}
use Rattle.wh_ast.specs.declared.statement.Statement.TheVariants as written
use Rattle.wh_naming.specs.Findings.{Name, Findings, name_if, followed}
use Rattle.wh_naming.specs.Scope.{Named, named}
use Rattle.wh_naming.specs.Select.{BoundQuery, BoundSource, ordered, bound_select, bound_query}
use Rattle.wh_naming.specs.Changes.{target_of, target_at, target_entry, insert_query, merged_on, bound_merge}
use Rattle.wh_naming.specs.Changes.{source_part, bound_change}
use Rattle.wh_ddl_naming.specs.Meant.{Meant, within}
use Rattle.wh_ddl_naming.specs.Objects.{Names, TaskRoot, found_where, is_task_of}
use Rattle.wh_ddl_naming.specs.Tasks.{NewTask, new_task, root_at, predecessor, first_root, predecessor_findings}
use Rattle.wh_ddl_naming.specs.Tasks.{bound_task}
use Rattle.wh_ddl_naming.specs.DynamicTables.{inside, over_query, bound_dynamic_table}
use Rattle.wh_ddl_naming.specs.Statements as meant
use Rattle.wh_ddl_naming.specs.Statements.{Bound, selected, changed, bound}
use Rattle.wh_ddl_naming.specs.Names.{changed_names, names_of, looked_up}
use Rattle.wh_ddl_naming.proofs.QueryLaws.{SameIn, query_alike, source_alike}

-- ---- as a dynamic table's query sees them

named_inside : (objects : List Named) (n : Name) → named (map inside objects) n ≡ option_map inside (named objects n)
named_inside [] n = refl
named_inside (o ∷ os) n = by (bytes_eq o.name n) (named_inside os n)
  where
    by : (is : Bool) → named (map inside os) n ≡ option_map inside (named os n)
        → cond is (Some (inside o)) (named (map inside os) n)
        ≡ option_map inside (cond is (Some o) (named os n))
    by true behind = refl
    by false behind = behind

-- ---- over two lists of objects, with the roots of tasks

module _ (roots : List TaskRoot) (a b : List Named) where
  abbrev over : List Named → Names
  over objects = record { objects = objects; roots = roots }

  same_inside : (names : List Name) → SameIn a b names → SameIn (map inside a) (map inside b) names
  same_inside [] same = tt
  same_inside (n ∷ ns) same = (
    named_inside a n ∙ ap (option_map inside) same.0 ∙ sym (named_inside b n),
    same_inside ns same.1,
  )

  change_alike : (d : Dml) → SameIn a b (changed_names d) → bound_change a d ≡ bound_change b d
  unfolding bound_change
  change_alike (dml.Insert name listed (rows.Values found)) same = rw same.0 refl
  change_alike (dml.Insert name listed (rows.Query q)) same =
      ap (λ (o : Option Named). insert_query (target_of name o) listed (bound_query q a 0)) same.0
      ∙ ap (insert_query (target_at b name) listed) (query_alike a b q same.1 0)
  change_alike (dml.Update name parts filter) same = rw same.0 refl
  change_alike (dml.Delete name filter) same = rw same.0 refl
  change_alike (dml.Merge name alias source on clauses) same =
      ap (λ (o : Option Named). bound_merge (target_of name o) (unwrap_or alias name) (source_part source) a on clauses)
      same.0
      ∙ ap (λ (s : BoundSource). merged_on (target_at b name) (target_entry (unwrap_or alias name) (target_at b name))
      (record { name = (source_part source).name; columns = s.columns }) s on clauses)
      (source_alike a b source same.1 0)

  -- ---- AFTER

  first_root_alike : (after : List Name) → SameIn a b after → first_root (over a) after ≡ first_root (over b) after
  first_root_alike [] same = refl
  first_root_alike (n ∷ ns) same = ap (root_at (over b)) same.0

  abbrev ids_in : List Named → ℕ → List Name → List ℕ
  ids_in objects root after = map (λ name. (predecessor (over objects) root name).value) after

  ids_alike : (root : ℕ) (after : List Name) → SameIn a b after → ids_in a root after ≡ ids_in b root after
  ids_alike root [] same = refl
  ids_alike root (n ∷ ns) same =
      ap (λ (o : Option Named). (found_where (is_task_of roots root) n o).value ∷ ids_in a root ns) same.0
      ∙ ap (λ (ids : List ℕ). (predecessor (over b) root n).value ∷ ids) (ids_alike root ns same.1)

  findings_alike : (root : ℕ) (after : List Name) → SameIn a b after
      → predecessor_findings (over a) root after ≡ predecessor_findings (over b) root after
  findings_alike root [] same = refl
  findings_alike root (n ∷ ns) same =
      ap (λ (o : Option Named). followed (found_where (is_task_of roots root) n o).findings
      (predecessor_findings (over a) root ns)) same.0
      ∙ ap (followed (predecessor (over b) root n).findings) (findings_alike root ns same.1)

  abbrev task_of : CreateTask → Option Named → List ℕ → Findings → Meant NewTask
  task_of t taken after findings =
      record { value = new_task t after; taken_object = name_if (is_some taken) t.name; findings = findings }

  task_alike : (t : CreateTask) → SameIn a b (t.name ∷ t.after) → bound_task (over a) t ≡ bound_task (over b) t
  task_alike t same =
      let root = first_root (over b) t.after in
      ap (λ (r : ℕ). task_of t (named a t.name) (ids_in a r t.after) (predecessor_findings (over a) r t.after))
      (first_root_alike t.after same.1)
      ∙ ap (λ (ids : List ℕ). task_of t (named a t.name) ids (predecessor_findings (over a) root t.after))
      (ids_alike root t.after same.1)
      ∙ ap (task_of t (named a t.name) (ids_in b root t.after)) (findings_alike root t.after same.1)
      ∙ ap (λ (o : Option Named). task_of t o (ids_in b root t.after) (predecessor_findings (over b) root t.after))
      same.0

  -- ---- statements

  dynamic_alike : (t : CreateDynamicTable) → SameIn a b (names_of (written.CreateDynamicTable t))
      → bound_dynamic_table (over a) t ≡ bound_dynamic_table (over b) t
  dynamic_alike t same =
      ap (over_query (over a) t) (query_alike (map inside a) (map inside b) t.query (same_inside _ same.1) 0)
      ∙ taken same.0
    where
      taken : named a t.name ≡ named b t.name → over_query (over a) t (bound_query t.query (map inside b) 0)
          ≡ over_query (over b) t (bound_query t.query (map inside b) 0)
      taken here = rw here refl

  alike : (s : Statement) → SameIn a b (names_of s) → bound (over a) s ≡ bound (over b) s
  unfolding bound bound_select
  alike (written.Select q sorts) same =
      ap (λ (r : BoundQuery). selected (ordered r sorts)) (query_alike a b q same 0)
  alike (written.HasData stream) same = rw same.0 refl
  alike (written.Dml statement) same = ap changed (change_alike statement same)
  alike (written.CreateTable t) same = rw same.0 refl
  alike (written.CreateStream name table is_append_only) same = rw (same.0, same.1.0) refl
  alike (written.CreateTask t) same = ap (within meant.CreateTask) (task_alike t same)
  alike (written.ResumeTask task) same = rw same.0 refl
  alike (written.SuspendTask task) same = rw same.0 refl
  alike (written.ExecuteTask task) same = rw same.0 refl
  alike (written.CreateDynamicTable t) same = ap (within meant.CreateDynamicTable) (dynamic_alike t same)
  alike (written.ResumeDynamicTable table) same = rw same.0 refl
  alike (written.SuspendDynamicTable table) same = rw same.0 refl
  alike (written.RefreshDynamicTable table) same = rw same.0 refl
  alike (written.SetTargetLag table lag) same = rw same.0 refl
  alike (written.DropTable table) same = rw same.0 refl
  alike (written.DropStream stream) same = rw same.0 refl
  alike (written.DropTask task) same = rw same.0 refl
  alike (written.DropDynamicTable table) same = rw same.0 refl
  alike written.Begin same = refl
  alike written.Commit same = refl
  alike written.Rollback same = refl

pub bound_by_names : (s : Statement) (roots : List TaskRoot) (a b : List Named)
    → AllByRecursion (λ n. named a n ≡ named b n) (names_of s)
    → bound (record { objects = a; roots = roots }) s ≡ bound (record { objects = b; roots = roots }) s
bound_by_names s roots a b same = alike roots a b s same

-- ---- objects that are looked up

named_has : (objects : List Named) (n : Name) (o : Named) → named objects n ≡ Some o → o.name ≡ n
named_has [] n o is = absurd cc
named_has (x ∷ xs) n o is = by (bytes_eq x.name n) refl is (named_has xs n o)
  where
    by : (same : Bool) → bytes_eq x.name n ≡ same → cond same (Some x) (named xs n) ≡ Some o
        → (named xs n ≡ Some o → o.name ≡ n) → o.name ≡ n
    by true same is behind = let one : o ≡ x = cc in ap (λ (y : Named). y.name) one ∙ (bytes_decides x.name n).0 same
    by false same is behind = behind is

module _ (all : List Named) where
  -- one object more is found by its name, and nothing else is
  one_more : (others : List Named) (m n : Name)
      → (named (cons_option (named all m) others) n ≡ named all n)
      ⊎ (named (cons_option (named all m) others) n ≡ named others n)
  one_more others m n = by_found (named all m) refl
    where
      by_name : (o : Named) → named all m ≡ Some o → (same : Bool) → bytes_eq o.name n ≡ same
          → (cond same (Some o) (named others n) ≡ named all n)
          ⊎ (cond same (Some o) (named others n) ≡ named others n)
      by_name o is true same =
          inl (sym is ∙ ap (named all) (sym (named_has all m o is) ∙ (bytes_decides o.name n).0 same))
      by_name o is false same = inr refl

      by_found : (found : Option Named) → named all m ≡ found
          → (named (cons_option found others) n ≡ named all n) ⊎ (named (cons_option found others) n ≡ named others n)
      by_found None is = inr refl
      by_found (Some o) is = by_name o is (bytes_eq o.name n) refl

  -- nothing is found that isn't the name's object
  no_other : (names : List Name) (n : Name)
      → (named (looked_up all names) n ≡ named all n) ⊎ (named (looked_up all names) n ≡ None)
  no_other [] n = inr refl
  no_other (m ∷ ms) n = by (one_more (looked_up all ms) m n) (no_other ms n)
    where
      by : (named (looked_up all (m ∷ ms)) n ≡ named all n)
          ⊎ (named (looked_up all (m ∷ ms)) n ≡ named (looked_up all ms) n)
          → (named (looked_up all ms) n ≡ named all n) ⊎ (named (looked_up all ms) n ≡ None)
          → (named (looked_up all (m ∷ ms)) n ≡ named all n) ⊎ (named (looked_up all (m ∷ ms)) n ≡ None)
      by (inl here) behind = inl here
      by (inr e) (inl same) = inl (e ∙ same)
      by (inr e) (inr none) = inr (e ∙ none)

  found_first : (others : List Named) (n : Name) → (named others n ≡ named all n) ⊎ (named others n ≡ None)
      → named (cons_option (named all n) others) n ≡ named all n
  found_first others n behind = by_found (named all n) refl behind
    where
      by_found : (found : Option Named) → named all n ≡ found
          → (named others n ≡ named all n) ⊎ (named others n ≡ None) → named (cons_option found others) n ≡ found
      by_found None is (inl same) = same ∙ is
      by_found None is (inr none) = none
      by_found (Some o) is behind =
          let same : bytes_eq o.name n ≡ true = (bytes_decides o.name n).1 (named_has all n o is) in
          rw same refl

  still_found : (others : List Named) (m : Name) (names : List Name) → SameIn others all names
      → SameIn (cons_option (named all m) others) all names
  still_found others m [] same = tt
  still_found others m (n ∷ ns) same = (by (one_more others m n), still_found others m ns same.1)
    where
      by : (named (cons_option (named all m) others) n ≡ named all n)
          ⊎ (named (cons_option (named all m) others) n ≡ named others n)
          → named (cons_option (named all m) others) n ≡ named all n
      by (inl here) = here
      by (inr e) = e ∙ same.0

pub found_names : (all : List Named) (names : List Name)
    → AllByRecursion (λ n. named (looked_up all names) n ≡ named all n) names
found_names all [] = tt
found_names all (n ∷ ns) = (
  found_first all (looked_up all ns) n (no_other all ns n),
  still_found all (looked_up all ns) n ns (found_names all ns),
)

pub bound_looked_up : (s : Statement) (roots : List TaskRoot) (all : List Named)
    → bound (record { objects = looked_up all (names_of s); roots = roots }) s
    ≡ bound (record { objects = all; roots = roots }) s
bound_looked_up s roots all =
    bound_by_names s roots (looked_up all (names_of s)) all (found_names all (names_of s))
