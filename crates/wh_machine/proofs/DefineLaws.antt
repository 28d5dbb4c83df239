-- CREATE and DROP apply.
--     IsFilled                    a statement whose new names and columns are not empty
--     works_table, works_stream   objects that are made
--     works_drop                  an object that is dropped
use Rattle.std.proofs.Common.{◌≡◌, ℕ, zero, suc, ◌+◌, ◌-◌, ◌<◌, ◌≤◌, Bool, true, false, cond, List, []}
use Rattle.std.proofs.Common.{◌∷◌, ◌++◌, length, map, Option, Some, None, option_map, refl, sym, ap, subst, ◌∙◌, arith}
use Rattle.std.proofs.Common.{IsTrue, filter, IfSome, option_and_then}
use Rattle.std.specs.Prelude.{not, if◌then◌else◌, slice_get, slice_set}
use Rattle.std.specs.List.{AllByRecursion, list_any}
use Rattle.std.proofs.lemmas.List.Sums.{length-filter}
use Rattle.wh_value.specs.Column.{Column}
use Rattle.wh_value.specs.View.{column_of}
use Rattle.wh_value.specs.Limit.{bound}
use Rattle.wh_value.specs.declared.limit.Limit.TheVariants as limits
use Rattle.wh_ast.specs.declared.statement.CreateTable.{CreateTable}
use Rattle.wh_naming.specs.Findings as naming
use Rattle.wh_naming.specs.Findings.{Name, Findings, Failing, UnknownName, NameTaken, either, name_if, followed}
use Rattle.wh_naming.specs.Scope.{StreamObject, TaskObject, DynamicTableObject}
use Rattle.wh_naming.specs.Scope.{ObjectKind, TableObject, Named, named}
use Rattle.wh_ddl_naming.specs.Meant.{Meant, first_failing}
use Rattle.wh_ddl_naming.specs.Objects.{Names, of_kind, is_same_kind, found_where, object_of, taken_name}
use Rattle.wh_ddl_naming.specs.Tables.{NewTable, new_table, column_names, column_findings, replace_findings}
use Rattle.wh_ddl_naming.specs.Tables.{bound_table}
use Rattle.wh_ddl_naming.specs.Streams.{NewStream, bound_stream}
use Rattle.wh_reply.specs.Reply.{Refusal, Reply, OverLimit, Locked, DdlInTransaction, CreatedTable, CreatedStream}
use Rattle.wh_state.specs.State.{TaskKind, DynamicKind, task_in}
use Rattle.wh_state.specs.State.{State, Object, at_id, put_at, changed_at, dropped, live_count}
use Rattle.wh_state.specs.State.{TableKind, StreamKind}
use Rattle.wh_state.specs.Act.{MakesTable, DropsObject, MakesStream}
use Rattle.wh_state.specs.Stored.{StoredKind, StoredObject, Stored, kind_meant}
use Rattle.wh_state.specs.Commit.{MayGo, TaskMayGo}
use Rattle.wh_state.specs.Commit.{changed, IsStoredName}
use Rattle.wh_state.specs.Commit.{TableApplies, IsLiveTable, IsTableKind, MayShow}
use Rattle.wh_state.proofs.FoundLaws.{found_some}
use Rattle.wh_state.proofs.MeaningLaws.{live_count_meant}
use Rattle.wh_state.proofs.FirmLaws.{HasNot, NamesApart}
use Rattle.wh_machine.specs.Tests.{refused_if, refused_past}
use Rattle.wh_machine.specs.Names.{object_kind, names_from, names_in, refusal_of}
use Rattle.wh_machine.specs.Outcome.{Machine, Outcome, Does, commits, unless}
use Rattle.wh_machine.specs.Sessions.{number_in, holder}
use Rattle.wh_machine.specs.Definitions.{is_long, drops, holder_of, defines}
use Rattle.wh_machine.specs.Tables.{one_if, retention_of, table_refusal, create_table}
use Rattle.wh_machine.specs.Streams.{stream_refusal, create_stream}
use Rattle.wh_machine.proofs.NamedLaws.{free_of_all, none_named}
use Rattle.wh_machine.proofs.WorksLaws.{IsReached, objects_meant, Works, works_unless, works_last, works_defined}
use Rattle.wh_machine.proofs.WorksLaws.{works_made}
use Rattle.wh_machine.proofs.PassedLaws.{passed, none_if, within, neither, short_name, no_map, no_name}
use Rattle.wh_machine.proofs.PassedLaws.{nothing_fails, nothing_wrong, free_taken, object_found}
use Rattle.wh_state.specs.Task.{Task}
use Rattle.wh_state.specs.Objects.{as_task, is_table}

-- ---- live objects

drop_count : (xs : List StoredObject) (place : ℕ) (o : StoredObject) → slice_get xs place ≡ Some o → o.is_live ≡ true
    → length (filter (λ o. o.is_live) (slice_set xs place (dropped o))) + 1 ≡ length (filter (λ o. o.is_live) xs)
drop_count [] place o there live = absurd cc
drop_count (x ∷ xs) zero o there live =
    let same : x.is_live ≡ true = ap (λ (y : StoredObject). y.is_live) (first x o there) ∙ live in
    rw same (omega arith)
  where
    first : (x o : StoredObject) → Some x ≡ Some o → x ≡ o
    first x o there = cc
drop_count (x ∷ xs) (suc place) o there live = by_live x.is_live (drop_count xs place o there live)
  where
    by_live : (b : Bool)
        → length (filter (λ o. o.is_live) (slice_set xs place (dropped o))) + 1 ≡ length (filter (λ o. o.is_live) xs)
        → length (cond b (x ∷ filter (λ o. o.is_live) (slice_set xs place (dropped o)))
        (filter (λ o. o.is_live) (slice_set xs place (dropped o)))) + 1
        ≡ length (cond b (x ∷ filter (λ o. o.is_live) xs) (filter (λ o. o.is_live) xs))
    by_live true rest = omega (arith, rest)
    by_live false rest = rest

pub live_dropped : (objects : List StoredObject) (id : ℕ) (o : StoredObject) → at_id objects id ≡ Some o
    → o.is_live ≡ true → live_count (changed_at objects id dropped) + 1 ≡ live_count objects
live_dropped objects zero o there live = absurd cc
live_dropped objects (suc place) o there live =
    let set : changed_at objects (suc place) dropped ≡ slice_set objects place (dropped o) =
    ap (λ (found : Option StoredObject). put_at objects (suc place) (option_map dropped found)) there in
    let new = length-filter (λ (o : StoredObject). o.is_live) (slice_set objects place (dropped o)) in
    let old = length-filter (λ (o : StoredObject). o.is_live) objects in
    let fewer = drop_count objects place o there live in
    ap (λ (xs : List StoredObject). live_count xs + 1) set ∙ omega (arith, new, old, fewer)

pub live_is : (s : Stored) (m : Machine) → IsReached s m → live_count m.state.objects ≡ live_count s.objects
live_is s m reached = ap live_count (objects_meant s m reached) ∙ live_count_meant s.objects

-- outside of transactions, where nobody holds what goes
pub works_defines : (s : Stored) (m : Machine) (session : ℕ) (old : Option ℕ) (o : Outcome) → IsReached s m
    → (holder_of m.sessions old ≡ None → Works s m o) → Works s m (defines m session old o)
unfolding defines
works_defines s m session old o reached works =
    works_unless s m (option_map DdlInTransaction (number_in m.sessions session)) _ reached (λ outside.
    works_last s m (option_map Locked (holder_of m.sessions old)) o reached (λ none.
    works (no_map Locked (holder_of m.sessions old) none)))

-- ---- a table

-- an object that is no task is dropped wherever it lives
may_go : (objects : List StoredObject) (id : ℕ) (o : StoredObject) → at_id objects id ≡ Some o → o.is_live ≡ true
    → task_in o.kind ≡ None → MayGo objects id
may_go objects id o there live no_task = (
  found_some (λ o. IsTrue o.is_live) objects id o there live,
  subst (λ (found : Option Task). IfSome found (TaskMayGo objects id))
      (sym (ap (option_and_then as_task) there ∙ no_task)) tt,
)

-- a place of another kind takes no task
not_task : (kind : ObjectKind) (k : StoredKind) → is_same_kind kind TaskObject ≡ false
    → is_same_kind (object_kind (kind_meant k)) kind ≡ true → task_in k ≡ None
not_task kind (TableKind t) other is = refl
not_task kind (StreamKind s) other is = refl
not_task kind (DynamicKind d t) other is = refl
not_task TaskObject (TaskKind t) other is = absurd cc
not_task TableObject (TaskKind t) other is = absurd cc
not_task StreamObject (TaskKind t) other is = absurd cc
not_task DynamicTableObject (TaskKind t) other is = absurd cc

-- what a new table takes the place of
data Replaces (objects : List StoredObject) (name : List ℕ) : Option ℕ → Type 0 where
  nothing : AllByRecursion (HasNot name) objects → Replaces objects name None
  one : {id : ℕ} (o : StoredObject) → at_id objects id ≡ Some o → o.is_live ≡ true → task_in o.kind ≡ None
      → (NamesApart objects → AllByRecursion (HasNot name) (changed_at objects id dropped))
      → Replaces objects name (Some id)

pub record IsFilledTable (given : List ℕ) (made : List Column) : Type 0 where
  pub name : 0 < length given
  pub some_column : 0 < length made
  pub columns : AllByRecursion (λ column. 0 < length column.name) made

-- names that are short and not empty
pub columns_named : (columns : List Column) → list_any is_long (column_names columns) ≡ false
    → AllByRecursion (λ column. 0 < length column.name) columns
    → AllByRecursion (λ column. IsStoredName column.name) columns
columns_named [] short some = tt
columns_named (c ∷ cs) short some =
    let both = neither (is_long c.name) (list_any is_long (column_names cs)) short in
    ((some.0, short_name c.name both.0), columns_named cs both.1 some.1)

-- its tests
record PassesTable (s : State) (n : NewTable) : Type 0 where
  few : live_count s.objects + 1 - one_if n.replaced ≤ bound limits.Objects
  name : length n.name ≤ bound limits.Name
  columns : list_any is_long (column_names n.columns) ≡ false
  few_columns : length n.columns ≤ bound limits.Columns
  retention : retention_of n ≤ bound limits.Retention

passes_table : (s : State) (wrong : Option Refusal) (n : NewTable) → table_refusal s wrong n ≡ None
    → (wrong ≡ None) × PassesTable s n
unfolding table_refusal
passes_table s wrong n none =
    let names = passed wrong _ none in
    let ids = passed (refused_past limits.ObjectIds (length s.objects + 1)) _ names.1 in
    let live = passed (refused_past limits.Objects (live_count s.objects + 1 - one_if n.replaced)) _ ids.1 in
    let long = passed (refused_if (list_any is_long (n.name ∷ column_names n.columns))
    (OverLimit limits.Name)) _ live.1 in
    let short = neither (is_long n.name) (list_any is_long (column_names n.columns))
    (none_if (list_any is_long (n.name ∷ column_names n.columns)) (OverLimit limits.Name) long.0) in
    let wide = passed (refused_past limits.Columns (length n.columns)) _ long.1 in
    let days = passed (refused_past limits.Retention (retention_of n)) _ wide.1 in (
      names.0,
      record {
        few = within limits.Objects (live_count s.objects + 1 - one_if n.replaced) live.0;
        name = short_name n.name short.0;
        columns = short.1;
        few_columns = within limits.Columns (length n.columns) wide.0;
        retention = within limits.Retention (retention_of n) days.0;
      },
    )

table_applies : (objects : List StoredObject) (s : State) (n : NewTable) → PassesTable s n
    → IsFilledTable n.name n.columns → live_count objects < bound limits.Objects
    → AllByRecursion (HasNot n.name) objects
    → TableApplies objects (record {
      id = length objects + 1;
      name = n.name;
      retention = retention_of n;
      columns = n.columns;
    })
table_applies objects s n passes filled few free = record {
  object = record {
    next_id = refl;
    few = few;
    free = free_of_all n.name objects free;
    name = (filled.name, passes.name);
  };
  some_column = filled.some_column;
  few_columns = passes.few_columns;
  column_names = columns_named n.columns passes.columns filled.columns;
  retention = passes.retention;
}

works_table_made : (s : Stored) (m : Machine) (n : NewTable) (replaced : Option ℕ) → n.replaced ≡ replaced
    → IsReached s m → PassesTable m.state n → IsFilledTable n.name n.columns → Replaces s.objects n.name replaced
    → holder_of m.sessions replaced ≡ None
    → Works s m (Does (CreatedTable n.name) m.sessions
    (Some (drops replaced ++ MakesTable n.name n.columns (retention_of n) ∷ [])))
unfolding changed
works_table_made s m n None is reached passes filled (nothing free) none =
    works_made s m (CreatedTable n.name) (MakesTable n.name n.columns (retention_of n) ∷ []) reached (λ id. (tt, tt))
    (record {
      applies = (
        table_applies s.objects m.state n passes filled
            (omega (arith, passes.few, live_is s m reached, one_is)) free,
        tt,
      );
      rises = (tt, tt);
      follows = (refl, refl);
    })
  where
    one_is : one_if n.replaced ≡ 0
    one_is = ap one_if is
works_table_made s m n (Some id) is reached passes filled (one o there live no_task free) none =
    works_defined s m (CreatedTable n.name)
    (DropsObject id ∷ MakesTable n.name n.columns (retention_of n) ∷ []) id reached
    none (refl, (tt, tt)) (record {
      applies = (
        may_go s.objects id o there live no_task,
        (
          table_applies (changed_at s.objects id dropped) m.state n passes filled
              (omega (arith, passes.few, live_is s m reached, one_is, live_dropped s.objects id o there live))
              (free reached.firm.names),
          tt,
        ),
      );
      rises = (tt, (tt, tt));
      follows = (refl, (refl, refl));
    })
  where
    one_is : one_if n.replaced ≡ 1
    one_is = ap one_if is

-- what CREATE TABLE stands for
abbrev table_meant : Bool → Names → CreateTable → Option Named → Meant NewTable
table_meant replace names t live = if replace
    then (record {
      value = new_table t live;
      taken_object = None;
      findings = followed (replace_findings t.name live) (column_findings (column_names (map column_of t.columns)));
    })
    else (record {
      value = new_table t None;
      taken_object = taken_name names t.name;
      findings = column_findings (column_names (map column_of t.columns));
    })

works_new : (s : Stored) (m : Machine) (session : ℕ) (wrong : Option Refusal) (n : NewTable) → IsReached s m
    → IsFilledTable n.name n.columns → (wrong ≡ None → Replaces s.objects n.name n.replaced)
    → Works s m (defines m session n.replaced (create_table m wrong n))
unfolding create_table
works_new s m session wrong n reached filled replaces =
    works_defines s m session n.replaced (create_table m wrong n) reached (λ none.
    works_unless s m (table_refusal m.state wrong n) _ reached (λ passes.
    let tests = passes_table m.state wrong n passes in
    works_table_made s m n n.replaced refl reached tests.1 filled (replaces tests.0) none))

pub works_table : (s : Stored) (m : Machine) (session : ℕ) (t : CreateTable) → IsReached s m
    → IsFilledTable t.name (map column_of t.columns)
    → Works s m (defines m session (bound_table (names_in m.state.objects) t).value.replaced
    (create_table m (option_map refusal_of (first_failing (bound_table (names_in m.state.objects) t)))
    (bound_table (names_in m.state.objects) t).value))
works_table s m session t reached filled =
    by_replace t.replace (named (names_from 1 m.state.objects) t.name) refl
  where
    names : Names
    names = names_in m.state.objects

    by_replace : (replace : Bool) (live : Option Named) → named (names_from 1 m.state.objects) t.name ≡ live
        → Works s m (defines m session (table_meant replace names t live).value.replaced
        (create_table m (option_map refusal_of (first_failing (table_meant replace names t live)))
        (table_meant replace names t live).value))
    by_replace false live is =
        works_new s m session _ (new_table t None) reached filled (λ none.
        nothing (free_taken s m t.name reached (nothing_wrong (table_meant false names t live) none).0))
    by_replace true None is =
        works_new s m session _ (new_table t None) reached filled (λ none.
        nothing (none_named 1 s.objects t.name
        (subst (λ (objects : List Object). named (names_from 1 objects) t.name ≡ None) (objects_meant s m reached) is)))
    by_replace true (Some found) is =
        let o = object_found s m t.name found reached is in
        works_new s m session _ (new_table t (Some found)) reached filled (λ none.
        one o.object o.there o.live
        (not_task TableObject o.object.kind refl (ap (λ (k : ObjectKind). is_same_kind k TableObject) (sym o.kind)
        ∙ held (of_kind TableObject found) (no_name (not (of_kind TableObject found)) t.name
        (first_none _ _ (nothing_fails _ (nothing_wrong (table_meant true names t (Some found)) none).1).wrong_kind))))
        o.free)
      where
        held : (b : Bool) → not b ≡ false → b ≡ true
        held true is = refl
        held false is = absurd cc

        first_none : (a b : Option Name) → either a b ≡ None → a ≡ None
        first_none None b none = refl
        first_none (Some name) b none = absurd cc

-- ---- a stream

-- what a place of a kind names
pub record IsPlaced (objects : List StoredObject) (kind : ObjectKind) (id : ℕ) : Type 0 where
  pub object : StoredObject
  pub there : at_id objects id ≡ Some object
  pub live : object.is_live ≡ true
  pub kind_is : is_same_kind (object_kind (kind_meant object.kind)) kind ≡ true

pub placed : (s : Stored) (m : Machine) (kind : ObjectKind) (name : List ℕ) → IsReached s m
    → naming.first_failing (object_of kind (names_in m.state.objects) name).findings ≡ None
    → IsPlaced s.objects kind (object_of kind (names_in m.state.objects) name).value
placed s m kind name reached none = by_found (named (names_from 1 m.state.objects) name) refl none
  where
    by_found : (found : Option Named) → named (names_from 1 m.state.objects) name ≡ found
        → naming.first_failing (found_where (of_kind kind) name found).findings ≡ None
        → IsPlaced s.objects kind (found_where (of_kind kind) name found).value
    by_found None is none = absurd (cc (nothing_fails _ none).unknown_object)
    by_found (Some found) is none =
        let o = object_found s m name found reached is in
        record {
          object = o.object;
          there = o.there;
          live = o.live;
          kind_is = ap (λ (k : ObjectKind). is_same_kind k kind) (sym o.kind)
              ∙ not_false (of_kind kind found)
              (no_name (not (of_kind kind found)) name (nothing_fails _ none).wrong_kind);
        }
      where
        not_false : (b : Bool) → not b ≡ false → b ≡ true
        not_false true is = refl
        not_false false is = absurd cc

-- a place of a table takes no dynamic one
placed_table : (k : StoredKind) → is_same_kind (object_kind (kind_meant k)) TableObject ≡ true
    → IsTableKind k × IsTrue (is_table k)
placed_table (TableKind t) is = (tt, refl)
placed_table (StreamKind s) is = absurd cc
placed_table (TaskKind t) is = absurd cc
placed_table (DynamicKind d t) is = absurd cc

live_table : (objects : List StoredObject) (id : ℕ) → IsPlaced objects TableObject id → IsLiveTable (at_id objects id)
live_table objects id is =
    found_some (λ o. IsTrue o.is_live × IsTableKind o.kind) objects id is.object is.there
    (is.live, (placed_table is.object.kind is.kind_is).0)

may_show : (is_append_only : Bool) (objects : List StoredObject) (id : ℕ) → IsPlaced objects TableObject id
    → MayShow is_append_only (at_id objects id)
may_show is_append_only objects id is shown =
    found_some (λ o. IsTrue (is_table o.kind)) objects id is.object is.there
    (placed_table is.object.kind is.kind_is).1

passes_stream : (s : State) (wrong : Option Refusal) (n : NewStream) → stream_refusal s wrong n ≡ None
    → (wrong ≡ None) × ((live_count s.objects + 1 - 0 ≤ bound limits.Objects) × (length n.name ≤ bound limits.Name))
unfolding stream_refusal
passes_stream s wrong n none =
    let names = passed wrong _ none in
    let ids = passed (refused_past limits.ObjectIds (length s.objects + 1)) _ names.1 in
    let live = passed (refused_past limits.Objects (live_count s.objects + 1 - 0)) _ ids.1 in
    let long = passed (refused_if (is_long n.name) (OverLimit limits.Name)) _ live.1 in (
      names.0,
      (
        within limits.Objects (live_count s.objects + 1 - 0) live.0,
        short_name n.name (none_if (is_long n.name) (OverLimit limits.Name) long.0),
      ),
    )

pub works_stream : (s : Stored) (m : Machine) (session : ℕ) (name table : List ℕ) (is_append_only : Bool)
    → IsReached s m
    → 0 < length name
    → Works s m (defines m session None
    (create_stream m
    (option_map refusal_of (first_failing (bound_stream (names_in m.state.objects) name table is_append_only)))
    (bound_stream (names_in m.state.objects) name table is_append_only).value))
unfolding create_stream
works_stream s m session name table is_append_only reached some =
    let b : Meant NewStream = bound_stream (names_in m.state.objects) name table is_append_only in
    works_defines s m session None (create_stream m (option_map refusal_of (first_failing b)) b.value) reached (λ none.
    works_unless s m (stream_refusal m.state (option_map refusal_of (first_failing b)) b.value) _ reached (λ passes.
    let tests = passes_stream m.state (option_map refusal_of (first_failing b)) b.value passes in
    let found = nothing_wrong b tests.0 in
    let on = placed s m TableObject table reached found.1 in
    works_made s m (CreatedStream name) (MakesStream name b.value.table is_append_only ∷ []) reached (λ id. (tt, tt))
    (record {
      applies = (
        record {
          object = record {
            next_id = refl;
            few = omega (arith, tests.1.0, live_is s m reached);
            free = free_of_all name s.objects (free_taken s m name reached found.0);
            name = (some, tests.1.1);
          };
          source = live_table s.objects b.value.table on;
          mode = may_show is_append_only s.objects b.value.table on;
        },
        tt,
      );
      rises = (tt, tt);
      follows = (refl, refl);
    })))

-- ---- an object that is dropped

works_goes : (s : Stored) (m : Machine) (reply : Reply) (kind : ObjectKind) (id : ℕ) → IsReached s m
    → is_same_kind kind TaskObject ≡ false → holder m.sessions id ≡ None → IsPlaced s.objects kind id
    → Works s m (Does reply m.sessions (Some (DropsObject id ∷ [])))
works_goes s m reply kind id reached other none is =
    works_defined s m reply (DropsObject id ∷ []) id reached none (refl, tt) (record {
      applies =
          (may_go s.objects id is.object is.there is.live (not_task kind is.object.kind other is.kind_is), tt);
      rises = (tt, tt);
      follows = (refl, refl);
    })

-- by a name in the place of a kind
pub works_drop : (s : Stored) (m : Machine) (session : ℕ) (kind : ObjectKind) (name : List ℕ) (reply : Reply)
    → is_same_kind kind TaskObject ≡ false → IsReached s m
    → Works s m (defines m session (Some (object_of kind (names_in m.state.objects) name).value)
    (unless (option_map refusal_of (first_failing (object_of kind (names_in m.state.objects) name)))
    (commits m reply (DropsObject (object_of kind (names_in m.state.objects) name).value ∷ []))))
works_drop s m session kind name reply other reached =
    let found : Meant ℕ = object_of kind (names_in m.state.objects) name in
    works_defines s m session (Some found.value) (unless (option_map refusal_of (first_failing found))
    (commits m reply (DropsObject found.value ∷ []))) reached (λ free.
    works_unless s m (option_map refusal_of (first_failing found)) _ reached (λ none.
    works_goes s m reply kind found.value reached other free
    (placed s m kind name reached (nothing_wrong found none).1)))
