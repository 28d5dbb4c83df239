-- The tests say whether a new object applies.
use Rattle.std.proofs.Common.{◌≡◌, ℕ, ◌+◌, ◌<◌, ◌≤◌, Bool, true, false, List, length, Option, Some, None, refl}
use Rattle.std.specs.Bool.{Decides}
use Rattle.std.specs.Prelude.{not, is_some, IsNone, IsTrue, IsSomeAnd}
use Rattle.std.specs.List.{AllByRecursion}
use Rattle.std.proofs.lemmas.Bool.{not-true}
use Rattle.std.proofs.lemmas.Bool.Decides.{Decides-and, Decides-eqb, Decides-ltb, Decides-like}
use Rattle.wh_value.specs.Column.{Column}
use Rattle.wh_value.specs.Limit.{bound}
use Rattle.wh_value.specs.declared.limit.Limit.TheVariants as limits
use Rattle.wh_state.specs.State.{id_of, live_count, TableKind, StreamKind, TaskKind, DynamicKind, table_in}
use Rattle.wh_state.specs.Objects.{is_table}
use Rattle.wh_state.specs.Stored.{StoredKind, StoredObject}
use Rattle.wh_state.specs.Commit.{TableChange, IsStoredName, IsNewObject, TableApplies, IsTableKind, IsLiveTable}
use Rattle.wh_catalog.specs.Conditions.{is_stored_name, is_stored_column, are_stored_columns, is_new_object}
use Rattle.wh_catalog.specs.Conditions.{table_applies, is_live_table, is_table_at}
use Rattle.wh_table.proofs.Apart.{Decides-list_all}
use Rattle.wh_table.proofs.Conditions.{Decides-leb}

not_from_false : (b : Bool) → b ≡ false → not b ≡ true
not_from_false true e = cc
not_from_false false e = refl

pub Decides-false : (b : Bool) → Decides (not b) (b ≡ false)
Decides-false b = (not-true b, not_from_false b)

Decides-none : {A : Type 0} (o : Option A) → Decides (not (is_some o)) (IsNone o)
Decides-none o = Decides-false (is_some o)

Decides-name : (name : List ℕ) → Decides (is_stored_name name) (IsStoredName name)
Decides-name name = Decides-and _ _ (Decides-ltb 0 (length name)) (Decides-leb (length name) (bound limits.Name))

pub Decides-columns : (columns : List Column)
    → Decides (are_stored_columns columns) ((0 < length columns)
    × ((length columns ≤ bound limits.Columns) × AllByRecursion (λ column. IsStoredName column.name) columns))
Decides-columns columns =
    Decides-and _ _ (Decides-ltb 0 (length columns))
    (Decides-and _ _ (Decides-leb (length columns) (bound limits.Columns))
    (Decides-list_all is_stored_column _ (λ column. Decides-name column.name) columns))

pub Decides-new_object : (objects : List StoredObject) (id : ℕ) (name : List ℕ)
    → Decides (is_new_object objects id name) (IsNewObject objects id name)
Decides-new_object objects id name =
    Decides-like (is_new_object objects id name)
    (λ h. record { next_id = h.0; few = h.1.0; free = h.1.1.0; name = h.1.1.1 })
    (λ a. (a.next_id, (a.few, (a.free, a.name))))
    (Decides-and _ _ (Decides-eqb id (length objects + 1))
    (Decides-and _ _ (Decides-ltb (live_count objects) (bound limits.Objects))
    (Decides-and _ _ (Decides-none (id_of name objects)) (Decides-name name))))

Decides-table_kind : (k : StoredKind) → Decides (is_some (table_in k)) (IsTableKind k)
Decides-table_kind (TableKind t) = (λ _. tt, λ _. refl)
Decides-table_kind (DynamicKind d t) = (λ _. tt, λ _. refl)
Decides-table_kind (StreamKind s) = (λ is. cc, λ never. absurd never)
Decides-table_kind (TaskKind t) = (λ is. cc, λ never. absurd never)

pub Decides-live_table : (o : Option StoredObject) → Decides (is_live_table o) (IsLiveTable o)
Decides-live_table None = (λ is. cc, λ never. absurd never)
Decides-live_table (Some o) = Decides-and _ _ (λ is. is, λ is. is) (Decides-table_kind o.kind)

pub Decides-table_applies : (objects : List StoredObject) (c : TableChange)
    → Decides (table_applies objects c) (TableApplies objects c)
Decides-table_applies objects c =
    Decides-like (table_applies objects c)
    (λ h. record {
      object = h.0;
      some_column = h.1.1.0;
      few_columns = h.1.1.1.0;
      column_names = h.1.1.1.1;
      retention = h.1.0;
    })
    (λ a. (a.object, (a.retention, (a.some_column, (a.few_columns, a.column_names)))))
    (Decides-and _ _ (Decides-new_object objects c.id c.name)
    (Decides-and _ _ (Decides-leb c.retention (bound limits.Retention)) (Decides-columns c.columns)))

-- what a stream may show, as a test of what stands at an id
pub Decides-table_at : (found : Option StoredObject)
    → Decides (is_table_at found) (IsSomeAnd found (λ o. IsTrue (is_table o.kind)))
Decides-table_at None = (λ is. cc, λ never. absurd never)
Decides-table_at (Some o) = (λ is. is, λ is. is)
