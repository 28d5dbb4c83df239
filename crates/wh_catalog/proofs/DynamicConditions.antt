-- The tests say whether what a commit does to dynamic tables applies.
use Rattle.std.proofs.Common.{◌≡◌, ℕ, ◌∙◌, Bool, true, false, List, [], ◌∷◌, map, Option, Some, None}
use Rattle.std.proofs.Common.{refl, ap, sym}
use Rattle.std.specs.Bool.{Decides}
use Rattle.std.specs.Prelude.{not, ◌||◌, is_some, bytes_eq, nat_eq, IsSomeAnd}
use Rattle.std.specs.FinMap.{get}
use Rattle.std.specs.List.{AllByRecursion}
use Rattle.std.specs.Option.{option_map_or}
use Rattle.std.proofs.lemmas.Bool.Decides.{Decides-and, Decides-or, Decides-eqb, Decides-like}
use Rattle.std.proofs.lemmas.Slice.Eq.{bytes_eq-Decides}
use Rattle.wh_value.specs.Column.{Column, ColumnType, NumberType, VarcharType, BooleanType}
use Rattle.wh_value.specs.Limit.{bound}
use Rattle.wh_value.specs.declared.limit.Limit.TheVariants as limits
use Rattle.wh_naming.specs.Findings.{Failing, first_failing}
use Rattle.wh_naming.specs.Select.{BoundQuery, column_of}
use Rattle.wh_naming.specs.Typing.{same_type}
use Rattle.wh_state.specs.State.{at_id}
use Rattle.wh_maintenance.specs.Standing.{Standing, Groups}
use Rattle.wh_maintenance.specs.Entries.{GroupEntry}
use Rattle.wh_state.specs.Dynamic.{Source, DynamicQuery, DynamicState, Dynamic, most_failed_refreshes}
use Rattle.wh_state.specs.Dynamic.{Kept, GroupsChange}
use Rattle.wh_state.specs.Bound.{IsLiveSource, HasOneId, Binds, but_taken, query_bound}
use Rattle.wh_state.specs.Stored.{StoredObject}
use Rattle.wh_state.specs.Commit.{DynamicChange, DynamicApplies, IsLag, TakesState, MaySet, TakesGroups}
use Rattle.wh_catalog.specs.DynamicConditions.{is_lag, agrees, has_one_id, same_column, same_columns, is_right, binds}
use Rattle.wh_catalog.specs.DynamicConditions.{dynamic_applies, takes_state, are_sources, may_set, is_taken_by}
use Rattle.wh_catalog.specs.DynamicConditions.{takes_groups}
use Rattle.wh_catalog.proofs.Conditions.{Decides-false, Decides-new_object, Decides-columns, Decides-live_table}
use Rattle.wh_table.proofs.Apart.{Decides-list_all}
use Rattle.wh_table.proofs.Conditions.{Decides-leb}

pub Decides-lag : (lag : ℕ) → Decides (is_lag lag) (IsLag lag)
Decides-lag lag =
    Decides-or _ _ (Decides-eqb lag 0)
    (Decides-and _ _ (Decides-leb (bound limits.LeastTargetLag) lag) (Decides-leb lag (bound limits.MostTargetLag)))

pub never_both : (b : Bool) → b ≡ false → b ≡ true → ⊥
never_both b is_false is_true = cc

-- ---- columns

same_types : (a b : ColumnType) → same_type a b ≡ true → a ≡ b
same_types NumberType NumberType is = refl
same_types NumberType VarcharType is = absurd cc
same_types NumberType BooleanType is = absurd cc
same_types VarcharType NumberType is = absurd cc
same_types VarcharType VarcharType is = refl
same_types VarcharType BooleanType is = absurd cc
same_types BooleanType NumberType is = absurd cc
same_types BooleanType VarcharType is = absurd cc
same_types BooleanType BooleanType is = refl

type_itself : (a : ColumnType) → same_type a a ≡ true
type_itself NumberType = refl
type_itself VarcharType = refl
type_itself BooleanType = refl

Decides-type : (a b : ColumnType) → Decides (same_type a b) (a ≡ b)
Decides-type a b = (same_types a b, λ is. ap (same_type a) (sym is) ∙ type_itself a)

Decides-column : (a b : Column) → Decides (same_column a b) (a ≡ b)
Decides-column a b =
    Decides-like (same_column a b)
    (λ h. λ i. record { name = h.0 i; column_type = h.1 i })
    (λ is. (ap (λ c. c.name) is, ap (λ c. c.column_type) is))
    (Decides-and _ _ (bytes_eq-Decides a.name b.name) (Decides-type a.column_type b.column_type))

abbrev first_column : Column → List Column → Column
first_column d [] = d
first_column d (c ∷ cs) = c

abbrev other_columns : List Column → List Column
other_columns [] = []
other_columns (c ∷ cs) = cs

pub Decides-same_columns : (xs ys : List Column) → Decides (same_columns xs ys) (xs ≡ ys)
Decides-same_columns [] [] = (λ _. refl, λ _. refl)
Decides-same_columns [] (y ∷ ys) = (λ is. cc, λ is. cc)
Decides-same_columns (x ∷ xs) [] = (λ is. cc, λ is. cc)
Decides-same_columns (x ∷ xs) (y ∷ ys) =
    Decides-like (same_columns (x ∷ xs) (y ∷ ys))
    (λ h. λ i. h.0 i ∷ h.1 i)
    (λ is. (ap (first_column x) is, ap other_columns is))
    (Decides-and _ _ (Decides-column x y) (Decides-same_columns xs ys))

-- ---- queries

Decides-agrees : (s other : Source) → Decides (agrees s other) (other.name ≡ s.name → other.id ≡ s.id)
Decides-agrees s other = by (bytes_eq other.name s.name) refl
  where
    by : (same : Bool) → bytes_eq other.name s.name ≡ same
        → Decides (not same || nat_eq other.id s.id) (other.name ≡ s.name → other.id ≡ s.id)
    by true is = (
      λ yes _. (Decides-eqb other.id s.id).0 yes,
      λ one. (Decides-eqb other.id s.id).1 (one ((bytes_eq-Decides other.name s.name).0 is)),
    )
    by false is = (
      λ _ equal. let yes = (bytes_eq-Decides other.name s.name).1 equal in absurd cc,
      λ _. refl,
    )

Decides-sources : (objects : List StoredObject) (sources : List Source)
    → Decides (are_sources objects sources)
    (AllByRecursion (λ s. IsLiveSource (at_id objects s.id)) sources × AllByRecursion (HasOneId sources) sources)
Decides-sources objects sources =
    Decides-and _ _ (Decides-list_all _ _ (λ s. Decides-live_table (at_id objects s.id)) sources)
    (Decides-list_all (has_one_id sources) _
    (λ s. Decides-list_all (agrees s) _ (λ other. Decides-agrees s other) sources) sources)

Decides-nothing : (found : Option Failing) → Decides (not (is_some found)) (found ≡ None)
Decides-nothing None = (λ _. refl, λ _. refl)
Decides-nothing (Some failing) = (λ is. cc, λ is. cc)

Decides-right : (q : BoundQuery) (columns : List Column)
    → Decides (is_right q columns) ((first_failing (but_taken q.findings) ≡ None) × ((q.is_wide ≡ false)
    × (map column_of q.outputs ≡ columns)))
Decides-right q columns =
    Decides-and _ _ (Decides-nothing (first_failing (but_taken q.findings)))
    (Decides-and _ _ (Decides-false q.is_wide) (Decides-same_columns (map column_of q.outputs) columns))

pub Decides-binds : (objects : List StoredObject) (q : DynamicQuery) (columns : List Column)
    → Decides (binds objects q columns) (Binds objects q columns)
Decides-binds objects q columns =
    Decides-like (binds objects q columns)
    (λ h. record {
      sources = h.0.0;
      one_id = h.0.1;
      right = h.1.0;
      narrow = h.1.1.0;
      outputs = h.1.1.1;
    })
    (λ b. ((b.sources, b.one_id), (b.right, (b.narrow, b.outputs))))
    (Decides-and _ _ (Decides-sources objects q.sources) (Decides-right (query_bound objects q) columns))

-- ---- new dynamic tables, and states

pub Decides-dynamic_applies : (objects : List StoredObject) (c : DynamicChange)
    → Decides (dynamic_applies objects c) (DynamicApplies objects c)
Decides-dynamic_applies objects c =
    Decides-like (dynamic_applies objects c)
    (λ h. record {
      object = h.0.0;
      lag = h.0.1.0;
      some_column = h.0.1.1.0;
      few_columns = h.0.1.1.1.0;
      column_names = h.0.1.1.1.1;
      query = h.1;
    })
    (λ a. ((a.object, (a.lag, (a.some_column, (a.few_columns, a.column_names)))), a.query))
    (Decides-and _ _
    (Decides-and _ _ (Decides-new_object objects c.id c.name)
    (Decides-and _ _ (Decides-lag c.lag) (Decides-columns c.columns)))
    (Decides-binds objects c.query c.columns))

pub Decides-takes_state : (d : Dynamic) (s : DynamicState) → Decides (takes_state d.state.moment s) (TakesState d s)
Decides-takes_state d s =
    Decides-like (takes_state d.state.moment s)
    (λ h. record { lag = h.0; failures = h.1.0; moment = h.1.1 })
    (λ t. (t.lag, (t.failures, t.moment)))
    (Decides-and _ _ (Decides-lag s.lag)
    (Decides-and _ _ (Decides-leb s.failures most_failed_refreshes) (Decides-leb d.state.moment s.moment)))

-- ---- groups

Decides-may_set : (groups : Groups) (e : GroupEntry) → Decides (may_set groups e) (MaySet groups e)
Decides-may_set groups e = by e.group (get groups e.key)
  where
    by : (group found : Option Standing)
        → Decides (is_some group || is_some found) (group ≡ None → IsSomeAnd found (λ s. Unit {0}))
    by (Some g) found = (λ _ none. absurd cc, λ _. refl)
    by None (Some s) = (λ _ _. tt, λ _. refl)
    by None None = (λ is. absurd cc, λ stands. absurd (stands refl))

Decides-taken : (c : GroupsChange) (k : Kept) → Decides (is_taken_by c k) (TakesGroups c k)
Decides-taken c k =
    Decides-like (is_taken_by c k)
    (λ h. record { keys = h.0.0; calls = h.0.1; entries = h.1 })
    (λ t. ((t.keys, t.calls), t.entries))
    (Decides-and _ _ (Decides-and _ _ (Decides-eqb c.keys k.keys) (Decides-eqb c.calls k.calls))
    (Decides-list_all (may_set k.groups) _ (Decides-may_set k.groups) c.entries))

pub Decides-takes_groups : (c : GroupsChange) (d : Dynamic)
    → Decides (takes_groups c d) (IsSomeAnd d.kept (TakesGroups c))
Decides-takes_groups c d = by d.kept
  where
    by : (kept : Option Kept) → Decides (option_map_or (is_taken_by c) kept false) (IsSomeAnd kept (TakesGroups c))
    by None = (λ is. absurd cc, λ never. absurd never)
    by (Some k) = Decides-taken c k
