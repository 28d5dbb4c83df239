-- What a change that nothing is found wrong with does to its target.
--     change_fits     its effect fits the columns of its target
use Rattle.std.proofs.Common.{◌≡◌, ℕ, suc, ◌+◌, false, List, [], ◌∷◌, ◌++◌, map}
use Rattle.std.proofs.Common.{Option, Some, None, refl, sym, ap, subst, ◌∙◌, arith}
use Rattle.std.specs.Prelude.{not, unwrap_or, slice_get}
use Rattle.std.specs.List.{AllByRecursion}
use Rattle.std.proofs.lemmas.List.{map-append}
use Rattle.wh_value.specs.Value.{Row}
use Rattle.wh_value.specs.Column as table
use Rattle.wh_value.specs.Column.{ColumnType, NumberType, VarcharType, BooleanType}
use Rattle.wh_ast.specs.declared.expr.Expr.{Expr}
use Rattle.wh_ast.specs.declared.dml.Dml.{Dml}
use Rattle.wh_ast.specs.declared.dml.Rows.{Rows}
use Rattle.wh_ast.specs.declared.dml.Assignment.{Assignment}
use Rattle.wh_ast.specs.declared.dml.MergeClause.{MergeClause}
use Rattle.wh_ast.specs.declared.dml.MergeClause.TheVariants as clauses
use Rattle.wh_grammar.specs.Token.{Token}
use Rattle.wh_grammar.specs.Changing as g
use Rattle.wh_grammar.specs.Changing.{IsDml, AreRows}
use Rattle.wh_meaning.specs.Bag.{Bag}
use Rattle.wh_meaning.specs.Query.{Instance, eval}
use Rattle.wh_meaning.specs.Listing.{listed}
use Rattle.wh_naming.specs.Findings.{Name, either}
use Rattle.wh_naming.specs.Scope.{Entry, Named, named}
use Rattle.wh_naming.specs.Select.{Output, BoundQuery, BoundSource, SourcePart, column_of, plain, bound_query}
use Rattle.wh_naming.specs.Changes as changes
use Rattle.wh_naming.specs.Changes.{Target, target_at, target_entry, given_places, place_in, fit_places, typed_all}
use Rattle.wh_naming.specs.Changes.{new_row}
use Rattle.wh_naming.specs.Changes.{NewRow, value_rows, row_findings, insert_values, insert_query, outputs_from}
use Rattle.wh_naming.specs.Changes.{bound_rows}
use Rattle.wh_naming.specs.Changes.{set_findings, changed_row, bound_update, bound_clause, clause_findings}
use Rattle.wh_naming.specs.Changes.{all_clause_findings, merged_on, source_part, bound_merge, bound_change, BoundChange}
use Rattle.wh_naming.specs.Changes.{condition_of, BoundClause}
use Rattle.wh_effect.specs.Effect.{effect, rows_in_order}
use Rattle.wh_machine.proofs.PassedLaws.{both_none}
use Rattle.wh_machine.proofs.BagRows.{GivesAll, all_listed}
use Rattle.wh_machine.proofs.ValueTypes.{FitsTypes, type_or, type_at, head_type, types_of}
use Rattle.wh_machine.proofs.TypedLaws.{Under, entry_types}
use Rattle.wh_machine.proofs.GroupedLaws.{AllUnder}
use Rattle.wh_machine.proofs.ShownLaws.{output_types}
use Rattle.wh_machine.proofs.BoundLaws.{IsGoodSource, IsGoodQuery, InstanceFits, query_good, source_good}
use Rattle.wh_machine.proofs.GivenLaws.{neither, true_of, PlaceOk, row_under, changed_under, all_stand, own_stand}
use Rattle.wh_machine.proofs.GivenLaws.{append_nil}
use Rattle.wh_machine.proofs.GivenLaws.{entry_one, given_ok, new_row_under, parts_fit, parts_ok, parts_under}
use Rattle.wh_machine.proofs.GivenLaws.{place_wide}
use Rattle.wh_machine.proofs.EffectLaws.{OutcomeFits, PartsFit, ClauseFits, inserts_fit, inserts_over_fit, updates_fit}
use Rattle.wh_machine.proofs.EffectLaws.{deletes_fit, merges_fit}

-- ---- INSERT

values_under : (columns : List table.Column) (listed : Option (List Name)) (found : List (List Expr))
    → (row_findings (value_rows columns (given_places columns listed) found)).is_mistyped ≡ false
    → AllByRecursion (PartsFit columns (type_at []))
    (map (λ row. row.scalars) (value_rows columns (given_places columns listed) found))
values_under columns listed [] well = tt
values_under columns listed (values ∷ others) well =
    let both = neither (new_row columns (given_places columns listed) (typed_all [] values)).findings.is_mistyped
    (row_findings (value_rows columns (given_places columns listed) others)).is_mistyped well in
    (new_row_under columns listed [] values both.0, values_under columns listed others both.1)

-- the columns of a query's rows, as values
query_types : List Output → List (Option ColumnType)
query_types outputs = changes.output_types outputs

own_types : (all : List (Option ColumnType)) (place : ℕ) (outputs : List Output)
    → ((k n : ℕ) (t : Option ColumnType) → n ≡ place + k → slice_get (output_types outputs) k ≡ Some t
    → slice_get all n ≡ Some t)
    → AllUnder (map (head_type (type_at all)) (outputs_from place outputs)) (changes.output_types outputs)
own_types all place [] stand = tt
own_types all place (o ∷ os) stand = (
  subst (λ (t : Option ColumnType). Under t (Some (column_of o).column_type))
      (sym (ap type_or (stand 0 place o.type_of (omega arith) refl))) (by_type o.type_of),
  own_types all (suc place) os (λ k n t is at. stand (suc k) n t (omega arith) at),
)
  where
    by_type : (t : Option ColumnType) → Under t (Some (unwrap_or t VarcharType))
    by_type None = tt
    by_type (Some t) = refl

outputs_under : (outputs : List Output)
    → AllUnder (map (head_type (type_at (output_types outputs))) (outputs_from 0 outputs))
    (changes.output_types outputs)
outputs_under outputs = own_types (output_types outputs) 0 outputs
    (λ k n t is at. let same : n ≡ k = omega arith in ap (slice_get (output_types outputs)) same ∙ at)

-- the rows of a query in order
ordered_fit : (types : List (Option ColumnType)) (found : Option Bag) → GivesAll (FitsTypes types) found
    → (rows : List Row) → rows_in_order found ≡ Some rows → AllByRecursion (FitsTypes types) rows
ordered_fit types None h rows is = absurd cc
ordered_fit types (Some b) h rows is =
    let same : listed [] b ≡ rows = cc in
    subst (AllByRecursion (FitsTypes types)) same (all_listed (FitsTypes types) [] b (h b refl))

-- ---- SET over rows that begin with the target's columns

set_under : (columns : List table.Column) (entries : List Entry) (more : List (Option ColumnType))
    (parts : List Assignment)
    → entry_types entries ≡ types_of columns ++ more → (set_findings columns entries parts).is_mistyped ≡ false
    → PartsFit columns (type_at (entry_types entries)) (changed_row columns entries parts)
set_under columns entries more parts is well =
    changed_under (type_at (entry_types entries)) (types_of columns ++ more) 0 columns
    (map (λ part. place_in columns part.column) parts) (map (λ part. (plain entries part.value).scalar) parts)
    (map (λ part. (plain entries part.value).type_of) parts) (parts_under entries parts)
    (parts_fit columns entries parts well)
    (parts_ok columns more parts (λ name. ok name)) (all_stand columns more)
    (λ n. ap (λ (ts : List (Option ColumnType)). type_at ts n) is)
  where
    ok : (name : Name) → PlaceOk (types_of columns ++ more) (place_in columns name)
    ok name = place_wide columns more name

-- ---- each statement

entries_two : (t s : Entry) → entry_types (t ∷ s ∷ []) ≡ types_of t.columns ++ types_of s.columns
entries_two t s = ap (λ (cs : List table.Column). types_of (t.columns ++ cs)) (append_nil s.columns)
    ∙ map-append (λ (c : table.Column). Some c.column_type) t.columns s.columns

clauses_fit : (columns : List table.Column) (t s : Entry) → t.columns ≡ columns → (found : List MergeClause)
    → (all_clause_findings columns t s found).is_mistyped ≡ false
    → AllByRecursion (ClauseFits columns (types_of columns) (types_of s.columns)) (map (bound_clause columns t s) found)
clauses_fit columns t s own [] well = tt
clauses_fit columns t s own (c ∷ cs) well =
    let both = neither (clause_findings columns t s c).is_mistyped
    (all_clause_findings columns t s cs).is_mistyped well in
    (one_fits c both.0, clauses_fit columns t s own cs both.1)
  where
    wide : entry_types (t ∷ s ∷ []) ≡ types_of columns ++ types_of s.columns
    wide = entries_two t s ∙ ap (λ (cs : List table.Column). types_of cs ++ types_of s.columns) own

    narrow : entry_types (s ∷ []) ≡ types_of s.columns
    narrow = ap types_of (append_nil s.columns)

    one_fits : (c : MergeClause) → (clause_findings columns t s c).is_mistyped ≡ false
        → ClauseFits columns (types_of columns) (types_of s.columns) (bound_clause columns t s c)
    one_fits (clauses.Update condition parts) well =
        subst (λ (ts : List (Option ColumnType)). PartsFit columns (type_at ts)
        (changed_row columns (t ∷ s ∷ []) parts)) wide
        (set_under columns (t ∷ s ∷ []) (types_of s.columns) parts wide
        (neither _ (set_findings columns (t ∷ s ∷ []) parts).is_mistyped well).1)
    one_fits (clauses.Delete condition) well = tt
    one_fits (clauses.Insert condition listed values) well =
        let parts = neither _ _ well in
        let row = neither (changes.given_findings columns listed).is_mistyped
        (new_row columns (given_places columns listed) (typed_all (s ∷ []) values)).findings.is_mistyped parts.1 in
        subst (λ (ts : List (Option ColumnType)). PartsFit columns (type_at ts)
        (new_row columns (given_places columns listed) (typed_all (s ∷ []) values)).scalars) narrow
        (new_row_under columns listed (s ∷ []) values row.1)

module _ (names : List Named) (S : ℕ → Type 0) (F : ℕ → Row → Type 0) (none : S 0) (empty : (row : Row) → F 0 row → ⊥)
    (live : (name : Name) (object : Named) → named names name ≡ Some object → S object.id)
    (fits : (name : Name) (object : Named) → named names name ≡ Some object → (row : Row) → F object.id row
    → FitsTypes (types_of object.columns) row) where
  pub record IsGoodChange (t : Target) (b : BoundChange) : Type 0 where
    pub target : b.target ≡ t.id
    pub known : b.findings.unknown_object ≡ None → t.findings.unknown_object ≡ None
    pub kinds : b.findings.wrong_kind ≡ None → t.findings.wrong_kind ≡ None
    pub effect : b.findings.is_mistyped ≡ false → (instance : Instance)
        → InstanceFits names S F none empty live fits 0 b.sources instance
        → (found : List (ℕ × Row)) → AllByRecursion (λ entry. FitsTypes (types_of t.columns) entry.1) found
        → OutcomeFits t.columns (effect b.change found instance)
    pub sources : AllByRecursion S b.sources

  -- what is found in the target's name comes first in each statement
  as_good : (t : Target) (b : BoundChange) (unknown kind : Option Name) → b.target ≡ t.id
      → b.findings.unknown_object ≡ either t.findings.unknown_object unknown
      → b.findings.wrong_kind ≡ either t.findings.wrong_kind kind
      → (b.findings.is_mistyped ≡ false → (instance : Instance)
      → InstanceFits names S F none empty live fits 0 b.sources instance
      → (found : List (ℕ × Row)) → AllByRecursion (λ entry. FitsTypes (types_of t.columns) entry.1) found
      → OutcomeFits t.columns (effect b.change found instance))
      → AllByRecursion S b.sources → IsGoodChange t b
  as_good t b unknown kind target objects wrong effects sources = record {
    target = target;
    known = λ none. (both_none t.findings.unknown_object unknown (sym objects ∙ none)).0;
    kinds = λ none. (both_none t.findings.wrong_kind kind (sym wrong ∙ none)).0;
    effect = effects;
    sources = sources;
  }

  insert_good : (t : Target) (listed : Option (List Name)) (found : Rows) {d : ℕ} {ts us : List Token}
      → AreRows d ts found us → IsGoodChange t (bound_rows names t listed found)
  unfolding effect
  insert_good t listed found (g.values {found = values} are) =
      as_good t (bound_rows names t listed found) _ _ refl refl refl (λ well instance fit rows rows_fit.
      let parts = neither t.findings.is_mistyped _ well in
      let both = neither (changes.given_findings t.columns listed).is_mistyped
      (row_findings (value_rows t.columns (given_places t.columns listed) values)).is_mistyped parts.1 in
      inserts_fit t.columns (map (λ row. row.scalars) (value_rows t.columns (given_places t.columns listed) values))
      (values_under t.columns listed values both.1)) tt
  insert_good t listed found (g.query {found = q} is) =
      let b : BoundQuery = bound_query q names 0 in
      let good : IsGoodQuery names S F none empty live fits 0 b = query_good names S F none empty live fits q is 0 in
      as_good t (bound_rows names t listed found) _ _ refl refl refl (λ well instance fit rows rows_fit.
      let parts = neither t.findings.is_mistyped _ well in
      let both = neither (changes.given_findings t.columns listed).is_mistyped _ parts.1 in
      let last = neither b.findings.is_mistyped
      (not (fit_places (given_places t.columns listed) (changes.output_types b.outputs))) both.1 in
      inserts_over_fit t.columns (output_types b.outputs) _
      (row_under (type_at (output_types b.outputs)) (types_of t.columns) 0 t.columns
      (given_places t.columns listed)
      (outputs_from 0 b.outputs) (changes.output_types b.outputs) (outputs_under b.outputs)
      (true_of (fit_places (given_places t.columns listed) (changes.output_types b.outputs)) last.1)
      (given_ok t.columns listed) (own_stand t.columns)) (rows_in_order (eval b.query instance))
      (ordered_fit (output_types b.outputs) (eval b.query instance) (good.rows last.0 instance fit))) good.sources

  merge_good : (t : Target) (name : Name) (part : SourcePart) (on : Expr) (found : List MergeClause)
      → IsGoodSource names S F none empty live fits 0 (part.reading names 0)
      → IsGoodChange t (bound_merge t name part names on found)
  unfolding effect
  merge_good t name part on found good =
      let s : BoundSource = part.reading names 0 in
      let entry : Entry = record { name = part.name; columns = s.columns } in
      as_good t (bound_merge t name part names on found) _ _ refl refl refl (λ well instance fit rows rows_fit.
      let parts = neither t.findings.is_mistyped _ well in
      let both = neither false _ parts.1 in
      let source = neither s.findings.is_mistyped _ both.1 in
      let last = neither _ (all_clause_findings t.columns (target_entry name t) entry
      found).is_mistyped source.1 in
      merges_fit t.columns (types_of t.columns) (types_of s.columns) _
      (map (bound_clause t.columns (target_entry name t) entry) found)
      (clauses_fit t.columns (target_entry name t) entry refl found last.1) rows rows_fit
      (rows_in_order (eval s.query instance))
      (ordered_fit (types_of s.columns) (eval s.query instance) (good.rows source.0 instance fit))) good.sources

  update_good : (t : Target) (name : Name) (parts : List Assignment) (filter : Option Expr)
      → IsGoodChange t (bound_update t (target_entry name t ∷ []) parts filter)
  unfolding effect
  update_good t name parts filter =
      as_good t (bound_update t (target_entry name t ∷ []) parts filter) _ _ refl refl refl
      (λ well instance fit rows rows_fit.
      let both = neither t.findings.is_mistyped _ well in
      let set = neither (set_findings t.columns (target_entry name t ∷ []) parts).is_mistyped _ both.1 in
      let is : entry_types (target_entry name t ∷ []) ≡ types_of t.columns ++ [] =
      entry_one name t.columns ∙ sym (append_nil (types_of t.columns)) in
      updates_fit t.columns (types_of t.columns) (condition_of (target_entry name t ∷ []) filter) _
      (subst (λ (ts : List (Option ColumnType)). PartsFit t.columns (type_at ts)
      (changed_row t.columns (target_entry name t ∷ []) parts)) (entry_one name t.columns)
      (set_under t.columns (target_entry name t ∷ []) [] parts is set.0)) rows rows_fit) tt

  pub change_good : (x : Dml) {d : ℕ} {ts us : List Token} → IsDml d ts x us → (name : Name)
      × IsGoodChange (target_at names name) (bound_change names x)
  unfolding bound_change effect
  change_good x (g.insert {table = name} {names = listed} {found = found} is may are) =
      (name, insert_good (target_at names name) listed found are)
  change_good x (g.update {table = name} {set = parts} {filter = filter} is are may) =
      (name, update_good (target_at names name) name parts filter)
  change_good x (g.delete {table = name} {filter = filter} is may) =
      let t : Target = target_at names name in (
        name,
        as_good t (bound_change names x) _ _ refl refl refl (λ well instance fit rows rows_fit. deletes_fit t.columns
            (condition_of (target_entry name t ∷ []) filter) rows) tt,
      )
  change_good x (g.merge {target = name} {alias = alias} {source = source} {on = on} {clauses = found} is may
      from expr are) = (
        name,
        merge_good (target_at names name) (unwrap_or alias name) (source_part source) on found
            (source_good names S F none empty live fits source from 0),
      )
