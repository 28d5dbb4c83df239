-- The rows of bound queries have the types of their columns.
--     InstanceFits            the bags of sources, from a number on
--     IsGoodSource, IsGoodQuery     what a source and a query of a text give
--     query_good, source_good       so it is of each
use Rattle.std.proofs.Common.{◌≡◌, ℕ, zero, suc, ◌+◌, ◌<◌, Bool, true, false, List, [], ◌∷◌, ◌++◌, map}
use Rattle.std.proofs.Common.{length, Option, Some, None, refl, sym, ap, subst, ◌∙◌, arith, append_assoc}
use Rattle.std.specs.Prelude.{slice_get, ◌||◌, not, unwrap_or}
use Rattle.std.specs.List.{AllByRecursion}
use Rattle.std.proofs.lemmas.List.{map-append}
use Rattle.wh_value.specs.Column as table
use Rattle.wh_value.specs.Column.{ColumnType, NumberType, VarcharType, BooleanType}
use Rattle.wh_value.specs.Value.{Row}
use Rattle.wh_ast.specs.declared.expr.Expr.{Expr}
use Rattle.wh_ast.specs.declared.query.Item.{Item}
use Rattle.wh_ast.specs.declared.query.FromItem.{FromItem, fold-roll-FromItem, fold-FromItem}
use Rattle.wh_ast.specs.declared.query.FromItem.TheOpen.{FromItem-F}
use Rattle.wh_ast.specs.declared.query.FromItem.TheVariants as sources
use Rattle.wh_grammar.specs.Token.{Token}
use Rattle.wh_grammar.specs.Query as g
use Rattle.wh_grammar.specs.Query.{IsQuery, AreCores, IsCore, IsSource, AreJoins}
use Rattle.wh_ast.specs.declared.query.Join.{Join, roll-Join, fold-roll-Join, fold-Join}
use Rattle.wh_ast.specs.declared.query.Core.{Core, roll-Core, fold-roll-Core, fold-Core}
use Rattle.wh_ast.specs.declared.query.Query.{Query, roll-Query, fold-roll-Query}
use Rattle.wh_meaning.specs.Bag.{Bag}
use Rattle.wh_meaning.specs.Query as meaning
use Rattle.wh_meaning.specs.Query.{Instance, eval, Scan, UnionAll, source_in}
use Rattle.wh_naming.specs.Findings.{Name, either}
use Rattle.wh_naming.specs.Scope.{Named, named, Entry}
use Rattle.wh_naming.specs.Typing.{alike, same_type}
use Rattle.wh_naming.specs.Select.{Output, BoundQuery, BoundSource, SourcePart, JoinPart, QueryReading}
use Rattle.wh_naming.specs.Select.{object_source, column_of, query_source, Joined, part_name, first_entry, with_entry}
use Rattle.wh_naming.specs.Select.{plain}
use Rattle.wh_naming.specs.Select.{with_joins, from_part, filtered_by, key_scalars, nothing_shown, all_shown}
use Rattle.wh_naming.specs.Select.{is_grouped}
use Rattle.wh_naming.specs.Select.{bound_core, merged, fit_each_other, united, more_cores}
use Rattle.wh_naming.specs.Select.{all_cores, named_source, source_step, core_step, join_step, query_step, bound_query}
use Rattle.wh_naming.specs.Select.{all_columns}
use Rattle.wh_state.proofs.AllLaws.{all_append, all_map}
use Rattle.wh_machine.proofs.BagRows.{AllRows, GivesAll}
use Rattle.wh_machine.proofs.ValueTypes.{OfType, FitsTypes, types_of, both_true}
use Rattle.wh_machine.proofs.TypedLaws.{Under, entry_types, get_behind}
use Rattle.wh_machine.proofs.QueryRows.{rows_filter, rows_join, rows_union}
use Rattle.wh_machine.proofs.GroupedLaws.{AllUnder, all_under_fits}
use Rattle.wh_machine.proofs.ShownLaws.{output_types, shown_under, core_rows}

neither : (a b : Bool) → (a || b) ≡ false → (a ≡ false) × (b ≡ false)
neither true b is = absurd cc
neither false b is = (refl, is)

-- ---- columns of a query that is a source

pub column_rows : (outputs : List Output) (row : Row) → FitsTypes (output_types outputs) row
    → FitsTypes (types_of (map column_of outputs)) row
column_rows [] row h = h
column_rows (o ∷ os) [] h = absurd h
column_rows (o ∷ os) (v ∷ vs) h = (by_type o.type_of h.0, column_rows os vs h.1)
  where
    by_type : (t : Option ColumnType) → OfType t v → OfType (Some (unwrap_or t VarcharType)) v
    by_type None h = subst (OfType (Some VarcharType)) (sym h) refl
    by_type (Some t) h = h

-- ---- columns of queries together

pub same_types : (a b : ColumnType) → same_type a b ≡ true → a ≡ b
same_types NumberType NumberType is = refl
same_types NumberType VarcharType is = absurd cc
same_types NumberType BooleanType is = absurd cc
same_types VarcharType NumberType is = absurd cc
same_types VarcharType VarcharType is = refl
same_types VarcharType BooleanType is = absurd cc
same_types BooleanType NumberType is = absurd cc
same_types BooleanType VarcharType is = absurd cc
same_types BooleanType BooleanType is = refl

left_type : (a b : Option ColumnType) → Under a (either a b)
left_type None b = tt
left_type (Some a) b = refl

right_type : (a b : Option ColumnType) → alike a b ≡ true → Under b (either a b)
right_type None None is = tt
right_type None (Some b) is = refl
right_type (Some a) None is = tt
right_type (Some a) (Some b) is = ap Some (sym (same_types a b is))

merged_under : (os ps : List Output) → fit_each_other os ps ≡ true
    → AllUnder (output_types os) (output_types (merged os ps))
    × AllUnder (output_types ps) (output_types (merged os ps))
merged_under [] [] is = (tt, tt)
merged_under [] (p ∷ ps) is = absurd cc
merged_under (o ∷ os) [] is = absurd cc
merged_under (o ∷ os) (p ∷ ps) is =
    let parts = both_true (alike o.type_of p.type_of) (fit_each_other os ps) is in
    let rest = merged_under os ps parts.1 in
    ((left_type o.type_of p.type_of, rest.0), (right_type o.type_of p.type_of parts.0, rest.1))

not_false : (b : Bool) → not b ≡ false → b ≡ true
not_false true is = refl
not_false false is = absurd cc

rows_under : (ts us : List (Option ColumnType)) → AllUnder ts us → (found : Option Bag) → GivesAll (FitsTypes ts) found
    → GivesAll (FitsTypes us) found
rows_under ts us under found h b is =
    all_map (λ e. FitsTypes ts e.0) (λ e. FitsTypes us e.0) (λ e fits. all_under_fits ts us under e.0 fits) _ (h b is)

-- ---- trees, layer by layer

abbrev pub source_read : FromItem → SourcePart
source_read s = fold-FromItem SourcePart QueryReading JoinPart QueryReading source_step core_step join_step query_step s

abbrev join_read : Join → JoinPart
join_read j = fold-Join SourcePart QueryReading JoinPart QueryReading source_step core_step join_step query_step j

abbrev core_read : Core → QueryReading
core_read c = fold-Core SourcePart QueryReading JoinPart QueryReading source_step core_step join_step query_step c

query_reads : (cores : List Core) (names : List Named) (next : ℕ)
    → bound_query (roll-Query (record { cores = cores })) names next ≡ all_cores names next (map core_read cores)
unfolding query_step
query_reads cores names next = ap (λ (r : QueryReading). r names next)
    (fold-roll-Query SourcePart QueryReading JoinPart QueryReading source_step core_step join_step query_step
    (record { cores = cores }))

core_reads : (found : List Item) (from : FromItem) (joins : List Join) (filter : Option Expr) (group : List Expr)
    (names : List Named) (next : ℕ)
    → core_read (roll-Core (record {
      items = found;
      from = from;
      joins = joins;
      filter = filter;
      group =
          group;
    })) names next
    ≡ bound_core found (from_part names next (source_read from) (map join_read joins)) filter group
unfolding core_step
core_reads found from joins filter group names next = ap (λ (r : QueryReading). r names next)
    (fold-roll-Core SourcePart QueryReading JoinPart QueryReading source_step core_step join_step query_step
    (record { items = found; from = from; joins = joins; filter = filter; group = group }))

join_reads : (source : FromItem) (on : Expr)
    → (join_read (roll-Join (record { source = source; on = on }))).source ≡ source_read source
unfolding join_step
join_reads source on = ap (λ (j : JoinPart). j.source)
    (fold-roll-Join SourcePart QueryReading JoinPart QueryReading source_step core_step join_step query_step
    (record { source = source; on = on }))

named_reads : (name : Name) (alias : Option Name) (names : List Named) (next : ℕ)
    → (source_read (sources.Named name alias)).reading names next ≡ named_source name names next
unfolding source_step
named_reads name alias names next =
    ap (λ (s : FromItem). (source_read s).reading names next) (sym (sources.rolls-Named name alias))
    ∙ ap (λ (p : SourcePart). p.reading names next)
    (fold-roll-FromItem SourcePart QueryReading JoinPart QueryReading source_step core_step join_step query_step
    (FromItem-F.Named name alias))

inner_reads : (inner : Query) (alias : Name) (names : List Named) (next : ℕ)
    → (source_read (sources.Subquery inner alias)).reading names next ≡ query_source (bound_query inner names next)
unfolding source_step
inner_reads inner alias names next =
    ap (λ (s : FromItem). (source_read s).reading names next) (sym (sources.rolls-Subquery inner alias))
    ∙ ap (λ (p : SourcePart). p.reading names next)
    (fold-roll-FromItem SourcePart QueryReading JoinPart QueryReading source_step core_step join_step query_step
    (FromItem-F.Subquery inner alias))

-- ---- over the live objects of some names; S holds of the ids of sources, and F of the rows of each

module _ (names : List Named) (S : ℕ → Type 0) (F : ℕ → Row → Type 0) (none : S 0) (empty : (row : Row) → F 0 row → ⊥)
    (live : (name : Name) (object : Named) → named names name ≡ Some object → S object.id)
    (fits : (name : Name) (object : Named) → named names name ≡ Some object → (row : Row) → F object.id row
    → FitsTypes (types_of object.columns) row) where
  abbrev pub InstanceFits : ℕ → List ℕ → Instance → Type 0
  InstanceFits next sources instance = (k place id : ℕ) → place ≡ next + k → slice_get sources k ≡ Some id
      → AllRows (F id) (source_in instance place)

  abbrev pub Gives : ℕ → meaning.Query → List ℕ → List (Option ColumnType) → Type 0
  Gives next q sources types = (instance : Instance) → InstanceFits next sources instance
      → GivesAll (FitsTypes types) (eval q instance)

  pub record IsGoodSource (next : ℕ) (s : BoundSource) : Type 0 where
    pub rows : s.findings.is_mistyped ≡ false → Gives next s.query s.sources (types_of s.columns)
    pub sources : AllByRecursion S s.sources

  pub record IsGoodQuery (next : ℕ) (q : BoundQuery) : Type 0 where
    pub rows : q.findings.is_mistyped ≡ false → Gives next q.query q.sources (output_types q.outputs)
    pub sources : AllByRecursion S q.sources

  record IsGoodJoined (next : ℕ) (j : Joined) : Type 0 where
    rows : j.findings.is_mistyped ≡ false → Gives next j.query j.sources (entry_types j.entries)
    sources : AllByRecursion S j.sources

  front_fits : (next : ℕ) (xs ys : List ℕ) (instance : Instance) → InstanceFits next (xs ++ ys) instance
      → InstanceFits next xs instance
  front_fits next xs ys instance h k place id at is = h k place id at (front xs k is)
    where
      front : (xs : List ℕ) (k : ℕ) → slice_get xs k ≡ Some id → slice_get (xs ++ ys) k ≡ Some id
      front [] k is = absurd cc
      front (x ∷ xs) zero is = is
      front (x ∷ xs) (suc k) is = front xs k is

  behind_fits : (next : ℕ) (xs ys : List ℕ) (instance : Instance) → InstanceFits next (xs ++ ys) instance
      → InstanceFits (next + length xs) ys instance
  behind_fits next xs ys instance h k place id at is =
      h (length xs + k) place id (omega (arith, at)) (get_behind xs ys (length xs + k) k refl ∙ is)

  -- the rows of a source by its number
  scan_gives : (P : Row → Type 0) (next id : ℕ) → ((row : Row) → F id row → P row) → (instance : Instance)
      → InstanceFits next (id ∷ []) instance → GivesAll P (eval (Scan next) instance)
  unfolding eval
  scan_gives P next id so instance h b is =
      let same : source_in instance next ≡ b = cc in
      subst (AllRows P) same (all_map (λ e. F id e.0) (λ e. P e.0) (λ e row. so e.0 row) _
      (h 0 next id (omega arith) refl))

  object_good : (name : Name) (next : ℕ) → IsGoodSource next (named_source name names next)
  object_good name next = by_found (named names name) refl
    where
      by_found : (found : Option Named) → named names name ≡ found → IsGoodSource next (object_source name next found)
      by_found None is = record {
        rows = λ well instance. scan_gives (FitsTypes []) next 0 (λ row h. absurd (empty row h)) instance;
        sources = (none, tt);
      }
      by_found (Some object) is = record {
        rows = λ well instance. scan_gives (FitsTypes (types_of object.columns)) next object.id
            (fits name object is) instance;
        sources = (live name object is, tt);
      }

  query_source_good : (next : ℕ) (q : BoundQuery) → IsGoodQuery next q → IsGoodSource next (query_source q)
  query_source_good next q good = record {
    rows = λ well instance fit b is. all_map (λ e. FitsTypes (output_types q.outputs) e.0)
        (λ e. FitsTypes (types_of (map column_of q.outputs)) e.0) (λ e h. column_rows q.outputs e.0 h) _
        (good.rows well instance fit b is);
    sources = good.sources;
  }

  entry_types_more : (entries : List Entry) (e : Entry)
      → entry_types (entries ++ e ∷ []) ≡ entry_types entries ++ types_of e.columns
  entry_types_more [] e = map-append (λ (c : table.Column). Some c.column_type) e.columns []
      ∙ append_nil (types_of e.columns)
    where
      append_nil : (xs : List (Option ColumnType)) → xs ++ [] ≡ xs
      append_nil [] = refl
      append_nil (x ∷ xs) = ap (λ (ys : List (Option ColumnType)). x ∷ ys) (append_nil xs)
  entry_types_more (f ∷ fs) e =
      map-append (λ (c : table.Column). Some c.column_type) f.columns (all_columns (fs ++ e ∷ []))
      ∙ ap (λ (ts : List (Option ColumnType)). types_of f.columns ++ ts) (entry_types_more fs e)
      ∙ sym (append_assoc (types_of f.columns) (entry_types fs) (types_of e.columns))
      ∙ ap (λ (ts : List (Option ColumnType)). ts ++ types_of e.columns)
      (sym (map-append (λ (c : table.Column). Some c.column_type) f.columns (all_columns fs)))

  -- ---- FROM

  first_good : (next : ℕ) (part : SourcePart) (joins : List JoinPart) (s : BoundSource) → IsGoodSource next s
      → IsGoodJoined next (first_entry part joins s)
  first_good next part joins s good = record {
    rows = λ well instance fit. subst (λ (ts : List (Option ColumnType)). GivesAll (FitsTypes ts)
        (eval s.query instance))
        (sym (entry_types_more [] (record { name = part.name; columns = s.columns })))
        (good.rows (neither s.findings.is_mistyped false well).0 instance fit);
    sources = good.sources;
  }

  entry_good : (next : ℕ) (left : Joined) (j : JoinPart) (joins : List JoinPart) (s : BoundSource) →
      IsGoodJoined next left
      → IsGoodSource (next + length left.sources) s → IsGoodJoined next (with_entry left j joins s)
  entry_good next left j joins s before good = record {
    rows = λ well instance fit.
        let parts = neither left.findings.is_mistyped _ well in
        let both = neither (s.findings.is_mistyped || false) _ parts.1 in
        let here = neither s.findings.is_mistyped false both.0 in
        subst (λ (ts : List (Option ColumnType)). GivesAll (FitsTypes ts)
        (eval (with_entry left j joins s).query instance))
        (sym (entry_types_more left.entries (record { name = part_name j; columns = s.columns })))
        (rows_join (entry_types left.entries) (types_of s.columns) left.query s.query _ instance
        (before.rows parts.0 instance (front_fits next left.sources s.sources instance fit))
        (good.rows here.0 instance (behind_fits next left.sources s.sources instance fit)));
    sources = all_append S left.sources s.sources before.sources good.sources;
  }

  abbrev IsGoodPart : SourcePart → Type 0
  IsGoodPart p = (next : ℕ) → IsGoodSource next (p.reading names next)

  abbrev IsGoodReading : QueryReading → Type 0
  IsGoodReading r = (next : ℕ) → IsGoodQuery next (r names next)

  joins_good : (next : ℕ) (left : Joined) (joins : List JoinPart) → AllByRecursion (λ j. IsGoodPart j.source) joins
      → IsGoodJoined next left → IsGoodJoined next (with_joins names next left joins)
  joins_good next left [] parts good = good
  joins_good next left (j ∷ joins) parts good =
      joins_good next (with_entry left j joins (j.source.reading names (next + length left.sources))) joins parts.1
      (entry_good next left j joins (j.source.reading names (next + length left.sources)) good
      (parts.0 (next + length left.sources)))

  from_good : (next : ℕ) (part : SourcePart) (joins : List JoinPart) → IsGoodPart part
      → AllByRecursion (λ j. IsGoodPart j.source) joins → IsGoodJoined next (from_part names next part joins)
  from_good next part joins good parts =
      joins_good next (first_entry part joins (part.reading names next)) joins parts
      (first_good next part joins (part.reading names next) (good next))

  -- ---- a core

  filtered_rows : (next : ℕ) (j : Joined) (filter : Option Expr) → Gives next j.query j.sources (entry_types j.entries)
      → Gives next (filtered_by j filter) j.sources (entry_types j.entries)
  filtered_rows next j None rows instance fit = rows instance fit
  filtered_rows next j (Some e) rows instance fit =
      rows_filter (FitsTypes (entry_types j.entries)) j.query (plain j.entries e).scalar instance (rows instance fit)

  core_good : (next : ℕ) (found : List Item) (j : Joined) (filter : Option Expr) (group : List Expr) →
      IsGoodJoined next j
      → IsGoodQuery next (bound_core found j filter group)
  core_good next found j filter group good = record {
    rows = λ well instance fit.
        let shown = all_shown j.entries nothing_shown found in
        let parts = neither shown.findings.is_mistyped _ well in
        let both = neither j.findings.is_mistyped _ parts.1 in
        core_rows j.entries (filtered_by j filter) (is_grouped group shown.calls) (key_scalars j.entries group)
        shown instance
        (shown_under j.entries nothing_shown found tt) (filtered_rows next j filter (good.rows both.0) instance fit);
    sources = good.sources;
  }

  -- ---- UNION ALL

  united_good : (next : ℕ) (a b : BoundQuery) → IsGoodQuery next a → IsGoodQuery (next + length a.sources) b
      → IsGoodQuery next (united a b)
  united_good next a b left right = record {
    rows = λ well instance fit.
        let parts = neither (a.findings.is_mistyped || b.findings.is_mistyped)
        (not (fit_each_other a.outputs b.outputs)) well in
        let both = neither a.findings.is_mistyped b.findings.is_mistyped parts.0 in
        let types = merged_under a.outputs b.outputs (not_false (fit_each_other a.outputs b.outputs) parts.1) in
        rows_union (FitsTypes (output_types (merged a.outputs b.outputs))) a.query b.query instance
        (rows_under (output_types a.outputs) (output_types (merged a.outputs b.outputs)) types.0 (eval a.query instance)
        (left.rows both.0 instance (front_fits next a.sources b.sources instance fit)))
        (rows_under (output_types b.outputs) (output_types (merged a.outputs b.outputs)) types.1 (eval b.query instance)
        (right.rows both.1 instance (behind_fits next a.sources b.sources instance fit)));
    sources = all_append S a.sources b.sources left.sources right.sources;
  }

  more_good : (next : ℕ) (q : BoundQuery) (cores : List QueryReading) → AllByRecursion IsGoodReading cores
      → IsGoodQuery next q → IsGoodQuery next (more_cores names next q cores)
  more_good next q [] parts good = good
  more_good next q (core ∷ cores) parts good =
      more_good next (united q (core names (next + length q.sources))) cores parts.1
      (united_good next q (core names (next + length q.sources)) good (parts.0 (next + length q.sources)))

  cores_good : (next : ℕ) (cores : List QueryReading) → AllByRecursion IsGoodReading cores → 0 < length cores
      → IsGoodQuery next (all_cores names next cores)
  cores_good next [] parts some = absurd (omega arith)
  cores_good next (core ∷ cores) parts some = more_good next (core names next) cores parts.1 (parts.0 next)

  -- ---- of a text

  some_cores : {d : ℕ} {ts us : List Token} (cores : List Core) → AreCores d ts cores us →
      0 < length (map core_read cores)
  some_cores cores (g.last_core is) = omega arith
  some_cores cores (g.more_cores is more) = omega arith

  mutual
    pub query_good : {d : ℕ} {ts us : List Token} (q : Query) → IsQuery d ts q us → IsGoodReading (bound_query q)
    query_good q (g.query {cores = cores} few are) next =
        subst (IsGoodQuery next) (sym (query_reads cores names next))
        (cores_good next (map core_read cores) (all_cores_good cores are) (some_cores cores are))

    all_cores_good : {d : ℕ} {ts us : List Token} (cores : List Core) → AreCores d ts cores us
        → AllByRecursion IsGoodReading (map core_read cores)
    all_cores_good (core ∷ cores) (g.last_core is) = (one_core_good core is, tt)
    all_cores_good (core ∷ cores) (g.more_cores is more) = (one_core_good core is, all_cores_good cores more)

    one_core_good : {d : ℕ} {ts us : List Token} (c : Core) → IsCore d ts c us → IsGoodReading (core_read c)
    one_core_good c (g.core {items = found} {source = from} {joins = joins} {filter = filter} {group = group}
        few are is more
        where_ grouped) next =
        subst (IsGoodQuery next) (sym (core_reads found from joins filter group names next))
        (core_good next found (from_part names next (source_read from) (map join_read joins)) filter group
        (from_good next (source_read from) (map join_read joins) (source_good from is) (all_joins_good joins more)))

    pub source_good : {d : ℕ} {ts us : List Token} (source : FromItem) → IsSource d ts source us
        → IsGoodPart (source_read source)
    source_good source (g.named {name = name} {alias = alias} is may) next =
        subst (IsGoodSource next) (sym (named_reads name alias names next)) (object_good name next)
    source_good source (g.subquery {inner = inner} {alias = alias} is as_name) next =
        subst (IsGoodSource next) (sym (inner_reads inner alias names next))
        (query_source_good next (bound_query inner names next) (query_good inner is next))

    all_joins_good : {d : ℕ} {ts us : List Token} (joins : List Join) → AreJoins d ts joins us
        → AllByRecursion (λ j. IsGoodPart j.source) (map join_read joins)
    all_joins_good joins g.no_joins = tt
    all_joins_good (j ∷ joins) (g.more_joins {source = source} {x = x} words is on more) =
        (subst IsGoodPart (sym (join_reads source x)) (source_good source is), all_joins_good joins more)
