-- What a query stands for hangs on the objects of its names alone.
--     all_in_front, all_behind        what holds of each of two lists' elements holds of each of either's
--     query_alike, source_alike       so it is of a query, and of an entry of FROM
use Rattle.std.proofs.Common.{◌≡◌, ℕ, ◌+◌, List, [], ◌∷◌, ◌++◌, map, length, Option, refl, sym, ap, subst, ◌∙◌}
use Rattle.std.specs.List.{AllByRecursion}
use Rattle.wh_ast.specs.declared.expr.Expr.{Expr}
use Rattle.wh_ast.specs.declared.query.Item.{Item}
use Rattle.wh_ast.specs.declared.query.FromItem.{FromItem, roll-FromItem, fold-roll-FromItem}
use Rattle.wh_ast.specs.declared.query.FromItem.{map-FromItem, ind-FromItem}
use Rattle.wh_ast.specs.declared.query.FromItem.TheOpen.{FromItem-F}
use Rattle.wh_ast.specs.declared.query.Join.{Join, roll-Join, fold-Join, fold-roll-Join}
use Rattle.wh_ast.specs.declared.query.Core.{Core, roll-Core, fold-Core, fold-roll-Core}
use Rattle.wh_ast.specs.declared.query.Query.{Query, roll-Query, fold-roll-Query, ind-Query}
use Rattle.wh_naming.specs.Findings.{Name}
use Rattle.wh_naming.specs.Scope.{Named, named}
use Rattle.wh_naming.specs.Select.{BoundQuery, BoundSource, SourcePart, JoinPart, QueryReading, Joined, query_source}
use Rattle.wh_naming.specs.Select.{object_source, named_source, first_entry, with_entry, with_joins, from_part}
use Rattle.wh_naming.specs.Select.{bound_core, united, more_cores, all_cores}
use Rattle.wh_naming.specs.Select.{source_step, core_step, join_step, query_step, bound_query}
use Rattle.wh_naming.specs.Changes.{source_part}
use Rattle.wh_ddl_naming.specs.Names.{all_names, names_in_source, names_in_join, names_in_core, names_in_query}
use Rattle.wh_ddl_naming.specs.Names.{source_names, join_names, core_names, query_names}

-- ---- lists

pub all_in_front : {X : Type 0} (P : X → Type 0) (xs ys : List X) → AllByRecursion P (xs ++ ys) → AllByRecursion P xs
all_in_front P [] ys h = tt
all_in_front P (x ∷ xs) ys h = (h.0, all_in_front P xs ys h.1)

pub all_behind : {X : Type 0} (P : X → Type 0) (xs ys : List X) → AllByRecursion P (xs ++ ys) → AllByRecursion P ys
all_behind P [] ys h = h
all_behind P (x ∷ xs) ys h = all_behind P xs ys h.1

-- of elements with a proof each
pub firsts : {X : Type 0} (P : X → Type 0) (es : List ((x : X) × P x)) → AllByRecursion P (map (λ e. e.0) es)
firsts P [] = tt
firsts P (e ∷ es) = (e.1, firsts P es)

-- ---- trees, layer by layer

abbrev pub join_part : Join → JoinPart
join_part j = fold-Join SourcePart QueryReading JoinPart QueryReading source_step core_step join_step query_step j

abbrev pub core_reading : Core → QueryReading
core_reading c = fold-Core SourcePart QueryReading JoinPart QueryReading source_step core_step join_step query_step c

pub query_reads : (cores : List Core) (objects : List Named) (next : ℕ)
    → bound_query (roll-Query (record { cores = cores })) objects next
    ≡ all_cores objects next (map core_reading cores)
unfolding query_step
query_reads cores objects next = ap (λ (r : QueryReading). r objects next)
    (fold-roll-Query SourcePart QueryReading JoinPart QueryReading source_step core_step join_step query_step
    (record { cores = cores }))

pub core_reads : (found : List Item) (from : FromItem) (joins : List Join) (filter : Option Expr) (group : List Expr)
    (objects : List Named) (next : ℕ)
    → core_reading (roll-Core (record { items = found; from = from; joins = joins; filter = filter; group = group }))
    objects next
    ≡ bound_core found (from_part objects next (source_part from) (map join_part joins)) filter group
unfolding core_step
core_reads found from joins filter group objects next = ap (λ (r : QueryReading). r objects next)
    (fold-roll-Core SourcePart QueryReading JoinPart QueryReading source_step core_step join_step query_step
    (record { items = found; from = from; joins = joins; filter = filter; group = group }))

pub join_reads : (source : FromItem) (on : Expr)
    → (join_part (roll-Join (record { source = source; on = on }))).source ≡ source_part source
unfolding join_step
join_reads source on = ap (λ (j : JoinPart). j.source)
    (fold-roll-Join SourcePart QueryReading JoinPart QueryReading source_step core_step join_step query_step
    (record { source = source; on = on }))

pub named_reads : (name : Name) (alias : Option Name) (objects : List Named) (next : ℕ)
    → (source_part (roll-FromItem (FromItem-F.Named name alias))).reading objects next
    ≡ named_source name objects next
unfolding source_step
named_reads name alias objects next = ap (λ (p : SourcePart). p.reading objects next)
    (fold-roll-FromItem SourcePart QueryReading JoinPart QueryReading source_step core_step join_step query_step
    (FromItem-F.Named name alias))

pub inner_reads : (inner : Query) (alias : Name) (objects : List Named) (next : ℕ)
    → (source_part (roll-FromItem (FromItem-F.Subquery inner alias))).reading objects next
    ≡ query_source (bound_query inner objects next)
unfolding source_step
inner_reads inner alias objects next = ap (λ (p : SourcePart). p.reading objects next)
    (fold-roll-FromItem SourcePart QueryReading JoinPart QueryReading source_step core_step join_step query_step
    (FromItem-F.Subquery inner alias))

pub query_writes : (cores : List Core)
    → query_names (roll-Query (record { cores = cores })) ≡ all_names (map core_names cores)
query_writes cores = fold-roll-Query (List Name) (List Name) (List Name) (List Name) names_in_source names_in_core
    names_in_join names_in_query (record { cores = cores })

pub core_writes : (found : List Item) (from : FromItem) (joins : List Join) (filter : Option Expr) (group : List Expr)
    → core_names (roll-Core (record { items = found; from = from; joins = joins; filter = filter; group = group }))
    ≡ source_names from ++ all_names (map join_names joins)
core_writes found from joins filter group = fold-roll-Core (List Name) (List Name) (List Name) (List Name)
    names_in_source names_in_core names_in_join names_in_query
    (record { items = found; from = from; joins = joins; filter = filter; group = group })

pub join_writes : (source : FromItem) (on : Expr)
    → join_names (roll-Join (record { source = source; on = on })) ≡ source_names source
join_writes source on = fold-roll-Join (List Name) (List Name) (List Name) (List Name) names_in_source names_in_core
    names_in_join names_in_query (record { source = source; on = on })

pub named_writes : (name : Name) (alias : Option Name)
    → source_names (roll-FromItem (FromItem-F.Named name alias)) ≡ name ∷ []
named_writes name alias = fold-roll-FromItem (List Name) (List Name) (List Name) (List Name) names_in_source
    names_in_core names_in_join names_in_query (FromItem-F.Named name alias)

pub inner_writes : (inner : Query) (alias : Name)
    → source_names (roll-FromItem (FromItem-F.Subquery inner alias)) ≡ query_names inner
inner_writes inner alias = fold-roll-FromItem (List Name) (List Name) (List Name) (List Name) names_in_source
    names_in_core names_in_join names_in_query (FromItem-F.Subquery inner alias)

-- ---- over two lists of objects; those of some names are the same in both

module _ (a b : List Named) where
  abbrev pub SameIn : List Name → Type 0
  SameIn names = AllByRecursion (λ n. named a n ≡ named b n) names

  abbrev ReadsAlike : SourcePart → Type 0
  ReadsAlike p = (next : ℕ) → p.reading a next ≡ p.reading b next

  abbrev IsAlike : QueryReading → Type 0
  IsAlike r = (next : ℕ) → r a next ≡ r b next

  -- ---- FROM

  joins_alike : (next : ℕ) (left : Joined) (joins : List JoinPart) → AllByRecursion (λ j. ReadsAlike j.source) joins
      → with_joins a next left joins ≡ with_joins b next left joins
  joins_alike next left [] same = refl
  joins_alike next left (j ∷ js) same =
      let number = next + length left.sources in
      ap (λ (s : BoundSource). with_joins a next (with_entry left j js s) js) (same.0 number)
      ∙ joins_alike next (with_entry left j js (j.source.reading b number)) js same.1

  from_alike : (next : ℕ) (part : SourcePart) (joins : List JoinPart) → ReadsAlike part
      → AllByRecursion (λ j. ReadsAlike j.source) joins → from_part a next part joins ≡ from_part b next part joins
  from_alike next part joins first same =
      ap (λ (s : BoundSource). with_joins a next (first_entry part joins s) joins) (first next)
      ∙ joins_alike next (first_entry part joins (part.reading b next)) joins same

  -- ---- UNION ALL

  more_alike : (next : ℕ) (q : BoundQuery) (cores : List QueryReading) → AllByRecursion IsAlike cores
      → more_cores a next q cores ≡ more_cores b next q cores
  more_alike next q [] same = refl
  more_alike next q (core ∷ cores) same =
      let number = next + length q.sources in
      ap (λ (r : BoundQuery). more_cores a next (united q r) cores) (same.0 number)
      ∙ more_alike next (united q (core b number)) cores same.1

  cores_alike : (next : ℕ) (cores : List QueryReading) → AllByRecursion IsAlike cores
      → all_cores a next cores ≡ all_cores b next cores
  cores_alike next [] same = refl
  cores_alike next (core ∷ cores) same =
      ap (λ (q : BoundQuery). more_cores a next q cores) (same.0 next) ∙ more_alike next (core b next) cores same.1

  -- ---- of each layer: it is read alike where the objects of its names are the same

  abbrev SourceAlike : FromItem → Type 0
  SourceAlike s = SameIn (source_names s) → ReadsAlike (source_part s)

  abbrev JoinAlike : Join → Type 0
  JoinAlike j = SameIn (join_names j) → ReadsAlike (join_part j).source

  abbrev CoreAlike : Core → Type 0
  CoreAlike c = SameIn (core_names c) → IsAlike (core_reading c)

  abbrev QueryAlike : Query → Type 0
  QueryAlike q = SameIn (query_names q) → IsAlike (bound_query q)

  all_joins : (joins : List Join) → AllByRecursion JoinAlike joins → SameIn (all_names (map join_names joins))
      → AllByRecursion (λ j. ReadsAlike j.source) (map join_part joins)
  all_joins [] each same = tt
  all_joins (j ∷ js) each same = (
    each.0 (all_in_front _ (join_names j) (all_names (map join_names js)) same),
    all_joins js each.1 (all_behind _ (join_names j) (all_names (map join_names js)) same),
  )

  all_read : (cores : List Core) → AllByRecursion CoreAlike cores → SameIn (all_names (map core_names cores))
      → AllByRecursion IsAlike (map core_reading cores)
  all_read [] each same = tt
  all_read (c ∷ cs) each same = (
    each.0 (all_in_front _ (core_names c) (all_names (map core_names cs)) same),
    all_read cs each.1 (all_behind _ (core_names c) (all_names (map core_names cs)) same),
  )

  named_law : (name : Name) (alias : Option Name) → SourceAlike (roll-FromItem (FromItem-F.Named name alias))
  named_law name alias same next =
      let here : SameIn (name ∷ []) = subst SameIn (named_writes name alias) same in
      named_reads name alias a next ∙ ap (object_source name next) here.0 ∙ sym (named_reads name alias b next)

  inner_law : (inner : Query) (alias : Name) → QueryAlike inner
      → SourceAlike (roll-FromItem (FromItem-F.Subquery inner alias))
  inner_law inner alias alike same next =
      inner_reads inner alias a next
      ∙ ap query_source (alike (subst SameIn (inner_writes inner alias) same) next)
      ∙ sym (inner_reads inner alias b next)

  join_law : (source : FromItem) (on : Expr) → SourceAlike source
      → JoinAlike (roll-Join (record { source = source; on = on }))
  join_law source on alike same =
      subst ReadsAlike (sym (join_reads source on)) (alike (subst SameIn (join_writes source on) same))

  core_law : (found : List Item) (from : FromItem) (joins : List Join) (filter : Option Expr) (group : List Expr)
      → SourceAlike from → AllByRecursion JoinAlike joins
      → CoreAlike (roll-Core (record { items = found; from = from; joins = joins; filter = filter; group = group }))
  core_law found from joins filter group first each same next =
      let here : SameIn (source_names from ++ all_names (map join_names joins)) =
      subst SameIn (core_writes found from joins filter group) same in
      core_reads found from joins filter group a next
      ∙ ap (λ (j : Joined). bound_core found j filter group) (from_alike next (source_part from) (map join_part joins)
      (first (all_in_front _ (source_names from) (all_names (map join_names joins)) here))
      (all_joins joins each (all_behind _ (source_names from) (all_names (map join_names joins)) here)))
      ∙ sym (core_reads found from joins filter group b next)

  query_law : (cores : List Core) → AllByRecursion CoreAlike cores → QueryAlike (roll-Query (record { cores = cores }))
  query_law cores each same next =
      query_reads cores a next
      ∙ cores_alike next (map core_reading cores) (all_read cores each (subst SameIn (query_writes cores) same))
      ∙ sym (query_reads cores b next)

  -- ---- of each tree: y is the layer x with a proof beside each part

  abbrev Proved : {T : Type 0} → (T → Type 0) → Type 0
  Proved {T} P = (t : T) × P t

  each_source : (y : FromItem-F (Proved SourceAlike) (Proved CoreAlike) (Proved JoinAlike) (Proved QueryAlike))
      → SourceAlike (roll-FromItem (map-FromItem (Proved SourceAlike) (Proved CoreAlike) (Proved JoinAlike)
      (Proved QueryAlike) FromItem Core Join Query (λ e. e.0) (λ e. e.0) (λ e. e.0) (λ e. e.0) y))
  each_source (FromItem-F.Named name alias) = named_law name alias
  each_source (FromItem-F.Subquery inner alias) = inner_law inner.0 alias inner.1

  pub query_alike : (q : Query) → QueryAlike q
  query_alike = ind-Query SourceAlike CoreAlike JoinAlike QueryAlike
      (λ x y is. subst (λ z. SourceAlike (roll-FromItem z)) is (each_source y))
      (λ x y is. subst (λ z. CoreAlike (roll-Core z)) is
      (core_law y.items y.from.0 (map (λ e. e.0) y.joins) y.filter y.group y.from.1 (firsts JoinAlike y.joins)))
      (λ x y is. subst (λ z. JoinAlike (roll-Join z)) is (join_law y.source.0 y.on y.source.1))
      (λ x y is. subst (λ z. QueryAlike (roll-Query z)) is
      (query_law (map (λ e. e.0) y.cores) (firsts CoreAlike y.cores)))

  pub source_alike : (s : FromItem) → SourceAlike s
  source_alike = ind-FromItem SourceAlike CoreAlike JoinAlike QueryAlike
      (λ x y is. subst (λ z. SourceAlike (roll-FromItem z)) is (each_source y))
      (λ x y is. subst (λ z. CoreAlike (roll-Core z)) is
      (core_law y.items y.from.0 (map (λ e. e.0) y.joins) y.filter y.group y.from.1 (firsts JoinAlike y.joins)))
      (λ x y is. subst (λ z. JoinAlike (roll-Join z)) is (join_law y.source.0 y.on y.source.1))
      (λ x y is. subst (λ z. QueryAlike (roll-Query z)) is
      (query_law (map (λ e. e.0) y.cores) (firsts CoreAlike y.cores)))
