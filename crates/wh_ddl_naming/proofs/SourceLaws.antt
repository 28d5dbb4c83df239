-- The sources of a query are the objects of its names.
--     IsSourceNamed     a name is that of an object that may be read
--     id_in             the id of the object of a name; 0 where there is none
--     IsSourced         some sources are the objects of written names, and where none is found wrong each may be read
--     query_sourced, query_sources     so it is of a query
use Rattle.std.proofs.Common.{◌≡◌, ℕ, ◌+◌, Bool, true, false, List, [], ◌∷◌, ◌++◌, map, length, Option, Some, None}
use Rattle.std.proofs.Common.{refl}
use Rattle.std.proofs.Common.{sym, ap, subst, ◌∙◌, IsTrue, append_assoc}
use Rattle.std.specs.Prelude.{not}
use Rattle.std.specs.List.{AllByRecursion}
use Rattle.std.specs.Option.{IsSomeAnd, option_map_or}
use Rattle.std.proofs.lemmas.List.{map-append}
use Rattle.wh_value.proofs.ListLaws.{all_append}
use Rattle.wh_ast.specs.declared.expr.Expr.{Expr}
use Rattle.wh_ast.specs.declared.query.Item.{Item}
use Rattle.wh_ast.specs.declared.query.FromItem.{FromItem, roll-FromItem, map-FromItem}
use Rattle.wh_ast.specs.declared.query.FromItem.TheOpen.{FromItem-F}
use Rattle.wh_ast.specs.declared.query.Join.{Join, roll-Join}
use Rattle.wh_ast.specs.declared.query.Core.{Core, roll-Core}
use Rattle.wh_ast.specs.declared.query.Query.{Query, roll-Query, ind-Query}
use Rattle.wh_naming.specs.Findings.{Name, Findings, either, name_if, followed}
use Rattle.wh_naming.specs.Scope.{Named, named, is_source}
use Rattle.wh_naming.specs.Select.{BoundQuery, BoundSource, SourcePart, JoinPart, QueryReading, Joined, query_source}
use Rattle.wh_naming.specs.Select.{object_source, first_entry, with_entry, with_joins, from_part, bound_core, united}
use Rattle.wh_naming.specs.Select.{more_cores, all_cores, bound_query, all_shown, nothing_shown}
use Rattle.wh_naming.specs.Changes.{source_part}
use Rattle.wh_ddl_naming.specs.Names.{all_names, source_names, join_names, core_names, query_names}
use Rattle.wh_ddl_naming.proofs.QueryLaws.{firsts, join_part, core_reading, query_reads, core_reads, join_reads}
use Rattle.wh_ddl_naming.proofs.QueryLaws.{named_reads, inner_reads, query_writes, core_writes, join_writes}
use Rattle.wh_ddl_naming.proofs.QueryLaws.{named_writes, inner_writes}

-- ---- findings

either_none : {A : Type 0} (a b : Option A) → either a b ≡ None → (a ≡ None) × (b ≡ None)
either_none None b none = (refl, none)
either_none (Some x) b none = absurd cc

-- no name is found wrong as an object's
abbrev pub NamesRight : Findings → Type 0
NamesRight f = (f.unknown_object ≡ None) × (f.wrong_kind ≡ None)

-- by the unknown and the wrong names of each of two parts
both_right : (a b c d : Option Name) → (either a b ≡ None) × (either c d ≡ None)
    → ((a ≡ None) × (c ≡ None)) × ((b ≡ None) × (d ≡ None))
both_right a b c d right =
    let unknown = either_none a b right.0 in
    let wrong = either_none c d right.1 in
    ((unknown.0, wrong.0), (unknown.1, wrong.1))

-- ---- over some objects

module _ (names : List Named) where
  abbrev pub id_in : Name → ℕ
  id_in name = option_map_or (λ (n : Named). n.id) (named names name) 0

  abbrev pub IsSourceNamed : Name → Type 0
  IsSourceNamed name = IsSomeAnd (named names name) (λ (n : Named). IsTrue (is_source n.kind))

  pub record IsSourced (sources : List ℕ) (f : Findings) (written : List Name) : Type 0 where
    pub ids : sources ≡ map id_in written
    pub all : NamesRight f → AllByRecursion IsSourceNamed written

  -- with more found behind it
  followed_sourced : (sources : List ℕ) (f g : Findings) (written : List Name) → IsSourced sources f written
      → IsSourced sources (followed f g) written
  followed_sourced sources f g written is =
      record { ids = is.ids; all = λ right. is.all (both_right f.unknown_object _ f.wrong_kind _ right).0 }

  -- one behind the other
  appended_sourced : (a b : List ℕ) (f g h : Findings) (xs ys : List Name)
      → (NamesRight h → NamesRight f × NamesRight g) → IsSourced a f xs → IsSourced b g ys
      → IsSourced (a ++ b) h (xs ++ ys)
  appended_sourced a b f g h xs ys right left is = record {
    ids = ap (λ (l : List ℕ). l ++ b) left.ids ∙ ap (λ (l : List ℕ). map id_in xs ++ l) is.ids
        ∙ sym (map-append id_in xs ys);
    all = λ all. all_append IsSourceNamed xs ys (left.all (right all).0) (is.all (right all).1);
  }

  -- ---- FROM

  source_of : (name : Name) (number : ℕ) (found : Option Named) → named names name ≡ found
      → IsSourced (object_source name number found).sources (object_source name number found).findings (name ∷ [])
  source_of name number None is = record {
    ids = ap (λ (n : ℕ). n ∷ []) (ap (λ (found : Option Named). option_map_or (λ (n : Named). n.id) found 0) (sym is));
    all = λ right. absurd (cc right.0);
  }
  source_of name number (Some object) is = record {
    ids = ap (λ (n : ℕ). n ∷ []) (ap (λ (found : Option Named). option_map_or (λ (n : Named). n.id) found 0) (sym is));
    all = λ right. (
      subst (λ (found : Option Named). IsSomeAnd found (λ (n : Named). IsTrue (is_source n.kind))) (sym is)
          (readable (is_source object.kind) right.1),
      tt,
    );
  }
    where
      readable : (b : Bool) → name_if (not b) name ≡ None → b ≡ true
      readable true none = refl
      readable false none = absurd cc

  abbrev IsSourcedPart : SourcePart → List Name → Type 0
  IsSourcedPart p written =
      (next : ℕ) → IsSourced (p.reading names next).sources (p.reading names next).findings written

  abbrev IsSourcedJoin : JoinPart → List Name → Type 0
  IsSourcedJoin j written = IsSourcedPart j.source written

  abbrev IsSourcedReading : QueryReading → List Name → Type 0
  IsSourcedReading r written = (next : ℕ) → IsSourced (r names next).sources (r names next).findings written

  -- parts with the names that they write
  abbrev AllSourced : {T : Type 0} → (T → List Name → Type 0) → List T → List (List Name) → Type 0
  AllSourced P [] [] = Unit {0}
  AllSourced P [] (w ∷ ws) = ⊥
  AllSourced P (t ∷ ts) [] = ⊥
  AllSourced P (t ∷ ts) (w ∷ ws) = P t w × AllSourced P ts ws

  entry_sourced : (left : Joined) (j : JoinPart) (joins : List JoinPart) (s : BoundSource) (xs ys : List Name)
      → IsSourced left.sources left.findings xs → IsSourced s.sources s.findings ys
      → IsSourced (with_entry left j joins s).sources (with_entry left j joins s).findings (xs ++ ys)
  entry_sourced left j joins s xs ys before is =
      appended_sourced left.sources s.sources left.findings s.findings (with_entry left j joins s).findings xs ys
      (λ right.
      let parts = both_right left.findings.unknown_object _ left.findings.wrong_kind _ right in
      let behind = both_right (either s.findings.unknown_object _) _ (either s.findings.wrong_kind _) _ parts.1 in
      (parts.0, (both_right s.findings.unknown_object _ s.findings.wrong_kind _ behind.0).0)) before is

  joins_sourced : (next : ℕ) (left : Joined) (joins : List JoinPart) (xs : List Name) (written : List (List Name))
      → IsSourced left.sources left.findings xs → AllSourced IsSourcedJoin joins written
      → IsSourced (with_joins names next left joins).sources (with_joins names next left joins).findings
      (xs ++ all_names written)
  joins_sourced next left [] xs [] before all =
      subst (IsSourced left.sources left.findings) (sym (append_nil xs)) before
    where
      append_nil : (xs : List Name) → xs ++ [] ≡ xs
      append_nil [] = refl
      append_nil (x ∷ xs) = ap (λ (l : List Name). x ∷ l) (append_nil xs)
  joins_sourced next left [] xs (w ∷ ws) before all = absurd all
  joins_sourced next left (j ∷ js) xs [] before all = absurd all
  joins_sourced next left (j ∷ js) xs (w ∷ ws) before all =
      let s : BoundSource = j.source.reading names (next + length left.sources) in
      subst (IsSourced (with_joins names next (with_entry left j js s) js).sources
      (with_joins names next (with_entry left j js s) js).findings) (append_assoc xs w (all_names ws))
      (joins_sourced next (with_entry left j js s) js (xs ++ w) ws
      (entry_sourced left j js s xs w before (all.0 (next + length left.sources))) all.1)

  from_sourced : (next : ℕ) (part : SourcePart) (joins : List JoinPart) (xs : List Name) (written : List (List Name))
      → IsSourcedPart part xs → AllSourced IsSourcedJoin joins written
      → IsSourced (from_part names next part joins).sources (from_part names next part joins).findings
      (xs ++ all_names written)
  from_sourced next part joins xs written first all =
      joins_sourced next (first_entry part joins (part.reading names next)) joins xs written
      (followed_sourced _ (part.reading names next).findings _ xs (first next)) all

  core_sourced : (found : List Item) (j : Joined) (filter : Option Expr) (group : List Expr) (written : List Name)
      → IsSourced j.sources j.findings written
      → IsSourced (bound_core found j filter group).sources (bound_core found j filter group).findings written
  core_sourced found j filter group written is = record {
    ids = is.ids;
    all = λ right. is.all (both_right j.findings.unknown_object _ j.findings.wrong_kind _
        (both_right (all_shown j.entries nothing_shown found).findings.unknown_object _
        (all_shown j.entries nothing_shown found).findings.wrong_kind _ right).1).0;
  }

  -- ---- UNION ALL

  united_sourced : (a b : BoundQuery) (xs ys : List Name) → IsSourced a.sources a.findings xs
      → IsSourced b.sources b.findings ys → IsSourced (united a b).sources (united a b).findings (xs ++ ys)
  united_sourced a b xs ys left is =
      appended_sourced a.sources b.sources a.findings b.findings (united a b).findings xs ys
      (λ right. both_right a.findings.unknown_object b.findings.unknown_object a.findings.wrong_kind
      b.findings.wrong_kind (both_right (either a.findings.unknown_object b.findings.unknown_object) _
      (either a.findings.wrong_kind b.findings.wrong_kind) _ right).0) left is

  more_sourced : (next : ℕ) (q : BoundQuery) (cores : List QueryReading) (xs : List Name) (written : List (List Name))
      → IsSourced q.sources q.findings xs → AllSourced IsSourcedReading cores written
      → IsSourced (more_cores names next q cores).sources (more_cores names next q cores).findings
      (xs ++ all_names written)
  more_sourced next q [] xs [] before all =
      subst (IsSourced q.sources q.findings) (sym (append_nil xs)) before
    where
      append_nil : (xs : List Name) → xs ++ [] ≡ xs
      append_nil [] = refl
      append_nil (x ∷ xs) = ap (λ (l : List Name). x ∷ l) (append_nil xs)
  more_sourced next q [] xs (w ∷ ws) before all = absurd all
  more_sourced next q (core ∷ cores) xs [] before all = absurd all
  more_sourced next q (core ∷ cores) xs (w ∷ ws) before all =
      let b : BoundQuery = core names (next + length q.sources) in
      subst (IsSourced (more_cores names next (united q b) cores).sources
      (more_cores names next (united q b) cores).findings) (append_assoc xs w (all_names ws))
      (more_sourced next (united q b) cores (xs ++ w) ws
      (united_sourced q b xs w before (all.0 (next + length q.sources))) all.1)

  cores_sourced : (next : ℕ) (cores : List QueryReading) (written : List (List Name))
      → AllSourced IsSourcedReading cores written
      → IsSourced (all_cores names next cores).sources (all_cores names next cores).findings (all_names written)
  cores_sourced next [] [] all = record { ids = refl; all = λ right. tt }
  cores_sourced next [] (w ∷ ws) all = absurd all
  cores_sourced next (core ∷ cores) [] all = absurd all
  cores_sourced next (core ∷ cores) (w ∷ ws) all = more_sourced next (core names next) cores w ws (all.0 next) all.1

  -- ---- each tree

  abbrev SourceLaw : FromItem → Type 0
  SourceLaw s = IsSourcedPart (source_part s) (source_names s)

  abbrev JoinLaw : Join → Type 0
  JoinLaw j = IsSourcedJoin (join_part j) (join_names j)

  abbrev CoreLaw : Core → Type 0
  CoreLaw c = IsSourcedReading (core_reading c) (core_names c)

  abbrev QueryLaw : Query → Type 0
  QueryLaw q = IsSourcedReading (bound_query q) (query_names q)

  all_joins : (joins : List Join) → AllByRecursion JoinLaw joins
      → AllSourced IsSourcedJoin (map join_part joins) (map join_names joins)
  all_joins [] each = tt
  all_joins (j ∷ js) each = (each.0, all_joins js each.1)

  all_read : (cores : List Core) → AllByRecursion CoreLaw cores
      → AllSourced IsSourcedReading (map core_reading cores) (map core_names cores)
  all_read [] each = tt
  all_read (c ∷ cs) each = (each.0, all_read cs each.1)

  abbrev SourcedBound : BoundSource → List Name → Type 0
  SourcedBound s written = IsSourced s.sources s.findings written

  abbrev SourcedQuery : BoundQuery → List Name → Type 0
  SourcedQuery q written = IsSourced q.sources q.findings written

  named_law : (name : Name) (alias : Option Name) → SourceLaw (roll-FromItem (FromItem-F.Named name alias))
  named_law name alias next =
      subst (λ (s : BoundSource). SourcedBound s (source_names (roll-FromItem (FromItem-F.Named name alias))))
      (sym (named_reads name alias names next))
      (subst (SourcedBound (object_source name next (named names name))) (sym (named_writes name alias))
      (source_of name next (named names name) refl))

  inner_law : (inner : Query) (alias : Name) → QueryLaw inner
      → SourceLaw (roll-FromItem (FromItem-F.Subquery inner alias))
  inner_law inner alias is next =
      subst (λ (s : BoundSource). SourcedBound s (source_names (roll-FromItem (FromItem-F.Subquery inner alias))))
      (sym (inner_reads inner alias names next))
      (subst (SourcedBound (query_source (bound_query inner names next))) (sym (inner_writes inner alias)) (is next))

  join_law : (source : FromItem) (on : Expr) → SourceLaw source
      → JoinLaw (roll-Join (record { source = source; on = on }))
  join_law source on is =
      subst (λ (p : SourcePart). IsSourcedPart p (join_names (roll-Join (record { source = source; on = on }))))
      (sym (join_reads source on))
      (subst (IsSourcedPart (source_part source)) (sym (join_writes source on)) is)

  core_law : (found : List Item) (from : FromItem) (joins : List Join) (filter : Option Expr) (group : List Expr)
      → SourceLaw from → AllByRecursion JoinLaw joins
      → CoreLaw (roll-Core (record { items = found; from = from; joins = joins; filter = filter; group = group }))
  core_law found from joins filter group first each next =
      subst (λ (q : BoundQuery). SourcedQuery q (core_names (roll-Core
      (record { items = found; from = from; joins = joins; filter = filter; group = group }))))
      (sym (core_reads found from joins filter group names next))
      (subst (SourcedQuery (bound_core found (from_part names next (source_part from) (map join_part joins)) filter
      group)) (sym (core_writes found from joins filter group))
      (core_sourced found (from_part names next (source_part from) (map join_part joins)) filter group _
      (from_sourced next (source_part from) (map join_part joins) (source_names from) (map join_names joins) first
      (all_joins joins each))))

  query_law : (cores : List Core) → AllByRecursion CoreLaw cores → QueryLaw (roll-Query (record { cores = cores }))
  query_law cores each next =
      subst (λ (q : BoundQuery). SourcedQuery q (query_names (roll-Query (record { cores = cores }))))
      (sym (query_reads cores names next))
      (subst (SourcedQuery (all_cores names next (map core_reading cores))) (sym (query_writes cores))
      (cores_sourced next (map core_reading cores) (map core_names cores) (all_read cores each)))

  -- y is the layer x with a proof beside each part

  abbrev Proved : {T : Type 0} → (T → Type 0) → Type 0
  Proved {T} P = (t : T) × P t

  each_source : (y : FromItem-F (Proved SourceLaw) (Proved CoreLaw) (Proved JoinLaw) (Proved QueryLaw))
      → SourceLaw (roll-FromItem (map-FromItem (Proved SourceLaw) (Proved CoreLaw) (Proved JoinLaw)
      (Proved QueryLaw) FromItem Core Join Query (λ e. e.0) (λ e. e.0) (λ e. e.0) (λ e. e.0) y))
  each_source (FromItem-F.Named name alias) = named_law name alias
  each_source (FromItem-F.Subquery inner alias) = inner_law inner.0 alias inner.1

  pub query_sourced : (q : Query) → QueryLaw q
  query_sourced = ind-Query SourceLaw CoreLaw JoinLaw QueryLaw
      (λ x y is. subst (λ z. SourceLaw (roll-FromItem z)) is (each_source y))
      (λ x y is. subst (λ z. CoreLaw (roll-Core z)) is
      (core_law y.items y.from.0 (map (λ e. e.0) y.joins) y.filter y.group y.from.1 (firsts JoinLaw y.joins)))
      (λ x y is. subst (λ z. JoinLaw (roll-Join z)) is (join_law y.source.0 y.on y.source.1))
      (λ x y is. subst (λ z. QueryLaw (roll-Query z)) is
      (query_law (map (λ e. e.0) y.cores) (firsts CoreLaw y.cores)))

  pub query_sources : (q : Query) (next : ℕ) → (bound_query q names next).sources ≡ map id_in (query_names q)
  query_sources q next = (query_sourced q next).ids
