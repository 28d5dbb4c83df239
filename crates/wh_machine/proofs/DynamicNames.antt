-- The query of a new dynamic table binds over the objects of its own names as it did over all.
--     IsSeenBy        an object as a dynamic table's query sees it
--     sources_live    its sources live
--     new_binds       a query in which no name and no type is found wrong binds to its columns
use Rattle.std.proofs.Common.{◌≡◌, ℕ, Bool, true, false, cond, List, [], ◌∷◌, map, Option, Some}
use Rattle.std.proofs.Common.{None}
use Rattle.std.proofs.Common.{option_map, refl, sym, ap, subst, ◌∙◌, IsTrue}
use Rattle.std.specs.Prelude.{bytes_eq}
use Rattle.std.specs.List.{AllByRecursion}
use Rattle.std.specs.Option.{IsSomeAnd, option_map_or}
use Rattle.std.proofs.lemmas.Slice.Eq.{bytes_eq-Decides}
use Rattle.wh_value.specs.Column.{Column}
use Rattle.wh_ast.specs.declared.query.Query.{Query}
use Rattle.wh_naming.specs.Findings as naming
use Rattle.wh_naming.specs.Findings.{Name, Findings, UnknownName, WrongKind, NameTaken, followed, either}
use Rattle.wh_naming.specs.Scope.{ObjectKind, Named, named, is_source}
use Rattle.wh_naming.specs.Select.{BoundQuery, bound_query, column_of}
use Rattle.wh_ddl_naming.specs.Names.{query_names}
use Rattle.wh_ddl_naming.specs.Tables.{column_findings}
use Rattle.wh_ddl_naming.specs.DynamicTables.{kind_inside, inside}
use Rattle.wh_ddl_naming.proofs.SourceLaws.{NamesRight, id_in, IsSourceNamed, IsSourced, query_sourced}
use Rattle.wh_state.specs.State.{TableKind, StreamKind, TaskKind, DynamicKind, at_id, columns_in, table_in}
use Rattle.wh_state.specs.Dynamic.{Source}
use Rattle.wh_state.specs.Bound.{source_kind, names_among, IsLiveSource, HasOneId, but_taken, Binds}
use Rattle.wh_state.specs.Stored.{StoredKind, StoredObject, object_meant, kind_meant}
use Rattle.wh_state.proofs.AllLaws.{all_map}
use Rattle.wh_machine.specs.Names.{object_kind, names_from}
use Rattle.wh_machine.specs.Dynamics.{sources_named}
use Rattle.wh_machine.proofs.MadeQuery.{named_inside, query_same}
use Rattle.wh_state.proofs.MeaningLaws.{names_meant}
use Rattle.wh_machine.proofs.NamedLaws.{IsObjectOf, object_named}
use Rattle.wh_machine.proofs.PassedLaws.{both_none, no_map}

-- ---- an object of a name

has_name : (xs : List Named) (name : Name) (found : Named) → named xs name ≡ Some found → found.name ≡ name
has_name [] name found is = absurd cc
has_name (x ∷ xs) name found is = by_test (bytes_eq x.name name) refl is (has_name xs name found)
  where
    by_test : (b : Bool) → bytes_eq x.name name ≡ b → cond b (Some x) (named xs name) ≡ Some found
        → (named xs name ≡ Some found → found.name ≡ name) → found.name ≡ name
    by_test true same is rest =
        let here : x ≡ found = cc in ap (λ (n : Named). n.name) (sym here) ∙ (bytes_eq-Decides x.name name).0 same
    by_test false same is rest = rest is

inside_kind : (k : StoredKind) → kind_inside (object_kind (kind_meant k)) ≡ source_kind k
inside_kind (TableKind t) = refl
inside_kind (StreamKind s) = refl
inside_kind (TaskKind t) = refl
inside_kind (DynamicKind d t) = refl

-- a source has rows
source_table : (k : StoredKind) → is_source (source_kind k) ≡ true → IsSomeAnd (table_in k) (λ t. Unit {0})
source_table (TableKind t) is = tt
source_table (StreamKind s) is = absurd cc
source_table (TaskKind t) is = absurd cc
source_table (DynamicKind d t) is = tt

abbrev pub named_with : Name → ℕ → ObjectKind → List Column → Named
named_with name id kind columns = record { name = name; id = id; kind = kind; columns = columns }

named_same : (a b : Name) (id : ℕ) (k l : ObjectKind) (cs ds : List Column) → a ≡ b → k ≡ l → cs ≡ ds
    → named_with a id k cs ≡ named_with b id l ds
named_same a b id k l cs ds name kind columns =
    ap (λ (n : Name). named_with n id k cs) name ∙ ap (λ (x : ObjectKind). named_with b id x cs) kind
    ∙ ap (named_with b id l) columns

module _ (objects : List StoredObject) where
  -- all live objects, as a dynamic table's query sees them
  abbrev pub all_inside : List Named
  all_inside = map inside (names_from 1 (map object_meant objects))

  pub record IsSeenBy (name : Name) (found : Named) : Type 0 where
    pub object : StoredObject
    pub there : at_id objects found.id ≡ Some object
    pub live : object.is_live ≡ true
    pub is : found ≡ named_with name found.id (source_kind object.kind) (columns_in object.kind)

  pub seen_by : (name : Name) (found : Named) → named all_inside name ≡ Some found → IsSeenBy name found
  seen_by name found is =
      by_plain (named (names_from 1 (map object_meant objects)) name) refl
      (sym (named_inside (names_from 1 (map object_meant objects)) name) ∙ is)
    where
      by_plain : (plain : Option Named) → named (names_from 1 (map object_meant objects)) name ≡ plain
          → option_map inside plain ≡ Some found → IsSeenBy name found
      by_plain None plain_is is = absurd cc
      by_plain (Some n) plain_is is =
          let o : IsObjectOf objects name n = object_named objects name n plain_is in
          let same : inside n ≡ found = cc in
          let name_is : n.name ≡ name = has_name (names_from 1 (map object_meant objects)) name n plain_is in
          let kind_is : kind_inside n.kind ≡ source_kind o.object.kind =
          ap kind_inside o.kind ∙ inside_kind o.object.kind in
          subst (IsSeenBy name) same (record {
            object = o.object;
            there = o.there;
            live = o.live;
            is = named_same n.name name n.id (kind_inside n.kind) (source_kind o.object.kind) n.columns
                (columns_in o.object.kind) name_is kind_is o.columns;
          })

  -- ---- the sources of its names

  abbrev numbered_names : List Name → List Source
  numbered_names written = sources_named written (map (id_in all_inside) written)

  abbrev AreSources : List Name → Type 0
  AreSources written = AllByRecursion (IsSourceNamed all_inside) written

  -- of a name that is that of a source
  record IsSourceSeen (name : Name) : Type 0 where
    found : Named
    found_is : named all_inside name ≡ Some found
    id_is : id_in all_inside name ≡ found.id
    seen : IsSeenBy name found
    readable : is_source found.kind ≡ true

  source_seen : (name : Name) → IsSourceNamed all_inside name → IsSourceSeen name
  source_seen name is = by_found (named all_inside name) refl is
    where
      by_found : (found : Option Named) → named all_inside name ≡ found
          → IsSomeAnd found (λ (n : Named). IsTrue (is_source n.kind)) → IsSourceSeen name
      by_found None found_is is = absurd is
      by_found (Some n) found_is is = record {
        found = n;
        found_is = found_is;
        id_is = ap (λ (found : Option Named). option_map_or (λ (n : Named). n.id) found 0) found_is;
        seen = seen_by name n found_is;
        readable = is;
      }

  object_there : (name : Name) (s : IsSourceSeen name) → at_id objects (id_in all_inside name) ≡ Some s.seen.object
  object_there name s = ap (at_id objects) s.id_is ∙ s.seen.there

  sources_live : (written : List Name) → AreSources written
      → AllByRecursion (λ s. IsLiveSource (at_id objects s.id)) (numbered_names written)
  sources_live [] are = tt
  sources_live (w ∷ ws) are = (here (source_seen w are.0), sources_live ws are.1)
    where
      here : IsSourceSeen w → IsLiveSource (at_id objects (id_in all_inside w))
      here s = subst IsLiveSource (sym (object_there w s)) (
        s.seen.live,
        source_table s.seen.object.kind (sym (ap (λ (n : Named). is_source n.kind) s.seen.is) ∙ s.readable),
      )

  ids_named : (written : List Name) → AllByRecursion (λ s. s.id ≡ id_in all_inside s.name) (numbered_names written)
  ids_named [] = tt
  ids_named (w ∷ ws) = (refl, ids_named ws)

  one_id : (sources : List Source) → AllByRecursion (λ s. s.id ≡ id_in all_inside s.name) sources
      → AllByRecursion (HasOneId sources) sources
  one_id sources are =
      all_map (λ s. s.id ≡ id_in all_inside s.name) (HasOneId sources)
      (λ s is. all_map (λ other. other.id ≡ id_in all_inside other.name) (λ other. other.name ≡ s.name
      → other.id ≡ s.id)
      (λ other at same. at ∙ ap (id_in all_inside) same ∙ sym is) sources are) sources are

-- ---- what is found

-- as it is kept, without what is found of its columns' names
pub right_kept : (columns : List Name) (f : Findings)
    → naming.first_failing (followed (column_findings columns) f) ≡ None
    → (NamesRight f × (f.unknown_column ≡ None)) × (naming.first_failing (but_taken f) ≡ None)
unfolding naming.first_failing
right_kept columns f none =
    let objects = both_none (option_map UnknownName f.unknown_object) _ none in
    let kinds = both_none (option_map WrongKind f.wrong_kind) _ objects.1 in
    let unknown = both_none (option_map UnknownName f.unknown_column) _ kinds.1 in
    let taken = both_none (option_map NameTaken (either (column_findings columns).taken f.taken)) _ unknown.1 in (
      (
        (no_map UnknownName f.unknown_object objects.0, no_map WrongKind f.wrong_kind kinds.0),
        no_map UnknownName f.unknown_column unknown.0,
      ),
      all_none (option_map UnknownName f.unknown_object) (option_map WrongKind f.wrong_kind)
          (option_map UnknownName f.unknown_column) (naming.mistyped f.is_mistyped) objects.0 kinds.0 unknown.0 taken.1,
    )
  where
    all_none : {A : Type 0} (a b c d : Option A) → a ≡ None → b ≡ None → c ≡ None → d ≡ None
        → either a (either b (either c d)) ≡ None
    all_none a b c d first second third last = rw (first, second, third) last

-- ---- a new dynamic table

-- by its tree, its text, and what its query stands for
pub new_binds : (objects : List StoredObject) (tree : Query) (text : List ℕ) (columns : List Name)
    → naming.first_failing (followed (column_findings columns) (bound_query tree (all_inside objects) 0).findings)
    ≡ None
    → (bound_query tree (all_inside objects) 0).is_wide ≡ false
    → Binds objects (record {
      tree = tree;
      text = text;
      sources = sources_named (query_names tree) (bound_query tree (all_inside objects) 0).sources;
    }) (map column_of (bound_query tree (all_inside objects) 0).outputs)
new_binds objects tree text columns none narrow = record {
  sources = subst (λ (ids : List ℕ). AllByRecursion (λ s. IsLiveSource (at_id objects s.id))
      (sources_named written ids))
      (sym sourced.ids) (sources_live objects written are);
  one_id = subst (λ (ids : List ℕ). AllByRecursion (HasOneId (sources_named written ids)) (sources_named written ids))
      (sym sourced.ids) (one_id objects (numbered_names objects written) (ids_named objects written));
  right = subst (λ (b : BoundQuery). naming.first_failing (but_taken b.findings) ≡ None) same right.1;
  narrow = subst (λ (b : BoundQuery). b.is_wide ≡ false) same narrow;
  outputs = ap (λ (b : BoundQuery). map column_of b.outputs) (sym same);
}
  where
    written : List Name
    written = query_names tree

    q : BoundQuery
    q = bound_query tree (all_inside objects) 0

    sourced : IsSourced (all_inside objects) q.sources q.findings written
    sourced = query_sourced (all_inside objects) tree 0

    right : (NamesRight q.findings × (q.findings.unknown_column ≡ None))
        × (naming.first_failing (but_taken q.findings) ≡ None)
    right = right_kept columns q.findings none

    are : AreSources objects written
    are = sourced.all right.0.0

    -- over its own sources
    same : q ≡ bound_query tree (names_among objects (sources_named written q.sources)) 0
    same = sym (query_same (map object_meant objects) tree text)
        ∙ ap (λ (names : List Named). bound_query tree names 0) (names_meant objects (sources_named written q.sources))
