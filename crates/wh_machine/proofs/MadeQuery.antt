-- The query that a new dynamic table is kept with.
--     sources_by            a source for each name
--     named_inside          the object of a name, as a dynamic table's query sees it
--     query_same            over the objects that it is kept with it binds to what the statement's query binds to
--     sources_there         they are there
use Rattle.std.proofs.Common.{◌≡◌, ℕ, suc, ◌+◌, ◌≤◌, Bool, true, false, cond, List, [], ◌∷◌, ◌++◌, map, length}
use Rattle.std.proofs.Common.{Option, Some, None, option_map, refl, sym, ap, subst, ◌∙◌, arith}
use Rattle.std.specs.Prelude.{bytes_eq, ◌||◌}
use Rattle.std.specs.List.{AllByRecursion, list_any}
use Rattle.std.specs.Option.{option_map_or}
use Rattle.std.proofs.lemmas.Slice.Eq.{bytes_eq-Decides}
use Rattle.wh_ast.specs.declared.query.Query as trees
use Rattle.wh_naming.specs.Findings.{Name}
use Rattle.wh_naming.specs.Scope.{Named, named}
use Rattle.wh_naming.specs.Select.{bound_query}
use Rattle.wh_ddl_naming.specs.Names.{query_names}
use Rattle.wh_ddl_naming.specs.DynamicTables.{inside}
use Rattle.wh_ddl_naming.proofs.QueryLaws.{query_alike}
use Rattle.wh_ddl_naming.proofs.SourceLaws.{id_in, query_sourced}
use Rattle.wh_state.proofs.PlaceLaws.{at_within}
use Rattle.wh_state.specs.State.{Kind, TableKind, StreamKind, TaskKind, DynamicKind, Object, at_id}
use Rattle.wh_state.specs.Dynamic.{Source}
use Rattle.wh_state.specs.Bound.{named_as, names_among, query_bound}
use Rattle.wh_state.proofs.AllLaws.{all_map}
use Rattle.wh_machine.specs.Names.{named_object, names_from}
use Rattle.wh_machine.specs.Dynamics.{sources_named}
use Rattle.wh_machine.proofs.TableNamed.{IsObjectAt, object_of}

-- ---- sources by their names

abbrev pub source_by : (Name → ℕ) → Name → Source
source_by f name = record { name = name; id = f name }

abbrev pub sources_by : (Name → ℕ) → List Name → List Source
sources_by f names = map (source_by f) names

sources_are : (f : Name → ℕ) (names : List Name) → sources_named names (map f names) ≡ sources_by f names
sources_are f [] = refl
sources_are f (name ∷ names) = ap (λ (l : List Source). source_by f name ∷ l) (sources_are f names)

-- the object of a name there
abbrev looked : List Object → (Name → ℕ) → Name → Option Named
looked objects f name = option_map (named_as (source_by f name)) (at_id objects (f name))

abbrev IsIn : Name → List Name → Type 0
IsIn name names = list_any (λ n. bytes_eq n name) names ≡ true

abbrev first_is : Name → Option Object → Source → List Named → Option Named
first_is name found s rest = named (option_map_or (λ o. named_as s o ∷ []) found [] ++ rest) name

-- a name that is no object's
none_among : (objects : List Object) (f : Name → ℕ) (names : List Name) (name : Name) → at_id objects (f name) ≡ None
    → named (names_among objects (sources_by f names)) name ≡ None
none_among objects f [] name none = refl
none_among objects f (n ∷ ns) name none =
    by_test (bytes_eq n name) refl (none_among objects f ns name none)
  where
    rest : List Named
    rest = names_among objects (sources_by f ns)

    by_found : (found : Option Object) → bytes_eq n name ≡ false → named rest name ≡ None
        → first_is name found (source_by f n) rest ≡ None
    by_found None other none = none
    by_found (Some o) other none =
        ap (λ (b : Bool). cond b (Some (named_as (source_by f n) o)) (named rest name)) other ∙ none

    by_test : (b : Bool) → bytes_eq n name ≡ b → named rest name ≡ None
        → first_is name (at_id objects (f n)) (source_by f n) rest ≡ None
    by_test true test later =
        let same : n ≡ name = (bytes_eq-Decides n name).0 test in
        ap (λ (found : Option Object). first_is name found (source_by f n) rest)
        (ap (λ (m : Name). at_id objects (f m)) same ∙ none) ∙ later
    by_test false test later = by_found (at_id objects (f n)) test later

looked_among : (objects : List Object) (f : Name → ℕ) (names : List Name) (name : Name) → IsIn name names
    → named (names_among objects (sources_by f names)) name ≡ looked objects f name
looked_among objects f [] name is = absurd cc
looked_among objects f (n ∷ ns) name is =
    by_test (bytes_eq n name) refl is (λ later. looked_among objects f ns name later)
  where
    rest : List Named
    rest = names_among objects (sources_by f ns)

    here : (found : Option Object) → at_id objects (f name) ≡ found
        → first_is name found (source_by f name) rest ≡ option_map (named_as (source_by f name)) found
    here None there = none_among objects f ns name there
    here (Some o) there =
        let self : bytes_eq name name ≡ true = (bytes_eq-Decides name name).1 refl in
        ap (λ (b : Bool). cond b (Some (named_as (source_by f name) o)) (named rest name)) self

    other : (found : Option Object) → bytes_eq n name ≡ false
        → first_is name found (source_by f n) rest ≡ named rest name
    other None test = refl
    other (Some o) test = ap (λ (b : Bool). cond b (Some (named_as (source_by f n) o)) (named rest name)) test

    by_test : (b : Bool) → bytes_eq n name ≡ b → (b || list_any (λ n. bytes_eq n name) ns) ≡ true
        → (IsIn name ns → named rest name ≡ looked objects f name)
        → first_is name (at_id objects (f n)) (source_by f n) rest ≡ looked objects f name
    by_test true test is later =
        let same : n ≡ name = (bytes_eq-Decides n name).0 test in
        ap (λ (m : Name). first_is name (at_id objects (f m)) (source_by f m) rest) same
        ∙ here (at_id objects (f name)) refl
    by_test false test is later = other (at_id objects (f n)) test ∙ later is

-- ---- by the names that stand in the statement

pub named_inside : (names : List Named) (name : Name)
    → named (map inside names) name ≡ option_map inside (named names name)
named_inside [] name = refl
named_inside (n ∷ ns) name = by_test (bytes_eq n.name name) (named_inside ns name)
  where
    by_test : (b : Bool) → named (map inside ns) name ≡ option_map inside (named ns name)
        → cond b (Some (inside n)) (named (map inside ns) name) ≡ option_map inside (cond b (Some n) (named ns name))
    by_test true rest = refl
    by_test false rest = rest

module _ (objects : List Object) where
  abbrev seen_names : List Named
  seen_names = map inside (names_from 1 objects)

  abbrev id_seen : Name → ℕ
  id_seen name = id_in seen_names name

  -- where a name has an object
  record IsSeen (name : Name) (found : Named) : Type 0 where
    object : Object
    there : at_id objects found.id ≡ Some object
    is : inside found ≡ named_as (record { name = name; id = found.id }) object

  is_seen : (name : Name) (found : Named) → named (names_from 1 objects) name ≡ Some found → IsSeen name found
  is_seen name found is =
      let o : IsObjectAt 1 objects name found = object_of 1 objects name found is in
      let id : found.id ≡ suc o.place = ap (λ (n : Named). n.id) o.is ∙ omega arith in
      let named_so : o.object.name ≡ name = (bytes_eq-Decides o.object.name name).0 o.same in
      record {
        object = o.object;
        there = ap (at_id objects) id ∙ o.there;
        is = ap inside o.is
            ∙ by_kind o.object o.object.kind (1 + o.place)
            ∙ ap (λ (n : Name). named_as (record { name = n; id = 1 + o.place }) o.object) named_so
            ∙ ap (λ (i : ℕ). named_as (record { name = name; id = i }) o.object) (sym (ap (λ (n : Named). n.id) o.is));
      }
    where
      by_kind : (o : Object) (k : Kind) (id : ℕ) → inside (named_object id (record o { kind = k }))
          ≡ named_as (record { name = o.name; id = id }) (record o { kind = k })
      by_kind o (TableKind t) id = refl
      by_kind o (StreamKind s) id = refl
      by_kind o (TaskKind t) id = refl
      by_kind o (DynamicKind d t) id = refl

  name_same : (name : Name) → looked objects id_seen name ≡ named seen_names name
  name_same name = by_found (named (names_from 1 objects) name) refl
    where
      by_found : (found : Option Named) → named (names_from 1 objects) name ≡ found
          → looked objects id_seen name ≡ named seen_names name
      by_found None is =
          let none : named seen_names name ≡ None =
          named_inside (names_from 1 objects) name ∙ ap (option_map inside) is in
          ap (λ (found : Option Named). option_map (named_as (record {
            name = name;
            id = option_map_or (λ o. o.id) found 0;
          })) (at_id objects (option_map_or (λ o. o.id) found 0))) none ∙ sym none
      by_found (Some found) is =
          let some : named seen_names name ≡ Some (inside found) =
          named_inside (names_from 1 objects) name ∙ ap (option_map inside) is in
          let o : IsSeen name found = is_seen name found is in
          ap (λ (found : Option Named). option_map (named_as (record {
            name = name;
            id = option_map_or (λ o. o.id) found 0;
          })) (at_id objects (option_map_or (λ o. o.id) found 0))) some
          ∙ ap (option_map (named_as (record { name = name; id = found.id }))) o.there
          ∙ ap Some (sym o.is) ∙ sym some

  all_same : (all names : List Name) → AllByRecursion (λ name. IsIn name all) names
      → AllByRecursion (λ name. named (names_among objects (sources_by id_seen all)) name ≡ named seen_names name) names
  all_same all names are = all_map (λ name. IsIn name all)
      (λ name. named (names_among objects (sources_by id_seen all)) name ≡ named seen_names name)
      (λ name is. looked_among objects id_seen all name is ∙ name_same name) names are

  -- each of a list is in it
  in_itself : (names : List Name) → AllByRecursion (λ name. IsIn name names) names
  in_itself [] = tt
  in_itself (name ∷ names) =
      let self : bytes_eq name name ≡ true = (bytes_eq-Decides name name).1 refl in (
        ap (λ (b : Bool). b || list_any (λ n. bytes_eq n name) names) self,
        all_map (λ n. IsIn n names) (λ n. IsIn n (name ∷ names)) (λ n is. later (bytes_eq name n) _ is) names
            (in_itself names),
      )
    where
      later : (a b : Bool) → b ≡ true → (a || b) ≡ true
      later true b is = refl
      later false b is = is

  -- the query of a statement, with the sources that it is kept with
  pub kept_sources : (q : trees.Query)
      → sources_named (query_names q) (bound_query q seen_names 0).sources ≡ sources_by id_seen (query_names q)
  kept_sources q =
      ap (sources_named (query_names q)) (query_sourced seen_names q 0).ids ∙ sources_are id_seen (query_names q)

  pub query_same : (q : trees.Query) (text : List ℕ) → query_bound objects (record {
    tree = q;
    text = text;
    sources = sources_named (query_names q) (bound_query q seen_names 0).sources;
  }) ≡ bound_query q seen_names 0
  query_same q text =
      ap (λ (sources : List Source). bound_query q (names_among objects sources) 0) (kept_sources q)
      ∙ query_alike (names_among objects (sources_by id_seen (query_names q))) seen_names q
      (all_same (query_names q) (query_names q) (in_itself (query_names q))) 0

  seen_there : (name : Name) → id_seen name ≤ length objects
  seen_there name = by_found (named (names_from 1 objects) name) refl
    where
      by_found : (found : Option Named) → named (names_from 1 objects) name ≡ found → id_seen name ≤ length objects
      by_found None is =
          let none : id_seen name ≡ 0 = ap (λ (found : Option Named). option_map_or (λ o. o.id) found 0)
          (named_inside (names_from 1 objects) name ∙ ap (option_map inside) is) in
          omega (arith, none)
      by_found (Some found) is =
          let id : id_seen name ≡ found.id = ap (λ (found : Option Named). option_map_or (λ o. o.id) found 0)
          (named_inside (names_from 1 objects) name ∙ ap (option_map inside) is) in
          let o : IsSeen name found = is_seen name found is in
          omega (arith, id, (at_within objects found.id o.object o.there).1)

  all_there : (names : List Name) → AllByRecursion (λ s. s.id ≤ length objects) (sources_by id_seen names)
  all_there [] = tt
  all_there (name ∷ names) = (seen_there name, all_there names)

  pub sources_there : (q : trees.Query) → AllByRecursion (λ s. s.id ≤ length objects)
      (sources_named (query_names q) (bound_query q seen_names 0).sources)
  sources_there q =
      subst (AllByRecursion (λ s. s.id ≤ length objects)) (sym (kept_sources q)) (all_there (query_names q))
