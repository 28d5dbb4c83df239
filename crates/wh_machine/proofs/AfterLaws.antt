-- What tables leave that a refresh brings to a moment.
--     object_brought, at_after        what stands at an id
--     table_after, dynamic_after      so its rows, and what a dynamic table has beside them
--     bound_after             what a query binds to stays
--     refreshed_rows, refreshed_between     the rows of a table for the moment that it was brought to, and its versions
use Rattle.std.proofs.Common.{◌≡◌, ℕ, ◌≤◌, ◌⊎◌, inl, inr, Bool, true, false, cond, List, [], ◌∷◌, ◌++◌, map}
use Rattle.std.proofs.Common.{Option, Some, None, option_map, refl, sym, ap, ◌∙◌, arith}
use Rattle.std.specs.Prelude.{nat_eq, nat_le, nat_lt, ◌&&◌, ◌||◌}
use Rattle.std.specs.List.{filter, flat_map, list_any}
use Rattle.std.specs.Option.{option_and_then, option_map_or}
use Rattle.std.proofs.lemmas.Bool.Decides.{nat_tests}
use Rattle.wh_value.specs.Column.{Column}
use Rattle.wh_naming.specs.Scope.{Named, ObjectKind}
use Rattle.wh_naming.specs.Select.{bound_query}
use Rattle.wh_state.specs.State.{Version, Table, Kind, TableKind, StreamKind, TaskKind, DynamicKind, Object, at_id}
use Rattle.wh_state.specs.State.{changed_at, put_at, last_of, last_rows, rows_at, nothing_held, content_in, columns_in}
use Rattle.wh_state.specs.State.{version_for, table_in, on_dynamic}
use Rattle.wh_state.specs.Dynamic.{Source, DynamicQuery, Dynamic, GroupsChange, with_dynamic_state}
use Rattle.wh_state.specs.Objects.{as_table, as_dynamic, table_at, dynamic_at}
use Rattle.wh_state.specs.Bound.{source_kind, named_as, names_among, query_bound}
use Rattle.wh_state.specs.Edits.{Edits}
use Rattle.wh_state.specs.Act.{Act, PutsDynamic, acted, all_acted, edited_table, refreshed_object}
use Rattle.wh_state.specs.Act.{on_dynamic_object, next_contents}
use Rattle.wh_state.proofs.IdLaws.{map_at, map_changed, with_same, at_spared, last_more}
use Rattle.wh_state.proofs.FoundLaws.{at_same, same_or_not}
use Rattle.wh_machine.specs.Refresh.{Brought, version_acts, acts_of_one, has_version_between}
use Rattle.wh_machine.specs.Brought.{after_one, after_all, AreAbove, sought, edits_sought}

-- ---- objects behind several

pub acted_append : (stamp : ℕ) (objects : List Object) (acts more : List Act)
    → all_acted stamp objects (acts ++ more) ≡ all_acted stamp (all_acted stamp objects acts) more
acted_append stamp objects [] more = refl
acted_append stamp objects (act ∷ acts) more = acted_append stamp (acted stamp objects act) acts more

pub after_more : (stamp moment : ℕ) (b : Brought) (bs : List Brought) (objects : List Object)
    → after_all stamp moment (b ∷ bs) objects ≡ after_all stamp moment bs (after_one stamp moment b objects)
after_more stamp moment b bs objects =
    acted_append stamp objects (acts_of_one moment b) (flat_map (acts_of_one moment) bs)

flat_append : {X Y : Type 0} (f : X → List Y) (xs ys : List X) → flat_map f (xs ++ ys) ≡ flat_map f xs ++ flat_map f ys
flat_append f [] ys = refl
flat_append f (x ∷ xs) ys =
    ap (λ (l : List _). f x ++ l) (flat_append f xs ys) ∙ sym (append_assoc (f x) (flat_map f xs) (flat_map f ys))
  where
    append_assoc : {Y : Type 0} (xs ys zs : List Y) → (xs ++ ys) ++ zs ≡ xs ++ (ys ++ zs)
    append_assoc [] ys zs = refl
    append_assoc (x ∷ xs) ys zs = ap (λ (l : List _). x ∷ l) (append_assoc xs ys zs)

pub after_last : (stamp moment : ℕ) (bs : List Brought) (b : Brought) (objects : List Object)
    → after_all stamp moment (bs ++ b ∷ []) objects ≡ after_one stamp moment b (after_all stamp moment bs objects)
after_last stamp moment bs b objects =
    ap (all_acted stamp objects) (flat_append (acts_of_one moment) bs (b ∷ []))
    ∙ acted_append stamp objects (flat_map (acts_of_one moment) bs) (acts_of_one moment b ++ [])
    ∙ acted_append stamp (after_all stamp moment bs objects) (acts_of_one moment b) []

-- ---- what stands at an id

-- behind its version, if there is one, and what that does to its groups
abbrev pub rows_brought : ℕ → ℕ → Option Edits → Option GroupsChange → Object → Object
rows_brought stamp moment None c o = o
rows_brought stamp moment (Some e) c o = refreshed_object stamp moment e c o

abbrev pub object_brought : ℕ → ℕ → Brought → Object → Object
object_brought stamp moment b o =
    on_dynamic_object (with_dynamic_state b.state) (rows_brought stamp moment b.edits b.groups o)

at_changed : {X : Type 0} (f : X → X) (xs : List X) (id : ℕ)
    → at_id (changed_at xs id f) id ≡ option_map f (at_id xs id)
at_changed f xs id = by_found (at_id xs id) refl
  where
    by_found : (found : Option _) → at_id xs id ≡ found → at_id (changed_at xs id f) id ≡ option_map f found
    by_found None none = ap (λ (p : Option _). at_id (put_at xs id (option_map f p)) id) none ∙ none
    by_found (Some x) there = at_same f xs id x there

one_spared : (stamp moment : ℕ) (b : Brought) (objects : List Object) (id : ℕ) → (id ≡ b.id → ⊥)
    → at_id (after_one stamp moment b objects) id ≡ at_id objects id
one_spared stamp moment b objects id apart = by_edits b.edits
  where
    by_edits : (found : Option Edits)
        → at_id (all_acted stamp objects (version_acts b.id moment found b.groups ++ PutsDynamic b.id b.state ∷ [])) id
        ≡ at_id objects id
    by_edits None = at_spared (on_dynamic_object (with_dynamic_state b.state)) objects b.id id apart
    by_edits (Some e) =
        at_spared (on_dynamic_object (with_dynamic_state b.state))
        (changed_at objects b.id (refreshed_object stamp moment e b.groups)) b.id id apart
        ∙ at_spared (refreshed_object stamp moment e b.groups) objects b.id id apart

one_here : (stamp moment : ℕ) (b : Brought) (objects : List Object)
    → at_id (after_one stamp moment b objects) b.id ≡ option_map (object_brought stamp moment b) (at_id objects b.id)
one_here stamp moment b objects = by_edits b.edits
  where
    puts : Object → Object
    puts o = on_dynamic_object (with_dynamic_state b.state) o

    twice : (f : Object → Object) (found : Option Object)
        → option_map puts (option_map f found) ≡ option_map (λ o. puts (f o)) found
    twice f None = refl
    twice f (Some o) = refl

    by_edits : (found : Option Edits)
        → at_id (all_acted stamp objects (version_acts b.id moment found b.groups ++ PutsDynamic b.id b.state ∷ [])) b.id
        ≡ option_map (λ o. puts (rows_brought stamp moment found b.groups o)) (at_id objects b.id)
    by_edits None = at_changed puts objects b.id
    by_edits (Some e) =
        at_changed puts (changed_at objects b.id (refreshed_object stamp moment e b.groups)) b.id
        ∙ ap (option_map puts) (at_changed (refreshed_object stamp moment e b.groups) objects b.id)
        ∙ twice (refreshed_object stamp moment e b.groups) (at_id objects b.id)

none_above : (least id : ℕ) (bs : List Brought) → id ≤ least → AreAbove least bs → sought id bs ≡ None
none_above least id [] below above = refl
none_above least id (b ∷ bs) below above =
    let apart : nat_eq b.id id ≡ false = by_above in
    ap (λ (t : Bool). cond t (Some b) (sought id bs)) apart ∙ none_above b.id id bs (omega (arith, above.0)) above.1
  where
    by_above : nat_eq b.id id ≡ false
    by_above = let h = above.0 in grind (arith, nat_tests)

abbrev pub brought_at : ℕ → ℕ → Option Brought → Option Object → Option Object
brought_at stamp moment None found = found
brought_at stamp moment (Some b) found = option_map (object_brought stamp moment b) found

pub at_after : (stamp moment : ℕ) (least : ℕ) (bs : List Brought) (objects : List Object) (id : ℕ) → AreAbove least bs
    → at_id (after_all stamp moment bs objects) id ≡ brought_at stamp moment (sought id bs) (at_id objects id)
at_after stamp moment least [] objects id above = refl
at_after stamp moment least (b ∷ bs) objects id above =
    ap (λ (l : List Object). at_id l id) (after_more stamp moment b bs objects)
    ∙ at_after stamp moment b.id bs (after_one stamp moment b objects) id above.1
    ∙ by_test (same_or_not id b.id)
  where
    by_test : (id ≡ b.id) ⊎ (id ≡ b.id → ⊥)
        → brought_at stamp moment (sought id bs) (at_id (after_one stamp moment b objects) id)
        ≡ brought_at stamp moment (sought id (b ∷ bs)) (at_id objects id)
    by_test (inl same) =
        let none : sought id bs ≡ None = none_above b.id id bs (omega (arith, same)) above.1 in
        let here : nat_eq b.id id ≡ true = grind (arith, nat_tests) in
        ap (λ (p : Option Brought). brought_at stamp moment p (at_id (after_one stamp moment b objects) id)) none
        ∙ ap (at_id (after_one stamp moment b objects)) same
        ∙ one_here stamp moment b objects
        ∙ ap (λ (other : ℕ). option_map (object_brought stamp moment b) (at_id objects other)) (sym same)
        ∙ ap (λ (t : Bool). brought_at stamp moment (cond t (Some b) (sought id bs)) (at_id objects id)) (sym here)
    by_test (inr apart) =
        let test : nat_eq b.id id ≡ false = grind (arith, nat_tests) in
        ap (brought_at stamp moment (sought id bs)) (one_spared stamp moment b objects id apart)
        ∙ ap (λ (t : Bool). brought_at stamp moment (cond t (Some b) (sought id bs)) (at_id objects id)) (sym test)

-- ---- rows, and what is beside them

abbrev pub table_brought : ℕ → ℕ → Option Edits → Option Table → Option Table
table_brought stamp moment None found = found
table_brought stamp moment (Some e) found = option_map (edited_table stamp moment e) found

pub table_after : (stamp moment : ℕ) (least : ℕ) (bs : List Brought) (objects : List Object) (id : ℕ) → AreAbove least bs
    → table_at (after_all stamp moment bs objects) id
    ≡ table_brought stamp moment (edits_sought id bs) (table_at objects id)
table_after stamp moment least bs objects id above =
    ap (option_and_then as_table) (at_after stamp moment least bs objects id above)
    ∙ by_sought (sought id bs) (at_id objects id)
  where
    by_kind : (b : Brought) (edits : Option Edits) (o : Object) (k : Kind)
        → table_in (on_dynamic (with_dynamic_state b.state) (rows_brought stamp moment edits b.groups (record o { kind = k })).kind)
        ≡ table_brought stamp moment edits (table_in k)
    by_kind b None o (TableKind t) = refl
    by_kind b None o (StreamKind s) = refl
    by_kind b None o (TaskKind t) = refl
    by_kind b None o (DynamicKind d t) = refl
    by_kind b (Some e) o (TableKind t) = refl
    by_kind b (Some e) o (StreamKind s) = refl
    by_kind b (Some e) o (TaskKind t) = refl
    by_kind b (Some e) o (DynamicKind d t) = refl

    nothing : (edits : Option Edits) → None ≡ table_brought stamp moment edits None
    nothing None = refl
    nothing (Some e) = refl

    by_sought : (found : Option Brought) (o : Option Object)
        → option_and_then as_table (brought_at stamp moment found o)
        ≡ table_brought stamp moment (option_and_then (λ b. b.edits) found) (option_and_then as_table o)
    by_sought None o = refl
    by_sought (Some b) None = nothing b.edits
    by_sought (Some b) (Some o) = by_kind b b.edits o o.kind

pub dynamic_after : (stamp moment : ℕ) (least : ℕ) (bs : List Brought) (objects : List Object) (id : ℕ) → AreAbove least bs
    → sought id bs ≡ None → dynamic_at (after_all stamp moment bs objects) id ≡ dynamic_at objects id
dynamic_after stamp moment least bs objects id above none =
    ap (option_and_then as_dynamic) (at_after stamp moment least bs objects id above)
    ∙ ap (λ (p : Option Brought). option_and_then as_dynamic (brought_at stamp moment p (at_id objects id))) none

-- ---- what a query binds to

abbrev Shape : Type 0
Shape = ObjectKind × List Column

abbrev shape_of : Object → Shape
shape_of o = (source_kind o.kind, columns_in o.kind)

named_by : List Shape → Source → List Named
named_by shapes s = option_map_or
    (λ p. (record { name = s.name; id = s.id; kind = p.0; columns = p.1 }) ∷ []) (at_id shapes s.id) []

names_by : (objects : List Object) (sources : List Source)
    → names_among objects sources ≡ flat_map (named_by (map shape_of objects)) sources
unfolding named_by
names_by objects [] = refl
names_by objects (s ∷ ss) =
    ap (λ (l : List Named). l ++ names_among objects ss) (by_found (at_id objects s.id) (map_at shape_of objects s.id))
    ∙ ap (λ (l : List Named). named_by (map shape_of objects) s ++ l) (names_by objects ss)
  where
    by_found : (found : Option Object) → at_id (map shape_of objects) s.id ≡ option_map shape_of found
        → option_map_or (λ o. named_as s o ∷ []) found [] ≡ named_by (map shape_of objects) s
    by_found None there = ap (λ (p : Option Shape). option_map_or
        (λ p. (record { name = s.name; id = s.id; kind = p.0; columns = p.1 }) ∷ []) p []) (sym there)
    by_found (Some o) there = ap (λ (p : Option Shape). option_map_or
        (λ p. (record { name = s.name; id = s.id; kind = p.0; columns = p.1 }) ∷ []) p []) (sym there)

-- a change that leaves the shape of each object
shapes_stay : (f : Object → Object) → ((o : Object) → shape_of (f o) ≡ shape_of o) → (objects : List Object) (id : ℕ)
    → map shape_of (changed_at objects id f) ≡ map shape_of objects
shapes_stay f same objects id =
    map_changed shape_of f (λ p. p) same objects id ∙ by_found (at_id (map shape_of objects) id) refl
  where
    by_found : (found : Option Shape) → at_id (map shape_of objects) id ≡ found
        → put_at (map shape_of objects) id (option_map (λ p. p) (at_id (map shape_of objects) id)) ≡ map shape_of objects
    by_found None none = ap (λ (p : Option Shape). put_at (map shape_of objects) id (option_map (λ p. p) p)) none
    by_found (Some p) there =
        ap (λ (q : Option Shape). put_at (map shape_of objects) id (option_map (λ p. p) q)) there
        ∙ with_same (map shape_of objects) id p there

edit_shape : (stamp moment : ℕ) (e : Edits) (c : Option GroupsChange) (o : Object)
    → shape_of (refreshed_object stamp moment e c o) ≡ shape_of o
unfolding edited_table
edit_shape stamp moment e c o = by_kind o.kind
  where
    by_kind : (k : Kind)
        → shape_of (refreshed_object stamp moment e c (record o { kind = k })) ≡ shape_of (record o { kind = k })
    by_kind (TableKind t) = refl
    by_kind (StreamKind s) = refl
    by_kind (TaskKind t) = refl
    by_kind (DynamicKind d t) = refl

put_shape : (f : Dynamic → Dynamic) (o : Object) → shape_of (on_dynamic_object f o) ≡ shape_of o
put_shape f o = by_kind o.kind
  where
    by_kind : (k : Kind) → shape_of (on_dynamic_object f (record o { kind = k })) ≡ shape_of (record o { kind = k })
    by_kind (TableKind t) = refl
    by_kind (StreamKind s) = refl
    by_kind (TaskKind t) = refl
    by_kind (DynamicKind d t) = refl

one_shape : (stamp moment : ℕ) (b : Brought) (objects : List Object)
    → map shape_of (after_one stamp moment b objects) ≡ map shape_of objects
one_shape stamp moment b objects = by_edits b.edits
  where
    by_edits : (found : Option Edits)
        → map shape_of (all_acted stamp objects (version_acts b.id moment found b.groups ++ PutsDynamic b.id b.state ∷ []))
        ≡ map shape_of objects
    by_edits None = shapes_stay _ (put_shape (with_dynamic_state b.state)) objects b.id
    by_edits (Some e) =
        shapes_stay _ (put_shape (with_dynamic_state b.state)) (changed_at objects b.id (refreshed_object stamp moment e b.groups)) b.id
        ∙ shapes_stay _ (edit_shape stamp moment e b.groups) objects b.id

all_shape : (stamp moment : ℕ) (bs : List Brought) (objects : List Object)
    → map shape_of (after_all stamp moment bs objects) ≡ map shape_of objects
all_shape stamp moment [] objects = refl
all_shape stamp moment (b ∷ bs) objects =
    ap (map shape_of) (after_more stamp moment b bs objects)
    ∙ all_shape stamp moment bs (after_one stamp moment b objects) ∙ one_shape stamp moment b objects

pub bound_after : (stamp moment : ℕ) (bs : List Brought) (objects : List Object) (q : DynamicQuery)
    → query_bound (after_all stamp moment bs objects) q ≡ query_bound objects q
bound_after stamp moment bs objects q = ap (λ (names : List Named). bound_query q.tree names 0)
    (names_by (after_all stamp moment bs objects) q.sources
    ∙ ap (λ (shapes : List Shape). flat_map (named_by shapes) q.sources) (all_shape stamp moment bs objects)
    ∙ sym (names_by objects q.sources))

-- ---- a table that was brought to a moment

filter_last : {X : Type 0} (test : X → Bool) (xs : List X) (x : X) → test x ≡ true
    → filter test (xs ++ x ∷ []) ≡ filter test xs ++ x ∷ []
filter_last test [] x passes = rw passes refl
filter_last test (y ∷ ys) x passes =
    ap (λ (rest : List _). cond (test y) (y ∷ rest) rest) (filter_last test ys x passes) ∙ by_test (test y)
  where
    by_test : (b : Bool) → cond b (y ∷ (filter test ys ++ x ∷ [])) (filter test ys ++ x ∷ [])
        ≡ cond b (y ∷ filter test ys) (filter test ys) ++ x ∷ []
    by_test true = refl
    by_test false = refl

any_last : {X : Type 0} (test : X → Bool) (xs : List X) (x : X)
    → list_any test (xs ++ x ∷ []) ≡ (list_any test xs || test x)
any_last test [] x = by_test (test x)
  where
    by_test : (b : Bool) → (b || false) ≡ (false || b)
    by_test true = refl
    by_test false = refl
any_last test (y ∷ ys) x = ap (λ (rest : Bool). test y || rest) (any_last test ys x) ∙ by_test (test y)
  where
    by_test : (b : Bool) → (b || (list_any test ys || test x)) ≡ ((b || list_any test ys) || test x)
    by_test true = refl
    by_test false = refl

pub refreshed_rows : (stamp moment : ℕ) (e : Edits) (t : Table)
    → rows_at (edited_table stamp moment e t) moment ≡ last_rows (edited_table stamp moment e t)
unfolding edited_table
refreshed_rows stamp moment e t =
    let v : Version = version_for stamp moment (next_contents e t) in
    let now : nat_le moment moment ≡ true = grind (arith, nat_tests) in
    ap (λ (vs : List Version). (content_in nothing_held (last_of vs)).rows)
    (filter_last (λ w. nat_le w.data_timestamp moment) t.versions v now)
    ∙ ap (λ (w : Option Version). (content_in nothing_held w).rows)
    (last_more (filter (λ w. nat_le w.data_timestamp moment) t.versions) v ∙ sym (last_more t.versions v))

pub refreshed_between : (stamp moment from : ℕ) (e : Edits) (t : Table)
    → has_version_between from moment (edited_table stamp moment e t)
    ≡ (has_version_between from moment t || nat_lt from moment)
unfolding edited_table
refreshed_between stamp moment from e t =
    let v : Version = version_for stamp moment (next_contents e t) in
    let now : nat_le moment moment ≡ true = grind (arith, nat_tests) in
    any_last (λ w. nat_lt from w.data_timestamp && nat_le w.data_timestamp moment) t.versions v
    ∙ ap (λ (b : Bool). has_version_between from moment t || (nat_lt from moment && b)) now
    ∙ ap (λ (b : Bool). has_version_between from moment t || b) (by_test (nat_lt from moment))
  where
    by_test : (b : Bool) → (b && true) ≡ b
    by_test true = refl
    by_test false = refl
