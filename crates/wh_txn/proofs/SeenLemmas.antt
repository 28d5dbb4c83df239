-- What a transaction sees of a table.
--     objects_are      the objects of a catalog
--     catalog_table, catalog_stream     the table or the stream of an id in the catalog
--     own_table        a table with a transaction's own edits
--     seen_in, seen_as     the table of an id that it sees, from the catalog's
use Rattle.std.proofs.Common.{◌≡◌, ℕ, zero, suc, ◌+◌, List, [], ◌∷◌, map, Option, Some, None, option_map, refl, ap, ◌∙◌}
use Rattle.std.proofs.Common.{arith}
use Rattle.std.specs.Prelude.{slice_get}
use Rattle.std.specs.Ordering.{nat_cmp}
use Rattle.std.specs.FinMap.{FinMap, get}
use Rattle.wh_state.specs.State.{Kind, TableKind, StreamKind, TaskKind, DynamicKind, Object, Table, at_id, stamped}
use Rattle.wh_state.specs.Act.{edited_table}
use Rattle.wh_state.specs.Objects.{as_table, table_at, stream_at}
use Rattle.wh_state.specs.Stored.{StoredTable, table_meant, object_meant}
use Rattle.wh_state.proofs.MeaningLaws.{table_at_meant, stream_at_meant}
use Rattle.wh_catalog.specs.Catalog.{stored_of, state_of}
use Rattle.wh_catalog.specs.declared.catalog.Catalog.{Catalog}
use Rattle.wh_machine.specs.Transaction.{Staged, Transaction, with_own, seen_from, seen}
use Rattle.wh_txn.specs.Seen.{own}

-- ---- the table and the stream of an id in the catalog

pub objects_are : (c : Catalog) → (state_of c).objects ≡ map object_meant (stored_of c).objects
unfolding state_of
objects_are c = refl

pub catalog_table : (c : Catalog) (id : ℕ)
    → table_at (state_of c).objects id ≡ option_map table_meant (table_at (stored_of c).objects id)
catalog_table c id =
    ap (λ (objects : List Object). table_at objects id) (objects_are c) ∙ table_at_meant (stored_of c).objects id

pub catalog_stream : (c : Catalog) (id : ℕ)
    → stream_at (state_of c).objects id ≡ stream_at (stored_of c).objects id
catalog_stream c id =
    ap (λ (objects : List Object). stream_at objects id) (objects_are c) ∙ stream_at_meant (stored_of c).objects id

-- ---- with a transaction's own edits

abbrev pub own_table : ℕ → Option Staged → Table → Table
own_table stamp None t = t
own_table stamp (Some s) t = edited_table stamp stamp s.edits t

place_seen : (stamp first : ℕ) (tables : FinMap nat_cmp Staged) (objects : List Object) (place : ℕ)
    → slice_get (seen_from stamp first tables objects) place
    ≡ option_map (with_own stamp (get tables (first + place))) (slice_get objects place)
place_seen stamp first tables [] place = refl
place_seen stamp first tables (o ∷ os) zero =
    let here : first ≡ first + 0 = omega arith in
    ap (λ (id : ℕ). Some (with_own stamp (get tables id) o)) here
place_seen stamp first tables (o ∷ os) (suc place) =
    let there : suc first + place ≡ first + suc place = omega arith in
    place_seen stamp (suc first) tables os place
    ∙ ap (λ (id : ℕ). option_map (with_own stamp (get tables id)) (slice_get os place)) there

id_seen : (stamp : ℕ) (tables : FinMap nat_cmp Staged) (objects : List Object) (id : ℕ)
    → at_id (seen_from stamp 1 tables objects) id ≡ option_map (with_own stamp (get tables id)) (at_id objects id)
id_seen stamp tables objects zero = refl
id_seen stamp tables objects (suc place) =
    let there : 1 + place ≡ suc place = omega arith in
    place_seen stamp 1 tables objects place
    ∙ ap (λ (id : ℕ). option_map (with_own stamp (get tables id)) (slice_get objects place)) there

table_seen : (stamp : ℕ) (tables : FinMap nat_cmp Staged) (objects : List Object) (id : ℕ)
    → table_at (seen_from stamp 1 tables objects) id
    ≡ option_map (own_table stamp (get tables id)) (table_at objects id)
table_seen stamp tables objects id = by_found (at_id objects id) refl
  where
    by_kind : (o : Object) (s : Option Staged) (k : Kind) → o.kind ≡ k
        → as_table (with_own stamp s o) ≡ option_map (own_table stamp s) (as_table o)
    by_kind o None (TableKind t) is = rw is
    by_kind o (Some s) (TableKind t) is = rw is
    by_kind o None (StreamKind k) is = rw is
    by_kind o (Some s) (StreamKind k) is = rw is
    by_kind o None (TaskKind k) is = rw is
    by_kind o (Some s) (TaskKind k) is = rw is
    by_kind o None (DynamicKind d t) is = rw is
    by_kind o (Some s) (DynamicKind d t) is = rw is

    by_found : (found : Option Object) → at_id objects id ≡ found
        → table_at (seen_from stamp 1 tables objects) id
        ≡ option_map (own_table stamp (get tables id)) (table_at objects id)
    by_found None none =
        let there : at_id (seen_from stamp 1 tables objects) id ≡ None =
        id_seen stamp tables objects id ∙ ap (option_map (with_own stamp (get tables id))) none in
        rw (there, none)
    by_found (Some o) some =
        let there : at_id (seen_from stamp 1 tables objects) id ≡ Some (with_own stamp (get tables id) o) =
        id_seen stamp tables objects id ∙ ap (option_map (with_own stamp (get tables id))) some in
        let same : as_table (with_own stamp (get tables id) o)
        ≡ option_map (own_table stamp (get tables id)) (as_table o) =
        by_kind o (get tables id) o.kind refl in
        rw (there, some) same

own_none : (stamp : ℕ) (found : Option Table) → found ≡ option_map (own_table stamp None) found
own_none stamp None = refl
own_none stamp (Some t) = refl

pub seen_in : (c : Catalog) (stamp : ℕ) (t : Option Transaction) (id : ℕ)
    → table_at (seen (stamped (state_of c) stamp) t).objects id
    ≡ option_map (own_table stamp (own t id)) (option_map table_meant (table_at (stored_of c).objects id))
unfolding seen
seen_in c stamp None id =
    catalog_table c id
    ∙ own_none stamp (option_map table_meant (table_at (stored_of c).objects id))
seen_in c stamp (Some t) id =
    table_seen stamp t.tables (state_of c).objects id
    ∙ ap (option_map (own_table stamp (get t.tables id))) (catalog_table c id)

pub seen_as : (stamp : ℕ) (staged s : Option Staged) (found : Option StoredTable) (t : StoredTable)
    → staged ≡ s → found ≡ Some t
    → option_map (own_table stamp staged) (option_map table_meant found) ≡ Some (own_table stamp s (table_meant t))
seen_as stamp staged s found t is there = (λ i. option_map (own_table stamp (is i)) (option_map table_meant (there i)))
