-- Streams that can't be read.
--     wide_first, then_read, found_read     what a statement is refused for that it reads
--     start_open, start_alone      the stamp that streams are read up to
--     least_of, least_alone, least_then     the least id of those whose source is gone
--     is_empty_first, is_gone_first, none_gone     the first test that fails
--     no_version_in, no_table_in   whether a table has no version
--     name_there, name_missing     the name of the object at an id
--     is_stream_at                 whether a stream stands at an id
use Rattle.std.proofs.Common.{◌≡◌, ℕ, ◌-◌, Bool, true, false, List, [], ◌∷◌, ◌++◌, map, length, Option, Some, None}
use Rattle.std.proofs.Common.{option_map, is_some, refl, sym, ap, ◌∙◌}
use Rattle.std.specs.Prelude.{nat_eq}
use Rattle.std.proofs.lemmas.List.{length-map}
use Rattle.std.specs.List.{filter}
use Rattle.wh_value.specs.declared.limit.Limit.TheVariants as limits
use Rattle.wh_reply.specs.Reply as machine
use Rattle.wh_reply.specs.Reply.{SourceGone, NotInitialized, OverLimit}
use Rattle.wh_reply.specs.View.{refusal_view}
use Rattle.wh_reply.specs.declared.reply.Refusal.{Refusal}
use Rattle.wh_state.specs.State.{Kind, TableKind, StreamKind, TaskKind, DynamicKind, Object, at_id}
use Rattle.wh_state.specs.Stored.{StoredTable, version_meant, object_meant}
use Rattle.wh_machine.specs.Tests.{refused_if, first_of}
use Rattle.wh_machine.specs.Outcome.{Machine}
use Rattle.wh_state.specs.Objects.{name_at, is_kind_at, is_stream, table_at, stream_at}
use Rattle.wh_machine.specs.Transaction.{Transaction, start_at}
use Rattle.wh_net.specs.Stream.{is_gone}
use Rattle.wh_machine.specs.Reading.{least_from, least, gone_refusal, stale_refusal, reading_refusal}
use Rattle.wh_machine.specs.Reading.{has_no_version, uninitialized_refusal}
use Rattle.wh_catalog.specs.Catalog.{stored_of, state_of}
use Rattle.wh_catalog.specs.Undoable.{object_in}
use Rattle.wh_catalog.specs.Object.{kept_object}
use Rattle.wh_catalog.specs.declared.catalog.Catalog.{Catalog}
use Rattle.wh_catalog.specs.declared.object.StoredObject.{StoredObject}
use Rattle.wh_txn.proofs.SeenLemmas.{catalog_stream}
use Rattle.wh_decide.specs.Sources.{lower, sources_refusal}
use Rattle.wh_decide.proofs.CatalogLemmas.{object_there, table_there, table_missing}
use Rattle.wh_decide.proofs.ListLemmas.{some_is}
use Rattle.wh_decide.proofs.NamingLemmas.{alone}

pub start_open : (stamp : ℕ) (found : Option Transaction) (number : ℕ)
    → Some number ≡ option_map (λ (t : Transaction). t.number) found → number - 1 ≡ start_at stamp found
start_open stamp None number is = absurd cc
start_open stamp (Some t) number is =
    ap (λ (n : ℕ). n - 1) (some_is number t.number is)

pub start_alone : (stamp : ℕ) (found : Option Transaction)
    → None ≡ option_map (λ (t : Transaction). t.number) found → stamp - 1 ≡ start_at stamp found
start_alone stamp None is = refl
start_alone stamp (Some t) is = absurd cc

-- ---- sources that are gone

-- the least of some ids, where one is found before them
abbrev pub least_of : Option ℕ → List ℕ → Option ℕ
least_of None ids = least ids
least_of (Some id) ids = Some (least_from id ids)

pub least_alone : (found : Option ℕ) → least_of found [] ≡ found
least_alone None = refl
least_alone (Some id) = refl

pub least_then : (found : Option ℕ) (id : ℕ) (ids : List ℕ)
    → least_of (Some (lower found id)) ids ≡ least_of found (id ∷ ids)
least_then None id ids = refl
least_then (Some other) id ids = refl

-- ---- the first test that fails

-- what is found in front of other tests
append_first : (first more : List (Option machine.Refusal)) (why : machine.Refusal) → first_of first ≡ Some why
    → first_of (first ++ more) ≡ Some why
append_first [] more why is = absurd cc
append_first (None ∷ others) more why is = append_first others more why is
append_first (Some other ∷ others) more why is = is

append_later : (first more : List (Option machine.Refusal)) → first_of first ≡ None
    → first_of (first ++ more) ≡ first_of more
append_later [] more is = refl
append_later (None ∷ others) more is = append_later others more is
append_later (Some why ∷ others) more is = absurd cc

module _ (objects : List Object) (stamp : ℕ) (ids : List ℕ) where
  abbrev behind : List (Option machine.Refusal)
  behind = gone_refusal objects ids ∷ map (stale_refusal objects stamp) ids

  abbrev told : Option ℕ → Option machine.Refusal
  told found = option_map (λ (id : ℕ). NotInitialized (name_at objects id)) found

  pub is_empty_first : (found : Option ℕ) (id : ℕ)
      → told found ≡ first_of (map (uninitialized_refusal objects) ids) → found ≡ Some id
      → reading_refusal objects stamp ids ≡ Some (NotInitialized (name_at objects id))
  unfolding reading_refusal
  is_empty_first found id says is =
      append_first (map (uninitialized_refusal objects) ids) behind (NotInitialized (name_at objects id))
      (sym says ∙ ap told is)

  none_empty : (found : Option ℕ) → told found ≡ first_of (map (uninitialized_refusal objects) ids) → found ≡ None
      → reading_refusal objects stamp ids ≡ first_of behind
  unfolding reading_refusal
  none_empty found says is =
      append_later (map (uninitialized_refusal objects) ids) behind (sym says ∙ ap told is)

  pub is_gone_first : (found : Option ℕ) (id : ℕ)
      → told found ≡ first_of (map (uninitialized_refusal objects) ids) → found ≡ None
      → least (filter (is_gone objects) ids) ≡ Some id
      → reading_refusal objects stamp ids ≡ Some (SourceGone (name_at objects id))
  is_gone_first found id says none is =
      none_empty found says none
      ∙ ap (λ (least_id : Option ℕ). first_of (option_map (λ (n : ℕ). SourceGone (name_at objects n)) least_id
      ∷ map (stale_refusal objects stamp) ids)) is

  pub none_gone : (found : Option ℕ) → told found ≡ first_of (map (uninitialized_refusal objects) ids)
      → found ≡ None → least (filter (is_gone objects) ids) ≡ None
      → reading_refusal objects stamp ids ≡ first_of (map (stale_refusal objects stamp) ids)
  none_gone found says none is =
      none_empty found says none
      ∙ ap (λ (least_id : Option ℕ). first_of (option_map (λ (n : ℕ). SourceGone (name_at objects n)) least_id
      ∷ map (stale_refusal objects stamp) ids)) is

-- ---- tables without a version

pub no_version_in : (c : Catalog) (id : ℕ) (t : StoredTable) (none : Bool)
    → Some t ≡ table_at (stored_of c).objects id → none ≡ nat_eq (length t.versions) 0
    → none ≡ has_no_version (table_at (state_of c).objects id)
no_version_in c id t none there is =
    is ∙ ap (λ (n : ℕ). nat_eq n 0) (sym (length-map t.versions version_meant))
    ∙ ap has_no_version (sym (table_there c id t (sym there)))

pub no_table_in : (c : Catalog) (id : ℕ) → None ≡ table_at (stored_of c).objects id
    → false ≡ has_no_version (table_at (state_of c).objects id)
no_table_in c id none = ap has_no_version (sym (table_missing c id (sym none)))

-- ---- names

pub name_there : (c : Catalog) (id : ℕ) (o : StoredObject)
    → Some (object_in (kept_object o)) ≡ at_id (stored_of c).objects id
    → (kept_object o).name ≡ name_at (state_of c).objects id
name_there c id o is =
    let found : at_id (state_of c).objects id ≡ Some (object_meant (object_in (kept_object o))) =
    object_there c id ∙ ap (option_map object_meant) (sym is) in
    rw found refl

pub name_missing : (c : Catalog) (id : ℕ) → None ≡ at_id (stored_of c).objects id
    → [] ≡ name_at (state_of c).objects id
name_missing c id is =
    let found : at_id (state_of c).objects id ≡ None = object_there c id ∙ ap (option_map object_meant) (sym is) in
    rw found refl

-- ---- streams

pub is_stream_at : (c : Catalog) (id : ℕ)
    → is_some (stream_at (stored_of c).objects id) ≡ is_kind_at is_stream (state_of c).objects id
is_stream_at c id = ap is_some (sym (catalog_stream c id)) ∙ by_object (at_id (state_of c).objects id) refl
  where
    objects : List Object
    objects = (state_of c).objects

    by_kind : (o : Object) (k : Kind) → at_id objects id ≡ Some o → o.kind ≡ k
        → is_some (stream_at objects id) ≡ is_kind_at is_stream objects id
    by_kind o (TableKind t) there kind = rw (there, kind) refl
    by_kind o (StreamKind s) there kind = rw (there, kind) refl
    by_kind o (TaskKind t) there kind = rw (there, kind) refl
    by_kind o (DynamicKind d t) there kind = rw (there, kind) refl

    by_object : (found : Option Object) → at_id objects id ≡ found
        → is_some (stream_at objects id) ≡ is_kind_at is_stream objects id
    by_object None none = rw none refl
    by_object (Some o) there = by_kind o o.kind there refl

-- ---- what a statement reads

pub wide_first : (m : Machine) (is_wide : Bool) (ids : List ℕ) → is_wide ≡ true
    → sources_refusal m is_wide ids ≡ Some (OverLimit limits.Output)
wide_first m is_wide ids wide = rw wide refl

pub then_read : (m : Machine) (is_wide : Bool) (ids : List ℕ) → is_wide ≡ false
    → sources_refusal m is_wide ids ≡ reading_refusal m.state.objects m.state.last ids
then_read m is_wide ids narrow =
    ap (λ (is : Bool). first_of (refused_if is (OverLimit limits.Output)
    ∷ reading_refusal m.state.objects m.state.last ids ∷ [])) narrow
    ∙ alone (reading_refusal m.state.objects m.state.last ids)

-- as the code finds it
pub found_read : (m : Machine) (is_wide : Bool) (ids read : List ℕ) (found at : Option Refusal) → read ≡ ids
    → option_map refusal_view found ≡ sources_refusal m is_wide read → found ≡ at
    → sources_refusal m is_wide ids ≡ option_map refusal_view at
found_read m is_wide ids read found at same says is =
    ap (sources_refusal m is_wide) (sym same) ∙ sym says ∙ ap (option_map refusal_view) is
