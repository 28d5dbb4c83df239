-- The sources that a statement reads, one after the other.
--     stream_rows, table_rows     the rows that are read of one of them
--     seen_next                   one more
--     sources_shown               the partitions of all of them are shown
use Rattle.std.proofs.Common.{◌≡◌, ℕ, ◌+◌, ◌<◌, List, [], ◌∷◌, ◌++◌, map, length, take, get_or, Option, Some, None}
use Rattle.std.proofs.Common.{refl, sym, ap, subst, ◌∙◌}
use Rattle.wh_meaning.specs.Bag.{Bag, bag_of}
use Rattle.wh_exec.specs.Source.{filed_in}
use Rattle.wh_exec.specs.declared.source.Source.{Source}
use Rattle.wh_filed.specs.Filed.{AllShown, AreAmong}
use Rattle.wh_state.specs.State.{State, Kind, TableKind, StreamKind, TaskKind, DynamicKind, Object, Stream}
use Rattle.wh_state.specs.State.{at_id}
use Rattle.wh_state.specs.Objects.{table_at, stream_at}
use Rattle.wh_machine.specs.Queries.{table_bag}
use Rattle.wh_net.specs.Stream.{rows_shown}
use Rattle.wh_machine.specs.Transaction.{Transaction, seen}
use Rattle.wh_machine.specs.Reading.{object_rows, kind_rows}
use Rattle.wh_catalog.specs.Catalog.{stored_of, state_of, filed_of}
use Rattle.wh_catalog.specs.declared.catalog.Catalog.{Catalog}
use Rattle.wh_txn.proofs.SeenLemmas.{catalog_stream}
use Rattle.wh_plan.proofs.ListLaws.{mapped_next}
use Rattle.wh_decide.specs.declared.sources.SourceSeen.{SourceSeen}
use Rattle.wh_decide.specs.declared.sight.Sight.{Sight}
use Rattle.wh_decide.specs.Sight.{IsShown}
use Rattle.wh_decide.specs.Sources.{bag_seen, bags_seen, filed_seen}
use Rattle.wh_decide.proofs.ListLemmas.{some_is}
use Rattle.wh_decide.proofs.SeenLemmas.{seen_missing}

-- ---- one source

found_stream : (objects before : List Object) (start id : ℕ) (s : Stream) → stream_at objects id ≡ Some s
    → object_rows objects before start id (at_id objects id) ≡ bag_of (rows_shown objects s start)
found_stream objects before start id s is = by_object (at_id objects id) refl
  where
    by_kind : (o : Object) (k : Kind) → at_id objects id ≡ Some o → o.kind ≡ k
        → kind_rows objects before start id o.kind ≡ bag_of (rows_shown objects s start)
    by_kind o (TableKind t) there kind = let found = rw (there, kind) at is in absurd cc
    by_kind o (TaskKind t) there kind = let found = rw (there, kind) at is in absurd cc
    by_kind o (DynamicKind d t) there kind = let found = rw (there, kind) at is in absurd cc
    by_kind o (StreamKind u) there kind =
        let found = rw (there, kind) at is in
        ap (kind_rows objects before start id) kind
        ∙ ap (λ (v : Stream). bag_of (rows_shown objects v start)) (some_is u s found)

    by_object : (found : Option Object) → at_id objects id ≡ found
        → object_rows objects before start id found ≡ bag_of (rows_shown objects s start)
    by_object None none = let found = rw none at is in absurd cc
    by_object (Some o) there = by_kind o o.kind there refl

found_table : (s : State) (t : Option Transaction) (start id : ℕ) → stream_at s.objects id ≡ None
    → object_rows s.objects (seen s t).objects start id (at_id s.objects id)
    ≡ table_bag (table_at (seen s t).objects id)
found_table s t start id is = by_object (at_id s.objects id) refl
  where
    by_kind : (o : Object) (k : Kind) → at_id s.objects id ≡ Some o → o.kind ≡ k
        → kind_rows s.objects (seen s t).objects start id o.kind ≡ table_bag (table_at (seen s t).objects id)
    by_kind o (TableKind u) there kind = ap (kind_rows s.objects (seen s t).objects start id) kind
    by_kind o (TaskKind u) there kind = ap (kind_rows s.objects (seen s t).objects start id) kind
    by_kind o (DynamicKind d u) there kind = ap (kind_rows s.objects (seen s t).objects start id) kind
    by_kind o (StreamKind u) there kind = let found = rw (there, kind) at is in absurd cc

    by_object : (found : Option Object) → at_id s.objects id ≡ found
        → object_rows s.objects (seen s t).objects start id found ≡ table_bag (table_at (seen s t).objects id)
    by_object None none =
        let missing : table_at s.objects id ≡ None = rw none in
        sym (ap table_bag (seen_missing s t id missing))
    by_object (Some o) there = by_kind o o.kind there refl

pub stream_rows : (c : Catalog) (before : List Object) (start id : ℕ) (s : Stream)
    → stream_at (stored_of c).objects id ≡ Some s
    → object_rows (state_of c).objects before start id (at_id (state_of c).objects id)
    ≡ bag_of (rows_shown (state_of c).objects s start)
stream_rows c before start id s is = found_stream (state_of c).objects before start id s (catalog_stream c id ∙ is)

-- at a stamp
pub table_rows : (c : Catalog) (s : State) (t : Option Transaction) (start id : ℕ)
    → s.objects ≡ (state_of c).objects → stream_at (stored_of c).objects id ≡ None
    → object_rows s.objects (seen s t).objects start id (at_id s.objects id)
    ≡ table_bag (table_at (seen s t).objects id)
table_rows c s t start id same is =
    found_table s t start id (ap (λ (objects : List Object). stream_at objects id) same ∙ catalog_stream c id ∙ is)

-- ---- several

pub seen_next : (read : ℕ → Bag) (ids : List ℕ) (i : ℕ) (seen new : List SourceSeen) (one : SourceSeen)
    → i < length ids → new ≡ seen ++ one ∷ [] → bags_seen seen ≡ map read (take i ids)
    → bag_seen one ≡ read (get_or ids i 0)
    → bags_seen new ≡ map read (take (i + 1) ids)
seen_next read ids i seen new one within is all here =
    mapped_next bag_seen read ids i seen new one (get_or ids i 0) 0 within refl is all here

-- what is told of the file stays, so that the sources are shown
pub sources_shown : (sight : Sight) (told later : Option (List ℕ)) (seen held : List SourceSeen)
    (sources given : List Source)
    → later ≡ told → held ≡ seen → filed_in sources ≡ filed_seen held → given ≡ sources
    → AreAmong (filed_seen seen) (filed_of sight.catalog.now) → IsShown told sight
    → AllShown later (filed_in given)
sources_shown sight told later seen held sources given same held_is filed given_is among shown =
    subst (λ (bytes : Option (List ℕ)). AllShown bytes (filed_in given)) (sym same)
    (subst (AllShown told) (sym (ap filed_in given_is ∙ filed ∙ ap filed_seen held_is)) (among told shown))
