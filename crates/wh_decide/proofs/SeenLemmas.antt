-- The objects as a session sees them.
--     seen_there, seen_missing     the table of an id, where there is one
use Rattle.std.proofs.Common.{◌≡◌, ℕ, zero, suc, List, [], ◌∷◌, Option, Some, None, option_map}
use Rattle.std.proofs.Common.{slice_get, refl, ap, sym, ◌∙◌}
use Rattle.std.specs.FinMap.{FinMap, get}
use Rattle.std.specs.Ordering.{nat_cmp}
use Rattle.wh_state.specs.State.{State, Kind, TableKind, StreamKind, TaskKind, DynamicKind, Object, Table, at_id}
use Rattle.wh_state.specs.Act.{edited_table}
use Rattle.wh_state.specs.Objects.{as_table, table_at}
use Rattle.wh_machine.specs.Transaction.{Staged, Transaction, with_own, seen_from, seen}

-- each is one that is there, maybe with edits
record IsSeen (before after : Option Object) : Type 0 where
  stamp : ℕ
  own : Option Staged
  is : after ≡ option_map (with_own stamp own) before

seen_at_place : (stamp place : ℕ) (tables : FinMap nat_cmp Staged) (os : List Object) (at : ℕ)
    → IsSeen (slice_get os at) (slice_get (seen_from stamp place tables os) at)
seen_at_place stamp place tables [] at = record { stamp = stamp; own = None; is = refl }
seen_at_place stamp place tables (o ∷ os) zero = record { stamp = stamp; own = get tables place; is = refl }
seen_at_place stamp place tables (o ∷ os) (suc at) = seen_at_place stamp (suc place) tables os at

same_object : (found : Option Object) → found ≡ option_map (with_own 0 None) found
same_object None = refl
same_object (Some o) = refl

seen_at : (s : State) (t : Option Transaction) (id : ℕ) → IsSeen (at_id s.objects id) (at_id (seen s t).objects id)
unfolding seen
seen_at s None id = record { stamp = 0; own = None; is = same_object (at_id s.objects id) }
seen_at s (Some t) zero = record { stamp = 0; own = None; is = refl }
seen_at s (Some t) (suc place) = seen_at_place s.last 1 t.tables s.objects place

-- edits of a table, if there are some
abbrev own_edits : ℕ → Option Staged → Table → Table
own_edits stamp None t = t
own_edits stamp (Some s) t = edited_table stamp stamp s.edits t

one_table : (stamp : ℕ) (own : Option Staged) (o : Object)
    → as_table (with_own stamp own o) ≡ option_map (own_edits stamp own) (as_table o)
one_table stamp own o = by_own own
  where
    by_kind : (s : Staged) (k : Kind) → o.kind ≡ k
        → as_table (with_own stamp (Some s) o) ≡ option_map (own_edits stamp (Some s)) (as_table o)
    by_kind s (TableKind t) is = rw is refl
    by_kind s (StreamKind u) is = rw is refl
    by_kind s (TaskKind u) is = rw is refl
    by_kind s (DynamicKind d u) is = rw is refl

    same_edits : (found : Option Table) → found ≡ option_map (own_edits stamp None) found
    same_edits None = refl
    same_edits (Some t) = refl

    by_own : (staged : Option Staged)
        → as_table (with_own stamp staged o) ≡ option_map (own_edits stamp staged) (as_table o)
    by_own None = same_edits (as_table o)
    by_own (Some s) = by_kind s o.kind refl

-- the table of an id, if there is one, maybe with edits
record IsSeenTable (before after : Option Table) : Type 0 where
  stamp : ℕ
  own : Option Staged
  is : after ≡ option_map (own_edits stamp own) before

table_seen : (s : State) (t : Option Transaction) (id : ℕ)
    → IsSeenTable (table_at s.objects id) (table_at (seen s t).objects id)
table_seen s t id =
    let h = seen_at s t id in
    by_object h.stamp h.own (at_id s.objects id) refl h.is
  where
    by_object : (stamp : ℕ) (own : Option Staged) (found : Option Object) → at_id s.objects id ≡ found
        → at_id (seen s t).objects id ≡ option_map (with_own stamp own) (at_id s.objects id)
        → IsSeenTable (table_at s.objects id) (table_at (seen s t).objects id)
    by_object stamp own None none is =
        let before : table_at s.objects id ≡ None = rw none in
        let after : at_id (seen s t).objects id ≡ None = is ∙ ap (option_map (with_own stamp own)) none in
        record { stamp = stamp; own = own; is = rw (after, before) }
    by_object stamp own (Some o) there is =
        let before : table_at s.objects id ≡ as_table o = rw there in
        let after : at_id (seen s t).objects id ≡ Some (with_own stamp own o) =
        is ∙ ap (option_map (with_own stamp own)) there in
        record {
          stamp = stamp;
          own = own;
          is = rw after (one_table stamp own o) ∙ ap (option_map (own_edits stamp own)) (sym before);
        }

pub seen_missing : (s : State) (t : Option Transaction) (id : ℕ) → table_at s.objects id ≡ None
    → table_at (seen s t).objects id ≡ None
seen_missing s t id is =
    let h = table_seen s t id in
    h.is ∙ ap (option_map (own_edits h.stamp h.own)) is

pub seen_there : (s : State) (t : Option Transaction) (id : ℕ) (u : Table) → table_at s.objects id ≡ Some u
    → (v : Table) × (table_at (seen s t).objects id ≡ Some v)
seen_there s t id u is =
    let h = table_seen s t id in
    (own_edits h.stamp h.own u, h.is ∙ ap (option_map (own_edits h.stamp h.own)) is)
