-- Where the rows of dynamic tables are those of their queries.
--     first_key          a query with a Group through which changes can be carried groups by a key
--     keyed_by           so of a table whose groups are kept as its query and its mode ask for
--     all_stand          each table stands in a sound state
--     all_stand_with     and behind one more object that stands for no moment
use Rattle.std.proofs.Common.{◌≡◌, ℕ, suc, ◌<◌, ◌≤◌, ◌⊎◌, inl, inr, Bool, true, false, cond, List, [], ◌∷◌, ◌++◌}
use Rattle.std.proofs.Common.{length, Option, Some, None, option_map, IsTrue, refl, sym, ap, subst, ◌∙◌, arith}
use Rattle.std.proofs.lemmas.Option.{same_Some}
use Rattle.std.specs.Prelude.{◌&&◌, nat_lt}
use Rattle.std.specs.Option.{IfSome, option_and_then}
use Rattle.std.specs.FinMap.{values}
use Rattle.wh_meaning.specs.Bag.{bag_of}
use Rattle.wh_meaning.specs.Scalar.{Scalar}
use Rattle.wh_meaning.specs.Query.{Query, Call, Scan, Filter, Project, Join, UnionAll, Group}
use Rattle.wh_algebra.specs.Increments.{incrementable}
use Rattle.wh_maintenance.specs.Above.{Grouping, grouping}
use Rattle.wh_maintenance.specs.Delta.{linear}
use Rattle.wh_state.specs.State.{State, Object, Table, DynamicKind, dynamic_in, table_in, last_rows}
use Rattle.wh_state.specs.Dynamic.{Dynamic, Kept}
use Rattle.wh_state.specs.Objects.{table_at, as_table}
use Rattle.wh_state.specs.Bound.{query_bound, grouping_bound, kept_first, kept_for}
use Rattle.wh_state.specs.Sound.{Sound, IsSoundKind, IsSoundDynamic, IsKeptAs}
use Rattle.wh_state.proofs.PlaceLaws.{at_front, at_either}
use Rattle.wh_state.proofs.SoundObjects.{IsKept, kept_of, IsDynamicAt, found_dynamic, moments_within, kind_follows}
use Rattle.wh_state.proofs.SoundObjects.{more_follow}
use Rattle.wh_refresh.specs.Standing.{HasItsRows, HasKeys, IsKeyed, AllStand}

-- ---- keys

abbrev HasKey : Grouping → Type 0
HasKey g = (key : Scalar) × (keys : List Scalar) × (g.by ≡ key ∷ keys)

group_key : (q : Query) (by : List Scalar) (calls : List Call) (g : Grouping) (t : Bool)
    → (nat_lt 0 (length by) && incrementable q) ≡ true
    → cond t (Some (record { below = q; by = by; calls = calls })) None ≡ Some g → HasKey g
group_key q by calls g false is found = absurd cc
group_key q [] calls g true is found = absurd cc
group_key q (key ∷ keys) calls g true is found =
    let same : ◌≡◌ {A = Grouping} (record { below = q; by = key ∷ keys; calls = calls }) g = cc in
    (key, keys, sym (ap (λ (h : Grouping). h.by) same))

first_key : (q : Query) (g : Grouping) → incrementable q ≡ true → grouping q ≡ Some g → HasKey g
unfolding incrementable grouping
first_key (Scan source) g is found = absurd cc
first_key (Filter q condition) g is found = first_key q g is found
first_key (Project q items) g is found = first_key q g is found
first_key (Join left right on) g is found = absurd cc
first_key (UnionAll left right) g is found = absurd cc
first_key (Group q by calls) g is found = group_key q by calls g (linear q) is found

pub keyed_by : (objects : List Object) (d : Dynamic)
    → (IsTrue d.is_incremental → IsTrue (incrementable (query_bound objects d.query).query))
    → IsKeptAs (kept_for objects d.is_incremental d.query) d.kept → IsKeyed objects d
keyed_by objects d mode kept = by_kept d.is_incremental (grouping_bound objects d.query) d.kept mode refl kept
  where
    by_kept : (is_incremental : Bool) (found : Option Grouping) (kept : Option Kept)
        → (IsTrue is_incremental → IsTrue (incrementable (query_bound objects d.query).query))
        → grouping_bound objects d.query ≡ found
        → IsKeptAs (cond is_incremental (option_map kept_first found) None) kept
        → IfSome kept (λ k. HasKeys objects d)
    by_kept is_incremental found None mode is kept = tt
    by_kept false found (Some k) mode is kept = absurd cc
    by_kept true None (Some k) mode is kept = absurd cc
    by_kept true (Some g) (Some k) mode is kept =
        let has : HasKey g = first_key (query_bound objects d.query).query g (mode refl) is in
        record { group = g; is = is; key = has.0; keys = has.1; by = has.2 }

-- ---- a sound object that is a dynamic table

sound_there : (stamp : ℕ) (objects : List Object) (id : ℕ) (d : Dynamic) (at : IsDynamicAt objects id d)
    → IsSoundKind stamp objects at.object.kind → IsSoundDynamic stamp objects d at.table
sound_there stamp objects id d at sound = subst (IsSoundKind stamp objects) at.kind sound

stands_there : (stamp : ℕ) (objects : List Object) (id : ℕ) (d : Dynamic) (t : Table)
    → (at : IsDynamicAt objects id d) → IsSoundKind stamp objects at.object.kind → table_at objects id ≡ Some t
    → 0 < d.state.moment → HasItsRows objects d t
stands_there stamp objects id d t at sound is some =
    let same : at.table ≡ t = same_Some _ _ (
    sym (ap (option_and_then as_table) at.there ∙ ap table_in at.kind)
    ∙ is
    ) in
    let here = (sound_there stamp objects id d at sound).stands some in
    record {
      rows = here.rows ∙ ap (λ (u : Table). Some (bag_of (values (last_rows u)))) same;
      groups = here.groups;
    }

keyed_there : (stamp : ℕ) (objects : List Object) (id : ℕ) (d : Dynamic) (at : IsDynamicAt objects id d)
    → IsSoundKind stamp objects at.object.kind → IsKeyed objects d
keyed_there stamp objects id d at sound =
    let here = sound_there stamp objects id d at sound in keyed_by objects d here.mode here.kept

-- ---- all of them

pub all_stand : (s : State) → Sound s → AllStand s.objects
all_stand s sound = record {
  each = λ id d t is table some.
      let at : IsDynamicAt s.objects id d = found_dynamic s.objects id d is in
      stands_there s.committed s.objects id d t at (kept.each id at.object at.there) table some;
  keyed = λ id d is.
      let at : IsDynamicAt s.objects id d = found_dynamic s.objects id d is in
      keyed_there s.committed s.objects id d at (kept.each id at.object at.there);
}
  where
    kept : IsKept s.committed s.objects
    kept = kept_of s.committed s.objects sound.objects sound.earlier

pub all_stand_with : (s : State) (o : Object) → Sound s
    → ((d : Dynamic) → dynamic_in o.kind ≡ Some d → d.state.moment ≡ 0)
    → ((d : Dynamic) → dynamic_in o.kind ≡ Some d → IsKeyed (s.objects ++ o ∷ []) d) → AllStand (s.objects ++ o ∷ [])
all_stand_with s o sound new keyed = record {
  each = λ id d t is table some.
      let at : IsDynamicAt objects id d = found_dynamic objects id d is in
      stands_by id d t at table some (at_either s.objects o at.object id at.there);
  keyed = λ id d is.
      let at : IsDynamicAt objects id d = found_dynamic objects id d is in
      keyed_at id d at (at_either s.objects o at.object id at.there);
}
  where
    objects : List Object
    objects = s.objects ++ o ∷ []

    kept : IsKept s.committed s.objects
    kept = kept_of s.committed s.objects sound.objects sound.earlier

    sound_at : (id : ℕ) (d : Dynamic) (at : IsDynamicAt objects id d) → id ≤ length s.objects
        → IsSoundKind s.committed objects at.object.kind
    sound_at id d at within =
        kind_follows (suc s.committed) s.committed s.objects objects (more_follow (suc s.committed) s.objects o) kept
        (moments_within s.committed s.objects kept) id at.object
        (sym (at_front s.objects (o ∷ []) id within) ∙ at.there)

    is_last : (d : Dynamic) (p : Object) (t : Table) → o ≡ p → p.kind ≡ DynamicKind d t → dynamic_in o.kind ≡ Some d
    is_last d p t same kind = ap (λ (q : Object). dynamic_in q.kind) same ∙ ap dynamic_in kind

    stands_by : (id : ℕ) (d : Dynamic) (t : Table) (at : IsDynamicAt objects id d) → table_at objects id ≡ Some t
        → 0 < d.state.moment → (id ≤ length s.objects) ⊎ ((id ≡ suc (length s.objects)) × (o ≡ at.object))
        → HasItsRows objects d t
    stands_by id d t at table some (inl within) =
        stands_there s.committed objects id d t at (sound_at id d at within) table some
    stands_by id d t at table some (inr last) =
        let none = new d (is_last d at.object at.table last.1 at.kind) in absurd (omega (arith, some, none))

    keyed_at : (id : ℕ) (d : Dynamic) (at : IsDynamicAt objects id d)
        → (id ≤ length s.objects) ⊎ ((id ≡ suc (length s.objects)) × (o ≡ at.object)) → IsKeyed objects d
    keyed_at id d at (inl within) = keyed_there s.committed objects id d at (sound_at id d at within)
    keyed_at id d at (inr last) = keyed d (is_last d at.object at.table last.1 at.kind)
