-- Objects that are sound one by one.
--     IsKept                    each object is sound at a stamp, and each dynamic table reads earlier ones
--     kept_of, all_sound        so are all that are sound, and the other way round
--     AllBefore, moments_within     the moments of dynamic tables before a stamp
--     written_evaluated         a query over tables alone, where what it reads stands for the moment
--     dynamic_follows           a dynamic table among objects that follow
--     changed_kept, more_kept   one object that is changed, and one more
use Rattle.std.proofs.Common.{◌≡◌, ℕ, zero, suc, ◌<◌, ◌≤◌, ◌⊎◌, inl, inr, List, [], ◌∷◌, ◌++◌, length, Option, Some}
use Rattle.std.proofs.Common.{None}
use Rattle.std.proofs.Common.{option_map, refl, sym, ap, subst, ◌∙◌, arith, IsTrue}
use Rattle.std.specs.List.{AllByRecursion}
use Rattle.std.specs.Option.{IsSomeAnd, IfSome, option_and_then, option_map_or}
use Rattle.std.proofs.lemmas.Option.{IfSome_then}
use Rattle.std.specs.FinMap.{values}
use Rattle.wh_meaning.specs.Bag.{Bag, bag_of, no_rows}
use Rattle.wh_naming.specs.Select.{BoundQuery}
use Rattle.wh_algebra.specs.Increments.{incrementable}
use Rattle.wh_state.specs.State.{Table, Kind, TableKind, StreamKind, TaskKind, DynamicKind, Object, at_id, changed_at}
use Rattle.wh_state.specs.State.{Rows, rows_at, table_in, dynamic_in, put_at}
use Rattle.wh_state.specs.Dynamic.{DynamicQuery, Kept, Dynamic, ids_read}
use Rattle.wh_state.specs.Objects.{as_table, as_dynamic, dynamic_at}
use Rattle.wh_state.specs.Moments.{bag_at, evaluated_at, written_out, given_by, over_tables}
use Rattle.wh_state.specs.Sound.{IsTimelyFor, IsOlder, IsKeptAs, IsSoundDynamic, IsSoundKind, IsSoundObject}
use Rattle.wh_state.specs.Sound.{ReadsEarlier}
use Rattle.wh_state.proofs.AllLaws.{all_map, all_both, all_at}
use Rattle.wh_state.proofs.IdLaws.{at_spared}
use Rattle.wh_state.proofs.FoundLaws.{at_same, same_or_not}
use Rattle.wh_state.proofs.EvaluatedLaws.{IsNextKind, next_table, next_stream, next_task, next_dynamic, IsNextAt}
use Rattle.wh_state.proofs.EvaluatedLaws.{Follows}
use Rattle.wh_state.proofs.EvaluatedLaws.{StandAt, written_same, written_is, rows_last}
use Rattle.wh_state.proofs.EvaluatedLaws.{next_at, IsThere, bound_follows, kept_follows, ids_read_hold, StandFrom}
use Rattle.wh_state.proofs.EvaluatedLaws.{evaluated_follows, groups_follow}
use Rattle.wh_state.proofs.PlaceLaws.{at_within, at_front, at_either, all_from}

-- ---- objects one by one

pub record IsKept (stamp : ℕ) (objects : List Object) : Type 0 where
  pub each : (id : ℕ) (o : Object) → at_id objects id ≡ Some o → IsSoundKind stamp objects o.kind
  pub earlier : ReadsEarlier objects

pub kept_of : (stamp : ℕ) (objects : List Object) → AllByRecursion (IsSoundObject stamp objects) objects
    → ReadsEarlier objects
    → IsKept stamp objects
kept_of stamp objects sound earlier =
    record { each = λ id o there. all_at (IsSoundObject stamp objects) objects id o sound there; earlier = earlier }

pub all_sound : (stamp : ℕ) (objects : List Object) → IsKept stamp objects
    → AllByRecursion (IsSoundObject stamp objects) objects
all_sound stamp objects kept =
    all_from (IsSoundObject stamp objects) objects (λ place o there. kept.each (suc place) o there)

-- the object of a dynamic table
pub record IsDynamicAt (objects : List Object) (id : ℕ) (d : Dynamic) : Type 0 where
  pub object : Object
  pub table : Table
  pub there : at_id objects id ≡ Some object
  pub kind : object.kind ≡ DynamicKind d table

pub found_dynamic : (objects : List Object) (id : ℕ) (d : Dynamic) → dynamic_at objects id ≡ Some d
    → IsDynamicAt objects id d
found_dynamic objects id d is = by_found (at_id objects id) refl is
  where
    by_kind : (o : Object) (k : Kind) → at_id objects id ≡ Some o → o.kind ≡ k → dynamic_in k ≡ Some d
        → IsDynamicAt objects id d
    by_kind o (TableKind t) there same is = absurd cc
    by_kind o (StreamKind s) there same is = absurd cc
    by_kind o (TaskKind t) there same is = absurd cc
    by_kind o (DynamicKind e t) there same is = record {
      object = o;
      table = t;
      there = there;
      kind = same ∙ ap (λ (e : Dynamic). DynamicKind e t) cc;
    }

    by_found : (found : Option Object) → at_id objects id ≡ found → option_and_then as_dynamic found ≡ Some d
        → IsDynamicAt objects id d
    by_found None there is = absurd cc
    by_found (Some o) there is = by_kind o o.kind there refl is

pub dynamic_there : (objects : List Object) (id : ℕ) (o : Object) (d : Dynamic) (t : Table) → at_id objects id ≡ Some o
    → o.kind ≡ DynamicKind d t → dynamic_at objects id ≡ Some d
dynamic_there objects id o d t there is =
    ap (option_and_then as_dynamic) there ∙ ap dynamic_in is

-- what a dynamic table reads is there
pub reads_there : (objects : List Object) (id : ℕ) (d : Dynamic) → ReadsEarlier objects → dynamic_at objects id ≡ Some d
    → IsThere objects d.query
reads_there objects id d earlier is =
    let at : IsDynamicAt objects id d = found_dynamic objects id d is in
    let within : id ≤ length objects = (at_within objects id at.object at.there).1 in
    all_map (λ s. s.id < id) (λ s. s.id ≤ length objects) (λ s before. omega (arith, before, within)) d.query.sources
    (earlier id d is)

-- ---- moments

abbrev pub AllBefore : ℕ → List Object → Type 0
AllBefore before objects = (id : ℕ) (d : Dynamic) → dynamic_at objects id ≡ Some d → d.state.moment < before

pub sound_at : (stamp : ℕ) (objects : List Object) (id : ℕ) (d : Dynamic) → IsKept stamp objects
    → (at : IsDynamicAt objects id d) → IsSoundDynamic stamp objects d at.table
sound_at stamp objects id d kept at =
    subst (IsSoundKind stamp objects) at.kind (kept.each id at.object at.there)

pub moments_within : (stamp : ℕ) (objects : List Object) → IsKept stamp objects → AllBefore (suc stamp) objects
moments_within stamp objects kept id d is =
    let at : IsDynamicAt objects id d = found_dynamic objects id d is in
    omega (arith, (sound_at stamp objects id d kept at).moment)

-- ---- what stands for a moment gives its rows

-- over tables alone, with layers enough
given_rows : (stamp moment layers : ℕ) (objects : List Object) → IsKept stamp objects → 0 < moment → (id : ℕ)
    → id < layers → IfSome (dynamic_at objects id) (λ e. e.state.moment ≡ moment)
    → over_tables layers objects moment id ≡ Some (bag_at objects moment id)
given_rows stamp moment zero objects kept some id less at = absurd (omega (arith, less))
given_rows stamp moment (suc layers) objects kept some id less at = by_found (at_id objects id) refl at
  where
    below : (e : Dynamic) → dynamic_at objects id ≡ Some e → AllByRecursion (λ x. x < layers) (ids_read e.query)
    below e is =
        let place : IsDynamicAt objects id e = found_dynamic objects id e is in
        all_map (λ x. x < id) (λ x. x < layers) (λ x h. omega (arith, h, less)) (ids_read e.query)
        (ids_read_hold (λ x. x < id) (at_within objects id place.object place.there).0 e.query (kept.earlier id e is))

    stands : (e : Dynamic) (t : Table) → dynamic_at objects id ≡ Some e → IsSoundDynamic stamp objects e t
        → e.state.moment ≡ moment
        → written_out (over_tables layers objects moment) objects e ≡ Some (bag_of (values (rows_at t moment)))
    stands e t is sound same =
        ap (λ (time : ℕ). written_out (over_tables layers objects time) objects e) (sym same)
        ∙ (sound.stands (omega (arith, same, some))).whole layers (below e is)
        ∙ ap (λ (held : Rows). Some (bag_of (values held))) (sym (rows_last t moment
        (all_map (IsTimelyFor stamp e.state.moment) (λ v. v.data_timestamp ≤ moment)
        (λ v timely. omega (arith, timely.data_timestamp, same)) t.versions sound.timely)))

    by_kind : (o : Object) (k : Kind) → at_id objects id ≡ Some o → o.kind ≡ k → IsSoundKind stamp objects k
        → IfSome (dynamic_in k) (λ e. e.state.moment ≡ moment)
        → given_by (over_tables layers objects moment) objects moment k
        ≡ Some (option_map_or (λ t. bag_of (values (rows_at t moment))) (table_in k) no_rows)
    by_kind o (TableKind t) there is sound at = refl
    by_kind o (StreamKind s) there is sound at = refl
    by_kind o (TaskKind t) there is sound at = refl
    by_kind o (DynamicKind e t) there is sound at = stands e t (dynamic_there objects id o e t there is) sound at

    by_found : (found : Option Object) → at_id objects id ≡ found
        → IfSome (option_and_then as_dynamic found) (λ e. e.state.moment ≡ moment)
        → option_map_or (λ o. given_by (over_tables layers objects moment) objects moment o.kind) found (Some no_rows)
        ≡ Some (option_map_or (λ t. bag_of (values (rows_at t moment))) (option_and_then as_table found) no_rows)
    by_found None there at = refl
    by_found (Some o) there at = by_kind o o.kind there refl (kept.each id o there) at

-- so a query over what stands for a moment gives the same over tables alone
pub written_evaluated : (stamp moment layers : ℕ) (objects : List Object) → IsKept stamp objects → 0 < moment
    → (d : Dynamic) → StandAt moment objects (ids_read d.query) → AllByRecursion (λ id. id < layers) (ids_read d.query)
    → written_out (over_tables layers objects moment) objects d ≡ evaluated_at objects moment d
written_evaluated stamp moment layers objects kept some d stand enough =
    written_is (over_tables layers objects moment) objects moment d
    (all_both (λ id. id < layers) (λ id. IfSome (dynamic_at objects id) (λ e. e.state.moment ≡ moment))
    (λ id. over_tables layers objects moment id ≡ Some (bag_at objects moment id))
    (λ id less at. given_rows stamp moment layers objects kept some id less at) (ids_read d.query) enough stand)

-- ---- objects that follow

pub older_follows : (before created : ℕ) (old new : List Object) → Follows before old new → (id : ℕ) → id ≤ length old
    → IsOlder old created id → IsOlder new created id
older_follows before created old new follows id there older =
    by_found (at_id old id) (at_id new id) (follows id there) older
  where
    by_kind : (k l : Kind) → IsNextKind before k l
        → IfSome (dynamic_in k) (λ e. IfSome (table_in k) (λ u. u.created ≤ created))
        → IfSome (dynamic_in l) (λ e. IfSome (table_in l) (λ u. u.created ≤ created))
    by_kind k l (next_table made columns rows) older = tt
    by_kind k l (next_stream columns) older = tt
    by_kind k l next_task older = tt
    by_kind k l (next_dynamic query made columns moment rows) older = omega (arith, made, older)

    by_found : (found other : Option Object) → IsNextAt before found other
        → IfSome (option_and_then as_dynamic found)
        (λ e. IfSome (option_and_then as_table found) (λ u. u.created ≤ created))
        → IfSome (option_and_then as_dynamic other)
        (λ e. IfSome (option_and_then as_table other) (λ u. u.created ≤ created))
    by_found None other is older = subst (λ (p : Option Object). IfSome (option_and_then as_dynamic p)
        (λ e. IfSome (option_and_then as_table p) (λ u. u.created ≤ created))) (sym is) tt
    by_found (Some o) None is older = absurd is
    by_found (Some o) (Some p) is older = by_kind o.kind p.kind is older

stand_follows : (before moment : ℕ) (old new : List Object) → Follows before old new → (id : ℕ) → id ≤ length old
    → IfSome (dynamic_at old id) (λ e. moment ≤ e.state.moment)
    → IfSome (dynamic_at new id) (λ e. moment ≤ e.state.moment)
stand_follows before moment old new follows id there up =
    by_found (at_id old id) (at_id new id) (follows id there) up
  where
    by_kind : (k l : Kind) → IsNextKind before k l → IfSome (dynamic_in k) (λ e. moment ≤ e.state.moment)
        → IfSome (dynamic_in l) (λ e. moment ≤ e.state.moment)
    by_kind k l (next_table made columns rows) up = tt
    by_kind k l (next_stream columns) up = tt
    by_kind k l next_task up = tt
    by_kind k l (next_dynamic query made columns later rows) up = omega (arith, later, up)

    by_found : (found other : Option Object) → IsNextAt before found other
        → IfSome (option_and_then as_dynamic found) (λ e. moment ≤ e.state.moment)
        → IfSome (option_and_then as_dynamic other) (λ e. moment ≤ e.state.moment)
    by_found None other is up = subst (λ (p : Option Object).
        IfSome (option_and_then as_dynamic p) (λ e. moment ≤ e.state.moment)) (sym is) tt
    by_found (Some o) None is up = absurd is
    by_found (Some o) (Some p) is up = by_kind o.kind p.kind is up

-- each of those that a query reads stands from a moment on
pub all_stand : (before moment : ℕ) (old new : List Object) → Follows before old new → (d : Dynamic)
    → IsThere old d.query → StandFrom moment old (ids_read d.query) → StandFrom moment new (ids_read d.query)
all_stand before moment old new follows d there stand =
    all_both (λ id. id ≤ length old) (λ id. IfSome (dynamic_at old id) (λ e. moment ≤ e.state.moment))
    (λ id. IfSome (dynamic_at new id) (λ e. moment ≤ e.state.moment))
    (λ id here up. stand_follows before moment old new follows id here up) (ids_read d.query)
    (ids_read_hold (λ id. id ≤ length old) (omega arith) d.query there) stand

-- what it gives over tables alone
written_alike : (before : ℕ) (old new : List Object) → Follows before old new → (gives other : ℕ → Option Bag)
    → ((id : ℕ) → id ≤ length old → gives id ≡ other id) → (d e : Dynamic) → e.query ≡ d.query → IsThere old d.query
    → written_out gives new e ≡ written_out other old d
written_alike before old new follows gives other same d e query there =
    written_same gives other old new d e query (bound_follows before old new follows d.query there)
    (all_map (λ id. id ≤ length old) (λ id. gives id ≡ other id) (λ id here. same id here) (ids_read d.query)
    (ids_read_hold (λ id. id ≤ length old) (omega arith) d.query there))

over_follows : (before time : ℕ) (old new : List Object) → Follows before old new → ReadsEarlier old → time < before
    → (layers : ℕ) (id : ℕ) → id ≤ length old → over_tables layers new time id ≡ over_tables layers old time id
over_follows before time old new follows earlier within zero id here = refl
over_follows before time old new follows earlier within (suc layers) id here =
    by_found (at_id old id) (at_id new id) refl (follows id here)
    (λ x h. over_follows before time old new follows earlier within layers x h)
  where
    Alike : Type 0
    Alike = (x : ℕ) → x ≤ length old → over_tables layers new time x ≡ over_tables layers old time x

    given : Option Object → List Object → Option Bag
    given found objects = option_map_or (λ o. given_by (over_tables layers objects time) objects time o.kind) found
        (Some no_rows)

    by_kind : (o : Object) (k l : Kind) → at_id old id ≡ Some o → o.kind ≡ k → IsNextKind before k l → Alike
        → given_by (over_tables layers new time) new time l ≡ given_by (over_tables layers old time) old time k
    by_kind o k l there is (next_table made columns rows) alike =
        ap (λ (held : Rows). Some (bag_of (values held))) (rows time within)
    by_kind o k l there is (next_stream columns) alike = refl
    by_kind o k l there is next_task alike = refl
    by_kind o k l there is (next_dynamic {d} {e} {t} query made columns moment rows) alike =
        written_alike before old new follows (over_tables layers new time) (over_tables layers old time) alike d e query
        (reads_there old id d earlier (dynamic_there old id o d t there is))

    by_found : (found other : Option Object) → at_id old id ≡ found → IsNextAt before found other → Alike
        → given other new ≡ given found old
    by_found None other there is alike = ap (λ (p : Option Object). given p new) is
    by_found (Some o) None there is alike = absurd is
    by_found (Some o) (Some p) there is alike = by_kind o o.kind p.kind there refl is alike

pub written_follows : (before time : ℕ) (old new : List Object) → Follows before old new → ReadsEarlier old
    → time < before → (layers : ℕ) (d : Dynamic) → IsThere old d.query
    → written_out (over_tables layers new time) new d ≡ written_out (over_tables layers old time) old d
written_follows before time old new follows earlier within layers d there =
    written_alike before old new follows (over_tables layers new time) (over_tables layers old time)
    (λ id here. over_follows before time old new follows earlier within layers id here) d d refl there

pub dynamic_follows : (before stamp : ℕ) (old new : List Object) → Follows before old new → ReadsEarlier old
    → (d : Dynamic) (t : Table)
    → IsThere old d.query → d.state.moment < before → IsSoundDynamic stamp old d t → IsSoundDynamic stamp new d t
dynamic_follows before stamp old new follows earlier d t there within sound = record {
  created = sound.created;
  older = all_both (λ id. id ≤ length old) (IsOlder old t.created) (IsOlder new t.created)
      (λ id here older. older_follows before t.created old new follows id here older) (ids_read d.query)
      (ids_read_hold (λ id. id ≤ length old) (omega arith) d.query there) sound.older;
  moment = sound.moment;
  tried = sound.tried;
  timely = sound.timely;
  rise = sound.rise;
  below = sound.below;
  none_returns = sound.none_returns;
  mode = λ is. subst (λ (b : BoundQuery). IsTrue (incrementable b.query))
      (sym (bound_follows before old new follows d.query there)) (sound.mode is);
  kept = subst (λ (first : Option Kept). IsKeptAs first d.kept)
      (sym (kept_follows before old new follows d.is_incremental d.query there)) sound.kept;
  stands = λ some. record {
    rows = evaluated_follows before d.state.moment old new follows d there within (sound.stands some).sources
        ∙ (sound.stands some).rows;
    groups = IfSome_then d.kept (sound.stands some).groups (λ k is.
        groups_follow before d.state.moment old new follows d there within (sound.stands some).sources ∙ is);
    sources = all_stand before d.state.moment old new follows d there (sound.stands some).sources;
    whole = λ layers enough.
        written_follows before d.state.moment old new follows earlier within layers d there
        ∙ (sound.stands some).whole layers enough;
  };
  none = sound.none;
  no_groups = sound.no_groups;
}

-- an object that stays as it is
pub kind_follows : (before stamp : ℕ) (old new : List Object) → Follows before old new → IsKept stamp old
    → AllBefore before old
    → (id : ℕ) (o : Object) → at_id old id ≡ Some o → IsSoundKind stamp new o.kind
kind_follows before stamp old new follows kept within id o there = by_kind o.kind refl (kept.each id o there)
  where
    by_kind : (k : Kind) → o.kind ≡ k → IsSoundKind stamp old k → IsSoundKind stamp new k
    by_kind (TableKind t) is sound = sound
    by_kind (StreamKind s) is sound = sound
    by_kind (TaskKind t) is sound = tt
    by_kind (DynamicKind d t) is sound =
        let at : dynamic_at old id ≡ Some d = dynamic_there old id o d t there is in
        dynamic_follows before stamp old new follows kept.earlier d t (reads_there old id d kept.earlier at)
        (within id d at) sound

-- ---- one that is changed

-- what stands at each id behind the change
next_changed : (before : ℕ) (objects : List Object) (id : ℕ) (f : Object → Object)
    → ((o : Object) → at_id objects id ≡ Some o → IsNextKind before o.kind (f o).kind) → (other : ℕ)
    → IsNextAt before (at_id objects other) (at_id (changed_at objects id f) other)
next_changed before objects id f next other = by_id (same_or_not other id)
  where
    here : (found : Option Object) → at_id objects id ≡ found
        → IsNextAt before found (at_id (changed_at objects id f) id)
    here None there = ap (λ (found : Option Object). at_id (put_at objects id (option_map f found)) id) there ∙ there
    here (Some o) there =
        subst (λ (p : Option Object). IsSomeAnd p (λ p. IsNextKind before o.kind p.kind))
        (sym (at_same f objects id o there)) (next o there)

    by_id : (other ≡ id) ⊎ (other ≡ id → ⊥)
        → IsNextAt before (at_id objects other) (at_id (changed_at objects id f) other)
    by_id (inl same) = subst (λ (n : ℕ). IsNextAt before (at_id objects n) (at_id (changed_at objects id f) n))
        (sym same) (here (at_id objects id) refl)
    by_id (inr apart) = next_at before (at_id objects other) (at_id (changed_at objects id f) other)
        (at_spared f objects id other apart)

-- a dynamic table was one before, with the same query
record WasDynamic (found : Option Object) (e : Dynamic) : Type 0 where
  d : Dynamic
  there : option_and_then as_dynamic found ≡ Some d
  query : e.query ≡ d.query

was_dynamic : (before : ℕ) (found other : Option Object) (new : Dynamic) → IsNextAt before found other
    → option_and_then as_dynamic other ≡ Some new → WasDynamic found new
was_dynamic before None other new is there = absurd (cc (ap (option_and_then as_dynamic) is, there))
was_dynamic before (Some o) None new is there = absurd is
was_dynamic before (Some o) (Some p) new is there = by_kind o.kind p.kind is there
  where
    by_kind : (k l : Kind) → IsNextKind before k l → dynamic_in l ≡ Some new
        → WasDynamic (Some (record o { kind = k })) new
    by_kind k l (next_table made columns rows) there = absurd cc
    by_kind k l (next_stream columns) there = absurd cc
    by_kind k l next_task there = absurd cc
    by_kind k l (next_dynamic {d} {e} query made columns moment rows) there =
        let same : new ≡ e = cc in
        record { d = d; there = refl; query = ap (λ (c : Dynamic). c.query) same ∙ query }

pub changed_kept : (before stamp : ℕ) (objects : List Object) (id : ℕ) (f : Object → Object) → IsKept stamp objects
    → AllBefore before objects
    → ((o : Object) → at_id objects id ≡ Some o → IsNextKind before o.kind (f o).kind)
    → (Follows before objects (changed_at objects id f) → (o : Object) → at_id objects id ≡ Some o
    → IsSoundKind stamp (changed_at objects id f) (f o).kind)
    → IsKept stamp (changed_at objects id f)
changed_kept before stamp objects id f kept within next sound = record {
  each = λ other o there. by_id other o there (same_or_not other id);
  earlier = λ other e is.
      let was : WasDynamic (at_id objects other) e = was_dynamic before (at_id objects other)
      (at_id (changed_at objects id f) other) e (next_changed before objects id f next other) is in
      subst (λ (q : DynamicQuery). AllByRecursion (λ s. s.id < other) q.sources) (sym was.query)
      (kept.earlier other was.d was.there);
}
  where
    follows : Follows before objects (changed_at objects id f)
    follows other there = next_changed before objects id f next other

    here : (found : Option Object) → at_id objects id ≡ found → (o : Object)
        → at_id (changed_at objects id f) id ≡ Some o → IsSoundKind stamp (changed_at objects id f) o.kind
    here None none o there = absurd cc
    here (Some old) was o there =
        let same : f old ≡ o = cc (at_same f objects id old was, there) in
        subst (λ (p : Object). IsSoundKind stamp (changed_at objects id f) p.kind) same (sound follows old was)

    by_id : (other : ℕ) (o : Object) → at_id (changed_at objects id f) other ≡ Some o
        → (other ≡ id) ⊎ (other ≡ id → ⊥)
        → IsSoundKind stamp (changed_at objects id f) o.kind
    by_id other o there (inl same) = here (at_id objects id) refl o
        (ap (at_id (changed_at objects id f)) (sym same) ∙ there)
    by_id other o there (inr apart) =
        kind_follows before stamp objects (changed_at objects id f) follows kept within other o
        (sym (at_spared f objects id other apart) ∙ there)

-- ---- one more

pub more_follow : (before : ℕ) (objects : List Object) (o : Object) → Follows before objects (objects ++ o ∷ [])
more_follow before objects o id there = next_at before (at_id objects id) (at_id (objects ++ o ∷ []) id)
    (at_front objects (o ∷ []) id there)

pub more_kept : (stamp : ℕ) (objects : List Object) (o : Object) → IsKept stamp objects
    → IsSoundKind stamp (objects ++ o ∷ []) o.kind
    → ((d : Dynamic) → dynamic_in o.kind ≡ Some d → AllByRecursion (λ s. s.id ≤ length objects) d.query.sources)
    → IsKept stamp (objects ++ o ∷ [])
more_kept stamp objects o kept sound reads = record {
  each = λ id p there. each_by id p there (at_either objects o p id there);
  earlier = λ id d is. by_at id d (found_dynamic (objects ++ o ∷ []) id d is);
}
  where
    each_by : (id : ℕ) (p : Object) → at_id (objects ++ o ∷ []) id ≡ Some p
        → (id ≤ length objects) ⊎ ((id ≡ suc (length objects)) × (o ≡ p))
        → IsSoundKind stamp (objects ++ o ∷ []) p.kind
    each_by id p there (inl within) =
        kind_follows (suc stamp) stamp objects (objects ++ o ∷ []) (more_follow (suc stamp) objects o) kept
        (moments_within stamp objects kept) id p (sym (at_front objects (o ∷ []) id within) ∙ there)
    each_by id p there (inr last) = subst (λ (q : Object). IsSoundKind stamp (objects ++ o ∷ []) q.kind) last.1 sound

    earlier_by : (id : ℕ) (d : Dynamic) (at : IsDynamicAt (objects ++ o ∷ []) id d)
        → (id ≤ length objects) ⊎ ((id ≡ suc (length objects)) × (o ≡ at.object))
        → AllByRecursion (λ s. s.id < id) d.query.sources
    earlier_by id d at (inl within) = kept.earlier id d
        (dynamic_there objects id at.object d at.table (sym (at_front objects (o ∷ []) id within) ∙ at.there) at.kind)
    earlier_by id d at (inr last) =
        all_map (λ s. s.id ≤ length objects) (λ s. s.id < id) (λ s h. omega (arith, h, last.0)) d.query.sources
        (reads d (ap (λ (p : Object). dynamic_in p.kind) last.1 ∙ ap dynamic_in at.kind))

    by_at : (id : ℕ) (d : Dynamic) → IsDynamicAt (objects ++ o ∷ []) id d
        → AllByRecursion (λ s. s.id < id) d.query.sources
    by_at id d at = earlier_by id d at (at_either objects o at.object id at.there)
