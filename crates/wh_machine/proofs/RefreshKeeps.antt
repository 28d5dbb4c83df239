-- Refreshes keep a sound machine sound.
--     IsWatched, watched_of     what a schedule looks at of a dynamic table
--     moments_seen              no moment is behind the stamp
--     refresh_keeps             a refresh to a moment
use Rattle.std.proofs.Common.{◌≡◌, ℕ, ◌<◌, ◌≤◌, ◌⊎◌, inl, inr, Bool, true, false, cond, List, [], ◌∷◌, ◌++◌, map}
use Rattle.std.proofs.Common.{Option, Some, None, option_map, refl, sym, ap, subst, ◌∙◌, arith}
use Rattle.std.specs.Prelude.{◌||◌, nat_eq, nat_lt, unwrap_or}
use Rattle.std.specs.List.{AllByRecursion, filter, flat_map}
use Rattle.std.specs.Option.{IfSome, option_map_or}
use Rattle.std.proofs.lemmas.Bool.Decides.{nat_tests}
use Rattle.wh_reply.specs.Reply.{Refusal}
use Rattle.wh_state.proofs.PlaceLaws.{at_within}
use Rattle.wh_state.specs.State.{Kind, TableKind, StreamKind, TaskKind, DynamicKind, Object, State, at_id}
use Rattle.wh_state.specs.Dynamic.{DynamicState, Dynamic, ids_read}
use Rattle.wh_state.specs.Objects.{dynamic_at}
use Rattle.wh_state.specs.Edits.{is_among}
use Rattle.wh_state.specs.Sound.{IsSoundKind, ReadsEarlier}
use Rattle.wh_state.proofs.AllLaws.{all_both}
use Rattle.wh_state.proofs.IdLaws.{map_at}
use Rattle.wh_state.proofs.EvaluatedLaws.{ids_read_hold}
use Rattle.wh_state.proofs.SoundObjects.{IsKept, IsDynamicAt, found_dynamic}
use Rattle.wh_state.proofs.SoundLaws.{AreKeeping}
use Rattle.wh_moment.specs.Upstream.{Watched, Dynamics, watched, watched_object, dynamics_of, watched_at, upstream}
use Rattle.wh_moment.specs.Upstream.{is_below, stands_below, brought}
use Rattle.wh_moment.specs.Moment.{moment_at}
use Rattle.wh_moment.proofs.UpstreamLaws.{brought_rise}
use Rattle.wh_moment.proofs.ClosedLaws.{among_front, among_either, among_one, same_number, reads_upstream}
use Rattle.wh_moment.proofs.ClosedLaws.{upstream_closed}
use Rattle.wh_machine.specs.Tests.{first_of}
use Rattle.wh_machine.specs.Refresh.{Brought, acts_of_one, brought_all, number_refusal, first_lost, told_of, Refreshing}
use Rattle.wh_machine.specs.Refresh.{Fails, Brings, unless_past, refresh_by, with_upstream, refresh}
use Rattle.wh_machine.proofs.BroughtLaws.{StandsOrComes, IsAwaitedWith, IsAwaited, IsFreshFrom, brought_keeps}

-- ---- what a schedule looks at

pub record IsWatched (objects : List Object) (id : ℕ) (d : Dynamic) : Type 0 where
  pub w : Watched
  pub at : watched_at (dynamics_of objects) id ≡ Some w
  pub sources : w.sources ≡ ids_read d.query
  pub state : w.state ≡ d.state

watched_is : (objects : List Object) (id : ℕ) (o : Object) → at_id objects id ≡ Some o
    → watched_at (dynamics_of objects) id ≡ watched o.is_live o.kind
watched_is objects id o there =
    ap (λ (found : Option (Option Watched)). unwrap_or found None)
    (map_at watched_object objects id ∙ ap (option_map watched_object) there)

pub watched_of : (objects : List Object) (id : ℕ) (d : Dynamic) → dynamic_at objects id ≡ Some d
    → IsWatched objects id d
watched_of objects id d is =
    let at : IsDynamicAt objects id d = found_dynamic objects id d is in record {
      w = record {
        is_live = at.object.is_live;
        created = at.table.created;
        sources = ids_read d.query;
        state = d.state;
      };
      at = watched_is objects id at.object at.there ∙ ap (watched at.object.is_live) at.kind;
      sources = refl;
      state = refl;
    }

pub moments_seen : (stamp : ℕ) (objects : List Object) → IsKept stamp objects → (id : ℕ)
    → moment_at (dynamics_of objects) id ≤ stamp
moments_seen stamp objects kept id = by_found (at_id objects id) refl
  where
    moment_of : Option Watched → ℕ
    moment_of found = option_map_or (λ w. w.state.moment) found 0

    by_kind : (is_live : Bool) (k : Kind) → IsSoundKind stamp objects k → moment_of (watched is_live k) ≤ stamp
    by_kind is_live (TableKind t) sound = omega arith
    by_kind is_live (StreamKind s) sound = omega arith
    by_kind is_live (TaskKind t) sound = omega arith
    by_kind is_live (DynamicKind d t) sound = sound.moment

    by_found : (found : Option Object) → at_id objects id ≡ found → moment_at (dynamics_of objects) id ≤ stamp
    by_found None none =
        let nothing : moment_at (dynamics_of objects) id ≡ 0 =
        ap (λ (found : Option (Option Watched)). moment_of (unwrap_or found None))
        (map_at watched_object objects id ∙ ap (option_map watched_object) none) in
        omega (arith, nothing)
    by_found (Some o) there =
        let same : moment_at (dynamics_of objects) id ≡ moment_of (watched o.is_live o.kind) =
        ap moment_of (watched_is objects id o there) in
        omega (arith, same, by_kind o.is_live o.kind (kept.each id o there))

-- ---- numbers among lists

self_eq : (x : ℕ) → nat_eq x x ≡ true
self_eq x = grind (arith, nat_tests)

second_holds : (a b : Bool) → b ≡ true → (a || b) ≡ true
second_holds true b is = refl
second_holds false b is = is

-- what is so of each that is among them
each_among : (P : ℕ → Type 0) (ids : List ℕ) → ((y : ℕ) → is_among y ids ≡ true → P y) → AllByRecursion P ids
each_among P [] each = tt
each_among P (id ∷ ids) each = (
  each id (ap (λ (b : Bool). b || is_among id ids) (self_eq id)),
  each_among P ids (λ y is. each y (second_holds (nat_eq y id) (is_among y ids) is)),
)

pub among_filter : (test : ℕ → Bool) (ids : List ℕ) (y : ℕ) → is_among y (filter test ids) ≡ true
    → (is_among y ids ≡ true) × (test y ≡ true)
among_filter test [] y is = absurd cc
among_filter test (id ∷ ids) y is = by_test (test id) refl is (λ is. among_filter test ids y is)
  where
    by_same : (b : Bool) → nat_eq y id ≡ b → test id ≡ true → (b || is_among y (filter test ids)) ≡ true
        → (is_among y (filter test ids) ≡ true → (is_among y ids ≡ true) × (test y ≡ true))
        → ((b || is_among y ids) ≡ true) × (test y ≡ true)
    by_same true same passes is rest = (refl, ap test (same_number y id same) ∙ passes)
    by_same false same passes is rest = rest is

    by_test : (b : Bool) → test id ≡ b → is_among y (cond b (id ∷ filter test ids) (filter test ids)) ≡ true
        → (is_among y (filter test ids) ≡ true → (is_among y ids ≡ true) × (test y ≡ true))
        → (is_among y (id ∷ ids) ≡ true) × (test y ≡ true)
    by_test true passes is rest = by_same (nat_eq y id) refl passes is rest
    by_test false fails is rest = (second_holds (nat_eq y id) (is_among y ids) (rest is).0, (rest is).1)

pub filter_among : (test : ℕ → Bool) (ids : List ℕ) (y : ℕ) → is_among y ids ≡ true → test y ≡ true
    → is_among y (filter test ids) ≡ true
filter_among test [] y is passes = absurd cc
filter_among test (id ∷ ids) y is passes =
    by_same (nat_eq y id) refl is (λ is. filter_among test ids y is passes)
  where
    later : (b : Bool) → is_among y (filter test ids) ≡ true
        → is_among y (cond b (id ∷ filter test ids) (filter test ids)) ≡ true
    later true is = second_holds (nat_eq y id) (is_among y (filter test ids)) is
    later false is = is

    by_same : (b : Bool) → nat_eq y id ≡ b → (b || is_among y ids) ≡ true
        → (is_among y ids ≡ true → is_among y (filter test ids) ≡ true)
        → is_among y (cond (test id) (id ∷ filter test ids) (filter test ids)) ≡ true
    by_same true same is rest =
        ap (λ (b : Bool). is_among y (cond b (id ∷ filter test ids) (filter test ids)))
        (ap test (sym (same_number y id same)) ∙ passes)
        ∙ ap (λ (b : Bool). b || is_among y (filter test ids)) same
    by_same false same is rest = later (test id) (rest is)

-- ---- the tables that a refresh brings

below_is : (target moment : ℕ) → 0 < target → (nat_eq moment 0 || nat_lt moment target) ≡ true → moment < target
below_is target moment some test = grind (arith, nat_tests)

pub not_below : (target moment : ℕ) → (nat_eq moment 0 || nat_lt moment target) ≡ false → target ≤ moment
not_below target moment test = grind (arith, nat_tests)

module _ (objects : List Object) (id moment : ℕ) (earlier : ReadsEarlier objects) (some : 0 < moment)
    (most : (x : ℕ) → is_among x (upstream (dynamics_of objects) id) ≡ true
    → moment_at (dynamics_of objects) x ≤ moment) where
  abbrev seen : Dynamics
  seen = dynamics_of objects

  -- with the table itself
  abbrev reached : List ℕ
  reached = upstream seen id ++ id ∷ []

  abbrev ids : List ℕ
  ids = filter (stands_below seen moment) reached

  stands_as : (x : ℕ) (e : Dynamic) → dynamic_at objects x ≡ Some e
      → stands_below seen moment x ≡ (nat_eq e.state.moment 0 || nat_lt e.state.moment moment)
  stands_as x e at =
      let w : IsWatched objects x e = watched_of objects x e at in
      ap (λ (found : Option Watched). option_map_or (λ w. is_below moment w.state) found false) w.at
      ∙ ap (is_below moment) w.state

  -- what one of them reads is upstream of the table
  source_upstream : (y x : ℕ) (d e : Dynamic) → is_among y reached ≡ true → dynamic_at objects y ≡ Some d
      → is_among x (ids_read d.query) ≡ true → x < y → dynamic_at objects x ≡ Some e
      → is_among x (upstream seen id) ≡ true
  source_upstream y x d e is at reads less there = by_part (among_either y (upstream seen id) (id ∷ []) is)
    where
      v : IsWatched objects y d
      v = watched_of objects y d at

      w : IsWatched objects x e
      w = watched_of objects x e there

      place : IsDynamicAt objects x e
      place = found_dynamic objects x e there

      read : is_among x v.w.sources ≡ true
      read = ap (is_among x) v.sources ∙ reads

      by_part : (is_among y (upstream seen id) ≡ true) ⊎ (is_among y (id ∷ []) ≡ true)
          → is_among x (upstream seen id) ≡ true
      by_part (inl above) = upstream_closed seen id x y w.w above
          (ap (λ (found : Option Watched). is_among x (option_map_or (λ w. w.sources) found [])) v.at ∙ read)
          (at_within objects x place.object place.there).0 less w.at
      by_part (inr last) =
          let same : y ≡ id = among_one y id last in
          reads_upstream seen id x v.w w.w (ap (watched_at seen) (sym same) ∙ v.at) read
          (at_within objects x place.object place.there).0 (omega (arith, same, less)) w.at

  source_comes : (y x : ℕ) (d : Dynamic) → is_among y reached ≡ true → dynamic_at objects y ≡ Some d
      → is_among x (ids_read d.query) ≡ true → x < y → StandsOrComes moment objects ids x
  source_comes y x d is at reads less = by_found (dynamic_at objects x) refl
    where
      at_moment : (e : Dynamic) → dynamic_at objects x ≡ Some e → stands_below seen moment x ≡ false
          → e.state.moment ≡ moment
      at_moment e there test =
          let w : IsWatched objects x e = watched_of objects x e there in
          let same : moment_at seen x ≡ e.state.moment =
          ap (λ (found : Option Watched). option_map_or (λ w. w.state.moment) found 0) w.at
          ∙ ap (λ (s : DynamicState). s.moment) w.state in
          omega (
            arith,
            same,
            most x (source_upstream y x d e is at reads less there),
            not_below moment e.state.moment (sym (stands_as x e there) ∙ test),
          )

      by_test : (e : Dynamic) → dynamic_at objects x ≡ Some e → (b : Bool) → stands_below seen moment x ≡ b
          → StandsOrComes moment objects ids x
      by_test e there true test = inr (filter_among (stands_below seen moment) reached x
          (among_front x (upstream seen id) (id ∷ []) (source_upstream y x d e is at reads less there)) test)
      by_test e there false test = inl (subst (λ (found : Option Dynamic). IfSome found (λ e. e.state.moment ≡ moment))
          (sym there) (at_moment e there test))

      by_found : (found : Option Dynamic) → dynamic_at objects x ≡ found → StandsOrComes moment objects ids x
      by_found None none = inl (subst (λ (found : Option Dynamic). IfSome found (λ e. e.state.moment ≡ moment))
          (sym none) tt)
      by_found (Some e) there = by_test e there (stands_below seen moment x) refl

  one_awaited : (y : ℕ) → is_among y ids ≡ true → IsAwaited moment objects ids y
  one_awaited y is = by_found (dynamic_at objects y) refl
    where
      passes : (is_among y reached ≡ true) × (stands_below seen moment y ≡ true)
      passes = among_filter (stands_below seen moment) reached y is

      by_found : (found : Option Dynamic) → dynamic_at objects y ≡ found
          → IfSome found (IsAwaitedWith moment objects ids)
      by_found None none = tt
      by_found (Some d) at =
          let place : IsDynamicAt objects y d = found_dynamic objects y d at in (
            below_is moment d.state.moment some (sym (stands_as y d at) ∙ passes.1),
            all_both (λ x. x < y) (λ x. is_among x (ids_read d.query) ≡ true) (StandsOrComes moment objects ids)
                (λ x less reads. source_comes y x d passes.0 at reads less) (ids_read d.query)
                (ids_read_hold (λ x. x < y) (at_within objects y place.object place.there).0 d.query (earlier y d at))
                (each_among (λ x. is_among x (ids_read d.query) ≡ true) (ids_read d.query) (λ x is. is)),
          )

  pub all_awaited : AllByRecursion (IsAwaited moment objects ids) ids
  all_awaited = each_among (IsAwaited moment objects ids) ids one_awaited

-- ---- a refresh

abbrev pub RefreshKeeps : State → Refreshing → Type 0
RefreshKeeps s (Fails why) = Unit {0}
RefreshKeeps s (Brings lines acts) = AreKeeping s.last s.objects acts

-- to a moment that isn't behind the stamp, and for which or before which all that is upstream stands
pub refresh_keeps : (s : State) (besides : Option Refusal) (id moment : ℕ) → 0 < moment → moment ≤ s.last
    → ((x : ℕ) → is_among x (upstream (dynamics_of s.objects) id) ≡ true → moment_at (dynamics_of s.objects) x ≤ moment)
    → IsKept s.last s.objects → IsFreshFrom s.last 0 s.objects
    → RefreshKeeps s (refresh s besides id moment)
unfolding refresh brought
refresh_keeps s besides id moment some within most kept fresh =
    by_refusal (first_of (first_lost s.objects (with_upstream s.objects id) ∷ besides ∷ []))
    (brought_all s.last moment ids s.objects) refl
  where
    ids : List ℕ
    ids = filter (stands_below (dynamics_of s.objects) moment) (upstream (dynamics_of s.objects) id ++ id ∷ [])

    by_limit : (found : Option Refusal) (all : List Brought)
        → AreKeeping s.last s.objects (flat_map (acts_of_one moment) all)
        → RefreshKeeps s (unless_past found (map (told_of s.objects moment) all) (flat_map (acts_of_one moment) all))
    by_limit (Some why) all keeps = tt
    by_limit None all keeps = keeps

    by_refusal : (found : Option Refusal) (all : Option (List Brought)) → brought_all s.last moment ids s.objects ≡ all
        → RefreshKeeps s (refresh_by s.objects moment found all)
    by_refusal (Some why) all is = tt
    by_refusal None None is = tt
    by_refusal None (Some all) is = by_limit (number_refusal s.objects all) all
        (brought_keeps s.last moment within ids 0 s.objects (brought_rise (dynamics_of s.objects) id moment) kept fresh
        (all_awaited s.objects id moment kept.earlier some most) all is)
