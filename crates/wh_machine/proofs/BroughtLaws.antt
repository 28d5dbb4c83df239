-- A refresh keeps objects sound.
--     IsFreshFrom         tables of ids from one on have no version of the stamp
--     StandsOrComes, IsAwaited     a table that is brought to a moment, and what it reads
--     brought_keeps       what is done to several by rising ids
use Rattle.std.proofs.Common.{◌≡◌, ℕ, suc, ◌<◌, ◌≤◌, ◌⊎◌, inl, inr, Bool, true, false, List, [], ◌∷◌}
use Rattle.std.proofs.Common.{Option, Some, None, option_map, refl, sym, subst, ◌∙◌, arith}
use Rattle.std.specs.Prelude.{◌||◌, nat_eq}
use Rattle.std.specs.List.{AllByRecursion, flat_map}
use Rattle.std.specs.Option.{IfSome, option_and_then}
use Rattle.wh_state.proofs.PlaceLaws.{at_within}
use Rattle.wh_state.specs.State.{Object, at_id}
use Rattle.wh_state.specs.Dynamic.{Dynamic, ids_read}
use Rattle.wh_state.specs.Objects.{as_table, as_dynamic, table_at, dynamic_at}
use Rattle.wh_state.specs.Edits.{is_among}
use Rattle.wh_state.specs.Act.{all_acted}
use Rattle.wh_state.proofs.AllLaws.{all_map, all_both, among_all}
use Rattle.wh_state.proofs.FoundLaws.{same_or_not}
use Rattle.wh_state.proofs.EvaluatedLaws.{ids_read_hold}
use Rattle.wh_state.proofs.SoundObjects.{IsKept, IsDynamicAt, found_dynamic}
use Rattle.wh_state.proofs.SoundTables.{IsFresh}
use Rattle.wh_state.proofs.SoundLaws.{AreKeeping, no_act}
use Rattle.wh_state.proofs.SoundLaws.{acts_kept, keeping_append}
use Rattle.wh_moment.proofs.UpstreamLaws.{RiseFrom}
use Rattle.wh_moment.proofs.ClosedLaws.{same_number}
use Rattle.wh_machine.specs.Refresh.{Brought}
use Rattle.wh_machine.specs.Refresh.{brought_one, acts_of_one, brought_then, brought_all}
use Rattle.wh_machine.proofs.RefreshLaws.{brought_id}
use Rattle.wh_machine.proofs.BroughtOne.{IsReadyTo, one_keeps, one_spares, one_stands, brought_moment}

-- ---- several, by rising ids

-- a source stands for the moment, or is brought to it
abbrev pub StandsOrComes : ℕ → List Object → List ℕ → ℕ → Type 0
StandsOrComes moment objects ids x =
    IfSome (dynamic_at objects x) (λ e. e.state.moment ≡ moment) ⊎ (is_among x ids ≡ true)

abbrev pub IsAwaitedWith : ℕ → List Object → List ℕ → Dynamic → Type 0
IsAwaitedWith moment objects ids d =
    (d.state.moment < moment) × AllByRecursion (StandsOrComes moment objects ids) (ids_read d.query)

abbrev pub IsAwaited : ℕ → List Object → List ℕ → ℕ → Type 0
IsAwaited moment objects ids id = IfSome (dynamic_at objects id) (IsAwaitedWith moment objects ids)

abbrev pub IsFreshFrom : ℕ → ℕ → List Object → Type 0
IsFreshFrom stamp least objects = (id : ℕ) → least ≤ id → IfSome (table_at objects id) (IsFresh stamp)

pub rise_all : (least : ℕ) (ids : List ℕ) → RiseFrom least ids → AllByRecursion (λ n. least ≤ n) ids
rise_all least [] rise = tt
rise_all least (id ∷ ids) rise = (
  rise.0,
  all_map (λ n. suc id ≤ n) (λ n. least ≤ n) (λ n h. omega (arith, h, rise.0)) ids
      (rise_all (suc id) ids rise.1),
)

-- what it reads comes before it, and so stands already
head_ready : (stamp moment : ℕ) (objects : List Object) (id : ℕ) (ids : List ℕ) → IsKept stamp objects
    → AllByRecursion (λ n. id ≤ n) (id ∷ ids) → IsAwaited moment objects (id ∷ ids) id
    → IfSome (dynamic_at objects id) (IsReadyTo moment objects)
head_ready stamp moment objects id ids kept from awaited = by_found (dynamic_at objects id) refl awaited
  where
    of_source : (x : ℕ) → x < id → StandsOrComes moment objects (id ∷ ids) x
        → IfSome (dynamic_at objects x) (λ e. e.state.moment ≡ moment)
    of_source x less (inl stands) = stands
    of_source x less (inr among) = absurd (omega (arith, less, among_all (λ n. id ≤ n) x (id ∷ ids) from among))

    by_found : (found : Option Dynamic) → dynamic_at objects id ≡ found
        → IfSome found (IsAwaitedWith moment objects (id ∷ ids)) → IfSome found (IsReadyTo moment objects)
    by_found None at awaited = tt
    by_found (Some d) at awaited =
        let place : IsDynamicAt objects id d = found_dynamic objects id d at in (
          awaited.0,
          all_both (λ x. x < id) (StandsOrComes moment objects (id ∷ ids))
              (λ x. IfSome (dynamic_at objects x) (λ e. e.state.moment ≡ moment))
              (λ x less comes. of_source x less comes) (ids_read d.query)
              (ids_read_hold (λ x. x < id) (at_within objects id place.object place.there).0 d.query
              (kept.earlier id d at))
              awaited.1,
        )

-- those behind it await the others
rest_awaits : (moment : ℕ) (objects next : List Object) (id : ℕ) (ids : List ℕ)
    → ((other : ℕ) → (other ≡ id → ⊥) → at_id next other ≡ at_id objects other)
    → IfSome (dynamic_at next id) (λ e. e.state.moment ≡ moment) → (y : ℕ) → suc id ≤ y
    → IsAwaited moment objects (id ∷ ids) y
    → IsAwaited moment next ids y
rest_awaits moment objects next id ids spares stands y behind awaited =
    subst (λ (found : Option Object). IfSome (option_and_then as_dynamic found) (IsAwaitedWith moment next ids))
    (sym (spares y (λ same. omega (arith, same, behind)))) (by_found (dynamic_at objects y) awaited)
  where
    apart_from : (x : ℕ) → (x ≡ id → ⊥) → StandsOrComes moment objects (id ∷ ids) x → StandsOrComes moment next ids x
    apart_from x apart (inl was) = inl (subst (λ (found : Option Object).
        IfSome (option_and_then as_dynamic found) (λ e. e.state.moment ≡ moment)) (sym (spares x apart)) was)
    apart_from x apart (inr among) = by_test (nat_eq x id) refl among
      where
        by_test : (b : Bool) → nat_eq x id ≡ b → (b || is_among x ids) ≡ true → StandsOrComes moment next ids x
        by_test true test among = absurd (apart (same_number x id test))
        by_test false test among = inr among

    of_source : (x : ℕ) → StandsOrComes moment objects (id ∷ ids) x → (x ≡ id) ⊎ (x ≡ id → ⊥)
        → StandsOrComes moment next ids x
    of_source x comes (inl same) = inl (subst (λ (n : ℕ).
        IfSome (dynamic_at next n) (λ e. e.state.moment ≡ moment)) (sym same) stands)
    of_source x comes (inr apart) = apart_from x apart comes

    by_found : (found : Option Dynamic) → IfSome found (IsAwaitedWith moment objects (id ∷ ids))
        → IfSome found (IsAwaitedWith moment next ids)
    by_found None awaited = tt
    by_found (Some d) awaited = (
      awaited.0,
      all_map (StandsOrComes moment objects (id ∷ ids)) (StandsOrComes moment next ids)
          (λ x comes. of_source x comes (same_or_not x id)) (ids_read d.query) awaited.1,
    )

pub brought_keeps : (stamp moment : ℕ) → moment ≤ stamp → (ids : List ℕ) (least : ℕ) (objects : List Object)
    → RiseFrom least ids → IsKept stamp objects → IsFreshFrom stamp least objects
    → AllByRecursion (IsAwaited moment objects ids) ids → (all : List Brought)
    → brought_all stamp moment ids objects ≡ Some all
    → AreKeeping stamp objects (flat_map (acts_of_one moment) all)
brought_keeps stamp moment within [] least objects rise kept fresh awaited all is =
    let same : [] ≡ all = cc in
    subst (λ (l : List Brought). AreKeeping stamp objects (flat_map (acts_of_one moment) l)) same no_act
brought_keeps stamp moment within (id ∷ ids) least objects rise kept fresh awaited all is =
    by_one (brought_one objects moment id) refl is
    (λ next kept fresh awaited more is. brought_keeps stamp moment within ids (suc id) next rise.1 kept fresh awaited
    more is)
  where
    Others : Type 0
    Others = (next : List Object) → IsKept stamp next → IsFreshFrom stamp (suc id) next
        → AllByRecursion (IsAwaited moment next ids) ids → (more : List Brought)
        → brought_all stamp moment ids next ≡ Some more
        → AreKeeping stamp next (flat_map (acts_of_one moment) more)

    from : AllByRecursion (λ n. id ≤ n) (id ∷ ids)
    from = rise_all id (id ∷ ids) (omega arith, rise.1)

    behind : AllByRecursion (λ n. suc id ≤ n) ids
    behind = rise_all (suc id) ids rise.1

    with_one : (b : Brought) → brought_one objects moment id ≡ Some b → (more : List Brought)
        → brought_all stamp moment ids (all_acted stamp objects (acts_of_one moment b)) ≡ Some more → Others
        → AreKeeping stamp objects (flat_map (acts_of_one moment) (b ∷ more))
    with_one b one more rest others =
        let next : List Object = all_acted stamp objects (acts_of_one moment b) in
        let same : b.id ≡ id = brought_id objects moment id b one in
        let here : AreKeeping stamp objects (acts_of_one moment b) =
        one_keeps stamp moment objects id b within kept (fresh id rise.0)
        (head_ready stamp moment objects id ids kept from awaited.0) one in
        let spares : (other : ℕ) → (other ≡ id → ⊥) → at_id next other ≡ at_id objects other =
        λ other apart. one_spares stamp moment objects b other (λ at. apart (at ∙ same)) in
        let stands : IfSome (dynamic_at next id) (λ e. e.state.moment ≡ moment) =
        subst (λ (n : ℕ). IfSome (dynamic_at next n) (λ e. e.state.moment ≡ moment)) same
        (subst (λ (n : ℕ). IfSome (dynamic_at next b.id) (λ e. e.state.moment ≡ n))
        (brought_moment objects moment id b one) (one_stands stamp moment objects b)) in
        keeping_append stamp objects (acts_of_one moment b) (flat_map (acts_of_one moment) more) here
        (others next (acts_kept stamp objects (acts_of_one moment b) here kept)
        (λ other h. subst (λ (found : Option Object). IfSome (option_and_then as_table found) (IsFresh stamp))
        (sym (spares other (λ at. omega (arith, at, h)))) (fresh other (omega (arith, h, rise.0))))
        (all_both (λ n. suc id ≤ n) (IsAwaited moment objects (id ∷ ids)) (IsAwaited moment next ids)
        (λ y h await. rest_awaits moment objects next id ids spares stands y h await) ids behind awaited.1)
        more rest)

    by_rest : (b : Brought) → brought_one objects moment id ≡ Some b → (found : Option (List Brought))
        → brought_all stamp moment ids (all_acted stamp objects (acts_of_one moment b)) ≡ found
        → option_map (λ more. b ∷ more) found ≡ Some all → Others
        → AreKeeping stamp objects (flat_map (acts_of_one moment) all)
    by_rest b one None rest is others = absurd cc
    by_rest b one (Some more) rest is others =
        let same : b ∷ more ≡ all = cc in
        subst (λ (l : List Brought). AreKeeping stamp objects (flat_map (acts_of_one moment) l)) same
        (with_one b one more rest others)

    by_one : (found : Option Brought) → brought_one objects moment id ≡ found
        → brought_then (brought_all stamp moment ids) stamp moment objects found ≡ Some all → Others
        → AreKeeping stamp objects (flat_map (acts_of_one moment) all)
    by_one None one is others = absurd cc
    by_one (Some b) one is others =
        by_rest b one (brought_all stamp moment ids (all_acted stamp objects (acts_of_one moment b))) refl is others
