-- Dynamic tables stand for one moment.
--     one_moment         in a sound state the rows of each are those of its query over tables alone
--     moment_after       so they are behind each run of events of a sound machine
--     refresh_stands     a refresh brings the table, and each dynamic table upstream, to its moment
--     refreshed_to       so their rows are behind it those of their queries over tables alone for that one moment
use Rattle.std.proofs.Common.{◌≡◌, ℕ, suc, ◌<◌, ◌≤◌, Bool, true, false, List, [], ◌∷◌, map}
use Rattle.std.proofs.Common.{Option, Some, None, option_map, refl, sym, ap, subst, ◌∙◌, arith}
use Rattle.std.specs.List.{AllByRecursion, filter, flat_map}
use Rattle.std.specs.Option.{IfSome, option_and_then, option_map_or}
use Rattle.std.specs.FinMap.{values}
use Rattle.std.specs.Prelude.{◌||◌, nat_eq}
use Rattle.std.proofs.lemmas.Bool.Decides.{nat_tests}
use Rattle.wh_meaning.specs.Bag.{bag_of, no_rows}
use Rattle.wh_reply.specs.Reply.{Refusal, Refreshed}
use Rattle.wh_state.proofs.PlaceLaws.{at_within}
use Rattle.wh_state.specs.State.{Object, Table, State, at_id, table_in, last_rows}
use Rattle.wh_state.specs.Dynamic.{Dynamic}
use Rattle.wh_state.specs.Objects.{as_table, as_dynamic, table_at, dynamic_at}
use Rattle.wh_state.specs.Moments.{given_by, over_tables}
use Rattle.wh_state.specs.Edits.{is_among}
use Rattle.wh_state.specs.Act.{Act, all_acted, done}
use Rattle.wh_state.specs.Sound.{Sound}
use Rattle.wh_state.proofs.AllLaws.{among_all}
use Rattle.wh_state.proofs.EvaluatedLaws.{ids_read_hold}
use Rattle.wh_state.proofs.SoundObjects.{IsKept, IsDynamicAt, found_dynamic, sound_at}
use Rattle.wh_state.proofs.SoundLaws.{kept_later}
use Rattle.wh_moment.specs.Upstream.{Watched, Dynamics, dynamics_of, is_below, stands_below, brought}
use Rattle.wh_moment.proofs.UpstreamLaws.{RiseFrom, brought_rise}
use Rattle.wh_machine.proofs.BroughtOne.{brought_moment, one_spares, one_stands}
use Rattle.wh_machine.specs.Tests.{first_of}
use Rattle.wh_machine.specs.Refresh.{Brought, brought_one, acts_of_one, brought_then, brought_all, number_refusal}
use Rattle.wh_machine.specs.Refresh.{first_lost}
use Rattle.wh_machine.specs.Refresh.{told_of, Brings, unless_past, refresh_by, with_upstream, refresh}
use Rattle.wh_machine.specs.Outcome.{Machine}
use Rattle.wh_machine.specs.Step.{Event, after}
use Rattle.wh_machine.specs.Sound.{SoundMachine}
use Rattle.wh_machine.specs.OneMoment.{IsOfOneMoment, StandsAt}
use Rattle.wh_machine.proofs.TaskActs.{acted_append}
use Rattle.wh_machine.proofs.RefreshLaws.{brought_id}
use Rattle.wh_machine.proofs.BroughtLaws.{rise_all}
use Rattle.wh_machine.proofs.RefreshKeeps.{IsWatched, watched_of, among_filter, filter_among, not_below}
use Rattle.wh_machine.proofs.SoundLaws.{sound_after}

-- ---- in a sound state

pub one_moment : (s : State) → Sound s → (id : ℕ) → IsOfOneMoment s.objects id
one_moment s sound id d t is at some = at_place (found_dynamic s.objects id d is)
  where
    kept : IsKept s.committed s.objects
    kept = kept_later s s.committed (omega arith) sound

    at_place : IsDynamicAt s.objects id d
        → over_tables (suc id) s.objects d.state.moment id ≡ Some (bag_of (values (last_rows t)))
    at_place place =
        let same : place.table ≡ t = of_some (ap (option_and_then as_table) place.there ∙ ap table_in place.kind) in
        ap (λ (found : Option Object). option_map_or
        (λ o. given_by (over_tables id s.objects d.state.moment) s.objects d.state.moment o.kind) found (Some no_rows))
        place.there
        ∙ ap (given_by (over_tables id s.objects d.state.moment) s.objects d.state.moment) place.kind
        ∙ ((sound_at s.committed s.objects id d kept place).stands some).whole id
        (ids_read_hold (λ x. x < id) (at_within s.objects id place.object place.there).0 d.query (kept.earlier id d is))
        ∙ ap (λ (u : Table). Some (bag_of (values (last_rows u)))) same
      where
        of_some : table_at s.objects id ≡ Some place.table → place.table ≡ t
        of_some found = cc

-- ---- behind events

pub moment_after : (m : Machine) (es : List Event) → SoundMachine m → (id : ℕ)
    → IsOfOneMoment (after m es).state.objects id
moment_after m es sound id = one_moment (after m es).state (sound_after m es sound).state id

-- ---- behind a refresh

-- what several are brought to, by rising ids, and that other objects are as they were
record AreBrought (moment : ℕ) (old new : List Object) (ids : List ℕ) : Type 0 where
  stand : AllByRecursion (StandsAt moment new) ids
  others : (x : ℕ) → is_among x ids ≡ false → at_id new x ≡ at_id old x

not_among : (least x : ℕ) (ids : List ℕ) → x < least → AllByRecursion (λ n. least ≤ n) ids → is_among x ids ≡ false
not_among least x [] less from = refl
not_among least x (id ∷ ids) less from =
    let other : nat_eq x id ≡ false = differs x id (omega (arith, less, from.0)) in
    ap (λ (b : Bool). b || is_among x ids) other ∙ not_among least x ids less from.1
  where
    differs : (x y : ℕ) → x < y → nat_eq x y ≡ false
    differs x y less = grind (arith, nat_tests)

neither : (a b : Bool) → (a || b) ≡ false → (a ≡ false) × (b ≡ false)
neither true b is = absurd cc
neither false b is = (refl, is)

apart : (x y : ℕ) → nat_eq x y ≡ false → x ≡ y → ⊥
apart x y test same = absurd (grind (arith, nat_tests))

brought_stand : (stamp moment : ℕ) (ids : List ℕ) (least : ℕ) (objects : List Object) → RiseFrom least ids
    → (all : List Brought) → brought_all stamp moment ids objects ≡ Some all
    → AreBrought moment objects (all_acted stamp objects (flat_map (acts_of_one moment) all)) ids
brought_stand stamp moment [] least objects rise all is =
    let same : [] ≡ all = cc in
    subst (λ (l : List Brought).
    AreBrought moment objects (all_acted stamp objects (flat_map (acts_of_one moment) l)) []) same
    (record { stand = tt; others = λ x none. refl })
brought_stand stamp moment (id ∷ ids) least objects rise all is =
    by_one (brought_one objects moment id) refl is
    (λ next more is. brought_stand stamp moment ids (suc id) next rise.1 more is)
  where
    Others : Type 0
    Others = (next : List Object) (more : List Brought) → brought_all stamp moment ids next ≡ Some more
        → AreBrought moment next (all_acted stamp next (flat_map (acts_of_one moment) more)) ids

    with_one : (b : Brought) → brought_one objects moment id ≡ Some b → (more : List Brought)
        → brought_all stamp moment ids (all_acted stamp objects (acts_of_one moment b)) ≡ Some more → Others
        → AreBrought moment objects (all_acted stamp objects (flat_map (acts_of_one moment) (b ∷ more))) (id ∷ ids)
    with_one b one more rest others =
        let next : List Object = all_acted stamp objects (acts_of_one moment b) in
        let last : List Object = all_acted stamp next (flat_map (acts_of_one moment) more) in
        let same : b.id ≡ id = brought_id objects moment id b one in
        let later : AreBrought moment next last ids = others next more rest in
        let here : at_id last id ≡ at_id next id =
        later.others id (not_among (suc id) id ids (omega arith) (rise_all (suc id) ids rise.1)) in
        let stands : StandsAt moment next id =
        subst (StandsAt moment next) same (subst (λ (n : ℕ). StandsAt n next b.id)
        (brought_moment objects moment id b one) (one_stands stamp moment objects b)) in
        subst (λ (after : List Object). AreBrought moment objects after (id ∷ ids))
        (sym (acted_append stamp objects (acts_of_one moment b) (flat_map (acts_of_one moment) more)))
        (record {
          stand = (
            subst (λ (found : Option Object). IfSome (option_and_then as_dynamic found)
                (λ d. d.state.moment ≡ moment)) (sym here) stands,
            later.stand,
          );
          others = λ x none.
              let both : (nat_eq x id ≡ false) × (is_among x ids ≡ false) =
              neither (nat_eq x id) (is_among x ids) none in
              later.others x both.1
              ∙ one_spares stamp moment objects b x (λ at. apart x id both.0 (at ∙ same));
        })

    by_rest : (b : Brought) → brought_one objects moment id ≡ Some b → (found : Option (List Brought))
        → brought_all stamp moment ids (all_acted stamp objects (acts_of_one moment b)) ≡ found
        → option_map (λ more. b ∷ more) found ≡ Some all → Others
        → AreBrought moment objects (all_acted stamp objects (flat_map (acts_of_one moment) all)) (id ∷ ids)
    by_rest b one None rest is others = absurd cc
    by_rest b one (Some more) rest is others =
        let same : b ∷ more ≡ all = cc in
        subst (λ (l : List Brought).
        AreBrought moment objects (all_acted stamp objects (flat_map (acts_of_one moment) l)) (id ∷ ids)) same
        (with_one b one more rest others)

    by_one : (found : Option Brought) → brought_one objects moment id ≡ found
        → brought_then (brought_all stamp moment ids) stamp moment objects found ≡ Some all → Others
        → AreBrought moment objects (all_acted stamp objects (flat_map (acts_of_one moment) all)) (id ∷ ids)
    by_one None one is others = absurd cc
    by_one (Some b) one is others =
        by_rest b one (brought_all stamp moment ids (all_acted stamp objects (acts_of_one moment b))) refl is others

-- the tables of a refresh stand for no later moment before it
abbrev pub NoneIsLater : State → ℕ → ℕ → Type 0
NoneIsLater s id moment = (x : ℕ) (d : Dynamic) → is_among x (with_upstream s.objects id) ≡ true
    → dynamic_at s.objects x ≡ Some d → d.state.moment ≤ moment

-- the table, and each dynamic table upstream of it
pub refresh_stands : (s : State) (besides : Option Refusal) (id moment : ℕ) (lines : List Refreshed) (acts : List Act)
    → refresh s besides id moment ≡ Brings lines acts → NoneIsLater s id moment → (x : ℕ)
    → is_among x (with_upstream s.objects id) ≡ true
    → StandsAt moment (all_acted s.last s.objects acts) x
unfolding refresh brought
refresh_stands s besides id moment lines acts is most x among =
    by_refusal (first_of (first_lost s.objects (with_upstream s.objects id) ∷ besides ∷ []))
    (brought_all s.last moment ids s.objects) refl is
  where
    seen : Dynamics
    seen = dynamics_of s.objects

    ids : List ℕ
    ids = filter (stands_below seen moment) (with_upstream s.objects id)

    -- one that isn't below the moment stood for it before
    stood : (found : Option Dynamic) → dynamic_at s.objects x ≡ found → stands_below seen moment x ≡ false
        → IfSome found (λ d. d.state.moment ≡ moment)
    stood None at test = tt
    stood (Some d) at test =
        let w : IsWatched s.objects x d = watched_of s.objects x d at in
        let below : stands_below seen moment x ≡ is_below moment d.state =
        ap (λ (found : Option Watched). option_map_or (λ w. is_below moment w.state) found false) w.at
        ∙ ap (is_below moment) w.state in
        omega (arith, most x d among at, not_below moment d.state.moment (sym below ∙ test))

    none_of : (b : Bool) → is_among x ids ≡ b → stands_below seen moment x ≡ false → is_among x ids ≡ false
    none_of false is test = is
    none_of true is test =
        let passes : stands_below seen moment x ≡ true =
        (among_filter (stands_below seen moment) (with_upstream s.objects id) x is).1 in
        absurd cc

    by_test : (all : List Brought) → brought_all s.last moment ids s.objects ≡ Some all → (b : Bool)
        → stands_below seen moment x ≡ b
        → StandsAt moment (all_acted s.last s.objects (flat_map (acts_of_one moment) all)) x
    by_test all is true test =
        among_all (StandsAt moment (all_acted s.last s.objects (flat_map (acts_of_one moment) all))) x ids
        (brought_stand s.last moment ids 0 s.objects (brought_rise seen id moment) all is).stand
        (filter_among (stands_below seen moment) (with_upstream s.objects id) x among test)
    by_test all is false test =
        subst (λ (found : Option Object). IfSome (option_and_then as_dynamic found) (λ d. d.state.moment ≡ moment))
        (sym ((brought_stand s.last moment ids 0 s.objects (brought_rise seen id moment) all is).others x
        (none_of (is_among x ids) refl test)))
        (stood (dynamic_at s.objects x) refl test)

    by_limit : (found : Option Refusal) (all : List Brought) → brought_all s.last moment ids s.objects ≡ Some all
        → unless_past found (map (told_of s.objects moment) all) (flat_map (acts_of_one moment) all) ≡ Brings lines acts
        → StandsAt moment (all_acted s.last s.objects acts) x
    by_limit (Some why) all brought is = absurd cc
    by_limit None all brought is =
        let same : flat_map (acts_of_one moment) all ≡ acts = cc in
        subst (λ (l : List Act). StandsAt moment (all_acted s.last s.objects l) x) same
        (by_test all brought (stands_below seen moment x) refl)

    by_refusal : (found : Option Refusal) (all : Option (List Brought)) → brought_all s.last moment ids s.objects ≡ all
        → refresh_by s.objects moment found all ≡ Brings lines acts
        → StandsAt moment (all_acted s.last s.objects acts) x
    by_refusal (Some why) all brought is = absurd cc
    by_refusal None None brought is = absurd cc
    by_refusal None (Some all) brought is = by_limit (number_refusal s.objects all) all brought is

-- so behind a refresh of a sound state, at a later stamp, each of them has the rows of its query over tables alone for
-- that one moment
pub refreshed_to : (s : State) (besides : Option Refusal) (id moment : ℕ) (lines : List Refreshed) (acts : List Act)
    → refresh s besides id moment ≡ Brings lines acts → NoneIsLater s id moment → Sound (done s acts) → 0 < moment
    → (x : ℕ) (d : Dynamic) (t : Table) → is_among x (with_upstream s.objects id) ≡ true
    → dynamic_at (done s acts).objects x ≡ Some d → table_at (done s acts).objects x ≡ Some t
    → over_tables (suc x) (done s acts).objects moment x ≡ Some (bag_of (values (last_rows t)))
refreshed_to s besides id moment lines acts is most sound some x d t among at there =
    let stands : d.state.moment ≡ moment =
    subst (λ (found : Option Dynamic). IfSome found (λ d. d.state.moment ≡ moment)) at
    (refresh_stands s besides id moment lines acts is most x among) in
    ap (λ (time : ℕ). over_tables (suc x) (done s acts).objects time x) (sym stands)
    ∙ one_moment (done s acts) sound x d t at there (omega (arith, stands, some))
