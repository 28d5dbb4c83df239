-- A refresh by waves, step by step: what holds behind each table of a wave, and behind each wave.
--     more_none          none of a wave is brought yet
--     ready_now          the next of a wave isn't brought yet, and what it reads was
--     over_more          over those of its wave it is what it is over those before the wave
--     more_next          one more of a wave
--     wave_lacks         one has no rows: so the refresh brings nothing
--     done_none, done_more     no wave is brought yet, and one more
--     wave_ready         the next wave may be brought
--     done_all           all waves are done: so it is what the refresh brings
--     below_take, put_at     by places: those below an id, and one that is put among others
use Rattle.std.proofs.Common.{◌≡◌, ℕ, zero, suc, ◌+◌, ◌<◌, ◌≤◌, ◌⊎◌, inl, inr, Bool, true, false, List, [], ◌∷◌, ◌++◌}
use Rattle.std.proofs.Common.{length, get_or, take, drop, Option, Some, None, option_map, refl, sym, ap, subst, ◌∙◌, arith}
use Rattle.std.specs.Prelude.{◌||◌, is_some, unwrap_or, nat_eq}
use Rattle.std.specs.List.{AllByRecursion}
use Rattle.std.specs.Option.{option_and_then, option_map_or}
use Rattle.std.proofs.lemmas.Bool.Decides.{nat_tests}
use Rattle.std.proofs.lemmas.List.{append_assoc, append-nil, take_more}
use Rattle.wh_state.specs.State.{Object, Kind, TableKind, StreamKind, TaskKind, DynamicKind, at_id, dynamic_in}
use Rattle.wh_state.specs.Objects.{as_dynamic}
use Rattle.wh_state.specs.Dynamic.{ids_read}
use Rattle.wh_state.specs.Edits.{is_among}
use Rattle.wh_state.proofs.AllLaws.{among_all}
use Rattle.wh_state.proofs.FoundLaws.{same_or_not}
use Rattle.wh_state.proofs.IdLaws.{map_at}
use Rattle.wh_moment.specs.Upstream.{Watched, Dynamics, watched, watched_object, dynamics_of}
use Rattle.wh_machine.specs.Refresh.{Brought, brought_one, brought_all}
use Rattle.wh_machine.specs.Brought.{after_all, RiseAbove, AreAbove, sought}
use Rattle.wh_waves.specs.Waves.{reads_at, waves, all_in, ReadsOnly, Follows, Once, AreWavesOf}
use Rattle.wh_waves.specs.Settled.{sources_at, below, put_in, IsClosed, IsBroughtOver, Settled}
use Rattle.wh_waves.specs.Settled.{IsReady, AreReady, SettledMore, WavesDone}
use Rattle.wh_waves.proofs.SoughtLaws.{put_here, put_there, low_or_high}
use Rattle.wh_waves.proofs.SameLaws.{head_among, rest_among, one_id}
use Rattle.wh_waves.proofs.SettledLaws.{ids_of, not_there, is_there, among_ids, below_same}
use Rattle.wh_waves.proofs.SettledLaws.{settled_none, settled_more, settled_lacks, settled_all}
use Rattle.wh_waves.proofs.WaveLaws.{among_append, left_true, right_true, neither, in_more, in_last, waves_are}
pub use Rattle.wh_waves.proofs.SoughtLaws.{below_take, put_at}

-- ---- among lists

or_false : (t : Bool) → t ≡ (t || false)
or_false true = refl
or_false false = refl

all_at : {X : Type 0} (P : X → Type 0) (xs : List X) (i : ℕ) (d : X) → AllByRecursion P xs → i < length xs
    → P (get_or xs i d)
all_at P [] i d all low = absurd (omega (arith, low))
all_at P (x ∷ xs) zero d all low = all.0
all_at P (x ∷ xs) (suc i) d all low = all_at P xs i d all.1 (omega (arith, low))

all_among : (P : ℕ → Type 0) (ids : List ℕ) → ((id : ℕ) → is_among id ids ≡ true → P id) → AllByRecursion P ids
all_among P [] so = tt
all_among P (x ∷ ids) so = (so x (head_among x ids), all_among P ids (λ id is. so id (rest_among id x ids is)))

pub among_at : (ids : List ℕ) (i : ℕ) → i < length ids → is_among (get_or ids i 0) ids ≡ true
among_at [] i low = absurd (omega (arith, low))
among_at (x ∷ ids) zero low = head_among x ids
among_at (x ∷ ids) (suc i) low = rest_among (get_or ids i 0) x ids (among_at ids i (omega (arith, low)))

-- one that others have and some don't is another one
another : (id x : ℕ) (ids : List ℕ) → is_among id ids ≡ true → is_among x ids ≡ false → nat_eq id x ≡ false
another id x ids is not =
    let apart : id ≡ x → ⊥ = λ same.
    let two : true ≡ false = sym is ∙ ap (λ (n : ℕ). is_among n ids) same ∙ not in cc in
    grind (arith, nat_tests)

pub not_before : (ids : List ℕ) (i : ℕ) → Once ids → i < length ids → is_among (get_or ids i 0) (take i ids) ≡ false
not_before [] i once low = absurd (omega (arith, low))
not_before (x ∷ ids) zero once low = refl
not_before (x ∷ ids) (suc i) once low =
    let less : i < length ids = omega (arith, low) in
    ap (λ (t : Bool). t || is_among (get_or ids i 0) (take i ids))
    (another (get_or ids i 0) x ids (among_at ids i less) once.0)
    ∙ not_before ids i once.1 less

-- ---- of some waves

all_more : (front : List (List ℕ)) (wave : List ℕ) → all_in (front ++ wave ∷ []) ≡ all_in front ++ wave
all_more [] wave = append-nil wave
all_more (first ∷ front) wave =
    ap (λ (l : List ℕ). first ++ l) (all_more front wave) ∙ sym (append_assoc first (all_in front) wave)

-- in front of one of them, it, and behind it
all_split : (ws : List (List ℕ)) (i : ℕ) → i < length ws
    → all_in ws ≡ all_in (take i ws) ++ (get_or ws i [] ++ all_in (drop (suc i) ws))
all_split [] i low = absurd (omega (arith, low))
all_split (wave ∷ ws) zero low = refl
all_split (wave ∷ ws) (suc i) low =
    ap (λ (l : List ℕ). wave ++ l) (all_split ws i (omega (arith, low)))
    ∙ sym (append_assoc wave (all_in (take i ws)) (get_or ws i [] ++ all_in (drop (suc i) ws)))

follows_at : (all : Dynamics) (ids done : List ℕ) (ws : List (List ℕ)) (i : ℕ) → Follows all ids done ws → i < length ws
    → AllByRecursion (ReadsOnly all ids (done ++ all_in (take i ws))) (get_or ws i [])
follows_at all ids done [] i follows low = absurd (omega (arith, low))
follows_at all ids done (wave ∷ ws) zero follows low =
    subst (λ (l : List ℕ). AllByRecursion (ReadsOnly all ids l) wave) (sym (append-nil done)) follows.0
follows_at all ids done (wave ∷ ws) (suc i) follows low =
    subst (λ (l : List ℕ). AllByRecursion (ReadsOnly all ids l) (get_or ws i []))
    (append_assoc done wave (all_in (take i ws)))
    (follows_at all ids (done ++ wave) ws i follows.1 (omega (arith, low)))

pub once_behind : (front back : List ℕ) → Once (front ++ back) → Once back
once_behind [] back once = once
once_behind (x ∷ front) back once = once_behind front back once.1

pub once_front : (front back : List ℕ) → Once (front ++ back) → Once front
once_front [] back once = tt
once_front (x ∷ front) back once = (
  (neither (is_among x front) (is_among x back) (sym (among_append x front back) ∙ once.0)).0,
  once_front front back once.1,
)

pub once_apart : (front back : List ℕ) (id : ℕ) → Once (front ++ back) → is_among id back ≡ true → is_among id front ≡ false
once_apart [] back id once is = refl
once_apart (x ∷ front) back id once is =
    ap (λ (t : Bool). t || is_among id front) (another id x (front ++ back) (in_last id front back is) once.0)
    ∙ once_apart front back id once.1 is

-- ---- what a table reads

sources_same : (objects : List Object) (id : ℕ) → reads_at (dynamics_of objects) id ≡ sources_at objects id
sources_same objects id =
    ap (λ (found : Option (Option Watched)). option_map_or (λ w. w.sources) (unwrap_or found None) [])
    (map_at watched_object objects id) ∙ by_found (at_id objects id)
  where
    by_kind : (is_live : Bool) (k : Kind) → option_map_or (λ w. w.sources) (watched is_live k) []
        ≡ option_map_or (λ d. ids_read d.query) (dynamic_in k) []
    by_kind is_live (TableKind t) = refl
    by_kind is_live (StreamKind s) = refl
    by_kind is_live (TaskKind t) = refl
    by_kind is_live (DynamicKind d t) = refl

    by_found : (found : Option Object)
        → option_map_or (λ w. w.sources) (unwrap_or (option_map watched_object found) None) []
        ≡ option_map_or (λ d. ids_read d.query) (option_and_then as_dynamic found) []
    by_found None = refl
    by_found (Some o) = by_kind o.is_live o.kind

-- an id is 1 at least
not_zero : (objects : List Object) (moment id : ℕ) (b : Brought) → brought_one objects moment id ≡ Some b → 0 < id
unfolding brought_one
not_zero objects moment zero b is = absurd cc
not_zero objects moment (suc id) b is = omega arith

-- ---- rising ids

pub not_low : (least id : ℕ) (ids : List ℕ) → RiseAbove least ids → id ≤ least → is_among id ids ≡ false
not_low least id [] rise low = refl
not_low least id (x ∷ ids) rise low =
    let test : nat_eq id x ≡ false = (let h = rise.0 in grind (arith, nat_tests)) in
    ap (λ (t : Bool). t || is_among id ids) test ∙ not_low x id ids rise.1 (omega (arith, rise.0, low))

abbrev pub HaveSame : List ℕ → List ℕ → Type 0
HaveSame ids others = (id : ℕ) → is_among id ids ≡ is_among id others

not_less : (x y : ℕ) (ids others : List ℕ) → RiseAbove y others → HaveSame (x ∷ ids) (y ∷ others) → x < y → ⊥
not_less x y ids others rise same less =
    let two : true ≡ false =
    sym (head_among x ids) ∙ same x ∙ not_low x x (y ∷ others) (less, rise) (omega arith) in
    absurd cc

pub rise_same : (least : ℕ) (ids others : List ℕ) → RiseAbove least ids → RiseAbove least others → HaveSame ids others
    → ids ≡ others
rise_same least [] [] rise also same = refl
rise_same least [] (y ∷ others) rise also same =
    let two : true ≡ false = sym (head_among y others) ∙ sym (same y) in absurd cc
rise_same least (x ∷ ids) [] rise also same =
    let two : true ≡ false = sym (head_among x ids) ∙ same x in absurd cc
rise_same least (x ∷ ids) (y ∷ others) rise also same =
    let first : x ≡ y = by_side (low_or_high x y) (low_or_high y x) in
    let rest : ids ≡ others =
    rise_same x ids others rise.1 (subst (λ (n : ℕ). RiseAbove n others) (sym first) also.1) (have first) in
    (λ i. first i ∷ rest i)
  where
    by_side : (x < y) ⊎ (y ≤ x) → (y < x) ⊎ (x ≤ y) → x ≡ y
    by_side (inl less) other = absurd (not_less x y ids others also.1 same less)
    by_side (inr high) (inl less) = absurd (not_less y x others ids rise.1 (λ id. sym (same id)) less)
    by_side (inr high) (inr low) = omega (arith, high, low)

    by_id : x ≡ y → (id : ℕ) → (id ≡ x) ⊎ (id ≡ x → ⊥) → is_among id ids ≡ is_among id others
    by_id first id (inl here) =
        not_low x id ids rise.1 (omega (arith, here))
        ∙ sym (not_low y id others also.1 (omega (arith, here, first)))
    by_id first id (inr apart) =
        let test : nat_eq id x ≡ false = grind (arith, nat_tests) in
        let other : nat_eq id y ≡ false = ap (nat_eq id) (sym first) ∙ test in
        sym (ap (λ (t : Bool). t || is_among id ids) test) ∙ same id
        ∙ ap (λ (t : Bool). t || is_among id others) other

    have : x ≡ y → HaveSame ids others
    have first id = by_id first id (same_or_not id x)

ids_rise : (least : ℕ) (bs : List Brought) → AreAbove least bs → RiseAbove least (ids_of bs)
ids_rise least [] above = tt
ids_rise least (b ∷ bs) above = (above.0, ids_rise b.id bs above.1)

module _ (stamp moment : ℕ) (objects : List Object) (ids : List ℕ) where
  -- ---- two lists that are settled

  not_settled : (bs : List Brought) (id : ℕ) → Settled stamp moment objects ids bs → is_among id ids ≡ false
      → sought id bs ≡ None
  not_settled bs id settled not = by_found (sought id bs) refl
    where
      by_found : (found : Option Brought) → sought id bs ≡ found → found ≡ None
      by_found None none = refl
      by_found (Some b) there =
          absurd (let two : true ≡ false = sym (settled.each id b there).among ∙ not in cc)

  module _ (bs cs : List Brought) (settled : Settled stamp moment objects ids bs)
      (also : Settled stamp moment objects ids cs) where
    abbrev AgreeBelow : ℕ → Type 0
    AgreeBelow most = (id : ℕ) (b c : Brought) → id < most → sought id bs ≡ Some b → sought id cs ≡ Some c → b ≡ c

    reads_same : (most id : ℕ) → id ≤ most → AgreeBelow most → IsClosed objects ids bs id → IsClosed objects ids cs id
        → (source : ℕ) → is_among source (sources_at objects id) ≡ true → source < id
        → sought source bs ≡ sought source cs
    reads_same most id low agree closed other source reads small = by_test (is_among source ids) refl
      where
        by_test : (t : Bool) → is_among source ids ≡ t → sought source bs ≡ sought source cs
        by_test true here =
            let one = is_there (sought source bs) (closed source reads small here) in
            let two = is_there (sought source cs) (other source reads small here) in
            one.1 ∙ ap Some (agree source one.0 two.0 (omega (arith, low, small)) one.1 two.1) ∙ sym two.1
        by_test false not = not_settled bs source settled not ∙ sym (not_settled cs source also not)

    agree_below : (most : ℕ) → AgreeBelow most
    agree_below zero id b c low there here = absurd (omega (arith, low))
    agree_below (suc most) id b c low there here =
        let was = settled.each id b there in
        let is = also.each id c here in
        let both : Some b ≡ Some c =
        sym was.fixed
        ∙ below_same stamp moment objects id bs cs settled.rise also.rise
        (reads_same most id (omega (arith, low)) (agree_below most) was.closed is.closed)
        ∙ is.fixed in
        cc

    -- a table over either, where both have what it reads below it
    over_both : (id : ℕ) → IsClosed objects ids bs id → IsClosed objects ids cs id
        → brought_one (after_all stamp moment (below id bs) objects) moment id
        ≡ brought_one (after_all stamp moment (below id cs) objects) moment id
    over_both id closed other =
        below_same stamp moment objects id bs cs settled.rise also.rise
        (reads_same id id (omega arith) (agree_below id) closed other)

  -- ---- one wave

  pub more_none : (bs : List Brought) → Settled stamp moment objects ids bs
      → SettledMore stamp moment objects ids bs [] bs
  more_none bs settled = record { settled = settled; here = λ id. or_false (is_some (sought id bs)) }

  pub ready_now : (bs : List Brought) (wave : List ℕ) (i : ℕ) (now : List Brought) → AreReady objects ids bs wave
      → i < length wave → SettledMore stamp moment objects ids bs (take i wave) now
      → IsReady objects ids now (get_or wave i 0)
  ready_now bs wave i now are low more =
      let id : ℕ = get_or wave i 0 in
      let ready : IsReady objects ids bs id = all_at (IsReady objects ids bs) wave i 0 are.each low in
      record {
        among = ready.among;
        new = not_there (sought id now) (more.here id
            ∙ ap (λ (t : Bool). t || is_among id (take i wave)) (ap is_some ready.new)
            ∙ not_before wave i are.once low);
        closed = λ source reads small here. more.here source
            ∙ left_true (is_some (sought source bs)) (is_among source (take i wave))
            (ready.closed source reads small here);
      }

  pub over_more : (bs : List Brought) (wave : List ℕ) (i : ℕ) (now : List Brought) → AreReady objects ids bs wave
      → i < length wave → Settled stamp moment objects ids bs
      → SettledMore stamp moment objects ids bs (take i wave) now
      → brought_one (after_all stamp moment (below (get_or wave i 0) bs) objects) moment (get_or wave i 0)
      ≡ brought_one (after_all stamp moment (below (get_or wave i 0) now) objects) moment (get_or wave i 0)
  over_more bs wave i now are low settled more =
      over_both bs now settled more.settled (get_or wave i 0)
      (all_at (IsReady objects ids bs) wave i 0 are.each low).closed (ready_now bs wave i now are low more).closed

  module _ (bs : List Brought) (wave : List ℕ) (i : ℕ) (now : List Brought) (b : Brought)
      (are : AreReady objects ids bs wave) (low : i < length wave)
      (more : SettledMore stamp moment objects ids bs (take i wave) now)
      (brought : IsBroughtOver stamp moment objects now (get_or wave i 0) (Some b)) where
    abbrev last : ℕ
    last = get_or wave i 0

    abbrev over : List Object
    over = after_all stamp moment (below last now) objects

    same : b.id ≡ last
    same = one_id over moment last b brought

    some_id : 0 < b.id
    some_id = let some = not_zero over moment last b brought in omega (arith, some, same)

    ready : IsReady objects ids now b.id
    ready = subst (IsReady objects ids now) (sym same) (ready_now bs wave i now are low more)

    among_taken : (id : ℕ)
        → is_among id (take (i + 1) wave) ≡ (is_among id (take i wave) || (nat_eq id last || false))
    among_taken id = ap (is_among id) (take_more wave i 0 low) ∙ among_append id (take i wave) (last ∷ [])

    by_id : (id : ℕ) → (id ≡ b.id) ⊎ (id ≡ b.id → ⊥)
        → is_some (sought id (put_in b now)) ≡ (is_some (sought id bs) || is_among id (take (i + 1) wave))
    by_id id (inl here) =
        let test : nat_eq id last ≡ true = (let e : id ≡ last = here ∙ same in grind (arith, nat_tests)) in
        let there : is_among id (take (i + 1) wave) ≡ true =
        among_taken id
        ∙ right_true (is_among id (take i wave)) (nat_eq id last || false) (ap (λ (t : Bool). t || false) test) in
        ap is_some (ap (λ (n : ℕ). sought n (put_in b now)) here ∙ put_here b now ready.new)
        ∙ sym (right_true (is_some (sought id bs)) (is_among id (take (i + 1) wave)) there)
    by_id id (inr apart) =
        let not : id ≡ last → ⊥ = λ e. apart (e ∙ sym same) in
        let test : nat_eq id last ≡ false = grind (arith, nat_tests) in
        let before : is_among id (take (i + 1) wave) ≡ is_among id (take i wave) =
        among_taken id ∙ ap (λ (t : Bool). is_among id (take i wave) || (t || false)) test
        ∙ sym (or_false (is_among id (take i wave))) in
        ap is_some (put_there id b now apart) ∙ more.here id
        ∙ ap (λ (t : Bool). is_some (sought id bs) || t) (sym before)

    pub more_next : SettledMore stamp moment objects ids bs (take (i + 1) wave) (put_in b now)
    more_next = record {
      settled = settled_more stamp moment objects ids now b more.settled ready.new ready.among some_id ready.closed
          (subst (λ (n : ℕ). IsBroughtOver stamp moment objects now n (Some b)) (sym same) brought);
      here = λ id. by_id id (same_or_not id b.id);
    }

  pub wave_lacks : (bs : List Brought) (wave : List ℕ) (i : ℕ) (now : List Brought) → RiseAbove 0 ids
      → AreReady objects ids bs wave → i < length wave → SettledMore stamp moment objects ids bs (take i wave) now
      → IsBroughtOver stamp moment objects now (get_or wave i 0) None
      → brought_all stamp moment ids objects ≡ None
  wave_lacks bs wave i now rise are low more none =
      let ready : IsReady objects ids now (get_or wave i 0) = ready_now bs wave i now are low more in
      settled_lacks stamp moment objects ids now (get_or wave i 0) rise more.settled ready.among ready.closed none

  -- ---- wave by wave

  pub done_none : WavesDone stamp moment objects ids [] []
  done_none = record { settled = settled_none stamp moment objects ids; here = λ id. refl }

  pub done_more : (front : List (List ℕ)) (bs : List Brought) (wave : List ℕ) (more : List Brought)
      → WavesDone stamp moment objects ids front bs → SettledMore stamp moment objects ids bs wave more
      → WavesDone stamp moment objects ids (front ++ wave ∷ []) more
  done_more front bs wave more done next = record {
    settled = next.settled;
    here = λ id. next.here id
        ∙ ap (λ (t : Bool). t || is_among id wave) (done.here id)
        ∙ sym (ap (is_among id) (all_more front wave) ∙ among_append id (all_in front) wave);
  }

  waves_of : (ws : List (List ℕ)) → RiseAbove 0 ids → ws ≡ waves (dynamics_of objects) ids
      → AreWavesOf (dynamics_of objects) ids ws
  waves_of ws rise is =
      subst (AreWavesOf (dynamics_of objects) ids) (sym is) (waves_are (dynamics_of objects) ids rise)

  module _ (ws : List (List ℕ)) (i : ℕ) (bs : List Brought) (rise : RiseAbove 0 ids)
      (is : ws ≡ waves (dynamics_of objects) ids) (low : i < length ws)
      (done : WavesDone stamp moment objects ids (take i ws) bs) where
    abbrev front : List ℕ
    front = all_in (take i ws)

    abbrev wave : List ℕ
    wave = get_or ws i []

    abbrev behind : List ℕ
    behind = all_in (drop (suc i) ws)

    are : AreWavesOf (dynamics_of objects) ids ws
    are = waves_of ws rise is

    each_once : Once (front ++ (wave ++ behind))
    each_once = subst Once (all_split ws i low) are.once

    may_be : (id : ℕ) → is_among id wave ≡ true → IsReady objects ids bs id
    may_be id here =
        let there : is_among id (wave ++ behind) ≡ true = in_more id wave behind here in
        record {
          among = sym (are.same id) ∙ ap (is_among id) (all_split ws i low) ∙ in_last id front (wave ++ behind) there;
          new = not_there (sought id bs)
              (done.here id ∙ once_apart front (wave ++ behind) id each_once there);
          closed = λ source reads small asked. done.here source
              ∙ among_all (ReadsOnly (dynamics_of objects) ids front) id wave
              (follows_at (dynamics_of objects) ids [] ws i are.follows low) here source
              (ap (is_among source) (sources_same objects id) ∙ reads) small asked;
        }

    pub wave_ready : AreReady objects ids bs (get_or ws i [])
    wave_ready = record {
      each = all_among (IsReady objects ids bs) wave may_be;
      once = once_front wave behind (once_behind front (wave ++ behind) each_once);
    }

  pub done_all : (ws : List (List ℕ)) (bs : List Brought) → RiseAbove 0 ids → ws ≡ waves (dynamics_of objects) ids
      → WavesDone stamp moment objects ids ws bs → brought_all stamp moment ids objects ≡ Some bs
  done_all ws bs rise is done =
      settled_all stamp moment objects ids bs done.settled
      (rise_same 0 (ids_of bs) ids (ids_rise 0 bs done.settled.rise) rise
      (λ id. sym (among_ids id bs) ∙ done.here id ∙ (waves_of ws rise is).same id))
