-- Waves: what a table reads of those to be brought, below it, is in the waves before its own.
--     among_append       what is among ids with others behind them
--     waves_are          so it is of the waves of rising ids, which have these ids, each once
use Rattle.std.proofs.Common.{◌≡◌, ℕ, zero, suc, ◌<◌, ◌≤◌, Bool, true, false, List, [], ◌∷◌, ◌++◌, refl, sym, ap, subst}
use Rattle.std.proofs.Common.{◌∙◌, arith}
use Rattle.std.specs.Prelude.{◌||◌, nat_eq}
use Rattle.std.specs.List.{AllByRecursion, list_any}
use Rattle.std.proofs.lemmas.Bool.Decides.{nat_tests}
use Rattle.std.proofs.lemmas.List.{append_assoc, append-nil}
use Rattle.wh_state.specs.Edits.{is_among}
use Rattle.wh_state.proofs.AllLaws.{all_append, all_map}
use Rattle.wh_moment.specs.Upstream.{Dynamics}
use Rattle.wh_waves.specs.Waves.{reads_at, deeper, depth, put_behind, waves_behind, waves}
use Rattle.wh_waves.specs.Waves.{all_in, ReadsOnly, Follows, Once, AreWavesOf}
use Rattle.wh_machine.specs.Brought.{RiseAbove}

-- ---- among lists

or_assoc : (a b c : Bool) → (a || (b || c)) ≡ ((a || b) || c)
or_assoc true b c = refl
or_assoc false b c = refl

or_comm : (a b : Bool) → (a || b) ≡ (b || a)
or_comm true true = refl
or_comm true false = refl
or_comm false true = refl
or_comm false false = refl

pub among_append : (id : ℕ) (ids more : List ℕ) → is_among id (ids ++ more) ≡ (is_among id ids || is_among id more)
among_append id [] more = refl
among_append id (x ∷ ids) more =
    ap (λ (t : Bool). nat_eq id x || t) (among_append id ids more)
    ∙ or_assoc (nat_eq id x) (is_among id ids) (is_among id more)

pub left_true : (a b : Bool) → a ≡ true → (a || b) ≡ true
left_true true b is = refl
left_true false b is = cc

pub right_true : (a b : Bool) → b ≡ true → (a || b) ≡ true
right_true true b is = refl
right_true false b is = is

pub neither : (a b : Bool) → (a || b) ≡ false → (a ≡ false) × (b ≡ false)
neither true b e = cc
neither false b e = (refl, e)

pub in_more : (id : ℕ) (ids more : List ℕ) → is_among id ids ≡ true → is_among id (ids ++ more) ≡ true
in_more id ids more is = among_append id ids more ∙ left_true (is_among id ids) (is_among id more) is

pub in_last : (id : ℕ) (ids more : List ℕ) → is_among id more ≡ true → is_among id (ids ++ more) ≡ true
in_last id ids more is = among_append id ids more ∙ right_true (is_among id ids) (is_among id more) is

-- one more that has another id
not_the_last : (source id : ℕ) (ids : List ℕ) → source < id → is_among source (ids ++ id ∷ []) ≡ true
    → is_among source ids ≡ true
not_the_last source id ids low is =
    let test : nat_eq source id ≡ false = grind (arith, nat_tests) in
    by_front (is_among source ids) (sym (ap (λ (t : Bool). is_among source ids || (t || false)) test)
    ∙ sym (among_append source ids (id ∷ [])) ∙ is)
  where
    by_front : (t : Bool) → (t || (false || false)) ≡ true → t ≡ true
    by_front true e = refl
    by_front false e = e

-- ---- how deep

-- no wave up to there has one of the sources
none_deep : (sources : List ℕ) (waves : List (List ℕ)) (source : ℕ) → depth sources waves ≡ 0
    → is_among source sources ≡ true → is_among source (all_in waves) ≡ false
none_deep sources [] source none reads = refl
none_deep sources (wave ∷ waves) source none reads =
    by_depth (depth sources waves) (list_any (λ id. is_among id sources) wave) refl refl none
    (λ deep. none_deep sources waves source deep reads)
  where
    not_in_wave : (ids : List ℕ) → list_any (λ id. is_among id sources) ids ≡ false → is_among source ids ≡ false
    not_in_wave [] e = refl
    not_in_wave (x ∷ ids) e =
        let both = neither (is_among x sources) (list_any (λ id. is_among id sources) ids) e in
        ap (λ (t : Bool). t || is_among source ids) (not_here (nat_eq source x) refl both.0) ∙ not_in_wave ids both.1
      where
        not_here : (t : Bool) → nat_eq source x ≡ t → is_among x sources ≡ false → t ≡ false
        not_here false test not = refl
        not_here true test not =
            let same : source ≡ x = grind (arith, nat_tests) in
            sym reads ∙ ap (λ (n : ℕ). is_among n sources) same ∙ not

    by_depth : (d : ℕ) (t : Bool) → depth sources waves ≡ d → list_any (λ id. is_among id sources) wave ≡ t
        → deeper d t ≡ 0 → (depth sources waves ≡ 0 → is_among source (all_in waves) ≡ false)
        → is_among source (wave ++ all_in waves) ≡ false
    by_depth (suc d) t deep any e rest = absurd (omega (arith, e))
    by_depth zero true deep any e rest = absurd (omega (arith, e))
    by_depth zero false deep any e rest =
        among_append source wave (all_in waves)
        ∙ ap (λ (t : Bool). t || is_among source (all_in waves)) (not_in_wave wave any)
        ∙ rest deep

-- ---- one more

more_done : (all : Dynamics) (ids done more : List ℕ) (id : ℕ)
    → ((x : ℕ) → is_among x done ≡ true → is_among x more ≡ true)
    → ReadsOnly all ids done id → ReadsOnly all ids more id
more_done all ids done more id grows reads source is low here = grows source (reads source is low here)

follow_more : (all : Dynamics) (ids done more : List ℕ) (waves : List (List ℕ))
    → ((x : ℕ) → is_among x done ≡ true → is_among x more ≡ true)
    → Follows all ids done waves → Follows all ids more waves
follow_more all ids done more [] grows follows = tt
follow_more all ids done more (wave ∷ waves) grows follows = (
  all_map (ReadsOnly all ids done) (ReadsOnly all ids more) (λ id. more_done all ids done more id grows) wave follows.0,
  follow_more all ids (done ++ wave) (more ++ wave) waves on follows.1,
)
  where
    on : (x : ℕ) → is_among x (done ++ wave) ≡ true → is_among x (more ++ wave) ≡ true
    on x is = by_front (is_among x done) refl
      where
        by_front : (t : Bool) → is_among x done ≡ t → is_among x (more ++ wave) ≡ true
        by_front true here = in_more x more wave (grows x here)
        by_front false not =
            in_last x more wave (sym (ap (λ (t : Bool). t || is_among x wave) not) ∙ sym (among_append x done wave) ∙ is)

-- those that lie below the new one read nothing else than before
abbrev LieBelow : ℕ → List ℕ → Type 0
LieBelow most ids = AllByRecursion (λ id. id < most) ids

read_below : (all : Dynamics) (ids done : List ℕ) (last id : ℕ) → id < last → ReadsOnly all ids done id
    → ReadsOnly all (ids ++ last ∷ []) done id
read_below all ids done last id low reads source is small here =
    reads source is small (not_the_last source last ids (omega (arith, low, small)) here)

wave_below : (all : Dynamics) (ids done : List ℕ) (last : ℕ) (wave : List ℕ) → LieBelow last wave
    → AllByRecursion (ReadsOnly all ids done) wave → AllByRecursion (ReadsOnly all (ids ++ last ∷ []) done) wave
wave_below all ids done last [] low follows = tt
wave_below all ids done last (id ∷ wave) low follows =
    (read_below all ids done last id low.0 follows.0, wave_below all ids done last wave low.1 follows.1)

abbrev AllBelow : ℕ → List (List ℕ) → Type 0
AllBelow most waves = AllByRecursion (LieBelow most) waves

rest_below : (all : Dynamics) (ids done : List ℕ) (last : ℕ) (waves : List (List ℕ)) → AllBelow last waves
    → Follows all ids done waves → Follows all (ids ++ last ∷ []) done waves
rest_below all ids done last [] low follows = tt
rest_below all ids done last (wave ∷ waves) low follows = (
  wave_below all ids done last wave low.0 follows.0,
  rest_below all ids (done ++ wave) last waves low.1 follows.1,
)

-- what the new one reads of those so far is done, or stands in the waves
abbrev IsAtHand : Dynamics → List ℕ → List ℕ → List (List ℕ) → ℕ → Type 0
IsAtHand all ids done waves last = (source : ℕ) → is_among source (reads_at all last) ≡ true
    → is_among source ids ≡ true → is_among source (done ++ all_in waves) ≡ true

placed : (all : Dynamics) (ids done : List ℕ) (last : ℕ) (waves : List (List ℕ)) → AllBelow last waves
    → IsAtHand all ids done waves last → Follows all ids done waves
    → Follows all (ids ++ last ∷ []) done (put_behind (depth (reads_at all last) waves) last waves)
placed all ids done last [] low hand follows = ((here, tt), tt)
  where
    here : ReadsOnly all (ids ++ last ∷ []) done last
    here source is small there =
        ap (is_among source) (sym (append-nil done)) ∙ hand source is (not_the_last source last ids small there)
placed all ids done last (wave ∷ waves) low hand follows =
    by_depth (depth (reads_at all last) waves) (list_any (λ id. is_among id (reads_at all last)) wave) refl refl
    (placed all ids (done ++ wave) last waves low.1 next_hand follows.1)
  where
    next_hand : IsAtHand all ids (done ++ wave) waves last
    next_hand source is there =
        ap (is_among source) (append_assoc done wave (all_in waves)) ∙ hand source is there

    behind : (d : ℕ) → depth (reads_at all last) waves ≡ d → Follows all (ids ++ last ∷ []) (done ++ wave) (put_behind (depth (reads_at all last) waves) last waves)
        → Follows all (ids ++ last ∷ []) done (wave ∷ put_behind d last waves)
    behind d deep rest = (
      wave_below all ids done last wave low.0 follows.0,
      subst (λ (n : ℕ). Follows all (ids ++ last ∷ []) (done ++ wave) (put_behind n last waves)) deep rest,
    )

    with_last : AllByRecursion (ReadsOnly all (ids ++ last ∷ []) done) wave
        → ReadsOnly all (ids ++ last ∷ []) done last
        → AllByRecursion (ReadsOnly all (ids ++ last ∷ []) done) (wave ++ last ∷ [])
    with_last front here = all_append (ReadsOnly all (ids ++ last ∷ []) done) wave (last ∷ []) front (here, tt)

    is_done : depth (reads_at all last) (wave ∷ waves) ≡ 0 → ReadsOnly all (ids ++ last ∷ []) done last
    is_done none source is small there =
        let apart = none_deep (reads_at all last) (wave ∷ waves) source none is in
        by_front (is_among source done)
        (sym (ap (λ (t : Bool). is_among source done || t) apart)
        ∙ sym (among_append source done (all_in (wave ∷ waves)))
        ∙ hand source is (not_the_last source last ids small there))
      where
        by_front : (t : Bool) → (t || false) ≡ true → t ≡ true
        by_front true e = refl
        by_front false e = e

    grows : (x : ℕ) → is_among x (done ++ wave) ≡ true → is_among x (done ++ (wave ++ last ∷ [])) ≡ true
    grows x is = ap (is_among x) (sym (append_assoc done wave (last ∷ []))) ∙ in_more x (done ++ wave) (last ∷ []) is

    by_depth : (d : ℕ) (t : Bool) → depth (reads_at all last) waves ≡ d
        → list_any (λ id. is_among id (reads_at all last)) wave ≡ t → Follows all (ids ++ last ∷ []) (done ++ wave) (put_behind (depth (reads_at all last) waves) last waves)
        → Follows all (ids ++ last ∷ []) done (put_behind (deeper d t) last (wave ∷ waves))
    by_depth (suc d) t deep any rest = behind (suc d) deep rest
    by_depth zero true deep any rest = behind zero deep rest
    by_depth zero false deep any rest = (
      with_last (wave_below all ids done last wave low.0 follows.0)
          (is_done (ap (λ (n : ℕ). deeper n (list_any (λ id. is_among id (reads_at all last)) wave)) deep ∙ ap (deeper 0) any)),
      follow_more all (ids ++ last ∷ []) (done ++ wave) (done ++ (wave ++ last ∷ [])) waves grows
          (rest_below all ids (done ++ wave) last waves low.1 follows.1),
    )

-- ---- the ids

put_has : (d id x : ℕ) (waves : List (List ℕ)) → is_among x (all_in (put_behind d id waves))
    ≡ (is_among x (all_in waves) || (nat_eq x id || false))
put_has zero id x [] = refl
put_has (suc d) id x [] = refl
put_has zero id x (wave ∷ waves) =
    among_append x (wave ++ id ∷ []) (all_in waves)
    ∙ ap (λ (t : Bool). t || is_among x (all_in waves)) (among_append x wave (id ∷ []))
    ∙ turned (is_among x wave) (nat_eq x id || false) (is_among x (all_in waves))
    ∙ ap (λ (t : Bool). t || (nat_eq x id || false)) (sym (among_append x wave (all_in waves)))
  where
    turned : (a b c : Bool) → ((a || b) || c) ≡ ((a || c) || b)
    turned true b c = refl
    turned false b c = or_comm b c
put_has (suc d) id x (wave ∷ waves) =
    among_append x wave (all_in (put_behind d id waves))
    ∙ ap (λ (t : Bool). is_among x wave || t) (put_has d id x waves)
    ∙ or_assoc (is_among x wave) (is_among x (all_in waves)) (nat_eq x id || false)
    ∙ ap (λ (t : Bool). t || (nat_eq x id || false)) (sym (among_append x wave (all_in waves)))

put_below : (d id most : ℕ) (waves : List (List ℕ)) → id < most → AllBelow most waves
    → AllBelow most (put_behind d id waves)
put_below d id most [] low below = ((low, tt), tt)
put_below zero id most (wave ∷ waves) low below =
    (all_append (λ x. x < most) wave (id ∷ []) below.0 (low, tt), below.1)
put_below (suc d) id most (wave ∷ waves) low below = (below.0, put_below d id most waves low below.1)

lie_weaker : (most more : ℕ) (ids : List ℕ) → most ≤ more → LieBelow most ids → LieBelow more ids
lie_weaker most more [] h low = tt
lie_weaker most more (id ∷ ids) h low = (omega (arith, low.0), lie_weaker most more ids h low.1)

below_weaker : (most more : ℕ) (waves : List (List ℕ)) → most ≤ more → AllBelow most waves → AllBelow more waves
below_weaker most more [] h low = tt
below_weaker most more (wave ∷ waves) h low = (lie_weaker most more wave h low.0, below_weaker most more waves h low.1)

-- ---- each once

once_insert : (id : ℕ) (front back : List ℕ) → Once (front ++ back) → is_among id (front ++ back) ≡ false
    → Once (front ++ id ∷ back)
once_insert id [] back once apart = (apart, once)
once_insert id (x ∷ front) back once apart =
    let both = neither (nat_eq id x) (is_among id (front ++ back)) apart in
    let other : nat_eq x id ≡ false = (let h = both.0 in grind (arith, nat_tests)) in (
      among_append x front (id ∷ back)
          ∙ ap (λ (t : Bool). is_among x front || (t || is_among x back)) other
          ∙ sym (among_append x front back) ∙ once.0,
      once_insert id front back once.1 both.1,
    )

-- where the new one stands
record IsPutIn (waves more : List (List ℕ)) (id : ℕ) : Type 0 where
  pub front : List ℕ
  pub back : List ℕ
  pub was : all_in waves ≡ front ++ back
  pub is : all_in more ≡ front ++ id ∷ back

put_split : (d id : ℕ) (waves : List (List ℕ)) → IsPutIn waves (put_behind d id waves) id
put_split d id [] = record { front = []; back = []; was = refl; is = refl }
put_split zero id (wave ∷ waves) = record {
  front = wave;
  back = all_in waves;
  was = refl;
  is = append_assoc wave (id ∷ []) (all_in waves);
}
put_split (suc d) id (wave ∷ waves) =
    let rest = put_split d id waves in
    record {
      front = wave ++ rest.front;
      back = rest.back;
      was = ap (λ (l : List ℕ). wave ++ l) rest.was ∙ sym (append_assoc wave rest.front rest.back);
      is = ap (λ (l : List ℕ). wave ++ l) rest.is ∙ sym (append_assoc wave rest.front (id ∷ rest.back));
    }

put_once : (d id : ℕ) (waves : List (List ℕ)) → Once (all_in waves) → is_among id (all_in waves) ≡ false
    → Once (all_in (put_behind d id waves))
put_once d id waves once apart =
    let where_put = put_split d id waves in
    subst Once (sym where_put.is) (once_insert id where_put.front where_put.back
    (subst Once where_put.was once) (ap (is_among id) (sym where_put.was) ∙ apart))

not_below : (id : ℕ) (waves : List (List ℕ)) → AllBelow id waves → is_among id (all_in waves) ≡ false
not_below id [] low = refl
not_below id (wave ∷ waves) low =
    among_append id wave (all_in waves)
    ∙ ap (λ (t : Bool). t || is_among id (all_in waves)) (not_in wave low.0) ∙ not_below id waves low.1
  where
    not_in : (ids : List ℕ) → LieBelow id ids → is_among id ids ≡ false
    not_in [] low = refl
    not_in (x ∷ ids) low =
        let test : nat_eq id x ≡ false = (let h = low.0 in grind (arith, nat_tests)) in
        ap (λ (t : Bool). t || is_among id ids) test ∙ not_in ids low.1

-- ---- of rising ids

-- those so far, which lie below what comes
one_more : (all : Dynamics) (ids : List ℕ) (waves : List (List ℕ)) (id : ℕ) → AreWavesOf all ids waves
    → AllBelow id waves
    → AreWavesOf all (ids ++ id ∷ []) (put_behind (depth (reads_at all id) waves) id waves)
one_more all ids waves id are low = record {
  follows = placed all ids [] id waves low (λ source is here. are.same source ∙ here) are.follows;
  same = λ x. put_has (depth (reads_at all id) waves) id x waves
      ∙ ap (λ (t : Bool). t || (nat_eq x id || false)) (are.same x) ∙ sym (among_append x ids (id ∷ []));
  once = put_once (depth (reads_at all id) waves) id waves are.once (not_below id waves low);
}

several_more : (all : Dynamics) (least : ℕ) (done left : List ℕ) (waves : List (List ℕ)) → AreWavesOf all done waves
    → AllBelow (suc least) waves → RiseAbove least left
    → AreWavesOf all (done ++ left) (waves_behind all waves left)
several_more all least done [] waves are low rise =
    subst (λ (ids : List ℕ). AreWavesOf all ids waves) (sym (append-nil done)) are
several_more all least done (id ∷ left) waves are low rise =
    let here : AllBelow id waves = below_weaker (suc least) id waves (omega (arith, rise.0)) low in
    subst (λ (ids : List ℕ). AreWavesOf all ids (waves_behind all waves (id ∷ left))) (append_assoc done (id ∷ []) left)
    (several_more all id (done ++ id ∷ []) left (put_behind (depth (reads_at all id) waves) id waves)
    (one_more all done waves id are here)
    (put_below (depth (reads_at all id) waves) id (suc id) waves (omega arith)
    (below_weaker id (suc id) waves (omega arith) here)) rise.1)

pub waves_are : (all : Dynamics) (ids : List ℕ) → RiseAbove 0 ids → AreWavesOf all ids (waves all ids)
unfolding waves
waves_are all ids rise =
    several_more all 0 [] ids [] (record { follows = tt; same = λ id. refl; once = tt }) tt rise
