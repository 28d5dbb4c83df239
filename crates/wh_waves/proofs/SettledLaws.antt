-- Tables that are brought wave by wave are those that the refresh brings by rising ids.
--     below_same         one table over two lists that agree on what it reads below it
--     settled_none       none is brought yet
--     settled_more       one more, over those that it reads
--     settled_lacks      one has no rows then: so the refresh brings nothing
--     settled_all        all are brought
use Rattle.std.proofs.Common.{◌≡◌, ℕ, zero, suc, ◌<◌, ◌≤◌, ◌⊎◌, inl, inr, Bool, true, false, List, [], ◌∷◌, ◌++◌, map}
use Rattle.std.proofs.Common.{Option, Some, None, option_map, refl, sym, ap, subst, ◌∙◌, arith}
use Rattle.std.specs.Prelude.{◌||◌, is_some, nat_eq}
use Rattle.std.specs.Option.{option_and_then}
use Rattle.std.proofs.lemmas.Bool.Decides.{nat_tests}
use Rattle.std.proofs.lemmas.List.{append_assoc, map-append}
use Rattle.wh_state.specs.State.{Object}
use Rattle.wh_state.specs.Edits.{is_among}
use Rattle.wh_state.proofs.FoundLaws.{same_or_not}
use Rattle.wh_machine.specs.Refresh.{Brought, brought_one, brought_all, brought_then}
use Rattle.wh_machine.specs.Brought.{after_one, after_all, RiseAbove, AreAbove, sought, edits_sought}
use Rattle.wh_machine.proofs.AfterLaws.{after_last}
use Rattle.wh_waves.specs.Settled.{sources_at, below, put_in, IsClosed, IsBroughtOver, IsSettled, Settled}
use Rattle.wh_waves.proofs.SoughtLaws.{sought_here, sought_there, none_low, below_kept, below_none, below_above}
use Rattle.wh_waves.proofs.SoughtLaws.{put_here, put_there, put_above, below_front, low_or_high}
use Rattle.wh_waves.proofs.SameLaws.{AgreeOn, one_same, one_id}

abbrev pub ids_of : List Brought → List ℕ
ids_of bs = map (λ b. b.id) bs

-- ---- what is found among ids

pub not_there : (found : Option Brought) → is_some found ≡ false → found ≡ None
not_there None e = refl
not_there (Some b) e = cc

pub is_there : (found : Option Brought) → is_some found ≡ true → (b : Brought) × (found ≡ Some b)
is_there None e = cc
is_there (Some b) e = (b, refl)

pub among_ids : (id : ℕ) (bs : List Brought) → is_some (sought id bs) ≡ is_among id (ids_of bs)
among_ids id [] = refl
among_ids id (b ∷ bs) = by_test (same_or_not id b.id) (among_ids id bs)
  where
    by_test : (id ≡ b.id) ⊎ (id ≡ b.id → ⊥) → is_some (sought id bs) ≡ is_among id (ids_of bs)
        → is_some (sought id (b ∷ bs)) ≡ (nat_eq id b.id || is_among id (ids_of bs))
    by_test (inl same) rest =
        let test : nat_eq id b.id ≡ true = grind (arith, nat_tests) in
        ap is_some (sought_here id b bs same) ∙ sym (ap (λ (t : Bool). t || is_among id (ids_of bs)) test)
    by_test (inr apart) rest =
        let test : nat_eq id b.id ≡ false = grind (arith, nat_tests) in
        ap is_some (sought_there id b bs apart) ∙ rest
        ∙ sym (ap (λ (t : Bool). t || is_among id (ids_of bs)) test)

edits_same : (id : ℕ) (bs cs : List Brought) → sought id bs ≡ sought id cs → edits_sought id bs ≡ edits_sought id cs
edits_same id bs cs same = ap (option_and_then (λ b. b.edits)) same

module _ (stamp moment : ℕ) (objects : List Object) where
  -- one table over those below it of two lists, which agree on what it reads below
  pub below_same : (id : ℕ) (bs cs : List Brought) → AreAbove 0 bs → AreAbove 0 cs
      → ((source : ℕ) → is_among source (sources_at objects id) ≡ true → source < id
      → sought source bs ≡ sought source cs)
      → brought_one (after_all stamp moment (below id bs) objects) moment id
      ≡ brought_one (after_all stamp moment (below id cs) objects) moment id
  below_same id bs cs rise also agree =
      one_same stamp moment objects id (below id bs) (below id cs) (below_above id 0 bs rise) (below_above id 0 cs also)
      (below_none id id bs (omega arith)) (below_none id id cs (omega arith)) agrees
    where
      by_side : (source : ℕ) → is_among source (sources_at objects id) ≡ true → (source < id) ⊎ (id ≤ source)
          → sought source (below id bs) ≡ sought source (below id cs)
      by_side source is (inl low) =
          below_kept id source bs low ∙ agree source is low ∙ sym (below_kept id source cs low)
      by_side source is (inr high) = below_none id source bs high ∙ sym (below_none id source cs high)

      agrees : AgreeOn (sources_at objects id) (below id bs) (below id cs)
      agrees source is =
          edits_same source (below id bs) (below id cs) (by_side source is (low_or_high source id))

  -- ---- wave by wave

  module _ (ids : List ℕ) where
    pub settled_none : Settled stamp moment objects ids []
    settled_none = record { rise = tt; each = λ id b is. absurd cc }

    pub settled_more : (bs : List Brought) (b : Brought) → Settled stamp moment objects ids bs → sought b.id bs ≡ None
        → is_among b.id ids ≡ true → 0 < b.id → IsClosed objects ids bs b.id
        → IsBroughtOver stamp moment objects bs b.id (Some b) → Settled stamp moment objects ids (put_in b bs)
    settled_more bs b settled none among low closed brought = record {
      rise = rise;
      each = λ id c is. by_test id c is (same_or_not id b.id);
    }
      where
        rise : AreAbove 0 (put_in b bs)
        rise = put_above 0 b bs settled.rise low none

        -- what a table reads of them, where it is closed without the new one
        agree : (id : ℕ) → IsClosed objects ids bs id → (source : ℕ) → is_among source (sources_at objects id) ≡ true
            → source < id → sought source bs ≡ sought source (put_in b bs)
        agree id closed source is low = by_source (same_or_not source b.id)
          where
            by_source : (source ≡ b.id) ⊎ (source ≡ b.id → ⊥) → sought source bs ≡ sought source (put_in b bs)
            by_source (inl same) =
                let there : is_some (sought source bs) ≡ true =
                closed source is low (ap (λ (n : ℕ). is_among n ids) same ∙ among) in
                let not : is_some (sought source bs) ≡ false =
                ap (λ (n : ℕ). is_some (sought n bs)) same ∙ ap is_some none in
                absurd (let two : true ≡ false = sym there ∙ not in cc)
            by_source (inr apart) = sym (put_there source b bs apart)

        still_closed : (id : ℕ) → IsClosed objects ids bs id → IsClosed objects ids (put_in b bs) id
        still_closed id closed source is low here =
            ap is_some (sym (agree id closed source is low)) ∙ closed source is low here

        same_rows : (id : ℕ) → IsClosed objects ids bs id
            → brought_one (after_all stamp moment (below id (put_in b bs)) objects) moment id
            ≡ brought_one (after_all stamp moment (below id bs) objects) moment id
        same_rows id closed = sym (below_same id bs (put_in b bs) settled.rise rise (agree id closed))

        here : (id : ℕ) → id ≡ b.id → IsSettled stamp moment objects ids (put_in b bs) id b
        here id same = subst (λ (n : ℕ). IsSettled stamp moment objects ids (put_in b bs) n b) (sym same) (record {
          among = among;
          fixed = same_rows b.id closed ∙ brought;
          closed = still_closed b.id closed;
        })

        by_test : (id : ℕ) (c : Brought) → sought id (put_in b bs) ≡ Some c → (id ≡ b.id) ⊎ (id ≡ b.id → ⊥)
            → IsSettled stamp moment objects ids (put_in b bs) id c
        by_test id c is (inl same) =
            let found : Some b ≡ Some c =
            sym (put_here b bs none) ∙ ap (λ (n : ℕ). sought n (put_in b bs)) (sym same) ∙ is in
            let one : b ≡ c = cc in
            subst (λ (x : Brought). IsSettled stamp moment objects ids (put_in b bs) id x) one (here id same)
        by_test id c is (inr apart) =
            let was : IsSettled stamp moment objects ids bs id c =
            settled.each id c (sym (put_there id b bs apart) ∙ is) in
            record {
              among = was.among;
              fixed = same_rows id was.closed ∙ was.fixed;
              closed = still_closed id was.closed;
            }

  -- ---- by rising ids

  -- each is what it comes to over those in front of it
  abbrev AreFixed : List Brought → List Brought → Type 0
  AreFixed all bs = (id : ℕ) (b : Brought) → sought id bs ≡ Some b
      → brought_one (after_all stamp moment (below id all) objects) moment id ≡ Some b

  in_front : (front : List Brought) (b : Brought) (bs : List Brought) → AreAbove 0 (front ++ b ∷ bs)
      → brought_one (after_all stamp moment (below b.id (front ++ b ∷ bs)) objects) moment b.id
      ≡ brought_one (after_all stamp moment front objects) moment b.id
  in_front front b bs above =
      ap (λ (l : List Brought). brought_one (after_all stamp moment l objects) moment b.id) (below_front 0 front b bs above)

  -- those behind the first are none of it
  rest_fixed : (all : List Brought) (b : Brought) (bs : List Brought) (least : ℕ) → AreAbove least (b ∷ bs)
      → AreFixed all (b ∷ bs) → AreFixed all bs
  rest_fixed all b bs least above fixed id c is = fixed id c (sought_there id b bs apart ∙ is)
    where
      apart : id ≡ b.id → ⊥
      apart same =
          let none : sought id bs ≡ None = none_low b.id id bs above.1 (omega (arith, same)) in
          let two : Some c ≡ None = sym is ∙ none in cc

  above_behind : (least : ℕ) (front bs : List Brought) → AreAbove least (front ++ bs)
      → (last : ℕ) × AreAbove last bs
  above_behind least [] bs above = (least, above)
  above_behind least (b ∷ front) bs above = above_behind b.id front bs above.1

  all_behind : (front bs : List Brought) → AreAbove 0 (front ++ bs) → AreFixed (front ++ bs) bs
      → brought_all stamp moment (ids_of bs) (after_all stamp moment front objects) ≡ Some bs
  all_behind front [] above fixed = refl
  all_behind front (b ∷ bs) above fixed =
      let now : List Object = after_all stamp moment front objects in
      let rise = above_behind 0 front (b ∷ bs) above in
      let here : brought_one now moment b.id ≡ Some b =
      sym (in_front front b bs above) ∙ fixed b.id b (sought_here b.id b bs refl) in
      let same : (front ++ b ∷ []) ++ bs ≡ front ++ b ∷ bs = append_assoc front (b ∷ []) bs in
      ap (brought_then (brought_all stamp moment (ids_of bs)) stamp moment now) here
      ∙ ap (λ (os : List Object). option_map (λ more. b ∷ more) (brought_all stamp moment (ids_of bs) os))
      (sym (after_last stamp moment front b objects))
      ∙ ap (option_map (λ more. b ∷ more))
      (all_behind (front ++ b ∷ []) bs (subst (AreAbove 0) (sym same) above)
      (subst (λ (l : List Brought). AreFixed l bs) (sym same) (rest_fixed (front ++ b ∷ bs) b bs rise.0 rise.1 fixed)))

  pub settled_all : (ids : List ℕ) (bs : List Brought) → Settled stamp moment objects ids bs → ids_of bs ≡ ids
      → brought_all stamp moment ids objects ≡ Some bs
  settled_all ids bs settled are =
      ap (λ (l : List ℕ). brought_all stamp moment l objects) (sym are)
      ∙ all_behind [] bs settled.rise (λ id b is. (settled.each id b is).fixed)

  -- ---- what the refresh brings, if anything

  abbrev ThenFixed : List Brought → List ℕ → List Brought → Type 0
  ThenFixed front ids bs = (ids_of bs ≡ ids) × AreFixed (front ++ bs) bs

  fixed_more : (front : List Brought) (b : Brought) (bs : List Brought) → AreAbove 0 (front ++ b ∷ bs)
      → brought_one (after_all stamp moment front objects) moment b.id ≡ Some b
      → AreFixed (front ++ b ∷ bs) bs → AreFixed (front ++ b ∷ bs) (b ∷ bs)
  fixed_more front b bs above here rest id c is = by_test (same_or_not id b.id)
    where
      by_test : (id ≡ b.id) ⊎ (id ≡ b.id → ⊥)
          → brought_one (after_all stamp moment (below id (front ++ b ∷ bs)) objects) moment id ≡ Some c
      by_test (inl same) =
          let found : Some b ≡ Some c = sym (sought_here id b bs same) ∙ is in
          ap (λ (n : ℕ). brought_one (after_all stamp moment (below n (front ++ b ∷ bs)) objects) moment n) same
          ∙ in_front front b bs above ∙ here ∙ found
      by_test (inr apart) = rest id c (sym (sought_there id b bs apart) ∙ is)

  rise_behind : (least : ℕ) (front bs : List Brought) (ids : List ℕ) → RiseAbove least (ids_of front ++ ids)
      → ids_of bs ≡ ids → AreAbove least (front ++ bs)
  rise_behind least [] [] ids rise are = tt
  rise_behind least [] (b ∷ bs) [] rise are = absurd cc
  rise_behind least [] (b ∷ bs) (id ∷ ids) rise are =
      let first : b.id ≡ id = cc in
      let rest : ids_of bs ≡ ids = cc in (
        omega (arith, first, rise.0),
        rise_behind b.id [] bs ids (subst (λ (n : ℕ). RiseAbove n ids) (sym first) rise.1) rest,
      )
  rise_behind least (c ∷ front) bs ids rise are = (rise.0, rise_behind c.id front bs ids rise.1 are)

  -- what is said of those behind one more
  abbrev Later : List Brought → List ℕ → Type 0
  Later front ids = (b : Brought) (more : List Brought) → RiseAbove 0 (ids_of (front ++ b ∷ []) ++ ids)
      → brought_all stamp moment ids (after_all stamp moment (front ++ b ∷ []) objects) ≡ Some more
      → ThenFixed (front ++ b ∷ []) ids more

  fixed_rest : (front : List Brought) (id : ℕ) (ids : List ℕ) (bs : List Brought) → RiseAbove 0 (ids_of front ++ id ∷ ids)
      → Later front ids → (b : Brought) (rest : Option (List Brought))
      → brought_one (after_all stamp moment front objects) moment id ≡ Some b → b.id ≡ id
      → brought_all stamp moment ids (after_one stamp moment b (after_all stamp moment front objects)) ≡ rest
      → option_map (λ more. b ∷ more) rest ≡ Some bs → ThenFixed front (id ∷ ids) bs
  fixed_rest front id ids bs rise later b None here same there is = absurd cc
  fixed_rest front id ids bs rise later b (Some more) here same there is =
      let whole : b ∷ more ≡ bs = cc in
      let regrouped : (front ++ b ∷ []) ++ more ≡ front ++ b ∷ more = append_assoc front (b ∷ []) more in
      let listed : ids_of (front ++ b ∷ []) ++ ids ≡ ids_of front ++ id ∷ ids =
      ap (λ (l : List ℕ). l ++ ids) (map-append (λ (x : Brought). x.id) front (b ∷ []))
      ∙ append_assoc (ids_of front) (b.id ∷ []) ids ∙ ap (λ (n : ℕ). ids_of front ++ n ∷ ids) same in
      let then : ThenFixed (front ++ b ∷ []) ids more =
      later b more (subst (RiseAbove 0) (sym listed) rise)
      (ap (brought_all stamp moment ids) (after_last stamp moment front b objects) ∙ there) in
      let are : ids_of (b ∷ more) ≡ id ∷ ids = (λ i. same i ∷ then.0 i) in
      let above : AreAbove 0 (front ++ b ∷ more) = rise_behind 0 front (b ∷ more) (id ∷ ids) rise are in
      subst (ThenFixed front (id ∷ ids)) whole (
        are,
        fixed_more front b more above
            (ap (brought_one (after_all stamp moment front objects) moment) same ∙ here)
            (subst (λ (l : List Brought). AreFixed l more) regrouped then.1),
      )

  fixed_one : (front : List Brought) (id : ℕ) (ids : List ℕ) (bs : List Brought) → RiseAbove 0 (ids_of front ++ id ∷ ids)
      → Later front ids → (found : Option Brought)
      → brought_one (after_all stamp moment front objects) moment id ≡ found
      → brought_then (brought_all stamp moment ids) stamp moment (after_all stamp moment front objects) found ≡ Some bs
      → ThenFixed front (id ∷ ids) bs
  fixed_one front id ids bs rise later None none is = absurd cc
  fixed_one front id ids bs rise later (Some b) here is =
      let now : List Object = after_all stamp moment front objects in
      fixed_rest front id ids bs rise later b (brought_all stamp moment ids (after_one stamp moment b now)) here
      (one_id now moment id b here) refl is

  all_fixed : (front : List Brought) (ids : List ℕ) (bs : List Brought) → RiseAbove 0 (ids_of front ++ ids)
      → brought_all stamp moment ids (after_all stamp moment front objects) ≡ Some bs → ThenFixed front ids bs
  all_fixed front [] bs rise is =
      let none : [] ≡ bs = cc in
      subst (ThenFixed front []) none (refl, λ id b there. absurd cc)
  all_fixed front (id ∷ ids) bs rise is =
      fixed_one front id ids bs rise (λ b more. all_fixed (front ++ b ∷ []) ids more)
      (brought_one (after_all stamp moment front objects) moment id) refl is

  -- ---- one that has no rows

  module _ (ids : List ℕ) (rise : RiseAbove 0 ids) (bs : List Brought) (settled : Settled stamp moment objects ids bs)
      (full : List Brought) (is : brought_all stamp moment ids objects ≡ Some full) where
    then : ThenFixed [] ids full
    then = all_fixed [] ids full rise is

    full_rise : AreAbove 0 full
    full_rise = rise_behind 0 [] full ids rise then.0

    in_full : (id : ℕ) → is_among id ids ≡ true → (b : Brought) × (sought id full ≡ Some b)
    in_full id among =
        is_there (sought id full) (among_ids id full ∙ ap (is_among id) then.0 ∙ among)

    not_in_full : (id : ℕ) → is_among id ids ≡ false → sought id full ≡ None
    not_in_full id not = not_there (sought id full) (among_ids id full ∙ ap (is_among id) then.0 ∙ not)

    not_in_settled : (id : ℕ) → is_among id ids ≡ false → sought id bs ≡ None
    not_in_settled id not = by_found (sought id bs) refl
      where
        by_found : (found : Option Brought) → sought id bs ≡ found → found ≡ None
        by_found None none = refl
        by_found (Some b) there =
            absurd (let two : true ≡ false = sym (settled.each id b there).among ∙ not in cc)

    abbrev AgreeBelow : ℕ → Type 0
    AgreeBelow most = (id : ℕ) (b : Brought) → id < most → sought id bs ≡ Some b → sought id full ≡ Some b

    reads_same : (most id : ℕ) → id ≤ most → AgreeBelow most → IsClosed objects ids bs id → (source : ℕ)
        → is_among source (sources_at objects id) ≡ true → source < id → sought source bs ≡ sought source full
    reads_same most id low agree closed source reads small = by_test (is_among source ids) refl
      where
        by_test : (t : Bool) → is_among source ids ≡ t → sought source bs ≡ sought source full
        by_test true here =
            let there = is_there (sought source bs) (closed source reads small here) in
            there.1 ∙ sym (agree source there.0 (omega (arith, low, small)) there.1)
        by_test false not = not_in_settled source not ∙ sym (not_in_full source not)

    over_both : (most id : ℕ) → id ≤ most → AgreeBelow most → IsClosed objects ids bs id
        → brought_one (after_all stamp moment (below id bs) objects) moment id
        ≡ brought_one (after_all stamp moment (below id full) objects) moment id
    over_both most id low agree closed =
        below_same id bs full settled.rise full_rise (reads_same most id low agree closed)

    agree_below : (most : ℕ) → AgreeBelow most
    agree_below zero id b low there = absurd (omega (arith, low))
    agree_below (suc most) id b low there =
        let was = settled.each id b there in
        let found = in_full id was.among in
        let both : Some b ≡ Some found.0 =
        sym was.fixed ∙ over_both most id (omega (arith, low)) (agree_below most) was.closed ∙ then.1 id found.0 found.1 in
        found.1 ∙ sym both

    refuted : (id : ℕ) → is_among id ids ≡ true → IsClosed objects ids bs id
        → IsBroughtOver stamp moment objects bs id None → ⊥
    refuted id among closed none =
        let found = in_full id among in
        let two : None ≡ Some found.0 =
        sym none ∙ over_both id id (omega arith) (agree_below id) closed ∙ then.1 id found.0 found.1 in
        absurd cc

  pub settled_lacks : (ids : List ℕ) (bs : List Brought) (id : ℕ) → RiseAbove 0 ids
      → Settled stamp moment objects ids bs → is_among id ids ≡ true → IsClosed objects ids bs id
      → IsBroughtOver stamp moment objects bs id None → brought_all stamp moment ids objects ≡ None
  settled_lacks ids bs id rise settled among closed none = by_found (brought_all stamp moment ids objects) refl
    where
      by_found : (found : Option (List Brought)) → brought_all stamp moment ids objects ≡ found → found ≡ None
      by_found None is = refl
      by_found (Some full) is = absurd (refuted ids rise bs settled full is id among closed none)
