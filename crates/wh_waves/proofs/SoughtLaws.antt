-- What is found among tables that were brought.
--     sought_here, sought_there, sought_id     the first of them, another one, and its id
--     none_low                   none has an id up to the least one
--     below_kept, below_none     those below an id have what stands below it, and nothing else
--     below_above                they rise
--     put_here, put_there        one that is put among them, and the others
--     put_above                  they rise with it
--     below_front                below one of them stand those in front of it
use Rattle.std.proofs.Common.{◌≡◌, ℕ, ◌<◌, ◌≤◌, ◌⊎◌, inl, inr, Bool, true, false, cond, List, [], ◌∷◌, ◌++◌}
use Rattle.std.proofs.Common.{length, take, drop}
use Rattle.std.proofs.Common.{Some, None, refl, sym, ap, ◌∙◌, arith}
use Rattle.std.specs.Prelude.{nat_eq, nat_lt}
use Rattle.std.proofs.lemmas.Bool.Decides.{nat_tests}
use Rattle.wh_state.proofs.FoundLaws.{same_or_not}
use Rattle.wh_machine.specs.Refresh.{Brought}
use Rattle.wh_machine.specs.Brought.{AreAbove, sought}
use Rattle.wh_waves.specs.Settled.{below, put_in}

pub sought_here : (id : ℕ) (b : Brought) (bs : List Brought) → id ≡ b.id → sought id (b ∷ bs) ≡ Some b
sought_here id b bs same =
    let test : nat_eq b.id id ≡ true = grind (arith, nat_tests) in
    ap (λ (t : Bool). cond t (Some b) (sought id bs)) test

pub sought_there : (id : ℕ) (b : Brought) (bs : List Brought) → (id ≡ b.id → ⊥) → sought id (b ∷ bs) ≡ sought id bs
sought_there id b bs apart =
    let test : nat_eq b.id id ≡ false = grind (arith, nat_tests) in
    ap (λ (t : Bool). cond t (Some b) (sought id bs)) test

pub sought_id : (id : ℕ) (b : Brought) (bs : List Brought) → sought id bs ≡ Some b → b.id ≡ id
sought_id id b [] is = absurd cc
sought_id id b (c ∷ bs) is = by_test (same_or_not id c.id) (λ there. sought_id id b bs there)
  where
    by_test : (id ≡ c.id) ⊎ (id ≡ c.id → ⊥) → (sought id bs ≡ Some b → b.id ≡ id) → b.id ≡ id
    by_test (inl same) rest =
        let first : c ≡ b = (let both : Some c ≡ Some b = sym (sought_here id c bs same) ∙ is in cc) in
        ap (λ (x : Brought). x.id) (sym first) ∙ sym same
    by_test (inr apart) rest = rest (sym (sought_there id c bs apart) ∙ is)

pub none_low : (least id : ℕ) (bs : List Brought) → AreAbove least bs → id ≤ least → sought id bs ≡ None
none_low least id [] above low = refl
none_low least id (b ∷ bs) above low =
    sought_there id b bs (λ same. omega (arith, above.0, same))
    ∙ none_low b.id id bs above.1 (omega (arith, above.0))

-- ---- below an id

above_weaker : (least more : ℕ) (bs : List Brought) → least ≤ more → AreAbove more bs → AreAbove least bs
above_weaker least more [] h above = tt
above_weaker least more (b ∷ bs) h above = (omega (arith, above.0), above.1)

pub kept_front : (id : ℕ) (b : Brought) (bs : List Brought) → b.id < id → below id (b ∷ bs) ≡ b ∷ below id bs
kept_front id b bs low =
    let test : nat_lt b.id id ≡ true = grind (arith, nat_tests) in
    ap (λ (t : Bool). cond t (b ∷ below id bs) (below id bs)) test

pub left_front : (id : ℕ) (b : Brought) (bs : List Brought) → id ≤ b.id → below id (b ∷ bs) ≡ below id bs
left_front id b bs high =
    let test : nat_lt b.id id ≡ false = grind (arith, nat_tests) in
    ap (λ (t : Bool). cond t (b ∷ below id bs) (below id bs)) test

pub low_or_high : (m n : ℕ) → (m < n) ⊎ (n ≤ m)
low_or_high m n = by_test (nat_lt m n) refl
  where
    by_test : (t : Bool) → nat_lt m n ≡ t → (m < n) ⊎ (n ≤ m)
    by_test true test = inl (grind (arith, nat_tests))
    by_test false test = inr (grind (arith, nat_tests))

pub below_kept : (id other : ℕ) (bs : List Brought) → other < id → sought other (below id bs) ≡ sought other bs
below_kept id other [] low = refl
below_kept id other (b ∷ bs) low = by_test (low_or_high b.id id) (below_kept id other bs low)
  where
    by_same : (other ≡ b.id) ⊎ (other ≡ b.id → ⊥) → sought other (below id bs) ≡ sought other bs
        → sought other (b ∷ below id bs) ≡ sought other (b ∷ bs)
    by_same (inl same) rest = sought_here other b (below id bs) same ∙ sym (sought_here other b bs same)
    by_same (inr apart) rest = sought_there other b (below id bs) apart ∙ rest ∙ sym (sought_there other b bs apart)

    by_test : (b.id < id) ⊎ (id ≤ b.id) → sought other (below id bs) ≡ sought other bs
        → sought other (below id (b ∷ bs)) ≡ sought other (b ∷ bs)
    by_test (inl small) rest = ap (sought other) (kept_front id b bs small) ∙ by_same (same_or_not other b.id) rest
    by_test (inr large) rest = ap (sought other) (left_front id b bs large) ∙ rest
        ∙ sym (sought_there other b bs (λ same. omega (arith, same)))

pub below_none : (id other : ℕ) (bs : List Brought) → id ≤ other → sought other (below id bs) ≡ None
below_none id other [] high = refl
below_none id other (b ∷ bs) high = by_test (low_or_high b.id id) (below_none id other bs high)
  where
    by_test : (b.id < id) ⊎ (id ≤ b.id) → sought other (below id bs) ≡ None
        → sought other (below id (b ∷ bs)) ≡ None
    by_test (inl small) rest =
        ap (sought other) (kept_front id b bs small)
        ∙ sought_there other b (below id bs) (λ same. omega (arith, same)) ∙ rest
    by_test (inr large) rest = ap (sought other) (left_front id b bs large) ∙ rest

pub below_above : (id least : ℕ) (bs : List Brought) → AreAbove least bs → AreAbove least (below id bs)
below_above id least [] above = tt
below_above id least (b ∷ bs) above = by_test (nat_lt b.id id) (below_above id b.id bs above.1)
  where
    by_test : (t : Bool) → AreAbove b.id (below id bs) → AreAbove least (cond t (b ∷ below id bs) (below id bs))
    by_test true rest = (above.0, rest)
    by_test false rest = above_weaker least b.id (below id bs) (omega (arith, above.0)) rest

-- ---- one more

pub put_first : (b c : Brought) (bs : List Brought) → b.id < c.id → put_in b (c ∷ bs) ≡ b ∷ (c ∷ bs)
put_first b c bs low =
    let test : nat_lt b.id c.id ≡ true = grind (arith, nat_tests) in
    ap (λ (t : Bool). cond t (b ∷ (c ∷ bs)) (c ∷ put_in b bs)) test

pub put_later : (b c : Brought) (bs : List Brought) → c.id ≤ b.id → put_in b (c ∷ bs) ≡ c ∷ put_in b bs
put_later b c bs high =
    let test : nat_lt b.id c.id ≡ false = grind (arith, nat_tests) in
    ap (λ (t : Bool). cond t (b ∷ (c ∷ bs)) (c ∷ put_in b bs)) test

pub put_here : (b : Brought) (bs : List Brought) → sought b.id bs ≡ None → sought b.id (put_in b bs) ≡ Some b
put_here b [] none = sought_here b.id b [] refl
put_here b (c ∷ bs) none =
    by_test (same_or_not b.id c.id) (low_or_high b.id c.id) (λ not. put_here b bs not)
  where
    by_test : (b.id ≡ c.id) ⊎ (b.id ≡ c.id → ⊥) → (b.id < c.id) ⊎ (c.id ≤ b.id)
        → (sought b.id bs ≡ None → sought b.id (put_in b bs) ≡ Some b) → sought b.id (put_in b (c ∷ bs)) ≡ Some b
    by_test (inl same) side rest = let two : Some c ≡ None = sym (sought_here b.id c bs same) ∙ none in absurd cc
    by_test (inr apart) (inl low) rest =
        ap (sought b.id) (put_first b c bs low) ∙ sought_here b.id b (c ∷ bs) refl
    by_test (inr apart) (inr high) rest =
        ap (sought b.id) (put_later b c bs high) ∙ sought_there b.id c (put_in b bs) apart
        ∙ rest (sym (sought_there b.id c bs apart) ∙ none)

pub put_there : (id : ℕ) (b : Brought) (bs : List Brought) → (id ≡ b.id → ⊥) → sought id (put_in b bs) ≡ sought id bs
put_there id b [] apart = sought_there id b [] apart
put_there id b (c ∷ bs) apart = by_test (low_or_high b.id c.id) (put_there id b bs apart)
  where
    by_same : (id ≡ c.id) ⊎ (id ≡ c.id → ⊥) → sought id (put_in b bs) ≡ sought id bs
        → sought id (c ∷ put_in b bs) ≡ sought id (c ∷ bs)
    by_same (inl same) rest = sought_here id c (put_in b bs) same ∙ sym (sought_here id c bs same)
    by_same (inr other) rest = sought_there id c (put_in b bs) other ∙ rest ∙ sym (sought_there id c bs other)

    by_test : (b.id < c.id) ⊎ (c.id ≤ b.id) → sought id (put_in b bs) ≡ sought id bs
        → sought id (put_in b (c ∷ bs)) ≡ sought id (c ∷ bs)
    by_test (inl low) rest = ap (sought id) (put_first b c bs low) ∙ sought_there id b (c ∷ bs) apart
    by_test (inr high) rest = ap (sought id) (put_later b c bs high) ∙ by_same (same_or_not id c.id) rest

pub apart_low : (m n : ℕ) → (n ≡ m → ⊥) → m ≤ n → m < n
apart_low m n apart high = by_side (low_or_high m n)
  where
    by_side : (m < n) ⊎ (n ≤ m) → m < n
    by_side (inl less) = less
    by_side (inr more) = absurd (apart (omega (arith, high, more)))

pub put_above : (least : ℕ) (b : Brought) (bs : List Brought) → AreAbove least bs → least < b.id
    → sought b.id bs ≡ None → AreAbove least (put_in b bs)
put_above least b [] above low none = (low, tt)
put_above least b (c ∷ bs) above low none =
    by_test (same_or_not b.id c.id) (low_or_high b.id c.id) (λ behind not. put_above c.id b bs above.1 behind not)
  where
    by_test : (b.id ≡ c.id) ⊎ (b.id ≡ c.id → ⊥) → (b.id < c.id) ⊎ (c.id ≤ b.id)
        → (c.id < b.id → sought b.id bs ≡ None → AreAbove c.id (put_in b bs)) → AreAbove least (put_in b (c ∷ bs))
    by_test (inl same) side rest = let two : Some c ≡ None = sym (sought_here b.id c bs same) ∙ none in absurd cc
    by_test (inr apart) (inl small) rest = rw (put_first b c bs small) (low, (small, above.1))
    by_test (inr apart) (inr high) rest = rw (put_later b c bs high)
        (above.0, rest (apart_low c.id b.id apart high) (sym (sought_there b.id c bs apart) ∙ none))

-- ---- in front of one of them

pub none_below : (id least : ℕ) (bs : List Brought) → AreAbove least bs → id ≤ least → below id bs ≡ []
none_below id least [] above high = refl
none_below id least (b ∷ bs) above high =
    left_front id b bs (omega (arith, above.0)) ∙ none_below id b.id bs above.1 (omega (arith, above.0))

first_low : (least : ℕ) (front : List Brought) (b : Brought) (bs : List Brought) → AreAbove least (front ++ b ∷ bs)
    → least < b.id
first_low least [] b bs above = above.0
first_low least (c ∷ front) b bs above = let later = first_low c.id front b bs above.1 in omega (arith, above.0, later)

pub below_front : (least : ℕ) (front : List Brought) (b : Brought) (bs : List Brought)
    → AreAbove least (front ++ b ∷ bs) → below b.id (front ++ b ∷ bs) ≡ front
below_front least [] b bs above =
    left_front b.id b bs (omega arith) ∙ none_below b.id b.id bs above.1 (omega arith)
below_front least (c ∷ front) b bs above =
    kept_front b.id c (front ++ b ∷ bs) (first_low c.id front b bs above.1)
    ∙ ap (λ (l : List Brought). c ∷ l) (below_front c.id front b bs above.1)

-- ---- by places

take_above : (least id : ℕ) (bs : List Brought) → AreAbove least bs → below id bs ≡ take (length (below id bs)) bs
take_above least id [] above = refl
take_above least id (b ∷ bs) above = by_test (low_or_high b.id id) (take_above b.id id bs above.1)
  where
    by_test : (b.id < id) ⊎ (id ≤ b.id) → below id bs ≡ take (length (below id bs)) bs
        → below id (b ∷ bs) ≡ take (length (below id (b ∷ bs))) (b ∷ bs)
    by_test (inl small) rest =
        let kept : below id (b ∷ bs) ≡ b ∷ below id bs = kept_front id b bs small in
        kept ∙ ap (λ (l : List Brought). b ∷ l) rest
        ∙ sym (ap (λ (l : List Brought). take (length l) (b ∷ bs)) kept)
    by_test (inr large) rest =
        let none : below id (b ∷ bs) ≡ [] = left_front id b bs large ∙ none_below id b.id bs above.1 large in
        none ∙ sym (ap (λ (l : List Brought). take (length l) (b ∷ bs)) none)

pub below_take : (id : ℕ) (bs : List Brought) → AreAbove 0 bs → below id bs ≡ take (length (below id bs)) bs
below_take id bs above = take_above 0 id bs above

-- behind so many of the first ones
abbrev put_behind : Brought → List Brought → List Brought → List Brought
put_behind b bs low = take (length low) bs ++ b ∷ drop (length low) bs

put_above_at : (least : ℕ) (b : Brought) (bs : List Brought) → AreAbove least bs → sought b.id bs ≡ None
    → put_in b bs ≡ put_behind b bs (below b.id bs)
put_above_at least b [] above none = refl
put_above_at least b (c ∷ bs) above none =
    by_test (same_or_not b.id c.id) (low_or_high b.id c.id) (λ not. put_above_at c.id b bs above.1 not)
  where
    by_test : (b.id ≡ c.id) ⊎ (b.id ≡ c.id → ⊥) → (b.id < c.id) ⊎ (c.id ≤ b.id)
        → (sought b.id bs ≡ None → put_in b bs ≡ put_behind b bs (below b.id bs))
        → put_in b (c ∷ bs) ≡ put_behind b (c ∷ bs) (below b.id (c ∷ bs))
    by_test (inl same) side rest = let two : Some c ≡ None = sym (sought_here b.id c bs same) ∙ none in absurd cc
    by_test (inr apart) (inl small) rest =
        let first : below b.id (c ∷ bs) ≡ [] =
        left_front b.id c bs (omega (arith, small)) ∙ none_below b.id c.id bs above.1 (omega (arith, small)) in
        put_first b c bs small ∙ sym (ap (put_behind b (c ∷ bs)) first)
    by_test (inr apart) (inr high) rest =
        let kept : below b.id (c ∷ bs) ≡ c ∷ below b.id bs = kept_front b.id c bs (apart_low c.id b.id apart high) in
        put_later b c bs high
        ∙ ap (λ (l : List Brought). c ∷ l) (rest (sym (sought_there b.id c bs apart) ∙ none))
        ∙ sym (ap (put_behind b (c ∷ bs)) kept)

pub put_at : (b : Brought) (bs : List Brought) → AreAbove 0 bs → sought b.id bs ≡ None
    → put_in b bs ≡ take (length (below b.id bs)) bs ++ b ∷ drop (length (below b.id bs)) bs
put_at b bs above none = put_above_at 0 b bs above none
