-- An object that is dropped, and lives again.
use Rattle.std.proofs.Common.{◌≡◌, ℕ, ◌+◌, ◌<◌, ◌≤◌, Bool, true, false, ◌&&◌, cond, List, [], ◌∷◌, length, map}
use Rattle.std.proofs.Common.{set, get_or, ◌++◌, nat_lt, refl, sym, ap, ◌∙◌, arith}
use Rattle.std.proofs.lemmas.Bool.{lt-ltb, le-ltb}
use Rattle.std.proofs.lemmas.List.Sums.{sum_by-append, sum_by-cons, sum_by-set}
use Rattle.std.specs.List.{count_by}
use Rattle.wh_value.specs.Limit.{bound}
use Rattle.wh_value.specs.declared.limit.Limit.TheVariants as limits
use Rattle.wh_state.specs.State.{live_count, changed_at}
use Rattle.wh_catalog.specs.declared.object.StoredObject.{StoredObject}
use Rattle.wh_state.proofs.IdLaws.{map_count}
use Rattle.wh_catalog.specs.Undoable.{KeptObject}
use Rattle.wh_catalog.specs.Object.{kept_object, kept_objects, stored_objects, IsPlaceOf}
use Rattle.wh_catalog.specs.Back.{alive, lives_again}
use Rattle.wh_catalog.specs.Names.{is_last, names_of, AreLast}
use Rattle.wh_catalog.proofs.Each.{counted_by}
use Rattle.wh_catalog.proofs.Names.{same_names, lives_by_id}
use Rattle.wh_catalog.proofs.Places.{put_back}

abbrev pub without_life : StoredObject → StoredObject
without_life o = record o { is_live = false }

abbrev one_if : Bool → ℕ
one_if b = cond b 1 0

same_count : (xs : List StoredObject) → live_count (kept_objects xs) ≡ count_by (λ o. o.is_live) xs
same_count xs = map_count kept_object (λ (o : StoredObject). o.is_live) (λ (k : KeptObject). k.is_live) (λ o. refl) xs

kept_names : (xs : List StoredObject) → map (λ (k : KeptObject). k.name) (kept_objects xs) ≡ names_of xs
kept_names [] = refl
kept_names (x ∷ xs) = ap (λ ns. x.name ∷ ns) (kept_names xs)

-- one that is dropped is no longer counted
one_less : (xs : List StoredObject) (i : ℕ) (old : StoredObject) → i < length xs → old ≡ get_or xs i old
    → old.is_live ≡ true
    → live_count (kept_objects (set xs i (without_life old))) + 1 ≡ count_by (λ o. o.is_live) xs
one_less xs i old within is live =
    let before : one_if (get_or xs i old).is_live ≡ 1 = ap (λ o. one_if o.is_live) (sym is) ∙ ap one_if live in
    let sums = sum_by-set (λ o. one_if o.is_live) xs i (without_life old) old within in
    let same = same_count (set xs i (without_life old)) in
    omega (arith, before, sums, same)

-- there is room for one that was dropped, and it is still the last one of its name
pub revived : {xs : List StoredObject} {id place : ℕ} {old : StoredObject} → IsPlaceOf id xs place
    → old ≡ get_or xs place old → old.is_live ≡ true → count_by (λ o. o.is_live) xs ≤ bound limits.Objects → AreLast xs
    → lives_again id (kept_objects (set xs place (without_life old))) ≡ kept_objects xs
revived {xs} {id} {place} {old} at is live few last =
    let after : List KeptObject = kept_objects (set xs place (without_life old)) in
    let less = one_less xs place old at.within is live in
    let room : live_count after < bound limits.Objects = omega (arith, less, few) in
    let names : map (λ (k : KeptObject). k.name) after ≡ names_of xs =
    kept_names (set xs place (without_life old)) ∙ same_names xs place old (without_life old) is refl in
    ap (λ b. cond (b && is_last id (map (λ (k : KeptObject). k.name) after)) (changed_at after id alive) after)
    (lt-ltb (live_count after) (bound limits.Objects) room)
    ∙ ap (λ b. cond b (changed_at after id alive) after)
    (ap (is_last id) names ∙ lives_by_id at is last live)
    ∙ put_back at is (without_life old) alive (ap (λ b. record (kept_object old) { is_live = b }) (sym live))

-- ---- the tests of the code

pub counted : (xs : List StoredObject) → live_count (stored_objects xs) ≡ count_by (λ o. o.is_live) xs
counted xs = counted_by (λ o. o.is_live) xs

pub one_more : (xs : List StoredObject) (o : StoredObject) (n : ℕ) → live_count (stored_objects xs) < n
    → count_by (λ (q : StoredObject). q.is_live) (xs ++ o ∷ []) ≤ n
one_more xs o n few =
    let same = counted xs in
    let more = sum_by-append (λ (q : StoredObject). one_if q.is_live) xs (o ∷ []) in
    let alone = sum_by-cons (λ (q : StoredObject). one_if q.is_live) o [] in
    let one = one_at_most o.is_live in
    omega (arith, same, more, alone, one)
  where
    one_at_most : (b : Bool) → one_if b ≤ 1
    one_at_most true = omega arith
    one_at_most false = omega arith

module _ (xs : List StoredObject) (id : ℕ) where
  lives_as : lives_again id (kept_objects xs)
      ≡ cond (nat_lt (live_count (stored_objects xs)) (bound limits.Objects)
      && is_last id (names_of xs)) (changed_at (kept_objects xs) id alive) (kept_objects xs)
  lives_as =
      ap (λ n. cond
      (nat_lt n (bound limits.Objects) && is_last id (map (λ (k : KeptObject). k.name) (kept_objects xs)))
      (changed_at (kept_objects xs) id alive) (kept_objects xs)) (same_count xs ∙ sym (counted xs))
      ∙ ap (λ ns. cond (nat_lt (live_count (stored_objects xs)) (bound limits.Objects)
      && is_last id ns) (changed_at (kept_objects xs) id alive) (kept_objects xs))
      (kept_names xs)

  tested : (room last : Bool) → nat_lt (live_count (stored_objects xs)) (bound limits.Objects) ≡ room
      → is_last id (names_of xs) ≡ last
      → lives_again id (kept_objects xs)
      ≡ cond (room && last) (changed_at (kept_objects xs) id alive) (kept_objects xs)
  tested room last a b =
      lives_as
      ∙ ap (λ r. cond (r && is_last id (names_of xs)) (changed_at (kept_objects xs) id alive) (kept_objects xs)) a
      ∙ ap (λ l. cond (room && l) (changed_at (kept_objects xs) id alive) (kept_objects xs)) b

  pub comes_back : live_count (stored_objects xs) < bound limits.Objects
      → is_last id (names_of xs) ≡ true
      → lives_again id (kept_objects xs) ≡ changed_at (kept_objects xs) id alive
  comes_back room last = tested true true (lt-ltb _ _ room) last

  pub stays_if_full : bound limits.Objects ≤ live_count (stored_objects xs)
      → lives_again id (kept_objects xs) ≡ kept_objects xs
  stays_if_full full = tested false (is_last id (names_of xs)) (le-ltb _ _ full) refl

  pub stays_if_not_last : live_count (stored_objects xs) < bound limits.Objects
      → is_last id (names_of xs) ≡ false
      → lives_again id (kept_objects xs) ≡ kept_objects xs
  stays_if_not_last room last = tested true false (lt-ltb _ _ room) last
