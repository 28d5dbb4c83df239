-- A version more, or less, of a table.
use Rattle.std.proofs.Common.{◌≡◌, ℕ, ◌-◌, Bool, true, false, List, [], ◌∷◌, ◌++◌, length, map, take, Some, IsTrue}
use Rattle.std.proofs.Common.{refl, ap, ◌∙◌, arith, length-append}
use Rattle.std.proofs.lemmas.List.{take-append-le, take_all}
use Rattle.std.specs.List.{list_all}
use Rattle.std.proofs.lemmas.Bool.{and_parts}
use Rattle.wh_state.specs.State.{last_of, content_in, nothing_held}
use Rattle.wh_state.specs.Stored.{StoredVersion, version_meant, rows_of}
use Rattle.wh_version.specs.Lists.{behind, shortened, but_last}
use Rattle.wh_filed.specs.Filed.{Filed}
use Rattle.wh_version.specs.declared.history.History.{History}
use Rattle.wh_version.specs.History.{filed_of, nexts_of, standing_in, next_in, popped}
use Rattle.wh_version.proofs.FiledAgain.{count_filed}
use Rattle.wh_table.specs.Apart.{all_apart, is_apart}

pub last_of-push : {X : Type 0} (xs : List X) (x : X) → last_of (xs ++ x ∷ []) ≡ Some x
last_of-push [] x = refl
last_of-push (y ∷ []) x = refl
last_of-push (y ∷ z ∷ xs) x = last_of-push (z ∷ xs) x

pub next_in-push : (nexts : List ℕ) (next : ℕ) → next_in (nexts ++ next ∷ []) ≡ next
next_in-push [] next = refl
next_in-push (n ∷ []) next = refl
next_in-push (n ∷ m ∷ nexts) next = next_in-push (m ∷ nexts) next

take_front : {X : Type 0} (n : ℕ) (xs : List X) (x : X) → n ≡ length xs → take n (xs ++ x ∷ []) ≡ xs
take_front n xs x all = take-append-le n xs (x ∷ []) (omega arith) ∙ take_all n xs (omega arith)

pub but_last-push : {X : Type 0} (xs : List X) (x : X) → but_last (xs ++ x ∷ []) ≡ xs
but_last-push xs x = take_front _ xs x (omega (arith, length-append xs (x ∷ [])))

-- a list that isn't empty
pub shortened-push : {X : Type 0} (y : X) (ys : List X) (x : X) → shortened ((y ∷ ys) ++ x ∷ []) ≡ y ∷ ys
shortened-push y ys x = ap (λ l. y ∷ l) (but_last-push ys x)

-- the versions of a history, which begins with one or before the first one
pub popped-push : {X : Type 0} (b : Bool) (y : X) (ys : List X) (x : X)
    → popped b (behind b (y ∷ ys) ++ x ∷ []) ≡ behind b (y ∷ ys)
popped-push true y ys x = but_last-push ys x
popped-push false y ys x = shortened-push y ys x

-- what stood in the file before more was added
pub filed_back : (h : History) (nexts : List ℕ) (all added : List Filed) → shortened nexts ≡ nexts_of h
    → all ≡ filed_of h ++ added
    → take (next_in (shortened nexts) - 1) all ≡ filed_of h
filed_back h nexts all added less more =
    let count = ap next_in less ∙ count_filed h in
    ap (take (next_in (shortened nexts) - 1)) more
    ∙ take-append-le (next_in (shortened nexts) - 1) (filed_of h) added (omega (arith, count))
    ∙ take_all (next_in (shortened nexts) - 1) (filed_of h) (omega (arith, count))

-- ---- versions whose partitions are apart

pub last_apart : (vs : List StoredVersion) → IsTrue (list_all is_apart vs) → IsTrue (all_apart [] (standing_in vs))
last_apart [] apart = refl
last_apart (v ∷ []) apart = (and_parts (is_apart v) true apart).0
last_apart (v ∷ w ∷ vs) apart = last_apart (w ∷ vs) (and_parts (is_apart v) (list_all is_apart (w ∷ vs)) apart).1

-- ---- what the last version means

pub last_meant : (vs : List StoredVersion)
    → (content_in nothing_held (last_of (map version_meant vs))).rows ≡ rows_of (standing_in vs)
last_meant [] = refl
last_meant (v ∷ []) = refl
last_meant (v ∷ w ∷ vs) = last_meant (w ∷ vs)
