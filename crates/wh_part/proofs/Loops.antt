-- Reading items one after the other, as a loop does.
--     with_front               what was read before, and what is still read
--     goes_on, ends, is_done   after a further item, at a fault, and at the end
--     rises_on, stops          row numbers, one after the other
use Rattle.std.proofs.Common.{◌≡◌, ℕ, suc, ◌-◌, ◌+◌, ◌≤◌, ◌<◌, List, [], ◌∷◌, ◌++◌, Option, Some, None, refl, sym, ap}
use Rattle.std.proofs.Common.{◌∙◌, append_assoc, arith}
use Rattle.std.proofs.lemmas.List.{append-nil}
use Rattle.wh_part.specs.declared.fault.ReadError.{ReadError}
use Rattle.wh_part.specs.declared.fault.ReadError.TheVariants.{Memory, Malformed}
use Rattle.wh_part.specs.Reading.{Reader, ◌>>=◌, Fails, items_at}

abbrev pub with_front : {X : Type 0} → List X → Option (List X × List ℕ) → Option (List X × List ℕ)
with_front front read = read >>= λ x. Some (front ++ x.0, x.1)

pub regroup : {X : Type 0} (front : List X) (x : X) (read : Option (List X × List ℕ))
    → with_front front (read >>= λ xs. Some (x ∷ xs.0, xs.1)) ≡ with_front (front ++ x ∷ []) read
regroup {X} front x (Some y) = ap (λ (xs : List X). Some (xs, y.1)) (simp append_assoc)
regroup front x None = refl

pub goes_on : {X : Type 0} (reader : Reader X) (front : List X) (count i : ℕ) (bytes : List ℕ) (x : X) (after : List ℕ)
    (total : Option (List X × List ℕ))
    → i < count → reader bytes ≡ Some (x, after) → with_front front (items_at reader (count - i) bytes) ≡ total
    → with_front (front ++ x ∷ []) (items_at reader (count - (i + 1)) after) ≡ total
unfolding items_at
goes_on reader front count i bytes x after total lt h so_far =
    let k : count - i ≡ suc (count - (i + 1)) = omega arith in
    let one : with_front front (items_at reader (count - i) bytes)
    ≡ with_front (front ++ x ∷ []) (items_at reader (count - (i + 1)) after) =
    rw (k, h) (regroup front x (items_at reader (count - (i + 1)) after)) in
    sym one ∙ so_far

pub ends : {X : Type 0} (reader : Reader X) (e : ReadError) (front : List X) (count i : ℕ) (bytes : List ℕ)
    (total : Option (List X × List ℕ))
    → i < count → Fails e (reader bytes) → with_front front (items_at reader (count - i) bytes) ≡ total
    → Fails e total
unfolding items_at
ends reader Memory front count i bytes total lt h so_far = tt
ends reader Malformed front count i bytes total lt h so_far =
    let k : count - i ≡ suc (count - (i + 1)) = omega arith in
    let one : with_front front (items_at reader (count - i) bytes) ≡ None = rw (k, h) refl in
    sym so_far ∙ one

pub is_done : {X : Type 0} (reader : Reader X) (front : List X) (count i : ℕ) (bytes : List ℕ)
    (total : Option (List X × List ℕ))
    → count ≤ i → with_front front (items_at reader (count - i) bytes) ≡ total
    → total ≡ Some (front, bytes)
unfolding items_at
is_done {X} reader front count i bytes total le so_far =
    let k : count - i ≡ 0 = omega arith in
    let one : with_front front (items_at reader (count - i) bytes) ≡ Some (front, bytes) =
    rw k (ap (λ (xs : List X). Some (xs, bytes)) (append-nil front)) in
    sym so_far ∙ one
