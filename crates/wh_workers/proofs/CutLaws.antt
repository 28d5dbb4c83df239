-- A list that is cut by size.
--     both_ok     from two facts of what a call gave
--     one_piece   the whole list is one piece
--     cut_all     pieces of one size are the list, and no more than asked for
use Rattle.std.proofs.Common.{◌≡◌, ℕ, suc, ◌+◌, ◌*◌, ◌/◌, ◌%◌, min, ◌<◌, ◌≤◌, List, [], ◌∷◌, ◌++◌, length, take, drop}
use Rattle.std.proofs.Common.{refl, sym, ap, subst, ◌∙◌, arith, IfOk, take-append-drop}
use Rattle.std.specs.Prelude.{Result, Ok, Err, slice_index_or}
use Rattle.std.specs.List.{AllZip, flat_map}
use Rattle.std.proofs.lemmas.List.{drop-drop, drop_all, append-nil}
use Rattle.std.proofs.lemmas.List.Concat.{flat_map-cons}
use Rattle.std.proofs.lemmas.Grind.{div_ceil_times}
use Rattle.std.proofs.Math.Nat.{suc-mul, lt_of_mul-lt-mul_right}
use Rattle.wh_workers.specs.Pieces.{PiecesOf}

pub both_ok : {T E : Type 0} (r : Result T E) (P Q S : T → Type 0) → IfOk r P → IfOk r Q
    → ((v : T) → P v → Q v → S v) → IfOk r S
both_ok (Ok v) P Q S p q turn = turn v p q
both_ok (Err e) P Q S p q turn = tt

-- a length cut by the size of which so many cover it gives no more than those
few : (len most size count : ℕ) → 0 < most → 0 < size → size ≡ len / most + min 1 (len % most)
    → count ≡ len / size + min 1 (len % size) → count ≤ most
few len most size count some sized is counted =
    let wide : len ≤ size * most = subst (λ (k : ℕ). len ≤ k * most) (sym is) (div_ceil_times len most some).0 in
    let close : count * size < len + size = subst (λ (k : ℕ). k * size < len + size) (sym counted) (div_ceil_times len size sized).1 in
    let one : suc most * size ≡ most * size + size = suc-mul most size in
    let below : count < suc most = lt_of_mul-lt-mul_right size (omega (arith, wide, close, one)) in
    omega (arith, below)

module _ {X T : Type 0} (R : List X → T → Type 0) where
  pub one_piece : (most : ℕ) (xs : List X) (answer : T) → 0 < most → R xs answer → PiecesOf most xs R (answer ∷ [])
  one_piece most xs answer some here = record {
    pieces = xs ∷ [];
    whole = flat_map-cons (λ piece. piece) xs [] ∙ append-nil xs;
    few = omega (arith, some);
    answered = (here, tt);
  }

module _ {X T : Type 0} (R : List X → T → Type 0) (size : ℕ) (xs : List X) where
  -- R holds of each piece from a place on, and its answer
  abbrev pub Handed : ℕ → List T → Type 0
  Handed start ts = (n : ℕ) (d : T) → n < length ts → R (take size (drop (start + n * size) xs)) (slice_index_or ts n d)

  -- the pieces from a place on
  abbrev Cut : ℕ → List T → Type 0
  Cut start ts = (pieces : List (List X)) × (flat_map (λ piece. piece) pieces ≡ drop start xs) × (length pieces ≡ length ts)
      × AllZip R pieces ts

  cut_from : (start : ℕ) (ts : List T) → Handed start ts → length xs ≤ start + length ts * size → Cut start ts
  cut_from start [] each long = ([], sym (drop_all start xs (omega (arith, long))), refl, tt)
  cut_from start (t ∷ ts) each long =
      let here : start + 0 * size ≡ start = omega arith in
      let more : suc (length ts) * size ≡ length ts * size + size = suc-mul (length ts) size in
      let rest = cut_from (start + size) ts
      (λ n d lt. subst (λ (k : ℕ). R (take size (drop k xs)) (slice_index_or ts n d)) (later n) (each (suc n) d (omega (arith, lt))))
      (omega (arith, long, more)) in (
        take size (drop start xs) ∷ rest.0,
        flat_map-cons (λ piece. piece) (take size (drop start xs)) rest.0
            ∙ ap (λ (l : List X). take size (drop start xs) ++ l) (rest.1 ∙ sym (drop-drop size start xs))
            ∙ take-append-drop size (drop start xs),
        ap suc rest.2,
        (subst (λ (k : ℕ). R (take size (drop k xs)) t) here (each 0 t (omega arith)), rest.3),
      )
    where
      later : (n : ℕ) → start + suc n * size ≡ (start + size) + n * size
      later n = omega (arith, suc-mul n size)

  pub cut_all : (most : ℕ) (ts : List T) → 0 < most → 0 < size → size ≡ length xs / most + min 1 (length xs % most)
      → length ts ≡ length xs / size + min 1 (length xs % size) → Handed 0 ts → PiecesOf most xs R ts
  cut_all most ts some sized is counted each =
      let long : length xs ≤ 0 + length ts * size =
      omega (arith, subst (λ (k : ℕ). length xs ≤ k * size) (sym counted) (div_ceil_times (length xs) size sized).0) in
      let cut = cut_from 0 ts each long in
      record {
        pieces = cut.0;
        whole = cut.1;
        few = subst (λ (k : ℕ). k ≤ most) (sym (cut.2 ∙ counted)) (few (length xs) most size _ some sized is refl);
        answered = cut.3;
      }
