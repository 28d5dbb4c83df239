-- Rows that are numbered and cut into partitions.
--     numbered-append, length-numbered, numbered_rises     rows with their numbers
--     numbered_pop, numbered_thousand                      one more of them, and 1,000 more
--     cut_next, cut_done                                   one partition more, and all
use Rattle.std.proofs.Common.{◌≡◌, ℕ, zero, suc, ◌+◌, ◌*◌, ◌<◌, ◌≤◌, List, [], ◌∷◌, ◌++◌, length, min, get_or, take}
use Rattle.std.proofs.Common.{drop, refl, sym, ◌∙◌, ap, arith}
use Rattle.std.proofs.lemmas.List.{take_more, length-take-le, take-append-drop, take-take, drop-take, take_min}
use Rattle.std.proofs.lemmas.List.{drop_min, drop_more, length-drop, drop-drop}
use Rattle.wh_value.specs.Value.{Row}
use Rattle.wh_frame.specs.Partition.{Partition, numbered, partitions_of, cut, cut_into}
use Rattle.wh_frame.specs.Spelling.{RisesFrom}

pub numbered-append : (next : ℕ) (xs ys : List Row)
    → numbered next (xs ++ ys) ≡ numbered next xs ++ numbered (next + length xs) ys
numbered-append next [] ys = ap (λ (n : ℕ). numbered n ys) (omega arith)
numbered-append next (x ∷ xs) ys =
    let e : next + 1 + length xs ≡ next + suc (length xs) = omega arith in
    ap ((next, x) ∷◌) (numbered-append (next + 1) xs ys ∙ ap (λ (n : ℕ). numbered (next + 1) xs ++ numbered n ys) e)

rises-from : (least next : ℕ) (rows : List Row) → least ≤ next → RisesFrom least (numbered next rows)
rises-from least next [] h = tt
rises-from least next (row ∷ rows) h = (h, rises-from (next + 1) (next + 1) rows (omega arith))

pub numbered_rises : (next : ℕ) (rows : List Row) → RisesFrom 0 (numbered next rows)
numbered_rises next rows = rises-from 0 next rows (omega arith)

pub length-numbered : (next : ℕ) (rows : List Row) → length (numbered next rows) ≡ length rows
length-numbered next [] = refl
length-numbered next (row ∷ rows) = ap suc (length-numbered (next + 1) rows)

-- one more numbered row
pub numbered_more : (first done : ℕ) (all : List Row) (row : Row) → done < length all → row ≡ get_or all done row
    → numbered first (take (done + 1) all) ≡ numbered first (take done all) ++ (first + done, row) ∷ []
numbered_more first done all row within is =
    let size : length (take done all) ≡ done = length-take-le done all (omega arith) in
    ap (numbered first) (take_more all done row within ∙ ap (λ (r : Row). take done all ++ r ∷ []) (sym is))
    ∙ numbered-append first (take done all) (row ∷ [])
    ∙ ap (λ (n : ℕ). numbered first (take done all) ++ (first + n, row) ∷ []) size

-- the next 1,000 numbered rows, behind those of whole partitions
pub numbered_thousand : (first done : ℕ) (all : List Row) → done * 1000 ≤ length all
    → numbered first (take ((done + 1) * 1000) all)
    ≡ numbered first (take (done * 1000) all) ++ numbered (first + done * 1000) (take 1000 (drop (done * 1000) all))
numbered_thousand first done all within =
    let n : ℕ = done * 1000 in
    let size : length (take n all) ≡ n = length-take-le n all within in
    let more : (done + 1) * 1000 ≡ n + 1000 = omega arith in
    let split : take (n + 1000) all ≡ take n all ++ take 1000 (drop n all) =
    sym (take-append-drop n (take (n + 1000) all))
    ∙ ap (λ (l : List Row). l ++ drop n (take (n + 1000) all)) (take-take n (n + 1000) all (omega arith))
    ∙ ap (λ (l : List Row). take n all ++ l) (drop-take n 1000 all) in
    ap (λ (k : ℕ). numbered first (take k all)) more ∙ ap (numbered first) split
    ∙ numbered-append first (take n all) (take 1000 (drop n all))
    ∙ ap (λ (k : ℕ). numbered first (take n all) ++ numbered (first + k) (take 1000 (drop n all))) size

pub thousand_of : (k : ℕ) (rows : List Row) → k ≡ min (length rows) 1000
    → (take k rows ≡ take 1000 rows) × (drop k rows ≡ drop 1000 rows)
thousand_of k rows is =
    let turned : k ≡ min 1000 (length rows) = omega arith in
    (ap (λ (n : ℕ). take n rows) turned ∙ take_min 1000 rows, ap (λ (n : ℕ). drop n rows) turned ∙ drop_min 1000 rows)

pub numbered_pop : (first done : ℕ) (all rest : List Row) (row : Row) → drop done all ≡ row ∷ rest
    → (numbered first (take (done + 1) all) ≡ numbered first (take done all) ++ (first + done, row) ∷ [])
    × (rest ≡ drop (done + 1) all)
numbered_pop first done all rest row e =
    let size : length (drop done all) ≡ suc (length rest) = ap length e in
    let within : done < length all = omega (arith, length-drop done all) in
    let both : row ∷ rest ≡ get_or all done row ∷ drop (done + 1) all = sym e ∙ drop_more all done row within in
    let head : row ≡ get_or all done row = cc in
    let tail : rest ≡ drop (done + 1) all = cc in
    (numbered_more first done all row within head, tail)

-- one partition more
pub cut_more : (next done : ℕ) (rows : List (ℕ × Row))
    → cut_into next (done + 1) rows ≡ cut_into next done rows
    ++ record { number = next + done; rows = take 1000 (drop (done * 1000) rows) } ∷ []
cut_more next zero rows =
    ap (λ (n : ℕ). record { number = n; rows = take 1000 rows } ∷ []) (omega arith)
cut_more next (suc done) rows =
    let behind : drop (done * 1000) (drop 1000 rows) ≡ drop (suc done * 1000) rows =
    drop-drop (done * 1000) 1000 rows ∙ ap (λ (n : ℕ). drop n rows) (omega arith) in
    let number : next + 1 + done ≡ next + suc done = omega arith in
    let one_more : suc done + 1 ≡ suc (done + 1) = omega arith in
    ap (λ (n : ℕ). cut_into next n rows) one_more
    ∙ ap (λ (ps : List Partition). record { number = next; rows = take 1000 rows } ∷ ps)
    (cut_more (next + 1) done (drop 1000 rows)
    ∙ ap (λ (n : ℕ). cut_into (next + 1) done (drop 1000 rows)
    ++ record { number = n; rows = take 1000 (drop (done * 1000) (drop 1000 rows)) } ∷ []) number
    ∙ ap (λ (l : List (ℕ × Row)). cut_into (next + 1) done (drop 1000 rows)
    ++ record { number = next + suc done; rows = take 1000 l } ∷ []) behind)

pub take_numbered : (n first : ℕ) (rows : List Row) → take n (numbered first rows) ≡ numbered first (take n rows)
take_numbered zero first rows = refl
take_numbered (suc n) first [] = refl
take_numbered (suc n) first (row ∷ rows) = ap ((first, row) ∷◌) (take_numbered n (first + 1) rows)

pub drop_numbered : (n first : ℕ) (rows : List Row) → drop n (numbered first rows) ≡ numbered (first + n) (drop n rows)
drop_numbered zero first rows = ap (λ (k : ℕ). numbered k rows) (omega arith)
drop_numbered (suc n) first [] = refl
drop_numbered (suc n) first (row ∷ rows) = drop_numbered n (first + 1) rows
    ∙ ap (λ (k : ℕ). numbered k (drop n rows)) (omega arith)

-- the partition behind so many whole ones
pub cut_next : (next first done : ℕ) (all : List Row) (p : Partition) → p.number ≡ next + done
    → p.rows ≡ numbered (first + done * 1000) (take 1000 (drop (done * 1000) all))
    → cut_into next (done + 1) (numbered first all) ≡ cut_into next done (numbered first all) ++ p ∷ []
cut_next next first done all p number rows =
    let here : take 1000 (drop (done * 1000) (numbered first all)) ≡ p.rows =
    ap (take 1000) (drop_numbered (done * 1000) first all)
    ∙ take_numbered 1000 (first + done * 1000) (drop (done * 1000) all) ∙ sym rows in
    cut_more next done (numbered first all)
    ∙ ap (λ (l : List (ℕ × Row)). cut_into next done (numbered first all)
    ++ record { number = next + done; rows = l } ∷ []) here
    ∙ ap (λ (n : ℕ). cut_into next done (numbered first all) ++ record { number = n; rows = p.rows } ∷ []) (sym number)

pub cut_done : (next first count : ℕ) (all : List Row) → count ≡ partitions_of (length all)
    → cut_into next count (numbered first all) ≡ cut next (numbered first all)
cut_done next first count all is =
    ap (λ (n : ℕ). cut_into next n (numbered first all)) (is ∙ ap partitions_of (sym (length-numbered first all)))
