-- The rows and partitions that edits leave.
--     length_edited                   rows that are left are no more
--     made_one, made_none             a partition of rows, and of no row
--     made_more                       one more in front of others
--     left_on, left_none, left_all    from the first partition to the last one
use Rattle.std.proofs.Common.{◌≡◌, ℕ, ◌+◌, ◌-◌, ◌<◌, ◌≤◌, List, [], ◌∷◌, ◌++◌, length, map, take, get_or, refl, sym, ap}
use Rattle.std.proofs.Common.{◌∙◌, append_assoc, append-nil, length-append, Option, Some, None, arith}
use Rattle.std.proofs.lemmas.List.{take_all}
use Rattle.std.specs.FinMap.{get}
use denote.Ref.{Bor}
use Rattle.wh_value.specs.Value.{Row}
use Rattle.wh_frame.specs.Partition.{Partition}
use Rattle.wh_state.specs.Edits.{RowEdits, row_as, edited, made_of}
use Rattle.wh_version.proofs.ByRows.{turned, turned-take}

pub length_edited : (edits : RowEdits) (rows : List (ℕ × Row)) → length (edited edits rows) ≤ length rows
length_edited edits [] = omega arith
length_edited edits (e ∷ es) = one (get edits e.0) (length_edited edits es)
  where
    one : (o : Option (Option Row)) → length (edited edits es) ≤ length es
        → length (row_as e o ++ edited edits es) ≤ length (e ∷ es)
    one None rest = omega arith
    one (Some None) rest = omega arith
    one (Some (Some row)) rest = omega arith

pub made_none : (next : ℕ) (rows : List (ℕ × Row)) → length rows ≡ 0 → made_of next (rows ∷ []) ≡ []
made_none next [] none = refl
made_none next (e ∷ es) none = absurd (omega arith)

pub made_one : (p : Partition) → 0 < length p.rows → made_of p.number (p.rows ∷ []) ≡ p ∷ []
made_one p some = elim p.rows as (λ rows. p.rows ≡ rows → made_of p.number (rows ∷ []) ≡ p ∷ []) [
  | [] ↦ λ e. let none = ap length e in absurd (omega arith)
  | e ∷ es ↦ λ is. ap (λ rows. (record { number = p.number; rows = rows }) ∷ []) (sym is)
] refl

pub made_more : (next : ℕ) (rows : List (ℕ × Row)) (lists : List (List (ℕ × Row)))
    → made_of next (rows ∷ lists) ≡ made_of next (rows ∷ []) ++ made_of (next + length (made_of next (rows ∷ []))) lists
made_more next [] lists = ap (λ n. made_of n lists) (omega arith)
made_more next (e ∷ es) lists = refl

-- the rows that are left of each partition
abbrev pub lefts : RowEdits → List Partition → List (List (ℕ × Row))
lefts edits ps = map (λ p. edited edits p.rows) ps

module _ (edits : RowEdits) (next : ℕ) (sorted : List (Bor Partition))
    (count done : ℕ) (size : count ≡ length sorted) where
  pub left_on : (x : Bor Partition) (before after all : List Partition) → done < count
      → x ≡ get_or sorted (count - 1 - done) x
      → after ≡ before ++ made_of (next + length before) (edited edits x.now.rows ∷ [])
      → before ++ made_of (next + length before) (lefts edits (turned (take (count - done) sorted))) ≡ all
      → after ++ made_of (next + length after) (lefts edits (turned (take (count - (done + 1)) sorted))) ≡ all
  left_on x before after all within is more so_far =
      let one : List Partition = made_of (next + length before) (edited edits x.now.rows ∷ []) in
      let rest : List (List (ℕ × Row)) = lefts edits (turned (take (count - done - 1) sorted)) in
      let fewer : count - (done + 1) ≡ count - done - 1 = omega arith in
      let place : count - 1 - done ≡ count - done - 1 = omega arith in
      let here : x ≡ get_or sorted (count - done - 1) x = is ∙ ap (λ n. get_or sorted n x) place in
      let first : turned (take (count - done) sorted) ≡ x.now ∷ turned (take (count - done - 1) sorted) =
      turned-take sorted (count - done) x (omega arith) (omega arith) here in
      let long : next + length after ≡ next + length before + length one =
      omega (arith, ap length more, length-append before one) in
      ap (λ n. after ++ made_of (next + length after) (lefts edits (turned (take n sorted)))) fewer
      ∙ ap (λ n. after ++ made_of n rest) long
      ∙ ap (λ l. l ++ made_of (next + length before + length one) rest) more
      ∙ append_assoc before one (made_of (next + length before + length one) rest)
      ∙ ap (λ l. before ++ l) (sym (made_more (next + length before) (edited edits x.now.rows) rest))
      ∙ ap (λ ps. before ++ made_of (next + length before) (lefts edits ps)) (sym first)
      ∙ so_far

  pub left_none : (all : List Partition) → all ≡ made_of next (lefts edits (turned sorted))
      → made_of (next + 0) (lefts edits (turned (take (count - 0) sorted))) ≡ all
  left_none all is =
      let whole : take (count - 0) sorted ≡ sorted = take_all (count - 0) sorted (omega arith) in
      let first : next + 0 ≡ next = omega arith in
      ap (λ n. made_of n (lefts edits (turned (take (count - 0) sorted)))) first
      ∙ ap (λ ps. made_of next (lefts edits (turned ps))) whole ∙ sym is

  pub left_all : (before all : List Partition) → count ≤ done
      → before ++ made_of (next + length before) (lefts edits (turned (take (count - done) sorted))) ≡ all
      → before ≡ all
  left_all before all end so_far =
      let none : count - done ≡ 0 = omega arith in
      sym (append-nil before) ∙ ap
      (λ n. before ++ made_of (next + length before) (lefts edits (turned (take n sorted)))) (sym none) ∙ so_far
