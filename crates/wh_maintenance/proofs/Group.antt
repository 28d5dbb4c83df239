-- How a Group carries changes of its input.
--     restricted-parts     a bag in two parts by a test
--     grouped-parts        the groups of keys that meet a test, and those of the others
--     grouped-carried      the groups of the keys that changed rows have, before and afterwards
use Rattle.std.specs.Prelude.{◌≡◌, ℕ, zero, suc, ◌+◌, ◌≤◌, Bool, true, false, not, cond, List, [], ◌∷◌, ◌++◌, Option}
use Rattle.std.specs.Prelude.{Some, None, option_map}
use Rattle.std.proofs.Common.{arith, refl, sym, ap, ◌∙◌}
use Rattle.std.specs.FinMap.{keys}
use Rattle.std.specs.Ordering.{eq_by_cmp}
use Rattle.wh_value.specs.Value.{Row, row_cmp}
use Rattle.wh_meaning.specs.Scalar.{Scalar, of_one}
use Rattle.wh_meaning.specs.Bag.{Bag, one_row, with_row, bag_of, count, plus, beside, gathered, restricted}
use Rattle.wh_meaning.specs.Query.{Call, values_on, image_by, projected, rows_in, is_row, with_key, calls_over}
use Rattle.wh_meaning.specs.Query.{group_row, group_rows, grouped}
use Rattle.wh_meaning.proofs.BagLaws.{bag_of_same, count-plus, count-restricted, count-no_rows, count-with_row}
use Rattle.wh_meaning.proofs.BagLaws.{one_row-plus, tied_rows}
use Rattle.wh_meaning.proofs.Gathered.{gathered-plus, gathered-with_row}
use Rattle.wh_maintenance.specs.Turn.{IsTurn}
use Rattle.wh_maintenance.specs.Carried.{Change, sided, IsCarried}
use Rattle.wh_maintenance.specs.Delta.{is_some_of, is_among, key_among}
use Rattle.wh_maintenance.proofs.Sides.{carried_as, beside-comm, beside_there}
use Rattle.wh_moves.proofs.Gathering.{by_rows}
use Rattle.wh_maintenance.proofs.Keys.{self_tied, rows_with_key, rows_in-no_rows, once, count-keys}
use Rattle.wh_maintenance.proofs.Keys.{group_rows-gathered, gathered-within}
use Rattle.wh_maintenance.proofs.Keys.{with_key-kept, with_key-dropped, key_is}

abbrev pub apart_from : (Row → Bool) → Row → Bool
apart_from test row = not (test row)

two_parts : (t : Bool) (n : ℕ) → cond t n 0 + cond (not t) n 0 ≡ n
two_parts true n = omega arith
two_parts false n = omega arith

pub restricted-parts : (test : Row → Bool) (b : Bag) → plus (restricted test b) (restricted (apart_from test) b) ≡ b
restricted-parts test b = bag_of_same _ _ (λ q.
    let s = count-plus (restricted test b) (restricted (apart_from test) b) q in
    let l = count-restricted test b q in
    let r = count-restricted (apart_from test) b q in
    let both = two_parts (test q) (count b q) in
    omega arith)

pub gathered-parts : (f : Row → Option Bag) (test : Row → Bool) (b : Bag)
    → gathered f b ≡ beside (gathered f (restricted test b)) (gathered f (restricted (apart_from test) b))
gathered-parts f test b =
    ap (gathered f) (sym (restricted-parts test b))
    ∙ gathered-plus f (restricted test b) (restricted (apart_from test) b)

-- a test of rows that looks at their keys alone
abbrev pub IsByKey : List Scalar → (Row → Bool) → (Row → Bool) → Type 0
IsByKey by test chosen = (row k : Row) → values_on by row ≡ Some k → test row ≡ chosen k

module _ (e : Scalar) (es : List Scalar) (calls : List Call) where
  pub some_keys : (b keyed : Bag) → projected (e ∷ es) b ≡ Some keyed
      → grouped (e ∷ es) calls b ≡ gathered (group_row (e ∷ es) calls b) (bag_of (keys keyed))
  some_keys b keyed is =
      ap (of_one (λ keyed. group_rows (e ∷ es) calls b (keys keyed))) is
      ∙ group_rows-gathered (e ∷ es) calls b (keys keyed)

  pub no_keys : (b : Bag) → projected (e ∷ es) b ≡ None → grouped (e ∷ es) calls b ≡ None
  no_keys b is = ap (of_one (λ keyed. group_rows (e ∷ es) calls b (keys keyed))) is

  module _ (test chosen : Row → Bool) (by_key : IsByKey (e ∷ es) test chosen) (b keyed : Bag)
      (is : projected (e ∷ es) b ≡ Some keyed) where
    meets : (k row : Row) (t : Bool) → chosen k ≡ t → is_row k (values_on (e ∷ es) row) ≡ true → test row ≡ t
    meets k row t c m = by_key row k (key_is k (values_on (e ∷ es) row) m) ∙ c

    chosen_keys : (part : Bag) → projected (e ∷ es) (restricted test b) ≡ Some part
        → bag_of (keys part) ≡ restricted chosen (bag_of (keys keyed))
    chosen_keys part part_is = bag_of_same _ _ (λ k.
        count-keys part k
        ∙ ap once (rows_with_key (e ∷ es) k (restricted test b) part part_is)
        ∙ elim (chosen k) as (λ t. chosen k ≡ t → once (rows_in (with_key (e ∷ es) k (restricted test b)))
        ≡ cond t (count (bag_of (keys keyed)) k) 0) [
          | true ↦ λ c.
              ap (λ x. once (rows_in x)) (with_key-kept (e ∷ es) k test b (λ row m. meets k row true c m))
              ∙ ap once (sym (rows_with_key (e ∷ es) k b keyed is))
              ∙ sym (count-keys keyed k)
          | false ↦ λ c.
              ap (λ x. once (rows_in x)) (with_key-dropped (e ∷ es) k test b (λ row m. meets k row false c m))
              ∙ ap once rows_in-no_rows
        ] refl
        ∙ sym (count-restricted chosen (bag_of (keys keyed)) k))

    pub one_part : (part : Bag) → projected (e ∷ es) (restricted test b) ≡ Some part
        → grouped (e ∷ es) calls (restricted test b)
        ≡ gathered (group_row (e ∷ es) calls b) (restricted chosen (bag_of (keys keyed)))
    one_part part part_is =
        some_keys (restricted test b) part part_is
        ∙ ap (gathered (group_row (e ∷ es) calls (restricted test b))) (chosen_keys part part_is)
        ∙ gathered-within (group_row (e ∷ es) calls (restricted test b)) (group_row (e ∷ es) calls b)
        (restricted chosen (bag_of (keys keyed))) (λ k some.
        elim (chosen k) as (λ t. chosen k ≡ t
        → group_row (e ∷ es) calls (restricted test b) k ≡ group_row (e ∷ es) calls b k) [
          | true ↦ λ c. ap (λ rows. option_map (λ values. one_row (k ++ values)) (calls_over rows calls))
              (with_key-kept (e ∷ es) k test b (λ row m. meets k row true c m))
          | false ↦ λ c. absurd (some (count-restricted chosen (bag_of (keys keyed)) k
              ∙ ap (λ t. cond t (count (bag_of (keys keyed)) k) 0) c))
        ] refl)

  parts_of_none : (test : Row → Bool) (b : Bag) (first rest : Option Bag)
      → projected (e ∷ es) (restricted test b) ≡ first → projected (e ∷ es) (restricted (apart_from test) b) ≡ rest
      → beside first rest ≡ None
      → beside (grouped (e ∷ es) calls (restricted test b))
      (grouped (e ∷ es) calls (restricted (apart_from test) b)) ≡ None
  parts_of_none test b None rest f r n =
      ap (λ x. beside x (grouped (e ∷ es) calls (restricted (apart_from test) b))) (no_keys (restricted test b) f)
  parts_of_none test b (Some x) None f r n =
      ap (beside (grouped (e ∷ es) calls (restricted test b))) (no_keys (restricted (apart_from test) b) r)
      ∙ beside-comm (grouped (e ∷ es) calls (restricted test b)) None
  parts_of_none test b (Some x) (Some y) f r n = cc

  pub grouped-parts : (test chosen : Row → Bool) → IsByKey (e ∷ es) test chosen → (b : Bag) → grouped (e ∷ es) calls b
      ≡ beside (grouped (e ∷ es) calls (restricted test b)) (grouped (e ∷ es) calls (restricted (apart_from test) b))
  grouped-parts test chosen by_key b =
      let halves = gathered-parts (image_by (e ∷ es)) test b in
      elim (projected (e ∷ es) b) as (λ found. projected (e ∷ es) b ≡ found → grouped (e ∷ es) calls b
      ≡ beside (grouped (e ∷ es) calls (restricted test b)) (grouped (e ∷ es) calls (restricted (apart_from test) b))) [
        | None ↦ λ is. no_keys b is ∙ sym (parts_of_none test b _ _ refl refl (sym halves ∙ is))
        | Some keyed ↦ λ is.
            let first = beside_there (projected (e ∷ es) (restricted test b))
            (projected (e ∷ es) (restricted (apart_from test) b)) keyed (sym halves ∙ is) in
            let rest = beside_there (projected (e ∷ es) (restricted (apart_from test) b))
            (projected (e ∷ es) (restricted test b)) keyed
            (beside-comm (projected (e ∷ es) (restricted (apart_from test) b)) (projected (e ∷ es) (restricted test b))
            ∙ sym halves ∙ is) in
            let l = one_part test chosen by_key b keyed is first.0 first.1 in
            let r = one_part (apart_from test) (apart_from chosen) (λ row k v. ap not (by_key row k v)) b keyed is
            rest.0 rest.1 in
            some_keys b keyed is
            ∙ gathered-parts (group_row (e ∷ es) calls b) chosen (bag_of (keys keyed))
            ∙ ap (λ x. beside x (gathered (group_row (e ∷ es) calls b)
            (restricted (apart_from chosen) (bag_of (keys keyed))))) (sym l)
            ∙ ap (beside (grouped (e ∷ es) calls (restricted test b))) (sym r)
      ] refl

  -- no row outside the test comes or goes
  pub grouped-carried : (test chosen : Row → Bool) → IsByKey (e ∷ es) test chosen → (old new o : Bag) (c : Change)
      → IsTurn old new c.comes c.goes
      → ((row : Row) → test row ≡ false → count c.comes row ≡ 0) → ((row : Row) → test row ≡ false
      → count c.goes row ≡ 0)
      → grouped (e ∷ es) calls old ≡ Some o → IsCarried o (grouped (e ∷ es) calls new)
      (sided (grouped (e ∷ es) calls (restricted test new)) (grouped (e ∷ es) calls (restricted test old)))
  grouped-carried test chosen by_key old new o c turn no_comes no_goes is =
      let same : restricted (apart_from test) old ≡ restricted (apart_from test) new = bag_of_same _ _ (λ q.
      count-restricted (apart_from test) old q
      ∙ elim (test q) as (λ t. test q ≡ t → cond (not t) (count old q) 0 ≡ cond (not t) (count new q) 0) [
        | true ↦ λ t. refl
        | false ↦ λ t.
            let n = no_comes q t in let g = no_goes q t in
            let was : count old q ≡ count turn.stays q + count c.goes q =
            ap (λ b. count b q) turn.was ∙ count-plus turn.stays c.goes q in
            let now : count new q ≡ count turn.stays q + count c.comes q =
            ap (λ b. count b q) turn.is ∙ count-plus turn.stays c.comes q in
            omega arith
      ] refl
      ∙ sym (count-restricted (apart_from test) new q)) in
      carried_as o (grouped (e ∷ es) calls (restricted (apart_from test) old))
      (grouped (e ∷ es) calls (restricted test old))
      (grouped (e ∷ es) calls (restricted test new)) (grouped (e ∷ es) calls old) (grouped (e ∷ es) calls new)
      (grouped-parts test chosen by_key old
      ∙ beside-comm (grouped (e ∷ es) calls (restricted test old))
      (grouped (e ∷ es) calls (restricted (apart_from test) old)))
      (grouped-parts test chosen by_key new
      ∙ beside-comm (grouped (e ∷ es) calls (restricted test new))
      (grouped (e ∷ es) calls (restricted (apart_from test) new))
      ∙ ap (λ x. beside (grouped (e ∷ es) calls x) (grouped (e ∷ es) calls (restricted test new))) (sym same)) is

-- ---- the keys of changed rows

pub among_by_key : (by : List Scalar) (ks : Bag) → IsByKey by (λ row. key_among ks (values_on by row)) (is_among ks)
among_by_key by ks row k is = ap (key_among ks) is

-- a key that is among some is among more
more_keys : (n m : ℕ) → n ≤ m → is_some_of m ≡ false → n ≡ 0
more_keys zero m le none = refl
more_keys (suc n) zero le none = absurd (omega arith)
more_keys (suc n) (suc m) le none = cc

row_missed : (by : List Scalar) (ks : Bag) (row : Row) (found : Option Row) (first rest : Option Bag) (keyed : Bag)
    → first ≡ option_map one_row found → beside first rest ≡ Some keyed
    → ((k : Row) → count keyed k ≤ count ks k) → key_among ks found ≡ false → ⊥
row_missed by ks row None first rest keyed f e all missed =
    let gone : ◌≡◌ {A = Option Bag} None (Some keyed) = ap (λ x. beside x rest) (sym f) ∙ e in cc
row_missed by ks row (Some k) None rest keyed f e all missed = cc
row_missed by ks row (Some k) (Some one) None keyed f e all missed = cc
row_missed by ks row (Some k) (Some one) (Some other) keyed f e all missed =
    let one_is : one ≡ one_row k = cc in
    let sum : plus one other ≡ keyed = cc in
    let is : keyed ≡ with_row k other = sym sum ∙ ap (λ x. plus x other) one_is ∙ one_row-plus k other in
    let there : count keyed k ≡ suc (count other k) = ap (λ b. count b k) is ∙ count-with_row k other k
    ∙ ap (λ t. cond t (suc (count other k)) (count other k)) (self_tied k) in
    let none = more_keys (count keyed k) (count ks k) (all k) missed in
    absurd (omega arith)

-- each row has its key among the keys of all
part_below : (first rest : Option Bag) (keyed other : Bag) → beside first rest ≡ Some keyed → rest ≡ Some other
    → (k : Row) → count other k ≤ count keyed k
part_below None rest keyed other e r k = cc
part_below (Some a) None keyed other e r k = cc
part_below (Some a) (Some b) keyed other e r k =
    let whole : plus a b ≡ keyed = cc in
    let same : b ≡ other = cc in
    let sum : count keyed k ≡ count a k + count b k = ap (λ x. count x k) (sym whole) ∙ count-plus a b k in
    let here : count b k ≡ count other k = ap (λ x. count x k) same in
    omega arith

missed_list : (by : List Scalar) (ks : Bag) (rows : List Row) (keyed : Bag) → projected by (bag_of rows) ≡ Some keyed
    → ((k : Row) → count keyed k ≤ count ks k) → (row : Row) → key_among ks (values_on by row) ≡ false
    → count (bag_of rows) row ≡ 0
missed_list by ks [] keyed is all row missed = count-no_rows row
missed_list by ks (r ∷ rows) keyed is all row missed =
    let parts : beside (image_by by r) (projected by (bag_of rows)) ≡ Some keyed =
    sym (gathered-with_row (image_by by) r (bag_of rows)) ∙ is in
    let rest = beside_there (projected by (bag_of rows)) (image_by by r) keyed
    (beside-comm (projected by (bag_of rows)) (image_by by r) ∙ parts) in
    count-with_row r (bag_of rows) row
    ∙ elim (eq_by_cmp row_cmp row r) as (λ t. eq_by_cmp row_cmp row r ≡ t
    → cond t (suc (count (bag_of rows) row)) (count (bag_of rows) row) ≡ 0) [
      | true ↦ λ t. absurd (row_missed by ks r (values_on by r) (image_by by r) (projected by (bag_of rows)) keyed refl
          parts all (ap (λ x. key_among ks (values_on by x)) (sym (tied_rows row r t)) ∙ missed))
      | false ↦ λ t. missed_list by ks rows rest.0 rest.1 (λ k.
          let a = all k in
          let le = part_below (image_by by r) (projected by (bag_of rows)) keyed rest.0 parts rest.1 k in
          omega arith) row missed
    ] refl

pub missed : (by : List Scalar) (ks b keyed : Bag) → projected by b ≡ Some keyed
    → ((k : Row) → count keyed k ≤ count ks k) → (row : Row) → key_among ks (values_on by row) ≡ false
    → count b row ≡ 0
missed by ks = by_rows (λ b. (keyed : Bag) → projected by b ≡ Some keyed
    → ((k : Row) → count keyed k ≤ count ks k) → (row : Row) → key_among ks (values_on by row) ≡ false
    → count b row ≡ 0) (missed_list by ks)
