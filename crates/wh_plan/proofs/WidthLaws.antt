-- What holds of each item of a list, by a loop over it.
--     one_more, none_left     all items have it if those that are left do
--     all_mapped              what holds of what each item gives
--     parts_found             partitions whose rows have so many values
--     has_..                  how many values the rows of a query have, by its operator
use Rattle.std.specs.Prelude.{◌≡◌, ℕ, ◌+◌, ◌<◌, ◌≤◌, List, [], ◌∷◌, ◌++◌, map, length, drop, get_or}
use Rattle.std.specs.Prelude.{Option, Some, None, IfSome}
use Rattle.std.specs.List.{flat_map, AllByRecursion}
use Rattle.std.proofs.Common.{sym, subst, SomeIff, ◌^◌}
use Rattle.std.proofs.lemmas.List.{at_drop_more, at_drop_all}
use Rattle.wh_value.specs.Value.{Row}
use Rattle.wh_frame.specs.Partition.{Partition}
use Rattle.wh_meaning.specs.Scalar.{Scalar}
use Rattle.wh_meaning.specs.Query.{Query, Scan, Filter, Project, Join, UnionAll, Instance, source_in}
use Rattle.wh_moves.specs.Widths.{AreWide, IsWide, HasWidth}
use Rattle.wh_moves.proofs.Widths.{width-scan, width-filter, width-project, width-join, width-union}
use Rattle.wh_exec.specs.Source.{parts_bag}
use Rattle.wh_plan.specs.Widths.{ArePartsWide}

module _ {A : Type 0} (P : A → Type 0) (xs : List A) (i : ℕ) where
  pub one_more : (d : A) → i < length xs → P (get_or xs i d) → (AllByRecursion P (drop i xs) → AllByRecursion P xs)
      → AllByRecursion P (drop (i + 1) xs) → AllByRecursion P xs
  one_more d within here so_far rest =
      so_far (subst (AllByRecursion P) (sym (at_drop_more (λ ys. ys) xs i d within)) (here, rest))

  pub none_left : length xs ≤ i → (AllByRecursion P (drop i xs) → AllByRecursion P xs) → AllByRecursion P xs
  none_left past so_far = so_far (subst (AllByRecursion P) (sym (at_drop_all (λ ys. ys) xs i past)) tt)

pub all_mapped : {A B : Type 0} (P : B → Type 0) (f : A → B) (xs : List A) → AllByRecursion (λ x. P (f x)) xs
    → AllByRecursion P (map f xs)
all_mapped P f [] all = tt
all_mapped P f (x ∷ xs) all = (all.0, all_mapped P f xs all.1)

part_rows : (width : ℕ) (rows : List (ℕ × Row)) (rest : List Row) → AllByRecursion (λ e. length e.1 ≡ width) rows
    → AreWide width rest → AreWide width (map (λ e. e.1) rows ++ rest)
part_rows width [] rest all others = others
part_rows width (e ∷ es) rest all others = (all.0, part_rows width es rest all.1 others)

append_mapped : (xs ys : List (ℕ × Row)) → map (λ e. e.1) (xs ++ ys) ≡ map (λ e. e.1) xs ++ map (λ e. e.1) ys
append_mapped [] ys = λ i. map (λ e. e.1) ys
append_mapped (x ∷ xs) ys = λ i. x.1 ∷ append_mapped xs ys i

rows_wide : (width : ℕ) (ps : List Partition) → ArePartsWide width ps
    → AreWide width (map (λ e. e.1) (flat_map (λ p. p.rows) ps))
rows_wide width [] all = tt
rows_wide width (p ∷ ps) all = subst (AreWide width) (sym (append_mapped p.rows (flat_map (λ p. p.rows) ps)))
    (part_rows width p.rows (map (λ e. e.1) (flat_map (λ p. p.rows) ps)) all.0 (rows_wide width ps all.1))

wide_parts : (width : ℕ) (ps : List Partition) → ArePartsWide width ps → IsWide width (parts_bag ps)
wide_parts width ps all = record {
  rows = map (λ e. e.1) (flat_map (λ p. p.rows) ps);
  listed = λ i. parts_bag ps;
  wide = rows_wide width ps all;
}

pub parts_found : (ps : List Partition) (found : Option ℕ) → IfSome found (λ width. ArePartsWide width ps)
    → IfSome found (λ width. IsWide width (parts_bag ps))
parts_found ps None wide = tt
parts_found ps (Some width) wide = wide_parts width ps wide

-- ---- of a query

module _ (instance : Instance) where
  pub has_scan : (place : ℕ) (found : Option ℕ) → IfSome found (λ width. IsWide width (source_in instance place))
      → IfSome found (λ width. HasWidth instance (Scan place) width)
  has_scan place None wide = tt
  has_scan place (Some width) wide = width-scan instance place width wide

  pub has_filter : (p : Query) (c : Scalar) (found : Option ℕ) → IfSome found (λ width. HasWidth instance p width)
      → IfSome found (λ width. HasWidth instance (Filter p c) width)
  has_filter p c None wide = tt
  has_filter p c (Some width) wide = width-filter instance p c width wide

  pub has_project : (p : Query) (items : List Scalar) (width : ℕ) → width ≡ length items
      → HasWidth instance (Project p items) width
  has_project p items width counted =
      subst (HasWidth instance (Project p items)) (sym counted) (width-project instance p items)

  pub has_join : (a b : Query) (on : Scalar) (left right : ℕ) (found : Option ℕ) → HasWidth instance a left
      → HasWidth instance b right → SomeIff found (left + right < 2 ^ 64) (left + right)
      → IfSome found (λ width. HasWidth instance (Join a b on) width)
  has_join a b on left right None l r sum = tt
  has_join a b on left right (Some width) l r sum =
      subst (HasWidth instance (Join a b on)) (sym sum.1) (width-join instance a b on left right l r)

  pub has_union : (a b : Query) (left right : ℕ) → HasWidth instance a left → HasWidth instance b right → left ≡ right
      → HasWidth instance (UnionAll a b) left
  has_union a b left right l r same = width-union instance a b left l (subst (HasWidth instance b) (sym same) r)
