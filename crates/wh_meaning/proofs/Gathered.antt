-- The laws of what the rows of a bag give together.
--     beside-..                     two parts together: their order is free
--     gathered-..                   of no rows, of a row more, of a sum, of a list with a row behind
--     each, gathered-each           the lists that rows give, one behind the other, None where a row
--                                   gives none; and the bag of them
use Rattle.std.specs.Prelude.{◌≡◌, List, [], ◌∷◌, ◌++◌, Option, Some, None, option_map}
use Rattle.std.proofs.Common.{refl, sym, ap, ◌∙◌}
use Rattle.wh_value.specs.Value.{Row}
use Rattle.wh_meaning.specs.Scalar.{of_two}
use Rattle.wh_meaning.specs.Bag.{Bag, no_rows, with_row, bag_of, plus, beside, gathered}
use Rattle.wh_meaning.proofs.BagLaws.{fold-no_rows, fold-with_row, plus-assoc, plus-comm, no_rows-plus, plus-no_rows}
use Rattle.wh_meaning.proofs.BagLaws.{with_row-plus, bag_of-append, rows_of, bag_of-rows_of}

plus-turned : (a b c : Bag) → plus a (plus b c) ≡ plus b (plus a c)
plus-turned a b c = sym (plus-assoc a b c) ∙ ap (λ ab. plus ab c) (plus-comm a b) ∙ plus-assoc b a c

pub beside-turned : (a b c : Option Bag) → beside a (beside b c) ≡ beside b (beside a c)
beside-turned None None c = refl
beside-turned None (Some b) None = refl
beside-turned None (Some b) (Some c) = refl
beside-turned (Some a) None None = refl
beside-turned (Some a) None (Some c) = refl
beside-turned (Some a) (Some b) None = refl
beside-turned (Some a) (Some b) (Some c) = ap Some (plus-turned a b c)

pub beside-assoc : (a b c : Option Bag) → beside (beside a b) c ≡ beside a (beside b c)
beside-assoc None b c = refl
beside-assoc (Some a) None c = refl
beside-assoc (Some a) (Some b) None = refl
beside-assoc (Some a) (Some b) (Some c) = ap Some (plus-assoc a b c)

pub beside-nothing : (a : Option Bag) → beside a (Some no_rows) ≡ a
beside-nothing None = refl
beside-nothing (Some a) = ap Some (plus-no_rows a)

pub nothing-beside : (a : Option Bag) → beside (Some no_rows) a ≡ a
nothing-beside None = refl
nothing-beside (Some a) = ap Some (no_rows-plus a)

pub gathered-no_rows : (f : Row → Option Bag) → gathered f no_rows ≡ Some no_rows
gathered-no_rows f = fold-no_rows (λ row found. beside (f row) found) (Some no_rows)

pub gathered-with_row : (f : Row → Option Bag) (row : Row) (b : Bag)
    → gathered f (with_row row b) ≡ beside (f row) (gathered f b)
gathered-with_row f row b = fold-with_row (λ row found. beside (f row) found) (Some no_rows)
    (λ x y found. beside-turned (f x) (f y) found) row b

gathered-plus_list : (f : Row → Option Bag) (rows : List Row) (b : Bag)
    → gathered f (plus (bag_of rows) b) ≡ beside (gathered f (bag_of rows)) (gathered f b)
gathered-plus_list f [] b =
    ap (gathered f) (no_rows-plus b) ∙ sym (nothing-beside (gathered f b))
    ∙ ap (λ a. beside a (gathered f b)) (sym (gathered-no_rows f))
gathered-plus_list f (row ∷ rows) b =
    ap (gathered f) (with_row-plus row (bag_of rows) b)
    ∙ gathered-with_row f row (plus (bag_of rows) b)
    ∙ ap (beside (f row)) (gathered-plus_list f rows b)
    ∙ sym (beside-assoc (f row) (gathered f (bag_of rows)) (gathered f b))
    ∙ ap (λ a. beside a (gathered f b)) (sym (gathered-with_row f row (bag_of rows)))

pub gathered-plus : (f : Row → Option Bag) (a b : Bag) → gathered f (plus a b) ≡ beside (gathered f a) (gathered f b)
gathered-plus f a b = ap (λ c. gathered f (plus c b)) (sym (bag_of-rows_of a)) ∙ gathered-plus_list f (rows_of a) b
    ∙ ap (λ c. beside (gathered f c) (gathered f b)) (bag_of-rows_of a)

pub gathered-append : (f : Row → Option Bag) (xs ys : List Row)
    → gathered f (bag_of (xs ++ ys)) ≡ beside (gathered f (bag_of xs)) (gathered f (bag_of ys))
gathered-append f xs ys = ap (gathered f) (bag_of-append xs ys) ∙ gathered-plus f (bag_of xs) (bag_of ys)

pub gathered-push : (f : Row → Option Bag) (xs : List Row) (row : Row)
    → gathered f (bag_of (xs ++ row ∷ [])) ≡ beside (gathered f (bag_of xs)) (f row)
gathered-push f xs row =
    gathered-append f xs (row ∷ [])
    ∙ ap (beside (gathered f (bag_of xs)))
    (gathered-with_row f row no_rows ∙ ap (beside (f row)) (gathered-no_rows f) ∙ beside-nothing (f row))

beside-none : (a : Option Bag) → beside a None ≡ None
beside-none None = refl
beside-none (Some a) = refl

-- a row that gives nothing leaves nothing, whatever stands around it
pub gathered-none : (f : Row → Option Bag) (xs : List Row) (row : Row) (ys : List Row) → f row ≡ None
    → gathered f (bag_of (xs ++ row ∷ ys)) ≡ None
gathered-none f xs row ys none =
    gathered-append f xs (row ∷ ys)
    ∙ ap (beside (gathered f (bag_of xs)))
    (gathered-with_row f row (bag_of ys) ∙ ap (λ a. beside a (gathered f (bag_of ys))) none)
    ∙ beside-none (gathered f (bag_of xs))

abbrev pub each : (Row → Option (List Row)) → List Row → Option (List Row)
each h [] = Some []
each h (row ∷ rows) = of_two (λ a b. Some (a ++ b)) (h row) (each h rows)

bag_of-both : (a b : Option (List Row))
    → option_map bag_of (of_two (λ x y. Some (x ++ y)) a b) ≡ beside (option_map bag_of a) (option_map bag_of b)
bag_of-both None b = refl
bag_of-both (Some a) None = refl
bag_of-both (Some a) (Some b) = ap Some (bag_of-append a b)

pub gathered-each : (f : Row → Option Bag) (h : Row → Option (List Row))
    → ((row : Row) → f row ≡ option_map bag_of (h row)) → (rows : List Row)
    → gathered f (bag_of rows) ≡ option_map bag_of (each h rows)
gathered-each f h same [] = gathered-no_rows f
gathered-each f h same (row ∷ rows) =
    gathered-with_row f row (bag_of rows)
    ∙ ap (λ a. beside a (gathered f (bag_of rows))) (same row)
    ∙ ap (beside (option_map bag_of (h row))) (gathered-each f h same rows)
    ∙ sym (bag_of-both (h row) (each h rows))
