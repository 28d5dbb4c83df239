-- The bag of rows that are moved into it one after the other.
--     collected-push     with a row more
use Rattle.std.specs.Prelude.{◌≡◌, List, [], ◌∷◌, ◌++◌}
use Rattle.std.proofs.Common.{sym, ap, ◌∙◌}
use Rattle.std.proofs.lemmas.List.{map-append}
use Rattle.wh_value.specs.Value.{Row}
use Rattle.wh_meaning.specs.Bag.{Bag, no_rows, with_row, one_row, bag_of, plus}
use Rattle.wh_meaning.proofs.BagLaws.{bag_of-append, plus-comm, with_row-with_row, fold-with_row, fold-no_rows}
use Rattle.wh_algebra.specs.declared.tuple.Tuple.{Tuple}
use Rattle.wh_algebra.specs.Tuple.{row_in, rows_in}

with_row-is : (b : Bag) (row : Row) → plus (one_row row) b ≡ with_row row b
with_row-is b row = fold-with_row with_row b with_row-with_row row no_rows ∙ ap (with_row row) (fold-no_rows with_row b)

pub collected-push : (ts : List Tuple) (t : Tuple) (bag after : Bag) → bag ≡ bag_of (rows_in ts) →
    after ≡ with_row (row_in t) bag →
    after ≡ bag_of (rows_in (ts ++ t ∷ []))
collected-push ts t bag after was added =
    added
    ∙ ap (with_row (row_in t)) was
    ∙ sym (with_row-is (bag_of (rows_in ts)) (row_in t))
    ∙ plus-comm (one_row (row_in t)) (bag_of (rows_in ts))
    ∙ sym (bag_of-append (rows_in ts) (row_in t ∷ []))
    ∙ ap bag_of (sym (map-append row_in ts (t ∷ [])))
