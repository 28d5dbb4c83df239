-- The walk over rows of which those that meet a test are kept.
--     chosen_begun, chosen_put, chosen_left     at its start, with a row that meets it, and with one that doesn't
use Rattle.std.specs.Prelude.{◌≡◌, Bool, true, false, cond, List, [], ◌∷◌, ◌++◌}
use Rattle.std.proofs.Common.{sym, ap, ◌∙◌}
use Rattle.wh_value.specs.Value.{Row}
use Rattle.wh_meaning.specs.Bag.{no_rows, bag_of, with_row, restricted}
use Rattle.wh_meaning.proofs.BagLaws.{bag_of-append, plus-comm, one_row-plus, restricted-with_row, restricted-no_rows}

pub behind : (rows : List Row) (row : Row) → bag_of (rows ++ row ∷ []) ≡ with_row row (bag_of rows)
behind rows row = bag_of-append rows (row ∷ []) ∙ plus-comm (bag_of rows) (with_row row no_rows)
    ∙ one_row-plus row (bag_of rows)

seen_one : (test : Row → Bool) (seen : List Row) (row : Row) (t : Bool) → test row ≡ t
    → restricted test (bag_of (seen ++ row ∷ []))
    ≡ cond t (with_row row (restricted test (bag_of seen))) (restricted test (bag_of seen))
seen_one test seen row t is =
    ap (restricted test) (behind seen row) ∙ restricted-with_row test row (bag_of seen)
    ∙ ap (λ s. cond s (with_row row (restricted test (bag_of seen))) (restricted test (bag_of seen))) is

pub chosen_begun : (test : Row → Bool) (kept : List Row) → kept ≡ [] → bag_of kept ≡ restricted test (bag_of [])
chosen_begun test kept is = ap bag_of is ∙ sym (restricted-no_rows test)

pub chosen_put : (test : Row → Bool) (seen kept kept' : List Row) (row : Row)
    → bag_of kept ≡ restricted test (bag_of seen) → test row ≡ true → kept' ≡ kept ++ row ∷ []
    → bag_of kept' ≡ restricted test (bag_of (seen ++ row ∷ []))
chosen_put test seen kept kept' row so t put =
    ap bag_of put ∙ behind kept row ∙ ap (with_row row) so ∙ sym (seen_one test seen row true t)

pub chosen_left : (test : Row → Bool) (seen kept : List Row) (row : Row) → bag_of kept ≡ restricted test (bag_of seen)
    → test row ≡ false → bag_of kept ≡ restricted test (bag_of (seen ++ row ∷ []))
chosen_left test seen kept row so t = so ∙ sym (seen_one test seen row false t)
