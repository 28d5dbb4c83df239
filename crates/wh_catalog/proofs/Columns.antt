-- Columns of new tables and streams.
use Rattle.std.proofs.Common.{◌≡◌, ◌<◌, ◌≤◌, true, List, [], ◌∷◌, ◌++◌, map, length}
use Rattle.std.proofs.Common.{refl, ap, ◌∙◌, arith}
use Rattle.std.specs.Prelude.{◌&&◌, nat_lt, nat_le}
use Rattle.std.specs.List.{list_all}
use Rattle.std.proofs.lemmas.Bool.{lt-ltb, le-leb}
use Rattle.std.proofs.lemmas.List.{length-map}
use Rattle.wh_value.specs.declared.column.Column.{Column}
use Rattle.wh_value.specs.View.{column_of}
use Rattle.wh_catalog.specs.Conditions.{is_stored_column, are_stored_columns}
use Rattle.wh_table.proofs.Apart.{list_all-map}

pub stored_by_each : (columns : List Column) → 0 < length columns → length columns ≤ 64
    → are_stored_columns (map column_of columns) ≡ list_all (λ column. is_stored_column (column_of column)) columns
stored_by_each columns some few =
    let count = length-map columns column_of in
    let some_true : nat_lt 0 (length (map column_of columns)) ≡ true = lt-ltb 0 _ (omega arith) in
    let few_true : nat_le (length (map column_of columns)) 64 ≡ true = le-leb _ 64 (omega arith) in
    (λ i. some_true i && (few_true i && list_all is_stored_column (map column_of columns)))
    ∙ list_all-map is_stored_column column_of columns

pub three_more : {X Y : Type 0} (f : X → Y) (xs : List X) (a b c : X)
    → map f (((xs ++ a ∷ []) ++ b ∷ []) ++ c ∷ []) ≡ map f xs ++ f a ∷ f b ∷ f c ∷ []
three_more f [] a b c = refl
three_more f (x ∷ xs) a b c = ap (λ l. f x ∷ l) (three_more f xs a b c)
