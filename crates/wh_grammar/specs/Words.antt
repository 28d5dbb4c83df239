-- Words that are no names.
use Rattle.std.specs.Prelude.{ℕ, Bool, ◌||◌, List, [], ◌∷◌, codes, bytes_eq}
use Rattle.std.specs.List.{list_any}

-- the words that are no names
abbrev pub reserved_words : List (List ℕ)
reserved_words =
    codes "ALL" ∷ codes "AND" ∷ codes "AS" ∷ codes "BETWEEN" ∷ codes "BY" ∷ codes "CROSS"
    ∷ codes "DELETE" ∷ codes "DISTINCT" ∷ codes "FALSE" ∷ codes "FROM" ∷ codes "FULL" ∷ codes "GROUP"
    ∷ codes "HAVING" ∷ codes "IN" ∷ codes "INNER" ∷ codes "INSERT" ∷ codes "INTO" ∷ codes "IS"
    ∷ codes "JOIN" ∷ codes "LEFT" ∷ codes "MERGE" ∷ codes "NATURAL" ∷ codes "NOT" ∷ codes "NULL"
    ∷ codes "ON" ∷ codes "OR" ∷ codes "ORDER" ∷ codes "RIGHT" ∷ codes "SELECT" ∷ codes "SET"
    ∷ codes "THEN" ∷ codes "TRUE" ∷ codes "UNION" ∷ codes "UPDATE" ∷ codes "USING" ∷ codes "VALUES"
    ∷ codes "WHEN" ∷ codes "WHERE" ∷ []

unfoldable pub is_reserved : List ℕ → Bool
is_reserved word = list_any (bytes_eq word) reserved_words

-- SUM and COUNT directly before a `(` begin a call
unfoldable pub is_call : List ℕ → Bool
is_call word = bytes_eq word (codes "SUM") || bytes_eq word (codes "COUNT")
