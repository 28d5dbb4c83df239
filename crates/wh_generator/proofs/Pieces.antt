-- Pieces of the script, and what is behind them.
--     row_comes          a row is made
--     given_and_left     some bytes of a piece are given
use Rattle.std.proofs.Common.{◌≡◌, ℕ, suc, ◌+◌, Bool, false, List, [], ◌++◌, take, drop}
use Rattle.std.proofs.Common.{sym, ap, ◌∙◌, append_assoc, take-append-drop, drop-drop}
use Rattle.wh_generator.specs.Generated.{draw, piece, rows_from, closing}
use Rattle.wh_generator.specs.Rest.{ended}

pub row_comes : (left rest row x next : ℕ) (closed : Bool) (before made : List ℕ) → left ≡ suc rest → closed ≡ false →
    before ≡ [] → made ≡ before ++ piece rest row x → next ≡ draw (draw x) →
    ended closed (rows_from left row x ++ closing) ≡ made ++ ended closed (rows_from rest (row + 1) next ++ closing)
row_comes left rest row x next closed before made one still empty is drawn =
    rw (is, empty, drawn, still, one)
    (append_assoc (piece rest row x) (rows_from rest (row + 1) (draw (draw x))) closing)

pub given_and_left : (p behind taken : List ℕ) (g n : ℕ) → taken ≡ take n (drop g p) →
    drop g p ++ behind ≡ taken ++ (drop (g + n) p ++ behind)
given_and_left p behind taken g n is =
    rw (is, sym (drop-drop n g p))
    (ap (λ all. all ++ behind) (sym (take-append-drop n (drop g p)))
    ∙ append_assoc (take n (drop g p)) (drop n (drop g p)) behind)
