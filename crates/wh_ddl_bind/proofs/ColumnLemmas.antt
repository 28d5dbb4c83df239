-- Names of new columns, one after the other.
--     taken_here, taken_later     the next column's name is taken, or not
use Rattle.std.proofs.Common.{◌≡◌, ℕ, ◌+◌, ◌<◌, Bool, true, false, cond, List, [], ◌∷◌, Some, map, length, drop, get_or}
use Rattle.std.proofs.Common.{◌-◌, take, refl, ap, sym, ◌∙◌, arith}
use Rattle.std.specs.Prelude.{◌||◌, bytes_eq}
use Rattle.std.specs.List.{list_any}
use Rattle.std.proofs.lemmas.List.{drop_more, take_all, length-drop}
use Rattle.wh_value.specs.View.{column_of}
use Rattle.wh_value.specs.declared.column.Column.{Column}
use Rattle.wh_ddl_naming.specs.Tables.{is_kept, column_names, taken_column}
use Rattle.wh_ddl_bind.specs.Steps.{is_taken}

any_names : (test : List ℕ → Bool) (cs : List Column)
    → list_any (λ c. test (column_of c).name) cs ≡ list_any test (column_names (map column_of cs))
any_names test [] = refl
any_names test (c ∷ cs) = ap (λ b. test c.name || b) (any_names test cs)

next : (cs : List Column) (i : ℕ) (c : Column) → i < length cs → c ≡ get_or cs i c
    → taken_column (column_names (map column_of (drop i cs)))
    ≡ cond (is_taken c.name (drop (i + 1) cs)) (Some c.name)
    (taken_column (column_names (map column_of (drop (i + 1) cs))))
next cs i c within is =
    ap (λ l. taken_column (column_names (map column_of l)))
    (drop_more cs i c within ∙ ap (λ d. d ∷ drop (i + 1) cs) (sym is))
    ∙ ap (λ b. cond (is_kept c.name || b) (Some c.name) (taken_column (column_names (map column_of (drop (i + 1) cs)))))
    (sym (any_names (bytes_eq c.name) (drop (i + 1) cs)))

-- what the test answers, over the columns behind
module _ (cs : List Column) (i : ℕ) (c : Column) (answer : Bool) (within : i < length cs) (is : c ≡ get_or cs i c)
    (tested : answer ≡ is_taken (get_or cs i c).name (take (length cs - (i + 1)) (drop (i + 1) cs))) where
  answers : is_taken c.name (drop (i + 1) cs) ≡ answer
  answers =
      let rest : take (length cs - (i + 1)) (drop (i + 1) cs) ≡ drop (i + 1) cs =
      take_all _ _ (omega (arith, length-drop (i + 1) cs)) in
      ap (λ (x : Column). is_taken x.name (drop (i + 1) cs)) is
      ∙ ap (is_taken (get_or cs i c).name) (sym rest) ∙ sym tested

  turn : taken_column (column_names (map column_of (drop i cs)))
      ≡ cond answer (Some c.name) (taken_column (column_names (map column_of (drop (i + 1) cs))))
  turn =
      next cs i c within is
      ∙ ap (λ b. cond b (Some c.name) (taken_column (column_names (map column_of (drop (i + 1) cs))))) answers

  pub taken_here : answer ≡ true → taken_column (column_names (map column_of (drop i cs))) ≡ Some c.name
  taken_here so =
      turn ∙ ap (λ b. cond b (Some c.name) (taken_column (column_names (map column_of (drop (i + 1) cs))))) so

  pub taken_later : answer ≡ false → taken_column (column_names (map column_of (drop i cs)))
      ≡ taken_column (column_names (map column_of (drop (i + 1) cs)))
  taken_later so =
      turn ∙ ap (λ b. cond b (Some c.name) (taken_column (column_names (map column_of (drop (i + 1) cs))))) so
