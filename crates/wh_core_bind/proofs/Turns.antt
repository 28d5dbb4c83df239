-- One turn of a loop over columns, entries, items and keys.
use Rattle.std.proofs.Common.{◌≡◌, ℕ, suc, ◌+◌, ◌<◌, ◌≤◌, Bool, ◌||◌, List, [], ◌∷◌, ◌++◌, length, take, get_or, map}
use Rattle.std.proofs.Common.{refl, sym, ap, ◌∙◌, append_assoc, append-nil, arith}
use Rattle.std.specs.Prelude.{not, is_some}
use Rattle.std.specs.List.{list_any}
use Rattle.std.proofs.lemmas.List.{map_more, map-append, take_more, length-map, length-take-le}
use Rattle.std.proofs.lemmas.List.Folds.{list_any-append}
use Rattle.wh_value.specs.Column as table
use Rattle.wh_value.specs.View.{column_of}
use Rattle.wh_value.specs.declared.column.Column as stored
use Rattle.wh_ast.specs.declared.expr.Expr.{Expr}
use Rattle.wh_ast.specs.declared.query.Item.{Item}
use Rattle.wh_meaning.specs.Scalar.{Scalar, Column}
use Rattle.wh_scalar.specs.View.{scalar_of}
use Rattle.wh_scalar.specs.declared.scalar.Scalar as code
use Rattle.wh_algebra.specs.View.{scalars_of}
use Rattle.wh_naming.specs.Findings.{Findings, followed}
use Rattle.wh_naming.specs.Scope.{Entry}
use Rattle.wh_naming.specs.Grouping.{regrouped}
use Rattle.wh_naming.specs.Select.{Shown, output_of, places_from, all_columns, shown_with, all_shown, plain}
use Rattle.wh_naming.specs.Select.{key_scalars, key_findings, regrouped_all, scalar_or}
use Rattle.wh_expr_bind.specs.View.{entry_of, entries_of}
use Rattle.wh_expr_bind.specs.declared.entries.Entry as made
use Rattle.std.proofs.Math.Bool.{or-false}
use Rattle.wh_core_bind.proofs.FindingLaws.{followed_assoc, followed_nothing}

pub outputs_turn : (cs : List stored.Column) (i : ℕ) (c : stored.Column) → i < length cs → c ≡ get_or cs i c
    → map output_of (map column_of (take (i + 1) cs))
    ≡ map output_of (map column_of (take i cs)) ++ output_of (column_of c) ∷ []
outputs_turn cs i c l is =
    let more = map_more column_of cs i c l in
    rw (more, ← is, map-append) refl

places_more : (from : ℕ) (cs : List table.Column) (c : table.Column)
    → places_from from (cs ++ c ∷ []) ≡ places_from from cs ++ Column (from + length cs) ∷ []
places_more from [] c = let same : from + 0 ≡ from = omega arith in rw same refl
places_more from (x ∷ cs) c =
    let same : from + suc (length cs) ≡ suc from + length cs = omega arith in
    rw (same, places_more (suc from) cs c) refl

pub places_turn : (from : ℕ) (cs : List stored.Column) (i : ℕ) (c : stored.Column) → i < length cs → c ≡ get_or cs i c
    → places_from from (map column_of (take (i + 1) cs))
    ≡ places_from from (map column_of (take i cs)) ++ Column (from + i) ∷ []
places_turn from cs i c l is =
    let more = map_more column_of cs i c l in
    let within : i ≤ length cs = omega arith in
    let long : length (map column_of (take i cs)) ≡ i = rw (length-map, length-take-le) refl in
    rw (more, ← is, places_more from (map column_of (take i cs)) (column_of c), long) refl

columns_more : (es : List Entry) (e : Entry) → all_columns (es ++ e ∷ []) ≡ all_columns es ++ e.columns
columns_more [] e = append-nil e.columns
columns_more (x ∷ es) e = rw (columns_more es e, append_assoc) refl

pub columns_turn : (es : List made.Entry) (i : ℕ) (e : made.Entry) → i < length es → e ≡ get_or es i e
    → all_columns (entries_of (take (i + 1) es)) ≡ all_columns (entries_of (take i es)) ++ map column_of e.columns.items
columns_turn es i e l is =
    let more = map_more entry_of es i e l in
    rw (more, ← is, columns_more (entries_of (take i es)) (entry_of e)) refl

shown_more : (entries : List Entry) (s : Shown) (xs : List Item) (x : Item)
    → all_shown entries s (xs ++ x ∷ []) ≡ shown_with entries (all_shown entries s xs) x
shown_more entries s [] x = refl
shown_more entries s (y ∷ xs) x = shown_more entries (shown_with entries s y) xs x

pub shown_turn : (entries : List Entry) (s : Shown) (xs : List Item) (i : ℕ) (x : Item) → i < length xs
    → x ≡ get_or xs i x
    → all_shown entries s (take (i + 1) xs) ≡ shown_with entries (all_shown entries s (take i xs)) x
shown_turn entries s xs i x l is =
    let more = take_more xs i x l in
    rw (more, ← is) (shown_more entries s (take i xs) x)

findings_more : (entries : List Entry) (es : List Expr) (e : Expr)
    → key_findings entries (es ++ e ∷ []) ≡ followed (key_findings entries es) (plain entries e).findings
findings_more entries [] e = followed_nothing (plain entries e).findings
findings_more entries (x ∷ es) e =
    ap (λ (f : Findings). followed (plain entries x).findings f) (findings_more entries es e)
    ∙ sym (followed_assoc (plain entries x).findings (key_findings entries es) (plain entries e).findings)

pub findings_turn : (entries : List Entry) (es : List Expr) (i : ℕ) (e : Expr) → i < length es → e ≡ get_or es i e
    → key_findings entries (take (i + 1) es) ≡ followed (key_findings entries (take i es)) (plain entries e).findings
findings_turn entries es i e l is =
    let more = take_more es i e l in
    rw (more, ← is) (findings_more entries (take i es) e)

pub keys_turn : (entries : List Entry) (es : List Expr) (i : ℕ) (e : Expr) → i < length es → e ≡ get_or es i e
    → key_scalars entries (take (i + 1) es) ≡ key_scalars entries (take i es) ++ (plain entries e).scalar ∷ []
keys_turn entries es i e l is =
    let more = map_more (λ x. (plain entries x).scalar) es i e l in
    rw (more, ← is) refl

pub regrouped_turn : (keys : List Scalar) (wide : ℕ) (es : List code.Scalar) (i : ℕ) (e : code.Scalar) → i < length es
    → e ≡ get_or es i e
    → regrouped_all keys wide (scalars_of (take (i + 1) es))
    ≡ regrouped_all keys wide (scalars_of (take i es)) ++ scalar_or (regrouped keys wide (scalar_of e)) ∷ []
regrouped_turn keys wide es i e l is =
    let more = map_more scalar_of es i e l in
    rw (more, ← is, map-append) refl

pub outside_turn : (keys : List Scalar) (wide : ℕ) (es : List code.Scalar) (i : ℕ) (e : code.Scalar)
    → i < length es → e ≡ get_or es i e
    → list_any (λ s. not (is_some (regrouped keys wide s))) (scalars_of (take (i + 1) es))
    ≡ (list_any (λ s. not (is_some (regrouped keys wide s))) (scalars_of (take i es))
    || not (is_some (regrouped keys wide (scalar_of e))))
outside_turn keys wide es i e l is =
    let more = map_more scalar_of es i e l in
    rw (more, ← is, list_any-append) (ap (λ (b : Bool). list_any (λ s. not (is_some (regrouped keys wide s)))
    (scalars_of (take i es)) || b) (or-false (not (is_some (regrouped keys wide (scalar_of e))))))
