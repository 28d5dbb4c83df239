-- A row's columns, one after another.
use Rattle.std.proofs.Common.{◌≡◌, ◌∙◌, ◌<◌, sym, ap, refl, ℕ, zero, suc, ◌+◌, Bool, true, false, if◌then◌else◌}
use Rattle.std.proofs.Common.{List, [], ◌∷◌, ◌++◌, map, length, drop, take, get_or, Option, Some, None}
use Rattle.std.proofs.Common.{option_map, add-one, arith}
use Rattle.std.specs.Prelude.{unwrap_or, slice_get}
use Rattle.std.proofs.Math.Seq.{drop-cons}
use Rattle.std.proofs.lemmas.Bool.{and_parts}
use Rattle.std.proofs.lemmas.Bool.Decides.{nat_tests}
use Rattle.std.proofs.lemmas.List.{drop_all, length-map}
use Rattle.wh_value.specs.Column as table
use Rattle.wh_value.specs.Value.{Null}
use Rattle.wh_value.specs.View.{column_of}
use Rattle.wh_value.specs.declared.column.Column as stored
use Rattle.wh_meaning.specs.Scalar as meaning
use Rattle.wh_meaning.specs.Scalar.{Const, Column}
use Rattle.wh_scalar.specs.View.{scalar_of}
use Rattle.wh_scalar.specs.declared.scalar.Scalar.{Scalar}
use Rattle.wh_algebra.specs.View.{scalars_of}
use Rattle.wh_naming.specs.Scope as scope
use Rattle.wh_naming.specs.Changes.{is_at, given_at, row_from, changed_from}
use Rattle.wh_expr_bind.specs.View.{place_of}
use Rattle.wh_expr_bind.specs.declared.columns.Place.{Place}
use Rattle.wh_dml_bind.specs.View.{places_of}
use Rattle.wh_dml_bind.specs.Steps.{given, are_in_order}

if_unwrapped : (b : Bool) (s otherwise : meaning.Scalar) (rest : Option meaning.Scalar)
    → (if b then s else unwrap_or rest otherwise) ≡ unwrap_or (if b then Some s else rest) otherwise
if_unwrapped true s otherwise rest = refl
if_unwrapped false s otherwise rest = refl

given_is : (place : ℕ) (ps : List (Option scope.Place)) (ss : List meaning.Scalar) (otherwise : meaning.Scalar)
    → given_at place ps ss otherwise ≡ unwrap_or (given place ps ss) otherwise
given_is place [] ss otherwise = refl
given_is place (p ∷ ps) [] otherwise = refl
given_is place (p ∷ ps) (s ∷ ss) otherwise =
    ap (λ (x : meaning.Scalar). if is_at place p then s else x) (given_is place ps ss otherwise)
    ∙ if_unwrapped (is_at place p) s otherwise (given place ps ss)

row_take : (from i k : ℕ) (cs : List stored.Column) (ps : List (Option scope.Place)) (ss : List meaning.Scalar)
    → i < length cs → k ≡ from + i
    → row_from from (map column_of (take (suc i) cs)) ps ss
    ≡ row_from from (map column_of (take i cs)) ps ss ++ given_at k ps ss (Const Null) ∷ []
row_take from i k [] ps ss l e = absurd (omega arith)
row_take from zero k (c ∷ cs) ps ss l e = let same : k ≡ from = omega (arith, e) in rw same refl
row_take from (suc i) k (c ∷ cs) ps ss l e =
    let within : i < length cs = omega arith in
    let next : k ≡ suc from + i = omega (arith, e) in
    rw (row_take (suc from) i k cs ps ss within next) refl

changed_take : (from i k : ℕ) (cs : List stored.Column) (ps : List (Option scope.Place)) (ss : List meaning.Scalar)
    → i < length cs → k ≡ from + i
    → changed_from from (map column_of (take (suc i) cs)) ps ss
    ≡ changed_from from (map column_of (take i cs)) ps ss ++ given_at k ps ss (Column k) ∷ []
changed_take from i k [] ps ss l e = absurd (omega arith)
changed_take from zero k (c ∷ cs) ps ss l e = let same : k ≡ from = omega (arith, e) in rw same refl
changed_take from (suc i) k (c ∷ cs) ps ss l e =
    let within : i < length cs = omega arith in
    let next : k ≡ suc from + i = omega (arith, e) in
    rw (changed_take (suc from) i k cs ps ss within next) refl

pub row_turn : (cs : List stored.Column) (ps : List (Option scope.Place)) (ss : List meaning.Scalar) (i : ℕ)
    → i < length cs
    → row_from 0 (map column_of (take (i + 1) cs)) ps ss
    ≡ row_from 0 (map column_of (take i cs)) ps ss ++ unwrap_or (given i ps ss) (Const Null) ∷ []
row_turn cs ps ss i l = rw (add-one, ← given_is i ps ss (Const Null)) (row_take 0 i i cs ps ss l (omega arith))

pub changed_turn : (cs : List stored.Column) (ps : List (Option scope.Place)) (ss : List meaning.Scalar) (i : ℕ)
    → i < length cs
    → changed_from 0 (map column_of (take (i + 1) cs)) ps ss
    ≡ changed_from 0 (map column_of (take i cs)) ps ss ++ unwrap_or (given i ps ss) (Column i) ∷ []
changed_turn cs ps ss i l = rw (add-one, ← given_is i ps ss (Column i)) (changed_take 0 i i cs ps ss l (omega arith))

-- ---- what the column at a place is given, one place after another

none_given : (place : ℕ) (ps : List (Option scope.Place)) → given place ps [] ≡ None
none_given place [] = refl
none_given place (p ∷ ps) = refl

none_dropped : (i : ℕ) → drop {A = Scalar} i [] ≡ []
none_dropped zero = refl
none_dropped (suc i) = refl

none_got : (i : ℕ) → option_map scalar_of (slice_get [] i) ≡ None
none_got zero = refl
none_got (suc i) = refl

if_none : (b : Bool) (x y : Option meaning.Scalar) → x ≡ None → y ≡ None → None ≡ (if b then x else y)
if_none true x y e f = sym e
if_none false x y e f = sym f

given_nothing : (place i : ℕ) (ps : List (Option Place)) (b : Bool)
    → given place (places_of (drop i ps)) (scalars_of (drop i []))
    ≡ (if b then option_map scalar_of (slice_get [] i)
    else given place (places_of (drop (suc i) ps)) (scalars_of (drop (suc i) [])))
given_nothing place i ps b =
    ap (λ (xs : List Scalar). given place (places_of (drop i ps)) (scalars_of xs)) (none_dropped i)
    ∙ none_given place (places_of (drop i ps))
    ∙ if_none b _ _ (none_got i) (none_given place (places_of (drop (suc i) ps)))

given_step : (place i : ℕ) (ps : List (Option Place)) (ss : List Scalar) (d : Option Place) → i < length ps
    → given place (places_of (drop i ps)) (scalars_of (drop i ss))
    ≡ (if is_at place (option_map place_of (get_or ps i d)) then option_map scalar_of (slice_get ss i)
    else given place (places_of (drop (suc i) ps)) (scalars_of (drop (suc i) ss)))
given_step place i [] ss d l = absurd (omega arith)
given_step place i (x ∷ ps) [] d l =
    given_nothing place i (x ∷ ps) (is_at place (option_map place_of (get_or (x ∷ ps) i d)))
given_step place zero (x ∷ ps) (s ∷ ss) d l = refl
given_step place (suc i) (x ∷ ps) (s ∷ ss) d l = given_step place i ps ss d (omega arith)

pub given_met : (place i : ℕ) (ps : List (Option Place)) (ss : List Scalar) (d : Option Place) → i < length ps
    → is_at place (option_map place_of (get_or ps i d)) ≡ true
    → given place (places_of (drop i ps)) (scalars_of (drop i ss)) ≡ option_map scalar_of (slice_get ss i)
given_met place i ps ss d l met =
    given_step place i ps ss d l
    ∙ ap (λ (b : Bool). if b then option_map scalar_of (slice_get ss i)
    else given place (places_of (drop (suc i) ps)) (scalars_of (drop (suc i) ss))) met

pub given_passed : (place i : ℕ) (ps : List (Option Place)) (ss : List Scalar) (d : Option Place) → i < length ps
    → is_at place (option_map place_of (get_or ps i d)) ≡ false
    → given place (places_of (drop i ps)) (scalars_of (drop i ss))
    ≡ given place (places_of (drop (i + 1) ps)) (scalars_of (drop (i + 1) ss))
given_passed place i ps ss d l passed =
    given_step place i ps ss d l
    ∙ ap (λ (b : Bool). if b then option_map scalar_of (slice_get ss i)
    else given place (places_of (drop (suc i) ps)) (scalars_of (drop (suc i) ss))) passed
    ∙ ap (λ (k : ℕ). given place (places_of (drop k ps)) (scalars_of (drop k ss))) (sym (add-one i))

-- ---- all columns, given in their order

elsewhere : (place k : ℕ) (p : Option scope.Place) → is_at place p ≡ true → place < k → is_at k p ≡ false
elsewhere place k None is l = absurd cc
elsewhere place k (Some p) is l = grind (arith, nat_tests)

given_in_order : (from i k : ℕ) (ps : List (Option scope.Place)) (ss : List meaning.Scalar) (d : meaning.Scalar)
    → are_in_order from ps ≡ true → length ps ≡ length ss → i < length ss → k ≡ from + i
    → given_at k ps ss d ≡ get_or ss i d
given_in_order from i k ps [] d order same l e = absurd (omega arith)
given_in_order from i k [] (s ∷ ss) d order same l e = absurd (omega (arith, same))
given_in_order from zero k (p ∷ ps) (s ∷ ss) d order same l e =
    let h = and_parts (is_at from p) (are_in_order (suc from) ps) order in
    let here : k ≡ from = omega (arith, e) in
    ap (λ (b : Bool). if b then s else given_at k ps ss d) (ap (λ (n : ℕ). is_at n p) here ∙ h.0)
given_in_order from (suc i) k (p ∷ ps) (s ∷ ss) d order same l e =
    let h = and_parts (is_at from p) (are_in_order (suc from) ps) order in
    ap (λ (b : Bool). if b then s else given_at k ps ss d) (elsewhere from k p h.0 (omega (arith, e)))
    ∙ given_in_order (suc from) i k ps ss d h.1 (omega (arith, same)) (omega arith) (omega (arith, e))

row_in_order : (from : ℕ) (cs : List table.Column) (ps : List (Option scope.Place)) (ss : List meaning.Scalar)
    → are_in_order 0 ps ≡ true → length ps ≡ length ss → from + length cs ≡ length ss
    → row_from from cs ps ss ≡ drop from ss
row_in_order from [] ps ss order same e = sym (drop_all from ss (omega (arith, e)))
row_in_order from (c ∷ cs) ps ss order same e =
    let within : from < length ss = omega (arith, e) in
    let here = given_in_order 0 from from ps ss (Const Null) order same within (omega arith) in
    let others = row_in_order (suc from) cs ps ss order same (omega (arith, e)) in
    (λ i. here i ∷ others i) ∙ sym (drop-cons ss from (Const Null) within)

-- a value for each column, in the columns' order, is the row
pub row_whole : (cs : List stored.Column) (ps : List (Option Place)) (ss : List Scalar)
    → are_in_order 0 (places_of ps) ≡ true → length ps ≡ length ss → length ss ≡ length cs
    → scalars_of ss ≡ row_from 0 (map column_of cs) (places_of ps) (scalars_of ss)
row_whole cs ps ss order places columns =
    sym (row_in_order 0 (map column_of cs) (places_of ps) (scalars_of ss) order
    (omega (arith, places, length-map ps (option_map place_of), length-map ss scalar_of))
    (omega (arith, columns, length-map cs column_of, length-map ss scalar_of)))
