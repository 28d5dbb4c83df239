-- Values, rows of values and parts of SET, one after another.
use Rattle.std.proofs.Common.{◌≡◌, ◌∙◌, ◌<◌, ◌≤◌, sym, ap, refl, ℕ, zero, suc, ◌+◌, List, [], ◌∷◌, ◌++◌, map, length}
use Rattle.std.proofs.Common.{drop, take, get_or, Option, None, add-one, arith, Bool, true, false, if◌then◌else◌}
use Rattle.std.specs.Prelude.{◌&&◌}
use Rattle.std.proofs.Math.Seq.{drop-cons}
use Rattle.std.proofs.lemmas.Bool.Decides.{nat_tests}
use Rattle.std.proofs.Math.Dec.{leb}
use Rattle.std.proofs.lemmas.List.{map_more, map-append, drop_all}
use Rattle.wh_value.specs.Column as table
use Rattle.wh_ast.specs.declared.expr.Expr.{Expr}
use Rattle.wh_ast.specs.declared.dml.Assignment.{Assignment}
use Rattle.wh_meaning.specs.Scalar.{Column}
use Rattle.wh_naming.specs.Findings.{Findings, followed}
use Rattle.wh_naming.specs.Scope.{Entry, Place}
use Rattle.wh_naming.specs.Typing.{Typed}
use Rattle.wh_naming.specs.Select.{plain}
use Rattle.wh_naming.specs.Changes.{NewRow, typed_all, all_findings, value_rows, new_row, row_findings, part_findings}
use Rattle.wh_naming.specs.Changes.{set_findings, outputs_from, fit_places}
use Rattle.wh_dml_bind.specs.Steps.{fits_at}
use Rattle.wh_core_bind.specs.View.{outputs_of}
use Rattle.wh_core_bind.specs.declared.output.Output as made
use Rattle.wh_core_bind.proofs.FindingLaws.{followed_assoc, followed_nothing}
use Rattle.wh_value.proofs.ListLaws.{drop_here}

-- ---- values

pub values_turn : {A : Type 0} (f : Typed → A) (entries : List Entry) (es : List Expr) (i : ℕ) (e : Expr)
    → i < length es → e ≡ get_or es i e
    → map f (typed_all entries (take (i + 1) es)) ≡ map f (typed_all entries (take i es)) ++ f (plain entries e) ∷ []
values_turn f entries es i e l is =
    let more = map_more (plain entries) es i e l in
    rw (more, ← is, map-append) refl

all_more : (xs : List Typed) (x : Typed) → all_findings (xs ++ x ∷ []) ≡ followed (all_findings xs) x.findings
all_more [] x = followed_nothing x.findings
all_more (y ∷ xs) x = ap (λ (f : Findings). followed y.findings f) (all_more xs x)
    ∙ sym (followed_assoc y.findings (all_findings xs) x.findings)

pub all_turn : (entries : List Entry) (es : List Expr) (i : ℕ) (e : Expr) → i < length es → e ≡ get_or es i e
    → all_findings (typed_all entries (take (i + 1) es))
    ≡ followed (all_findings (typed_all entries (take i es))) (plain entries e).findings
all_turn entries es i e l is =
    let more = map_more (plain entries) es i e l in
    rw (more, ← is) (all_more (typed_all entries (take i es)) (plain entries e))

-- ---- whether values fit their places

fit_first : (ps : List (Option Place)) (i : ℕ) (t : Option table.ColumnType) (ts : List (Option table.ColumnType))
    → fit_places (drop i ps) (t ∷ ts) ≡ (if fits_at ps i t then fit_places (drop (suc i) ps) ts else false)
fit_first [] zero t ts = refl
fit_first [] (suc i) t ts = refl
fit_first (p ∷ ps) zero t ts = refl
fit_first (p ∷ ps) (suc i) t ts = fit_first ps i t ts

if_both : (a b x : Bool) → (if a then if b then x else false else false) ≡ (if a && b then x else false)
if_both true b x = refl
if_both false b x = refl

abbrev fit_from : List (Option Place) → List Entry → List Expr → ℕ → Bool
fit_from ps entries es i = fit_places (drop i ps) (map (λ (t : Typed). t.type_of) (typed_all entries (drop i es)))

-- one value more
pub fits_turn : (ps : List (Option Place)) (entries : List Entry) (es : List Expr) (i : ℕ) (e : Expr) (so_far : Bool)
    → i < length es → e ≡ get_or es i e
    → (if so_far then fit_from ps entries es i else false)
    ≡ (if so_far && fits_at ps i (plain entries e).type_of then fit_from ps entries es (i + 1) else false)
fits_turn ps entries es i e so_far l is =
    let type_of = (plain entries e).type_of in
    let rest = map (λ (t : Typed). t.type_of) (typed_all entries (drop (i + 1) es)) in
    let step : fit_from ps entries es i ≡ (if fits_at ps i type_of then fit_from ps entries es (i + 1) else false) =
    ap (λ (xs : List Expr). fit_places (drop i ps) (map (λ (t : Typed). t.type_of) (typed_all entries xs)))
    (drop_here es i e l is)
    ∙ fit_first ps i type_of rest
    ∙ ap (λ (n : ℕ). if fits_at ps i type_of then fit_places (drop n ps) rest else false) (sym (add-one i)) in
    ap (λ (b : Bool). if so_far then b else false) step
    ∙ if_both so_far (fits_at ps i type_of) (fit_from ps entries es (i + 1))

no_place : (ps : List (Option Place)) (i : ℕ) → length ps ≤ i → fit_places (drop i ps) [] ≡ true
no_place ps i le = ap (λ (xs : List (Option Place)). fit_places xs []) (drop_all i ps le)

some_place : (ps : List (Option Place)) (i : ℕ) → i < length ps → fit_places (drop i ps) [] ≡ false
some_place ps i l = ap (λ (xs : List (Option Place)). fit_places xs []) (drop-cons ps i None l)

none_fits : (ps : List (Option Place)) (i : ℕ) → fit_places (drop i ps) [] ≡ leb (length ps) i
none_fits ps i = by_test (leb (length ps) i) refl
  where
    by_test : (b : Bool) → leb (length ps) i ≡ b → fit_places (drop i ps) [] ≡ leb (length ps) i
    by_test true is = no_place ps i (grind (arith, nat_tests)) ∙ sym is
    by_test false is = some_place ps i (grind (arith, nat_tests)) ∙ sym is

if_and : (a b : Bool) → (if a then b else false) ≡ a && b
if_and true b = refl
if_and false b = refl

-- no value is left
pub fits_all : (ps : List (Option Place)) (entries : List Entry) (es : List Expr) (i count : ℕ) (so_far : Bool)
    → length es ≤ i → i ≤ length es → length ps ≡ count
    → (if so_far then fit_from ps entries es i else false) ≡ so_far && leb count (length es)
fits_all ps entries es i count so_far le ge same =
    let end : i ≡ length es = omega (arith, le, ge) in
    let rest : fit_from ps entries es i ≡ leb count (length es) =
    ap (λ (xs : List Expr). fit_places (drop i ps) (map (λ (t : Typed). t.type_of) (typed_all entries xs)))
    (drop_all i es le)
    ∙ none_fits ps i ∙ λ k. leb (same k) (end k) in
    ap (λ (b : Bool). if so_far then b else false) rest ∙ if_and so_far (leb count (length es))

-- ---- rows of values

pub rows_turn : (columns : List table.Column) (places : List (Option Place)) (found : List (List Expr))
    (i : ℕ) (values : List Expr) → i < length found → values ≡ get_or found i values
    → map (λ (row : NewRow). row.scalars) (value_rows columns places (take (i + 1) found))
    ≡ map (λ (row : NewRow). row.scalars) (value_rows columns places (take i found))
    ++ (new_row columns places (typed_all [] values)).scalars ∷ []
rows_turn columns places found i values l is =
    let more = map_more (λ (vs : List Expr). new_row columns places (typed_all [] vs)) found i values l in
    rw (more, ← is, map-append) refl

row_more : (rows : List NewRow) (row : NewRow)
    → row_findings (rows ++ row ∷ []) ≡ followed (row_findings rows) row.findings
row_more [] row = followed_nothing row.findings
row_more (x ∷ rows) row = ap (λ (f : Findings). followed x.findings f) (row_more rows row)
    ∙ sym (followed_assoc x.findings (row_findings rows) row.findings)

pub row_findings_turn : (columns : List table.Column) (places : List (Option Place)) (found : List (List Expr))
    (i : ℕ) (values : List Expr) → i < length found → values ≡ get_or found i values
    → row_findings (value_rows columns places (take (i + 1) found))
    ≡ followed (row_findings (value_rows columns places (take i found)))
    (new_row columns places (typed_all [] values)).findings
row_findings_turn columns places found i values l is =
    let more = map_more (λ (vs : List Expr). new_row columns places (typed_all [] vs)) found i values l in
    rw (more, ← is) (row_more (value_rows columns places (take i found)) (new_row columns places (typed_all [] values)))

-- ---- parts of SET

pub set_turn : (columns : List table.Column) (entries : List Entry) (parts behind : List Assignment)
    (i : ℕ) (part : Assignment) (f found : Findings)
    → i < length parts → part ≡ get_or parts i part → behind ≡ drop (i + 1) parts
    → found ≡ part_findings columns entries part behind
    → followed (followed f found) (set_findings columns entries (drop (i + 1) parts))
    ≡ followed f (set_findings columns entries (drop i parts))
set_turn columns entries parts behind i part f found l is b e =
    followed_assoc f found (set_findings columns entries (drop (i + 1) parts))
    ∙ ap (λ (x : Findings). followed f (followed x (set_findings columns entries (drop (i + 1) parts))))
    (e ∙ ap (λ (xs : List Assignment). part_findings columns entries part xs) b)
    ∙ ap (λ (xs : List Assignment). followed f (set_findings columns entries xs)) (sym (drop_here parts i part l is))

pub set_end : (columns : List table.Column) (entries : List Entry) (parts : List Assignment) (i : ℕ) (f : Findings)
    → length parts ≤ i
    → followed f (set_findings columns entries (drop i parts)) ≡ f
set_end columns entries parts i f le = ap (λ (xs : List Assignment). followed f (set_findings columns entries xs))
    (drop_all i parts le) ∙ followed_nothing f

-- ---- columns of a query

outputs_take : (from i k : ℕ) (os : List made.Output) → i < length os → k ≡ from + i
    → outputs_from from (outputs_of (take (suc i) os)) ≡ outputs_from from (outputs_of (take i os)) ++ Column k ∷ []
outputs_take from i k [] l e = absurd (omega arith)
outputs_take from zero k (o ∷ os) l e = let same : k ≡ from = omega (arith, e) in rw same refl
outputs_take from (suc i) k (o ∷ os) l e =
    let within : i < length os = omega arith in
    let next : k ≡ suc from + i = omega (arith, e) in
    rw (outputs_take (suc from) i k os within next) refl

pub outputs_turn : (os : List made.Output) (i : ℕ) → i < length os
    → outputs_from 0 (outputs_of (take (i + 1) os)) ≡ outputs_from 0 (outputs_of (take i os)) ++ Column i ∷ []
outputs_turn os i l = rw add-one (outputs_take 0 i i os l (omega arith))
