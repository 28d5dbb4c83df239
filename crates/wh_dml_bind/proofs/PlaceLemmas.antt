-- Places of columns, one after another.
use Rattle.std.proofs.Common.{◌≡◌, ◌∙◌, ◌<◌, ◌≤◌, sym, ap, refl, ℕ, zero, suc, ◌+◌, Bool, true, false, if◌then◌else◌}
use Rattle.std.proofs.Common.{List, [], ◌∷◌, ◌++◌, append-nil, map, length, drop, take, get_or, Option, Some, None}
use Rattle.std.proofs.Common.{add-one, arith}
use Rattle.std.proofs.lemmas.List.{drop_all, map_more}
use Rattle.wh_value.proofs.ListLaws.{drop_here}
use Rattle.wh_value.specs.Column as table
use Rattle.wh_value.specs.View.{type_of, column_of}
use Rattle.wh_value.specs.declared.column.Column as stored
use Rattle.wh_naming.specs.Findings.{Name, Findings, followed, taken_if}
use Rattle.wh_naming.specs.Scope.{Place, only, places_among, column_at}
use Rattle.wh_naming.specs.Changes.{place_in, places_from, place_findings, names_again, list_findings, fit_places}
use Rattle.wh_core_bind.proofs.FindingLaws.{followed_assoc, followed_nothing}

abbrev pub listed : {A : Type 0} → Option A → List A
listed None = []
listed (Some x) = x ∷ []

pub place_in_is : (columns : List table.Column) (name : Name)
    → only (places_among name 0 columns) ≡ place_in columns name
unfolding column_at
place_in_is columns name = ap only (sym (append-nil (places_among name 0 columns)))

places_take : (from i k : ℕ) (cs : List stored.Column) (c : stored.Column) → i < length cs → c ≡ get_or cs i c
    → k ≡ from + i
    → places_from from (map column_of (take (suc i) cs)) ≡ places_from from (map column_of (take i cs))
    ++ Some (record { place = k; column_type = type_of c.column_type }) ∷ []
places_take from i k [] c l is e = absurd (omega arith)
places_take from zero k (x ∷ cs) c l is e = let same : k ≡ from = omega (arith, e) in rw (same, is) refl
places_take from (suc i) k (x ∷ cs) c l is e =
    let within : i < length cs = omega arith in
    let next : k ≡ suc from + i = omega (arith, e) in
    rw (places_take (suc from) i k cs c within is next) refl

pub places_turn : (cs : List stored.Column) (i : ℕ) (c : stored.Column) → i < length cs → c ≡ get_or cs i c
    → places_from 0 (map column_of (take (i + 1) cs)) ≡ places_from 0 (map column_of (take i cs))
    ++ Some (record { place = i; column_type = type_of c.column_type }) ∷ []
places_turn cs i c l is = rw add-one (places_take 0 i i cs c l is (omega arith))

pub map_turn : {A B : Type 0} (f : A → B) (xs : List A) (i : ℕ) (x : A) → i < length xs → x ≡ get_or xs i x
    → map f (take (i + 1) xs) ≡ map f (take i xs) ++ f x ∷ []
map_turn f xs i x l is =
    let more = map_more f xs i x l in
    rw (more, ← is) refl

-- one name more
pub names_turn : (columns : List table.Column) (names : List Name) (i : ℕ) (name : Name) (f found : Findings)
    → i < length names → name ≡ get_or names i name
    → found ≡ followed (place_findings name (place_in columns name))
    (taken_if (names_again name (drop (i + 1) names)) name)
    → followed (followed f found) (list_findings columns (drop (i + 1) names))
    ≡ followed f (list_findings columns (drop i names))
names_turn columns names i name f found l is e =
    followed_assoc f found (list_findings columns (drop (i + 1) names))
    ∙ ap (λ (x : Findings). followed f (followed x (list_findings columns (drop (i + 1) names)))) e
    ∙ ap (λ (xs : List Name). followed f (list_findings columns xs)) (sym (drop_here names i name l is))

pub names_end : (columns : List table.Column) (names : List Name) (i : ℕ) (f : Findings) → length names ≤ i
    → followed f (list_findings columns (drop i names)) ≡ f
names_end columns names i f le =
    ap (λ (xs : List Name). followed f (list_findings columns xs)) (drop_all i names le) ∙ followed_nothing f

pub not_as_many : (ps : List (Option Place)) (ts : List (Option table.ColumnType)) → (length ps ≡ length ts → ⊥)
    → fit_places ps ts ≡ false
not_as_many [] [] apart = absurd (apart refl)
not_as_many [] (t ∷ ts) apart = refl
not_as_many (p ∷ ps) [] apart = refl
not_as_many (p ∷ ps) (t ∷ ts) apart = rw (not_as_many ps ts (λ e. apart (ap suc e))) (neither _)
  where
    neither : (b : Bool) → (if b then false else false) ≡ false
    neither true = refl
    neither false = refl
