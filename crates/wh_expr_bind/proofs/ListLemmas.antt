-- Entries and columns, with one more at the end, and the one of several.
use Rattle.std.proofs.Common.{◌≡◌, ℕ, suc, ◌+◌, Bool, true, false, List, [], ◌∷◌, ◌++◌, length, Option}
use Rattle.std.proofs.Common.{Some, None, refl, sym, ◌∙◌, append_assoc, append-nil, bytes_eq, arith}
use Rattle.std.proofs.Common.{if◌then◌else◌, ◌<◌, take, get_or, map}
use Rattle.std.specs.Prelude.{is_some}
use Rattle.std.proofs.lemmas.List.{map_more, length-take-le, length-map}
use Rattle.wh_value.specs.Column.{Column}
use Rattle.wh_value.specs.View.{type_of, column_of}
use Rattle.wh_value.specs.declared.column.Column as stored
use Rattle.wh_expr_bind.specs.declared.entries.Entry as made
use Rattle.wh_expr_bind.specs.View.{entry_of, entries_of}
use Rattle.wh_naming.specs.Findings.{Name}
use Rattle.wh_naming.specs.Scope.{Entry, width, places_among, places_of, may_be_of, spans_of, only}

pub width_more : (es : List Entry) (e : Entry) → width (es ++ e ∷ []) ≡ width es + length e.columns
width_more [] e = omega arith
width_more (x ∷ es) e = omega (arith, width_more es e)

-- ---- the last of a list, and whether there are others

abbrev pub last : {A : Type 0} → List A → Option A
last [] = None
last (x ∷ []) = Some x
last (x ∷ y ∷ xs) = last (y ∷ xs)

abbrev pub is_several : {A : Type 0} → List A → Bool
is_several [] = false
is_several (x ∷ []) = false
is_several (x ∷ y ∷ xs) = true

last_some : {A : Type 0} (x : A) (xs : List A) → is_some (last (x ∷ xs)) ≡ true
last_some x [] = refl
last_some x (y ∷ xs) = last_some y xs

pub last_more : {A : Type 0} (xs : List A) (x : A) → last (xs ++ x ∷ []) ≡ Some x
last_more [] x = refl
last_more (y ∷ []) x = refl
last_more (y ∷ z ∷ xs) x = last_more (z ∷ xs) x

pub is_several_more : {A : Type 0} (xs : List A) (x : A) → is_several (xs ++ x ∷ []) ≡ is_some (last xs)
is_several_more [] x = refl
is_several_more (y ∷ []) x = refl
is_several_more (y ∷ z ∷ xs) x = sym (last_some z xs)

pub only_last : {A : Type 0} (xs : List A) → only xs ≡ (if is_several xs then None else last xs)
only_last [] = refl
only_last (x ∷ []) = refl
only_last (x ∷ y ∷ xs) = refl

-- ---- spans and places

pub spans_more : (name : Name) (from : ℕ) (es : List Entry) (e : Entry) → spans_of name from (es ++ e ∷ [])
    ≡ spans_of name from es
    ++ (if bytes_eq e.name name then record { from = from + width es; columns = e.columns } ∷ [] else [])
spans_more name from [] e = let same : from + 0 ≡ from = omega arith in rw (same, append-nil) refl
spans_more name from (x ∷ es) e =
    let same : from + (length x.columns + width es) ≡ (from + length x.columns) + width es = omega arith in
    rw (same, spans_more name (from + length x.columns) es e, append_assoc) refl

pub places_among_more : (name : Name) (from : ℕ) (cs : List Column) (c : Column) → places_among name from (cs ++ c ∷ [])
    ≡ places_among name from cs
    ++ (if bytes_eq c.name name then record { place = from + length cs; column_type = c.column_type } ∷ [] else [])
places_among_more name from [] c = let same : from + 0 ≡ from = omega arith in rw (same, append-nil) refl
places_among_more name from (x ∷ cs) c =
    let same : from + suc (length cs) ≡ suc from + length cs = omega arith in
    rw (same, places_among_more name (suc from) cs c, append_assoc) refl

pub places_of_more : (entry : Option Name) (name : Name) (from : ℕ) (es : List Entry) (e : Entry)
    → places_of entry name from (es ++ e ∷ [])
    ≡ places_of entry name from es ++ (if may_be_of entry e then places_among name (from + width es) e.columns else [])
places_of_more entry name from [] e = let same : from + 0 ≡ from = omega arith in rw (same, append-nil) refl
places_of_more entry name from (x ∷ es) e =
    let same : from + (length x.columns + width es) ≡ (from + length x.columns) + width es = omega arith in
    rw (same, places_of_more entry name (from + length x.columns) es e, append_assoc) refl

-- ---- one turn of a loop over entries or columns

pub width_turn : (es : List made.Entry) (i : ℕ) (e : made.Entry) → i < length es → e ≡ get_or es i e
    → width (entries_of (take (i + 1) es)) ≡ width (entries_of (take i es)) + length e.columns.items
width_turn es i e l is =
    let more = map_more entry_of es i e l in
    rw (more, ← is, width_more (entries_of (take i es)) (entry_of e), length-map) refl

pub spans_turn : (name : Name) (es : List made.Entry) (i : ℕ) (e : made.Entry) → i < length es → e ≡ get_or es i e
    → spans_of name 0 (entries_of (take (i + 1) es))
    ≡ spans_of name 0 (entries_of (take i es)) ++ (if bytes_eq e.name name
    then record { from = width (entries_of (take i es)); columns = map column_of e.columns.items } ∷ [] else [])
spans_turn name es i e l is =
    let more = map_more entry_of es i e l in
    let same : 0 + width (entries_of (take i es)) ≡ width (entries_of (take i es)) = omega arith in
    rw (more, ← is, spans_more name 0 (entries_of (take i es)) (entry_of e), same) refl

pub spans_met : (name : Name) (es : List made.Entry) (i : ℕ) (e : made.Entry) → i < length es → e ≡ get_or es i e
    → bytes_eq e.name name ≡ true
    → (last (spans_of name 0 (entries_of (take (i + 1) es)))
    ≡ Some (record { from = width (entries_of (take i es)); columns = map column_of e.columns.items }))
    × (is_several (spans_of name 0 (entries_of (take (i + 1) es)))
    ≡ is_some (last (spans_of name 0 (entries_of (take i es)))))
spans_met name es i e l is met =
    let turn = spans_turn name es i e l is in (
      rw (turn, met) (last_more (spans_of name 0 (entries_of (take i es))) _),
      rw (turn, met) (is_several_more (spans_of name 0 (entries_of (take i es))) _),
    )

pub spans_passed : (name : Name) (es : List made.Entry) (i : ℕ) (e : made.Entry) → i < length es → e ≡ get_or es i e
    → bytes_eq e.name name ≡ false
    → spans_of name 0 (entries_of (take (i + 1) es)) ≡ spans_of name 0 (entries_of (take i es))
spans_passed name es i e l is met =
    let turn = spans_turn name es i e l is in
    rw (turn, met, append-nil) refl

pub places_of_turn : (entry : Option Name) (name : Name) (es : List made.Entry) (i : ℕ) (e : made.Entry)
    → i < length es → e ≡ get_or es i e
    → places_of entry name 0 (entries_of (take (i + 1) es))
    ≡ places_of entry name 0 (entries_of (take i es)) ++ (if may_be_of entry (entry_of e)
    then places_among name (width (entries_of (take i es))) (map column_of e.columns.items) else [])
places_of_turn entry name es i e l is =
    let more = map_more entry_of es i e l in
    let same : 0 + width (entries_of (take i es)) ≡ width (entries_of (take i es)) = omega arith in
    rw (more, ← is, places_of_more entry name 0 (entries_of (take i es)) (entry_of e), same) refl

pub places_among_turn : (name : Name) (from : ℕ) (cs : List stored.Column) (i : ℕ) (c : stored.Column)
    → i < length cs → c ≡ get_or cs i c
    → places_among name from (map column_of (take (i + 1) cs))
    ≡ places_among name from (map column_of (take i cs))
    ++ (if bytes_eq c.name name then record { place = from + i; column_type = type_of c.column_type } ∷ [] else [])
places_among_turn name from cs i c l is =
    let more = map_more column_of cs i c l in
    let passed : length (map column_of (take i cs)) ≡ i =
    length-map (take i cs) column_of ∙ length-take-le i cs (omega arith) in
    rw (more, ← is, places_among_more name from (map column_of (take i cs)) (column_of c), passed) refl
