-- What a pass over the bytes of rows says is what their values say.
--     items_count                          so many items are read as are counted
--     starts_is, absorbs_is, skims_is      of a first row, of one more, and of further rows that rise
use Rattle.std.specs.Prelude.{◌≡◌, ℕ, zero, suc, ◌+◌, Bool, true, false, ◌&&◌, nat_le, List, [], ◌∷◌, map, length}
use Rattle.std.specs.Prelude.{Option, Some, None}
use Rattle.std.proofs.Common.{cond, refl, sym, ap, ◌∙◌}
use Rattle.std.specs.Int.{w64}
use Rattle.std.proofs.lemmas.Option.{same_Some}
use Rattle.wh_value.specs.Value.{Value, Row}
use Rattle.wh_part.specs.Reading.{Reader, ◌>>=◌, as_at, items_at, number_at}
use Rattle.wh_part.specs.Decoding.{value_at, row_at, rises_from}
use Rattle.wh_part.specs.Extent.{Extent, started, absorbed, row_absorbed, rows_absorbed}
use Rattle.wh_part.specs.Skim.{start_at, starts_at, absorbs_at, row_skim_at, skims_at}
use Rattle.wh_part.proofs.ReaderLaws.{bind_some}

pub items_count : {X : Type 0} (reader : Reader X) (n : ℕ) (bytes : List ℕ) (xs : List X) (rest : List ℕ)
    → items_at reader n bytes ≡ Some (xs, rest)
    → length xs ≡ n
unfolding items_at
items_count {X} reader zero bytes xs rest e =
    ap (λ (z : List X × List ℕ). length z.0) (sym (same_Some ([], bytes) (xs, rest) e))
items_count {X} reader (suc n) bytes xs rest e =
    let a = bind_some (reader bytes) (λ x. items_at reader n x.1 >>= λ xs. Some (x.0 ∷ xs.0, xs.1)) (xs, rest) e in
    let b = bind_some (items_at reader n a.0.1) (λ xs. Some (a.0.0 ∷ xs.0, xs.1)) (xs, rest) a.2 in
    ap (λ (z : List X × List ℕ). length z.0) (sym (same_Some (a.0.0 ∷ b.0.0, b.0.1) (xs, rest) b.2))
    ∙ ap suc (items_count reader n a.0.1 b.0.0 b.0.1 b.1)

-- ---- a row

abbrev Values : Type 0
Values = Option (List Value × List ℕ)

-- one more in front of those that are read
abbrev value_first : Value → List Value × List ℕ → Values
value_first v xs = Some (v ∷ xs.0, xs.1)

abbrev extent_first : Extent → List Extent × List ℕ → Option (List Extent × List ℕ)
extent_first e xs = Some (e ∷ xs.0, xs.1)

-- what is said of a value, of a first row and of one more
abbrev one_started : Value × List ℕ → Option (Extent × List ℕ)
one_started v = Some (started v.0, v.1)

abbrev all_started : List Value × List ℕ → Option (List Extent × List ℕ)
all_started x = Some (map started x.0, x.1)

abbrev all_absorbed : List Extent → List Value × List ℕ → Option (List Extent × List ℕ)
all_absorbed es x = Some (row_absorbed es x.0, x.1)

starts_rest : (v : Value) (o : Values)
    → ((o >>= all_started) >>= extent_first (started v)) ≡ ((o >>= value_first v) >>= all_started)
starts_rest v None = refl
starts_rest v (Some x) = refl

starts_more : (n : ℕ) → ((bytes : List ℕ) → starts_at n bytes ≡ (items_at value_at n bytes >>= all_started))
    → (o : Option (Value × List ℕ))
    → ((o >>= one_started) >>= λ x. starts_at n x.1 >>= extent_first x.0)
    ≡ ((o >>= λ v. items_at value_at n v.1 >>= value_first v.0) >>= all_started)
starts_more n rest None = refl
starts_more n rest (Some v) =
    ap (λ (o : Option (List Extent × List ℕ)). o >>= extent_first (started v.0)) (rest v.1)
    ∙ starts_rest v.0 (items_at value_at n v.1)

pub starts_is : (n : ℕ) (bytes : List ℕ) → starts_at n bytes ≡ as_at (map started) (items_at value_at n) bytes
unfolding items_at start_at
starts_is zero bytes = refl
starts_is (suc n) bytes = starts_more n (starts_is n) (value_at bytes)

absorbs_rest : (e : Extent) (es : List Extent) (v : Value) (o : Values)
    → ((o >>= all_absorbed es) >>= extent_first (absorbed e v)) ≡ ((o >>= value_first v) >>= all_absorbed (e ∷ es))
absorbs_rest e es v None = refl
absorbs_rest e es v (Some x) = refl

absorbs_more : (e : Extent) (es : List Extent)
    → ((bytes : List ℕ) → absorbs_at es bytes ≡ (items_at value_at (length es) bytes >>= all_absorbed es))
    → (o : Option (Value × List ℕ))
    → (o >>= λ v. absorbs_at es v.1 >>= extent_first (absorbed e v.0))
    ≡ ((o >>= λ v. items_at value_at (length es) v.1 >>= value_first v.0) >>= all_absorbed (e ∷ es))
absorbs_more e es rest None = refl
absorbs_more e es rest (Some v) =
    ap (λ (o : Option (List Extent × List ℕ)). o >>= extent_first (absorbed e v.0)) (rest v.1)
    ∙ absorbs_rest e es v.0 (items_at value_at (length es) v.1)

pub absorbs_is : (es : List Extent) (bytes : List ℕ)
    → absorbs_at es bytes ≡ as_at (row_absorbed es) (items_at value_at (length es)) bytes
unfolding items_at absorbs_at
absorbs_is [] bytes = refl
absorbs_is (e ∷ es) bytes = absorbs_more e es (absorbs_is es) (value_at bytes)

pub length-row_absorbed : (es : List Extent) (row : Row) → length (row_absorbed es row) ≡ length es
length-row_absorbed [] row = refl
length-row_absorbed (e ∷ es) [] = refl
length-row_absorbed (e ∷ es) (v ∷ row) = ap suc (length-row_absorbed es row)

-- ---- further rows

abbrev Rows : Type 0
Rows = Option (List (ℕ × Row) × List ℕ)

-- the least number that may follow
abbrev pub next_after : ℕ → List (ℕ × Row) → ℕ
next_after least [] = least
next_after least (e ∷ es) = next_after (e.0 + 1) es

-- what is said of rows, if they rise
abbrev pub if_rising : ℕ → List Extent → List (ℕ × Row) × List ℕ → Option ((ℕ × List Extent) × List ℕ)
if_rising least es x = cond (rises_from least x.0) (Some ((next_after least x.0, rows_absorbed es x.0), x.1)) None

abbrev row_first : ℕ × Row → List (ℕ × Row) × List ℕ → Rows
row_first r xs = Some (r ∷ xs.0, xs.1)

abbrev numbered : ℕ → List Value × List ℕ → Option ((ℕ × Row) × List ℕ)
numbered k x = Some ((k, x.0), x.1)

abbrev Skimmed : Type 0
Skimmed = Option ((ℕ × List Extent) × List ℕ)

abbrev behind_number : ℕ → List Extent × List ℕ → Skimmed
behind_number k x = Some ((k + 1, x.0), x.1)

-- a row that is read in front of the others
in_front : (least : ℕ) (es : List Extent) (r : ℕ × Row) (o : Rows) → nat_le least r.0 ≡ true
    → ((o >>= row_first r) >>= if_rising least es) ≡ (o >>= if_rising (r.0 + 1) (row_absorbed es r.1))
in_front least es r None h = refl
in_front least es r (Some x) h = rw h refl

behind_none : (least : ℕ) (es : List Extent) (r : ℕ × Row) (o : Rows) → nat_le least r.0 ≡ false
    → ((o >>= row_first r) >>= if_rising least es) ≡ None
behind_none least es r None h = refl
behind_none least es r (Some x) h = rw h refl

module _ (n : ℕ)
    (rest : (least : ℕ) (es : List Extent) (bytes : List ℕ)
    → skims_at n least es bytes ≡ (items_at (row_at (length es)) n bytes >>= if_rising least es)) where
  abbrev skims_on : (ℕ × List Extent) × List ℕ → Skimmed
  skims_on x = skims_at n x.0.0 x.0.1 x.1

  abbrev rows_on : ℕ → (ℕ × Row) × List ℕ → Rows
  rows_on width r = items_at (row_at width) n r.1 >>= row_first r.0

  by_test : (least : ℕ) (es : List Extent) (k : ℕ) (row : Row) (bytes : List ℕ) (b : Bool) → nat_le least k ≡ b
      → (cond b (Some ((k + 1, row_absorbed es row), bytes)) None >>= skims_on)
      ≡ (rows_on (length es) ((k, row), bytes) >>= if_rising least es)
  by_test least es k row bytes true h =
      rest (k + 1) (row_absorbed es row) bytes
      ∙ ap (λ (w : ℕ). items_at (row_at w) n bytes >>= if_rising (k + 1) (row_absorbed es row))
      (length-row_absorbed es row)
      ∙ sym (in_front least es (k, row) (items_at (row_at (length es)) n bytes) h)
  by_test least es k row bytes false h =
      sym (behind_none least es (k, row) (items_at (row_at (length es)) n bytes) h)

  none_either : (b : Bool) → ((cond b None None) >>= skims_on) ≡ None
  none_either true = refl
  none_either false = refl

  by_row : (least : ℕ) (es : List Extent) (k : ℕ) (o : Values)
      → (cond (nat_le least k) ((o >>= all_absorbed es) >>= behind_number k) None >>= skims_on)
      ≡ (((o >>= numbered k) >>= rows_on (length es)) >>= if_rising least es)
  by_row least es k None = none_either (nat_le least k)
  by_row least es k (Some y) = by_test least es k y.0 y.1 (nat_le least k) refl

  by_number : (least : ℕ) (es : List Extent) (o : Option (ℕ × List ℕ))
      → ((o >>= λ k. cond (nat_le least k.0) (absorbs_at es k.1 >>= behind_number k.0) None) >>= skims_on)
      ≡ (((o >>= λ k. items_at value_at (length es) k.1 >>= numbered k.0) >>= rows_on (length es))
      >>= if_rising least es)
  by_number least es None = refl
  by_number least es (Some k) =
      ap (λ (o : Option (List Extent × List ℕ)). cond (nat_le least k.0) (o >>= behind_number k.0) None >>= skims_on)
      (absorbs_is es k.1)
      ∙ by_row least es k.0 (items_at value_at (length es) k.1)

pub skims_is : (n least : ℕ) (es : List Extent) (bytes : List ℕ)
    → skims_at n least es bytes ≡ (items_at (row_at (length es)) n bytes >>= if_rising least es)
unfolding items_at skims_at row_skim_at row_at
skims_is zero least es bytes = refl
skims_is (suc n) least es bytes = by_number n (skims_is n) least es (number_at w64 bytes)
