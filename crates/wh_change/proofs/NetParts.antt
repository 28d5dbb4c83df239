-- Net changes by rows that went and came.
--     net_in_two         as two passes over numbers: of those that stood, and of those that stand now
--     net_by_entries     as two passes over their entries
--     net_shown          where they are all that changed, they are the changes of all rows
use Rattle.std.proofs.Common.{◌≡◌, ℕ, ◌⊎◌, inl, inr, cond, Bool, true}
use Rattle.std.proofs.Common.{false, List, [], ◌∷◌, ◌++◌, map, Option, Some, None}
use Rattle.std.proofs.Common.{refl, sym, ap, ◌∙◌}
use Rattle.std.specs.Prelude.{not, is_some}
use Rattle.std.specs.List.{filter, flat_map, AllByRecursion}
use Rattle.std.proofs.lemmas.Grind.{flat_map-append}
use Rattle.std.specs.Ordering.{nat_cmp}
use Rattle.std.proofs.lemmas.Cmp.{eq_by_cmp_equiv}
use Rattle.std.specs.FinMap.{get, entries, get-entries}
use Rattle.std.specs.FinMap.Entries.{where_key}
use Rattle.wh_value.specs.Value.{Row}
use Rattle.wh_value.specs.Order.{row_total}
use Rattle.wh_state.specs.State.{Rows}
use Rattle.wh_net.specs.Net.{RowChange, Delete, Insert, net_change, numbers_in, net}
use Rattle.wh_table.specs.Changes.{IsShown}
use Rattle.wh_change.specs.Rows.{arrival_at, changes_by, arrivals_by}
use Rattle.wh_change.proofs.Entries.{each_found, kept_entries}

abbrev numbers_of : List (ℕ × Row) → List ℕ
numbers_of es = map (λ e. e.0) es

-- ---- two passes

abbrev pub change_at : ℕ → Option Row → Option Row → List RowChange
change_at n None new = []
change_at n (Some old) new = net_change n (Some old) new

module _ (old new : Rows) where
  abbrev net_of : ℕ → List RowChange
  net_of n = net_change n (get old n) (get new n)

  one_stood : (n : ℕ) (row : Row) (found : Option Row) → found ≡ Some row
      → net_change n found (get new n) ≡ change_at n found (get new n)
  one_stood n row None is = absurd cc
  one_stood n row (Some old) is = refl

  stood : (es : List (ℕ × Row)) → AllByRecursion (λ e. get old e.0 ≡ Some e.1) es
      → flat_map net_of (numbers_of es) ≡ flat_map (λ n. change_at n (get old n) (get new n)) (numbers_of es)
  stood [] each = refl
  stood (e ∷ es) each = λ i. one_stood e.0 e.1 (get old e.0) each.0 i ++ stood es each.1 i

  abbrev lacks : ℕ → Bool
  lacks n = not (is_some (get old n))

  came : (ns : List ℕ)
      → flat_map net_of (filter lacks ns) ≡ flat_map (λ n. arrival_at n (get old n) (get new n)) ns
  came [] = refl
  came (n ∷ ns) = by_row (get old n) refl (came ns)
    where
      by_row : (found : Option Row) → get old n ≡ found
          → flat_map net_of (filter lacks ns) ≡ flat_map (λ n. arrival_at n (get old n) (get new n)) ns
          → flat_map net_of (cond (not (is_some found)) (n ∷ filter lacks ns) (filter lacks ns))
          ≡ arrival_at n found (get new n) ++ flat_map (λ n. arrival_at n (get old n) (get new n)) ns
      by_row None is rest = λ i. net_change n (is i) (get new n) ++ rest i
      by_row (Some row) is rest = rest

  pub net_in_two : net old new ≡ flat_map (λ n. change_at n (get old n) (get new n)) (numbers_in old)
      ++ flat_map (λ n. arrival_at n (get old n) (get new n)) (numbers_in new)
  unfolding net
  net_in_two =
      flat_map-append net_of (numbers_in old) (filter lacks (numbers_in new))
      ∙ (λ i. stood (entries old) (each_found old) i ++ came (numbers_in new) i)

-- ---- passes over entries

changes_on : (old new : Rows) (es : List (ℕ × Row)) → AllByRecursion (λ e. get old e.0 ≡ Some e.1) es
    → flat_map (λ n. change_at n (get old n) (get new n)) (numbers_of es) ≡ changes_by (entries new) es
changes_on old new [] each = refl
changes_on old new (e ∷ es) each =
    λ i. change_at e.0 (each.0 i) (get-entries new e.0 i) ++ changes_on old new es each.1 i

arrivals_on : (old new : Rows) (es : List (ℕ × Row)) → AllByRecursion (λ e. get new e.0 ≡ Some e.1) es
    → flat_map (λ n. arrival_at n (get old n) (get new n)) (numbers_of es) ≡ arrivals_by (entries old) es
arrivals_on old new [] each = refl
arrivals_on old new (e ∷ es) each =
    λ i. arrival_at e.0 (get-entries old e.0 i) (each.0 i) ++ arrivals_on old new es each.1 i

pub net_by_entries : (old new : Rows)
    → net old new ≡ changes_by (entries new) (entries old) ++ arrivals_by (entries old) (entries new)
net_by_entries old new =
    net_in_two old new
    ∙ (λ i. changes_on old new (entries old) (each_found old) i ++ arrivals_on old new (entries new) (each_found new) i)

-- ---- numbers that add nothing

kept_numbers : (records : ℕ → List RowChange) (test : ℕ → Bool) (es : List (ℕ × Row))
    → ((n : ℕ) → test n ≡ false → records n ≡ [])
    → flat_map records (numbers_of (where_key nat_cmp test es)) ≡ flat_map records (numbers_of es)
kept_numbers records test [] none = refl
kept_numbers records test (e ∷ es) none = by_test (test e.0) refl (kept_numbers records test es none)
  where
    by_test : (b : Bool) → test e.0 ≡ b
        → flat_map records (numbers_of (where_key nat_cmp test es)) ≡ flat_map records (numbers_of es)
        → flat_map records (numbers_of (cond b (e ∷ where_key nat_cmp test es) (where_key nat_cmp test es)))
        ≡ records e.0 ++ flat_map records (numbers_of es)
    by_test true is rest = ap (λ l. records e.0 ++ l) rest
    by_test false is rest = rest ∙ ap (λ l. l ++ flat_map records (numbers_of es)) (sym (none e.0 is))

change_same : (n : ℕ) (row : Option Row) → change_at n row row ≡ []
change_same n None = refl
change_same n (Some row) =
    ap (λ (b : Bool). cond b [] (record {
      number = n;
      action = Delete;
      is_update = true;
      row = row;
    } ∷ record {
      number = n;
      action = Insert;
      is_update = true;
      row = row;
    } ∷ [])) ((eq_by_cmp_equiv row_total).refl row)

arrival_same : (n : ℕ) (row : Option Row) → arrival_at n row row ≡ []
arrival_same n None = refl
arrival_same n (Some row) = refl

change_none : (n : ℕ) (found new : Option Row) → is_some found ≡ false → change_at n found new ≡ []
change_none n None new none = refl
change_none n (Some row) new none = absurd cc

arrival_none : (n : ℕ) (old found : Option Row) → is_some found ≡ false → arrival_at n old found ≡ []
arrival_none n None None none = refl
arrival_none n (Some row) None none = refl
arrival_none n old (Some row) none = absurd cc

module _ (old new gone arrived : Rows)
    (each : (n : ℕ) → IsShown (get old n) (get new n) (get gone n) (get arrived n)) where
  change_shown : (n : ℕ) → change_at n (get old n) (get new n) ≡ change_at n (get gone n) (get arrived n)
  change_shown n = by_either (each n)
    where
      by_either : IsShown (get old n) (get new n) (get gone n) (get arrived n)
          → change_at n (get old n) (get new n) ≡ change_at n (get gone n) (get arrived n)
      by_either (inl is) = λ i. change_at n (sym is.0 i) (sym is.1 i)
      by_either (inr is) =
          ap (λ row. change_at n row (get new n)) is.0 ∙ change_same n (get new n)
          ∙ (λ i. change_at n (sym is.1 i) (get arrived n))

  arrival_shown : (n : ℕ) → arrival_at n (get old n) (get new n) ≡ arrival_at n (get gone n) (get arrived n)
  arrival_shown n = by_either (each n)
    where
      by_either : IsShown (get old n) (get new n) (get gone n) (get arrived n)
          → arrival_at n (get old n) (get new n) ≡ arrival_at n (get gone n) (get arrived n)
      by_either (inl is) = λ i. arrival_at n (sym is.0 i) (sym is.1 i)
      by_either (inr is) =
          ap (λ row. arrival_at n row (get new n)) is.0 ∙ arrival_same n (get new n)
          ∙ sym (arrival_none n (get gone n) None refl)
          ∙ (λ i. arrival_at n (get gone n) (sym is.2 i))

  gone_either : (n : ℕ) → (get gone n ≡ get old n) ⊎ (get gone n ≡ None)
  gone_either n = by_either (each n)
    where
      by_either : IsShown (get old n) (get new n) (get gone n) (get arrived n)
          → (get gone n ≡ get old n) ⊎ (get gone n ≡ None)
      by_either (inl is) = inl is.0
      by_either (inr is) = inr is.1

  arrived_either : (n : ℕ) → (get arrived n ≡ get new n) ⊎ (get arrived n ≡ None)
  arrived_either n = by_either (each n)
    where
      by_either : IsShown (get old n) (get new n) (get gone n) (get arrived n)
          → (get arrived n ≡ get new n) ⊎ (get arrived n ≡ None)
      by_either (inl is) = inl is.1
      by_either (inr is) = inr is.2

  pub net_shown : net gone arrived ≡ net old new
  net_shown = net_in_two gone arrived ∙ (λ i. changes i ++ arrivals i) ∙ sym (net_in_two old new)
    where
      change_of : ℕ → List RowChange
      change_of n = change_at n (get gone n) (get arrived n)

      arrival_of : ℕ → List RowChange
      arrival_of n = arrival_at n (get gone n) (get arrived n)

      changes : flat_map change_of (numbers_in gone)
          ≡ flat_map (λ n. change_at n (get old n) (get new n)) (numbers_in old)
      changes =
          ap (λ es. flat_map change_of (numbers_of es)) (sym (kept_entries old gone gone_either))
          ∙ kept_numbers change_of (λ n. is_some (get gone n)) (entries old)
          (λ n none. change_none n (get gone n) (get arrived n) none)
          ∙ (λ i. flat_map (λ n. sym (change_shown n) i) (numbers_of (entries old)))

      arrivals : flat_map arrival_of (numbers_in arrived)
          ≡ flat_map (λ n. arrival_at n (get old n) (get new n)) (numbers_in new)
      arrivals =
          ap (λ es. flat_map arrival_of (numbers_of es)) (sym (kept_entries new arrived arrived_either))
          ∙ kept_numbers arrival_of (λ n. is_some (get arrived n)) (entries new)
          (λ n none. arrival_none n (get gone n) (get arrived n) none)
          ∙ (λ i. flat_map (λ n. sym (arrival_shown n) i) (numbers_of (entries new)))
