-- Rows that a change leaves as they are change nothing of what it does.
--     turned_where      the turns of rows without some that stay
--     spared_effect     the effect over rows without such ones
use Rattle.std.proofs.Common.{◌≡◌, inl, inr, ℕ, Bool, true, false, cond, List, [], ◌∷◌, Option, Some, None, refl, sym, ap}
use Rattle.std.proofs.Common.{subst, ◌∙◌}
use Rattle.std.specs.Prelude.{is_some}
use Rattle.std.specs.List.{AllByRecursion}
use Rattle.std.specs.Ordering.{nat_cmp}
use Rattle.std.specs.FinMap.{get, entries, entries_sorted, get-entries, same_map, nat_cmp-IsAntisymmetric}
use Rattle.std.specs.FinMap.Entries.{where_key, is_sorted-where_key, find-where_key, same_entries}
use Rattle.std.proofs.lemmas.Cmp.{nat_cmp_total}
use Rattle.wh_value.specs.Value.{Row}
use Rattle.wh_meaning.specs.Query.{Instance, eval}
use Rattle.wh_naming.specs.Changes.{Modification, InsertRows, InsertQuery, Update, Delete, Merge}
use Rattle.wh_effect.specs.Effect.{Effect, EffectResult, Turn, Stays, with_turn, turned, updated, deleted, defined, effect}
use Rattle.wh_effect.specs.Effect.{merged, rows_in_order}
use Rattle.wh_state.specs.State.{Rows}
use Rattle.wh_machine.proofs.GotLaws.{entries_hold}
use Rattle.wh_dml.specs.Leaving.{Leaves}
use Rattle.wh_txn.specs.Touched.{IsSpared, Spares}

-- ---- what is left of the rows

abbrev there : Rows → ℕ → Bool
there rest number = is_some (get rest number)

left_of : (change : Modification) (old new : Option Row) → IsSpared change old new → new ≡ cond (is_some new) old None
left_of change old None spared = refl
left_of change old (Some row) (inl same) = same
left_of change old (Some row) (inr none) = absurd cc

entries_left : (change : Modification) (whole rest : Rows) → Spares change whole rest
    → entries rest ≡ where_key nat_cmp (there rest) (entries whole)
entries_left change whole rest spares =
    same_entries nat_cmp nat_cmp_total nat_cmp-IsAntisymmetric (entries rest)
    (where_key nat_cmp (there rest) (entries whole))
    (entries_sorted rest)
    (is_sorted-where_key nat_cmp (there rest) (entries whole) (entries_sorted whole))
    (λ number. sym (get-entries rest number)
    ∙ left_of change (get whole number) (get rest number) (spares number)
    ∙ ap (λ old. cond (there rest number) old None) (get-entries whole number)
    ∙ sym (find-where_key nat_cmp (there rest) number
    (λ other tied. ap (there rest) (sym (nat_cmp-IsAntisymmetric number other tied))) (entries whole)))

-- ---- the turns of what is left

stays_with : (entry : ℕ × Row) (turn : Option Turn) (rest : Option Effect) → turn ≡ Some Stays
    → with_turn entry turn rest ≡ rest
stays_with entry turn None is = rw is refl
stays_with entry turn (Some e) is = rw is refl

pub turned_where : (turn : Row → Option Turn) (test : ℕ → Bool) (rows : List (ℕ × Row))
    → AllByRecursion (λ e. test e.0 ≡ false → turn e.1 ≡ Some Stays) rows
    → turned turn (where_key nat_cmp test rows) ≡ turned turn rows
turned_where turn test [] stay = refl
turned_where turn test (e ∷ es) stay = by_test (test e.0) refl (turned_where turn test es stay.1)
  where
    by_test : (b : Bool) → test e.0 ≡ b → turned turn (where_key nat_cmp test es) ≡ turned turn es
        → turned turn (cond b (e ∷ where_key nat_cmp test es) (where_key nat_cmp test es)) ≡ turned turn (e ∷ es)
    by_test true is rest = ap (with_turn e (turn e.1)) rest
    by_test false is rest = rest ∙ sym (stays_with e (turn e.1) (turned turn es) (stay.0 is))

module _ (change : Modification) (whole rest : Rows) (spares : Spares change whole rest) where
  gone : (number : ℕ) (row : Row) (new : Option Row) → get rest number ≡ new
      → get whole number ≡ Some row → is_some new ≡ false
      → Leaves change row
  gone number row (Some other) is held none = absurd cc
  gone number row None is held none = by_spared (spares number)
    where
      by_spared : IsSpared change (get whole number) (get rest number) → Leaves change row
      by_spared (inl same) = absurd (cc (is, held, same))
      by_spared (inr left) = left.1 row held

  leaves : (number : ℕ) (row : Row) → get whole number ≡ Some row → there rest number ≡ false → Leaves change row
  leaves number row held none = gone number row (get rest number) refl held none

  turned_spared : (turn : Row → Option Turn) → ((row : Row) → Leaves change row → turn row ≡ Some Stays)
      → turned turn (entries rest) ≡ turned turn (entries whole)
  turned_spared turn stays =
      ap (turned turn) (entries_left change whole rest spares)
      ∙ turned_where turn (there rest) (entries whole)
      (entries_hold (λ number row. there rest number ≡ false → turn row ≡ Some Stays) whole
      (λ number row held none. stays row (leaves number row held none)))

  -- where it leaves no row, none is gone
  same_rows : ((row : Row) → Leaves change row → ⊥) → rest ≡ whole
  same_rows none = same_map nat_cmp_total nat_cmp-IsAntisymmetric rest whole
      (λ number. by_spared number (get whole number) refl (spares number))
    where
      by_spared : (number : ℕ) (old : Option Row) → get whole number ≡ old
          → IsSpared change (get whole number) (get rest number)
          → get rest number ≡ get whole number
      by_spared number old is (inl same) = same
      by_spared number None is (inr left) = left.0 ∙ sym is
      by_spared number (Some row) is (inr left) = absurd (none row (left.1 row is))

pub spared_effect : (change : Modification) (whole rest : Rows) (instance : Instance) → Spares change whole rest
    → effect change (entries rest) instance ≡ effect change (entries whole) instance
unfolding effect
spared_effect (InsertRows rows) whole rest instance spares = refl
spared_effect (InsertQuery query parts) whole rest instance spares = refl
spared_effect (Update condition parts) whole rest instance spares =
    ap defined (turned_spared (Update condition parts) whole rest spares (updated condition parts) (λ row is. is))
spared_effect (Delete condition) whole rest instance spares =
    ap defined (turned_spared (Delete condition) whole rest spares (deleted condition) (λ row is. is))
spared_effect (Merge query on clauses) whole rest instance spares =
    ap (λ (rows : Rows). merged on clauses (entries rows) (rows_in_order (eval query instance)))
    (same_rows (Merge query on clauses) whole rest spares (λ row is. is))
