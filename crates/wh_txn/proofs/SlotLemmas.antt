-- Places of sessions, each with at most one open transaction.
--     with_slot, slot_in, slot_same     another transaction at a place, the one there, and one that stands for the same
--     held_first, held_later     who holds an object among the others: one before a place, or one behind it
use Rattle.std.proofs.Common.{◌≡◌, ℕ, zero, suc, ◌+◌, ◌<◌, true, false, List, [], ◌∷◌, length, map, take, drop}
use Rattle.std.proofs.Common.{Option, Some, None, option_map, is_some, refl, sym, ap, ◌∙◌, arith}
use Rattle.std.specs.Prelude.{slice_get, slice_set, slice_index_or, unwrap_or}
use Rattle.std.proofs.lemmas.List.{length-map, take-map, drop-map}
use Rattle.std.proofs.lemmas.Option.{slice_get-get_or}
use Rattle.std.proofs.Math.Seq.{map-set_same}
use Rattle.wh_state.proofs.IdLaws.{map_at, map_with}
use Rattle.wh_machine.specs.Sessions.{Sessions, held_by, or_later, holder, locked_by}
use Rattle.wh_txn.specs.declared.transaction.Transaction as code
use Rattle.wh_txn.specs.View.{transaction_of}

or_later_again : (a b c : Option ℕ) → or_later a (or_later b c) ≡ or_later (or_later a b) c
or_later_again None b c = refl
or_later_again (Some number) b c = refl

held_apart : (xs : Sessions) (place id : ℕ) → place < length xs
    → locked_by xs place id ≡ or_later (holder (take place xs) id) (holder (drop (suc place) xs) id)
held_apart [] place id within = absurd (omega arith)
held_apart (x ∷ xs) zero id within = refl
held_apart (x ∷ xs) (suc place) id within =
    ap (or_later (held_by id x)) (held_apart xs place id (omega arith))
    ∙ or_later_again (held_by id x) (holder (take place xs) id) (holder (drop (suc place) xs) id)

module _ (slots : List (Option code.Transaction)) (place id : ℕ) (within : place < length slots) (earlier : Option ℕ)
    (is : earlier ≡ holder (map (option_map transaction_of) (take place slots)) id) where
  apart : locked_by (map (option_map transaction_of) slots) place id
      ≡ or_later earlier (holder (map (option_map transaction_of) (drop (suc place) slots)) id)
  apart =
      held_apart (map (option_map transaction_of) slots) place id
      (omega (arith, length-map slots (option_map transaction_of)))
      ∙ (λ i. or_later (holder (take-map (option_map transaction_of) place slots i) id)
      (holder (drop-map (option_map transaction_of) (suc place) slots i) id))
      ∙ ap (λ (o : Option ℕ). or_later o (holder (map (option_map transaction_of) (drop (suc place) slots)) id))
      (sym is)

  taken : (o later : Option ℕ) → is_some o ≡ true → or_later o later ≡ o
  taken None later some = absurd cc
  taken (Some number) later some = refl

  passed : (o later : Option ℕ) → is_some o ≡ false → or_later o later ≡ later
  passed None later none = refl
  passed (Some number) later none = absurd cc

  pub held_first : is_some earlier ≡ true → earlier ≡ locked_by (map (option_map transaction_of) slots) place id
  held_first some = sym (apart ∙ taken earlier _ some)

  pub held_later : (rest : List (Option code.Transaction)) → rest ≡ drop (place + 1) slots → is_some earlier ≡ false
      → holder (map (option_map transaction_of) rest) id ≡ locked_by (map (option_map transaction_of) slots) place id
  held_later rest is none =
      let next : place + 1 ≡ suc place = omega arith in
      ap (λ (l : List (Option code.Transaction)). holder (map (option_map transaction_of) l) id)
      (is ∙ ap (λ (n : ℕ). drop n slots) next)
      ∙ sym (apart ∙ passed earlier _ none)

-- ---- places

pub with_slot : (slots : List (Option code.Transaction)) (place : ℕ) (t : Option code.Transaction)
    → map (option_map transaction_of) (slice_set slots place t)
    ≡ slice_set (map (option_map transaction_of) slots) place (option_map transaction_of t)
with_slot slots place t = map_with (option_map transaction_of) slots (suc place) t

module _ (slots : List (Option code.Transaction)) (place : ℕ) (old : Option code.Transaction)
    (within : place < length slots) (is : old ≡ slice_index_or slots place old) where
  pub slot_in : unwrap_or (slice_get (map (option_map transaction_of) slots) place) None ≡ option_map transaction_of old
  slot_in =
      let there : slice_get slots place ≡ Some old = slice_get-get_or slots place old within ∙ ap Some (sym is) in
      ap (λ o. unwrap_or o None)
      (map_at (option_map transaction_of) slots (suc place) ∙ ap (option_map (option_map transaction_of)) there)

  pub slot_same : (new : Option code.Transaction) → option_map transaction_of new ≡ option_map transaction_of old
      → map (option_map transaction_of) (slice_set slots place new) ≡ map (option_map transaction_of) slots
  slot_same new same =
      map-set_same (option_map transaction_of) slots place new old (same ∙ ap (option_map transaction_of) is)
