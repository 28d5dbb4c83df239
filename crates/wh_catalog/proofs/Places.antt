-- An object at its place, and another one put there: all else is the same.
--     at_place, kept, stands    the object of an id, as it is kept, and what the file says of it
--     changed, kept_changed     what is put there is what was there, changed
--     same_kept, same_stored    what is put there stands for the same
--     put_back                  a change that leads back to what was there
use Rattle.std.proofs.Common.{◌≡◌, ℕ, zero, suc, List, [], ◌∷◌, map, length, set, get_or, Some, option_map}
use Rattle.std.proofs.Common.{refl, sym, ap, ◌∙◌, arith}
use Rattle.std.proofs.Math.Seq.{map-set_same}
use Rattle.std.proofs.Math.ListN.{get_or-map}
use Rattle.std.proofs.lemmas.List.{map-set, length-set, set-get_or, get_or-set_same}
use Rattle.std.proofs.lemmas.Option.{slice_get_read}
use Rattle.wh_state.specs.State.{at_id, with_id, put_at, changed_at}
use Rattle.wh_state.specs.Stored as machine
use Rattle.wh_state.proofs.IdLaws.{map_at}
use Rattle.wh_catalog.specs.declared.object.StoredObject.{StoredObject}
use Rattle.wh_catalog.specs.Undoable.{KeptObject, object_in}
use Rattle.wh_catalog.specs.Object.{kept_object, kept_objects, stored_objects, IsPlaceOf}

-- ---- lists

put : {A : Type 0} (xs : List A) (id place : ℕ) (old new : A) (g : A → A) → id ≡ suc place → at_id xs id ≡ Some old
    → new ≡ g old → set xs place new ≡ changed_at xs id g
put xs id place old new g before found same =
    ap (set xs place) same
    ∙ ap (λ n. with_id xs n (g old)) (sym before)
    ∙ ap (λ o. put_at xs id (option_map g o)) (sym found)

set_twice : {A : Type 0} (xs : List A) (i : ℕ) (x y : A) → set (set xs i x) i y ≡ set xs i y
set_twice [] i x y = refl
set_twice (z ∷ xs) zero x y = refl
set_twice (z ∷ xs) (suc i) x y = ap (λ l. z ∷ l) (set_twice xs i x y)

-- ---- objects

module _ {xs : List StoredObject} {id place : ℕ} {old : StoredObject} (at : IsPlaceOf id xs place)
    (is : old ≡ get_or xs place old) where
  pub at_place : at_id xs id ≡ Some old
  at_place = ap (at_id xs) at.before ∙ slice_get_read xs (length xs) place old refl at.within is

  pub kept : at_id (kept_objects xs) id ≡ Some (kept_object old)
  kept = map_at kept_object xs id ∙ ap (option_map kept_object) at_place

  pub stands : at_id (stored_objects xs) id ≡ Some (object_in (kept_object old))
  stands = map_at object_in (kept_objects xs) id ∙ ap (option_map object_in) kept

  module _ (new : StoredObject) where
    pub changed : (g : machine.StoredObject → machine.StoredObject)
        → object_in (kept_object new) ≡ g (object_in (kept_object old))
        → stored_objects (set xs place new) ≡ changed_at (stored_objects xs) id g
    changed g same =
        ap (map object_in) (map-set kept_object xs place new)
        ∙ map-set object_in (kept_objects xs) place (kept_object new)
        ∙ put (stored_objects xs) id place (object_in (kept_object old)) (object_in (kept_object new)) g at.before
        stands same

    pub kept_changed : (g : KeptObject → KeptObject) → kept_object new ≡ g (kept_object old)
        → kept_objects (set xs place new) ≡ changed_at (kept_objects xs) id g
    kept_changed g same =
        map-set kept_object xs place new
        ∙ put (kept_objects xs) id place (kept_object old) (kept_object new) g at.before kept same

    pub same_kept : kept_object new ≡ kept_object old → kept_objects (set xs place new) ≡ kept_objects xs
    same_kept same = map-set_same kept_object xs place new old (same ∙ ap kept_object is)

    pub same_stored : object_in (kept_object new) ≡ object_in (kept_object old)
        → stored_objects (set xs place new) ≡ stored_objects xs
    same_stored same =
        ap (map object_in) (map-set kept_object xs place new)
        ∙ map-set_same object_in (kept_objects xs) place (kept_object new) (kept_object old)
        (same ∙ ap object_in (ap kept_object is ∙ sym (get_or-map kept_object xs place old)))

module _ {xs : List StoredObject} {id place : ℕ} {old : StoredObject} (at : IsPlaceOf id xs place)
    (is : old ≡ get_or xs place old) (new : StoredObject) where
  still : IsPlaceOf id (set xs place new) place
  still = record { before = at.before; within = omega (arith, at.within, length-set xs place new) }

  pub put_back : (g : KeptObject → KeptObject) → g (kept_object new) ≡ kept_object old
      → changed_at (kept_objects (set xs place new)) id g ≡ kept_objects xs
  put_back g back =
      sym (kept_changed still (sym (get_or-set_same xs place new new at.within)) old g (sym back))
      ∙ ap kept_objects (set_twice xs place new old ∙ ap (set xs place) is ∙ set-get_or xs place old)
