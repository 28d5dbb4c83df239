-- Objects in a list of references.
--     found_held     what one of them has in the file is among what all have
--     table_held     so is what its table has
use Rattle.std.proofs.Common.{◌≡◌, ℕ, zero, suc, List, [], ◌∷◌, Option, Some, None, Contains, sym, subst}
use Rattle.std.specs.List.{slice_get, AllByRecursion}
use Rattle.std.specs.Option.{IfSome}
use Rattle.std.proofs.lemmas.Option.{same_Some}
use denote.Ref.{Bor}
use Rattle.wh_filed.specs.Filed.{Filed}
use Rattle.wh_state.specs.State.{at_id}
use Rattle.wh_version.proofs.Among.{left_held, right_held}
use Rattle.wh_table.specs.Table as tables
use Rattle.wh_table.specs.declared.table.StoredTable.{StoredTable}
use Rattle.wh_catalog.specs.declared.object.StoredObject.{StoredObject}
use Rattle.wh_refresh.specs.Objects.{filed_one, filed_at_objects}

pub found_held : (objects : List (Bor StoredObject)) (id : ℕ) (o : Bor StoredObject) → Some o ≡ at_id objects id
    → AllByRecursion (Contains (filed_at_objects objects)) (filed_one o)
found_held objects zero o is = absurd cc
found_held objects (suc place) o is = at objects place is
  where
    at : (os : List (Bor StoredObject)) (place : ℕ) → Some o ≡ slice_get os place
        → AllByRecursion (Contains (filed_at_objects os)) (filed_one o)
    at [] place is = absurd cc
    at (x ∷ os) zero is =
        subst (λ (y : Bor StoredObject). AllByRecursion (Contains (filed_at_objects (x ∷ os))) (filed_one y))
        (same_Some _ _ (sym is)) (left_held (filed_one x) (filed_at_objects os))
    at (x ∷ os) (suc place) is = right_held (filed_one x) (filed_at_objects os) (filed_one o) (at os place is)

pub table_held : (found : Option (Bor StoredTable)) (one all : List Filed)
    → IfSome found (λ t. tables.filed_of t.now ≡ one) → AllByRecursion (Contains all) one
    → IfSome found (λ t. AllByRecursion (Contains all) (tables.filed_of t.now))
table_held None one all same held = tt
table_held (Some t) one all same held = subst (AllByRecursion (Contains all)) (sym same) held
