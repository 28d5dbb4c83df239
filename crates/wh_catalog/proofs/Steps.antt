-- Steps one after the other, and faults of calls.
--     undone_more              one more step is undone first
--     follows_on, follows_from     groups that are set behind a change, with it in front and without
--     same_fault, ok_with      what a call gives
use Rattle.std.proofs.Common.{◌≡◌, ℕ, List, [], ◌∷◌, ◌++◌, Option, Ok, Err, refl, sym, ap, subst}
use Rattle.std.specs.Prelude.{Result, IsErrOf, OnOk}
use Rattle.wh_state.specs.Stored.{StoredObject}
use Rattle.wh_state.specs.Commit.{Change, changed, groups_set, groups_due, GroupsFollow}
use Rattle.wh_catalog.specs.Undoable.{KeptObject}
use Rattle.wh_catalog.specs.declared.undo.Step.{Step}
use Rattle.wh_catalog.specs.Undo.{step_undone, undone}

pub undone_more : (steps : List Step) (step : Step) (objects : List KeptObject)
    → undone (steps ++ step ∷ []) objects ≡ undone steps (step_undone step objects)
undone_more [] step objects = refl
undone_more (s ∷ steps) step objects = ap (step_undone s) (undone_more steps step objects)

module _ (stamp : ℕ) (objects behind : List StoredObject) (due next : Option ℕ) (c : Change) (cs : List Change)
    (after : behind ≡ changed stamp objects c) (is : next ≡ groups_due objects c) where
  pub follows_on : groups_set c ≡ due → GroupsFollow stamp behind next cs → GroupsFollow stamp objects due (c ∷ cs)
  follows_on here rest =
      let P : List StoredObject → Type 0 = λ os. GroupsFollow stamp os next cs in
      let Q : Option ℕ → Type 0 = λ d. GroupsFollow stamp (changed stamp objects c) d cs in
      (here, subst Q is (subst P after rest))

  pub follows_from : GroupsFollow stamp objects due (c ∷ cs) → GroupsFollow stamp behind next cs
  follows_from all =
      let P : List StoredObject → Type 0 = λ os. GroupsFollow stamp os next cs in
      let Q : Option ℕ → Type 0 = λ d. GroupsFollow stamp (changed stamp objects c) d cs in
      subst P (sym after) (subst Q (sym is) all.1)

-- a fault is the same one whatever the call gives at Ok
pub same_fault : {T U E : Type 0} (fault why : E) → IsErrOf {T = T} (Err fault) why → IsErrOf {T = U} (Err fault) why
same_fault {T} {U} {E} fault why is = let e : fault ≡ why = cc in ap {B = Result U E} Err e

-- one more fact beside what a call gives at Ok
pub ok_with : {T E Q : Type 0} (P : Type 0) (r : Result T E) → Q → OnOk r P → OnOk r (P × Q)
ok_with P (Ok x) more given = (given, more)
ok_with P (Err e) more given = tt
