-- Tables that are brought wave by wave, as code has them.
--     front_below     those in front of the first whose id isn't lower
--     put_one         one more, behind these
--     put_id, put_all     so of ids: one more, and several, one after the other
--     IsCountedOne, AllCounted     one that is brought by nothing new, or by the change of a query that is counted
--     MoreBrought, BringsMore     what one more wave comes to
--     WavesBrought     what some waves came to
use Rattle.std.specs.Prelude.{◌≡◌, ℕ, Bool, true, false, if◌then◌else◌, List, [], ◌∷◌, None, nat_lt}
use Rattle.std.specs.List.{AllByRecursion}
use denote.Ref.{Bor}
use Rattle.wh_reply.specs.View.{action_view}
use Rattle.wh_catalog.specs.declared.object.StoredObject.{StoredObject}
use Rattle.wh_machine.specs.Refresh as machine
use Rattle.wh_waves.specs.Settled.{SettledMore, WavesDone}
use Rattle.wh_refresh.specs.Objects.{objects_in, stored_in}
use Rattle.wh_refresh.specs.Brought.{AreBrought}
use Rattle.wh_refresh.specs.Asked.{IsCountedBy}
use Rattle.wh_refresh.specs.declared.brought.Brought.{Brought}

abbrev pub front_below : ℕ → List Brought → List Brought
front_below id [] = []
front_below id (one ∷ others) = if nat_lt one.id id then one ∷ front_below id others else []

abbrev pub put_one : Brought → List Brought → List Brought
put_one one [] = one ∷ []
put_one one (other ∷ others) = if nat_lt other.id one.id then other ∷ put_one one others else one ∷ (other ∷ others)

abbrev pub put_id : ℕ → List ℕ → List ℕ
put_id id [] = id ∷ []
put_id id (other ∷ ids) = if nat_lt other id then other ∷ put_id id ids else id ∷ (other ∷ ids)

abbrev pub put_all : List ℕ → List ℕ → List ℕ
put_all [] ids = ids
put_all (id ∷ wave) ids = put_all wave (put_id id ids)

abbrev pub IsCountedOne : List (Bor StoredObject) → Brought → Type 0
IsCountedOne objects one = IsCountedBy objects one.id (action_view one.action)

abbrev pub AllCounted : List (Bor StoredObject) → List Brought → Type 0
AllCounted objects brought = AllByRecursion (IsCountedOne objects) brought

pub record MoreBrought (objects : List (Bor StoredObject)) (stamp moment : ℕ) (ids : List ℕ) (bs : List machine.Brought)
    (wave : List ℕ) (all : List Brought) : Type 0 where
  pub more : List machine.Brought
  pub are : AreBrought (stored_in objects) all more
  pub settled : SettledMore stamp moment (objects_in objects) ids bs wave more

-- true where each has rows
abbrev pub BringsMore : List (Bor StoredObject) → ℕ → ℕ → List ℕ → List machine.Brought → List ℕ → List Brought → Bool
    → Type 0
BringsMore objects stamp moment ids bs wave all true = MoreBrought objects stamp moment ids bs wave all
BringsMore objects stamp moment ids bs wave all false =
    machine.brought_all stamp moment ids (objects_in objects) ≡ None

pub record WavesBrought (objects : List (Bor StoredObject)) (stamp moment : ℕ) (ids : List ℕ) (front : List (List ℕ))
    (all : List Brought) : Type 0 where
  pub bs : List machine.Brought
  pub are : AreBrought (stored_in objects) all bs
  pub done : WavesDone stamp moment (objects_in objects) ids front bs
