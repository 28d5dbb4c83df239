-- Tables that a refresh brought to a moment, one after the other.
--     after_one, after_all     the objects behind one, and behind several
--     RiseAbove, AreAbove      ids, or theirs, that lie above one and rise
--     sought, edits_sought     what is done to the table of an id
use Rattle.std.specs.Prelude.{ℕ, ◌<◌, cond, List, [], ◌∷◌, Option, Some, None, nat_eq}
use Rattle.std.specs.List.{flat_map}
use Rattle.std.specs.Option.{option_and_then}
use Rattle.wh_state.specs.State.{Object}
use Rattle.wh_state.specs.Edits.{Edits}
use Rattle.wh_state.specs.Act.{all_acted}
use Rattle.wh_machine.specs.Refresh.{Brought, acts_of_one}

abbrev pub after_one : ℕ → ℕ → Brought → List Object → List Object
after_one stamp moment b objects = all_acted stamp objects (acts_of_one moment b)

abbrev pub after_all : ℕ → ℕ → List Brought → List Object → List Object
after_all stamp moment bs objects = all_acted stamp objects (flat_map (acts_of_one moment) bs)

abbrev pub RiseAbove : ℕ → List ℕ → Type 0
RiseAbove least [] = Unit {0}
RiseAbove least (id ∷ ids) = (least < id) × RiseAbove id ids

abbrev pub AreAbove : ℕ → List Brought → Type 0
AreAbove least [] = Unit {0}
AreAbove least (b ∷ bs) = (least < b.id) × AreAbove b.id bs

abbrev pub sought : ℕ → List Brought → Option Brought
sought id [] = None
sought id (b ∷ bs) = cond (nat_eq b.id id) (Some b) (sought id bs)

-- of its new version, where it has one
abbrev pub edits_sought : ℕ → List Brought → Option Edits
edits_sought id bs = option_and_then (λ b. b.edits) (sought id bs)
