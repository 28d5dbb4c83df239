-- Lists without their last or their first element.
--     behind        without the first, if that is asked
--     but_last      all but the last
--     shortened     the same, though the first stays
use Rattle.std.specs.Prelude.{◌-◌, Bool, true, false, List, [], ◌∷◌, length, take}

abbrev pub but_last : {X : Type 0} → List X → List X
but_last xs = take (length xs - 1) xs

abbrev pub shortened : {X : Type 0} → List X → List X
shortened [] = []
shortened (x ∷ xs) = x ∷ but_last xs

abbrev pub behind : {X : Type 0} → Bool → List X → List X
behind false xs = xs
behind true [] = []
behind true (x ∷ xs) = xs
