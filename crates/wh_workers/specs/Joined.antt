-- The answers of pieces, side by side.
use Rattle.std.specs.Prelude.{List, [], ◌∷◌, ◌++◌, Option, Some, None, Result, Ok, Err, option_map}
use Rattle.std.specs.Global.{Global}
use Rattle.std.specs.declared.vec.Vec.{Vec}

-- those of all pieces in their order, if memory was wanting for none
abbrev pub joined_of : {T E : Type 0} → List (Result (Vec T Global) E) → Option (List T)
joined_of [] = Some []
joined_of (Ok answers ∷ pieces) = option_map (λ rest. answers.items ++ rest) (joined_of pieces)
joined_of (Err e ∷ pieces) = None
