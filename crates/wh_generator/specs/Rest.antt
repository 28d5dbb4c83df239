-- What contracts say of a `Rest`.
--     behind      what is still to come of the script
use Rattle.std.specs.Prelude.{Bool, true, false, ℕ, List, [], ◌++◌}
use Rattle.wh_generator.specs.Generated.{rows_from, closing}
use Rattle.wh_generator.specs.declared.rest.Rest.{Rest}

abbrev pub ended : Bool → List ℕ → List ℕ
ended true text = []
ended false text = text

-- the rows that are left and the last command, or nothing
abbrev pub behind : Rest → List ℕ
behind rest = ended rest.closed (rows_from rest.left rest.row rest.draw ++ closing)
