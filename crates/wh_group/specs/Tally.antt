-- What a row adds to the totals of its group.
--     argument_of        the value that a row gives to a call; to a COUNT one that has no sum
--     begun_standing     of no rows
--     stepped            with a row more; None where an argument has no value
use Rattle.std.specs.Prelude.{suc, true, List, [], ◌∷◌, Option, Some, option_map}
use Rattle.wh_value.specs.Value.{Value, Number, Truth, Text, Null, Row}
use Rattle.wh_meaning.specs.Scalar.{val, of_two}
use Rattle.wh_meaning.specs.Query.{Call, Sum, CountRows, Count, Total, with_argument}
use Rattle.wh_maintenance.specs.Standing.{Standing, before, begun}

abbrev pub counted : Value → Value
counted (Number z) = Truth true
counted (Truth b) = Truth true
counted (Text bytes) = Truth true
counted Null = Null

abbrev pub argument_of : Call → Row → Option Value
argument_of (Sum e) row = val e row
argument_of CountRows row = Some (Truth true)
argument_of (Count e) row = option_map counted (val e row)

abbrev pub begun_standing : List Call → Standing
begun_standing calls = record { rows = 0; totals = begun calls }

abbrev pub tallied : List Call → Row → List Total → Option (List Total)
tallied [] row ts = Some ts
tallied (call ∷ calls) row [] = Some []
tallied (call ∷ calls) row (t ∷ ts) =
    of_two before (with_argument (argument_of call row) (Some t)) (tallied calls row ts)

abbrev pub stepped : List Call → Row → Standing → Option Standing
stepped calls row s = option_map (λ ts. record { rows = suc s.rows; totals = ts }) (tallied calls row s.totals)
