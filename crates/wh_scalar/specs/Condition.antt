-- What a test of a row's number stands for.
--     compared_by     the comparison of a column with a number
use Rattle.wh_value.specs.Value.{Number}
use Rattle.wh_meaning.specs.Scalar.{Scalar, Compare, Column, Const}
use Rattle.wh_scalar.specs.declared.condition.NumberTest.{NumberTest}

abbrev pub compared_by : NumberTest → Scalar
compared_by t = Compare t.comparison (Column t.place) (Const (Number t.number))
