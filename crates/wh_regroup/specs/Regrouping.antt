-- How a scalar is put over the rows of groups.
--     with_part, with_sides     the operator of a scalar over other parts
use Rattle.wh_meaning.specs.Scalar as meaning

abbrev pub with_part : meaning.Scalar → meaning.Scalar → meaning.Scalar
with_part (meaning.Neg a) part = meaning.Neg part
with_part (meaning.Not a) part = meaning.Not part
with_part _ part = meaning.IsNull part

abbrev pub with_sides : meaning.Scalar → meaning.Scalar → meaning.Scalar → meaning.Scalar
with_sides (meaning.Add a b) left right = meaning.Add left right
with_sides (meaning.Sub a b) left right = meaning.Sub left right
with_sides (meaning.Mul a b) left right = meaning.Mul left right
with_sides (meaning.Compare c a b) left right = meaning.Compare c left right
with_sides (meaning.And a b) left right = meaning.And left right
with_sides _ left right = meaning.Or left right
