use Rattle.wh_value.specs.Value.{IsValue}
use Rattle.wh_value.specs.View.{value_of}
use Rattle.wh_record.proofs.ShapeLemmas.{passed, refused, passed_on}
use Rattle.wh_record.proofs.format.are_values.Goals as goal

pub returns-then-not-is_value : goal.returns-then-not-is_value
returns-then-not-is_value c =
    refused IsValue value_of c.args.values.now c.loop-value.value-index c.value-item.result
    c.is_value.result c.loop-value-test.true c.value-item.is c.is_value.ensures c.if-not-is_value.true

pub loop-value-preserved : goal.loop-value-preserved
loop-value-preserved c =
    passed_on IsValue value_of c.args.values.now c.loop-value.value-index c.value-item.result
    c.is_value.result c.loop-value-test.true c.value-item.is c.is_value.ensures c.if-not-is_value.false
    c.loop-value.invariant

pub returns : goal.returns
returns c =
    passed IsValue value_of c.args.values.now c.loop-value.value-index
    c.loop-value-test.false c.loop-value.invariant
