use Rattle.wh_part.specs.View.{numbered_of}
use Rattle.wh_record.specs.View.{HasRow}
use Rattle.wh_record.proofs.ShapeLemmas.{passed, refused, passed_on}
use Rattle.wh_record.proofs.format.are_rows.Goals as goal

pub returns-then-not-has_row : goal.returns-then-not-has_row
returns-then-not-has_row c =
    refused (HasRow c.args.width) numbered_of c.args.rows.now c.loop-numbered.numbered-index c.numbered-item.result
    c.has_row.result c.loop-numbered-test.true c.numbered-item.is c.has_row.ensures c.if-not-has_row.true

pub loop-numbered-preserved : goal.loop-numbered-preserved
loop-numbered-preserved c =
    passed_on (HasRow c.args.width) numbered_of c.args.rows.now c.loop-numbered.numbered-index c.numbered-item.result
    c.has_row.result c.loop-numbered-test.true c.numbered-item.is c.has_row.ensures c.if-not-has_row.false
    c.loop-numbered.invariant

pub returns : goal.returns
returns c =
    passed (HasRow c.args.width) numbered_of c.args.rows.now c.loop-numbered.numbered-index
    c.loop-numbered-test.false c.loop-numbered.invariant
