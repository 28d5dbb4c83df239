use Rattle.std.proofs.Common.{arith}
use Rattle.wh_part.proofs.PartitionLaws.{rest_is_shorter, is_found, is_again, is_none}
use Rattle.wh_part.proofs.partition.Partition.decode.Goals as goal

pub overflow_sub-result : goal.overflow_sub-result
overflow_sub-result c = rest_is_shorter c.args.width c.args.bytes.now c.in-Ok.partition c.in-Ok.rest.now
    (λ i. omega (arith, c.type_inv.bytes i)) c.in-Ok.ensures

pub returns-in-Ok-clause-found : goal.returns-in-Ok-clause-found
returns-in-Ok-clause-found c = is_found c.args.width c.args.bytes.now c.in-Ok.partition c.in-Ok.rest.now
    (λ i. omega (arith, c.type_inv.bytes i)) c.in-Ok.ensures

pub returns-in-Err-Malformed-clause-none : goal.returns-in-Err-Malformed-clause-none
returns-in-Err-Malformed-clause-none c =
    is_none c.args.width c.args.bytes.now (rw c.in-Err-Malformed.field-0-is at c.in-Err-Malformed.ensures)

pub returns-in-Ok-clause-again : goal.returns-in-Ok-clause-again
returns-in-Ok-clause-again c = is_again c.args.width c.args.bytes.now c.in-Ok.partition c.in-Ok.rest.now c.in-Ok.ensures
