use Rattle.std.proofs.Common.{arith}
use Rattle.wh_record.specs.View.{text_commit_of}
use Rattle.wh_record.proofs.CommitLaws.{is_found, is_again, is_none}
use Rattle.wh_record.proofs.decoding.TextCommit.decode.Goals as goal

pub returns-in-Ok-clause-found : goal.returns-in-Ok-clause-found
returns-in-Ok-clause-found c =
    is_found c.args.payload.now (text_commit_of c.in-Ok.commit) (λ i. omega (arith, c.type_inv.payload i))
    c.in-Ok.ensures

pub returns-in-Ok-clause-again : goal.returns-in-Ok-clause-again
returns-in-Ok-clause-again c = is_again c.args.payload.now (text_commit_of c.in-Ok.commit) c.in-Ok.ensures

pub returns-in-Err-Malformed-clause-none : goal.returns-in-Err-Malformed-clause-none
returns-in-Err-Malformed-clause-none c =
    is_none c.args.payload.now (rw c.in-Err-Malformed.field-0-is at c.in-Err-Malformed.ensures)
