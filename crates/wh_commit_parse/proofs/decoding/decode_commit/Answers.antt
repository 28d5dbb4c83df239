use Rattle.wh_state.specs.Commit.{as_text}
use Rattle.wh_record.specs.View.{text_commit_of, commit_of}
use Rattle.wh_commit_parse.proofs.MeantLaws.{decoded_found, decoded_again, decoded_none}
use Rattle.wh_commit_parse.proofs.decoding.decode_commit.Goals as goal

pub returns-in-Ok-commit_meant-clause-found : goal.returns-in-Ok-commit_meant-clause-found
returns-in-Ok-commit_meant-clause-found c =
    let read = rw c.in-Ok.is at c.in_ok-commit.ensures.found in
    decoded_found _ (text_commit_of c.in-Ok.commit) (commit_of c.in-Ok-commit_meant.meant) read.0 read.1
    c.in-Ok-commit_meant.ensures

pub returns-in-Ok-commit_meant-clause-again : goal.returns-in-Ok-commit_meant-clause-again
returns-in-Ok-commit_meant-clause-again c = λ d good same.
    let read = rw c.in-Ok.is at c.in_ok-commit.ensures.again (as_text d) good.written same in
    decoded_again (text_commit_of c.in-Ok.commit) d (commit_of c.in-Ok-commit_meant.meant) good read
    c.in-Ok-commit_meant.ensures

pub returns-in-Err-SyntaxError-clause-none : goal.returns-in-Err-SyntaxError-clause-none
returns-in-Err-SyntaxError-clause-none c = λ d good same.
    let read = rw c.in-Ok.is at c.in_ok-commit.ensures.again (as_text d) good.written same in
    let none = rw c.in-Err-SyntaxError.field-0-is at c.in-Err-SyntaxError.ensures in
    decoded_none (text_commit_of c.in-Ok.commit) d good read none
