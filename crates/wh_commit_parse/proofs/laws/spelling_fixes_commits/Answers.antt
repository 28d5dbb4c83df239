use Rattle.wh_commit_parse.proofs.CommitLaws.{payload_fixes_commit}
use Rattle.wh_commit_parse.proofs.FileLaws.{file_fixes_stored, file_fixes_state}
use Rattle.wh_commit_parse.proofs.laws.spelling_fixes_commits.Goals as goal

pub returns-clause-payload : goal.returns-clause-payload
returns-clause-payload c = payload_fixes_commit

pub returns-clause-stored : goal.returns-clause-stored
returns-clause-stored c = file_fixes_stored

pub returns-clause-state : goal.returns-clause-state
returns-clause-state c = file_fixes_state
