use Rattle.wh_record.proofs.CommitLaws.{payload_fixes_text_commit}
use Rattle.wh_record.proofs.FileLaws.{file_fixes_payloads}
use Rattle.wh_record.proofs.decoding.spelling_fixes_commits.Goals as goal

pub returns-clause-payload : goal.returns-clause-payload
returns-clause-payload c = payload_fixes_text_commit

pub returns-clause-records : goal.returns-clause-records
returns-clause-records c = file_fixes_payloads
