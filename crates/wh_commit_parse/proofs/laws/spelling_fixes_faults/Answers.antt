use Rattle.wh_commit_parse.proofs.FaultLaws.{first_fault_is_one, faulty_file_stands_for_none}
use Rattle.wh_commit_parse.proofs.laws.spelling_fixes_faults.Goals as goal

pub returns-clause-position : goal.returns-clause-position
returns-clause-position c = first_fault_is_one

pub returns-clause-no_state : goal.returns-clause-no_state
returns-clause-no_state c = faulty_file_stands_for_none
