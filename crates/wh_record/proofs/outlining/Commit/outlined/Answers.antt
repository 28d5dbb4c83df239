use Rattle.std.proofs.Common.{sym, subst}
use Rattle.std.specs.List.{AllByRecursion}
use Rattle.wh_state.specs.Spelling.{IsChange}
use Rattle.wh_record.proofs.WritingLaws.{as_written}
use Rattle.wh_record.proofs.outlining.Commit.outlined.Goals as goal

pub outlined_changes-requires : goal.outlined_changes-requires
outlined_changes-requires c =
    subst (AllByRecursion IsChange) (sym (as_written c.args.self.changes.items)) c.requires.changes
