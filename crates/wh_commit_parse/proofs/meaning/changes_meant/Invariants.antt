use Rattle.std.proofs.Common.{◌≡◌, map, length}
use Rattle.std.specs.Vec.Iter.{into_iter_items, into_iter_len}
use Rattle.wh_record.specs.View.{change_of, text_change_of}
use Rattle.wh_commit_parse.specs.Meant.{changes_meant}
use Rattle.wh_commit_parse.proofs.Turns.{behind}
use Rattle.wh_commit_parse.proofs.meaning.changes_meant.Given as goal

abbrev pub invariant-loop-change : goal.invariant-loop-change
invariant-loop-change l = record {
  meant : changes_meant (map text_change_of (into_iter_items l.initial.change-iterator))
      ≡ behind (map change_of l.made.items) (changes_meant (map text_change_of (into_iter_items l.change-iterator)));
  count : into_iter_len l.change-iterator ≡ length (into_iter_items l.change-iterator);
}
