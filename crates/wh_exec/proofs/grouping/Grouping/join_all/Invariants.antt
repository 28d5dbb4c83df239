use Rattle.std.proofs.Common.{◌≡◌, ◌++◌, length}
use Rattle.std.specs.Vec.Iter.{into_iter_items, into_iter_len}
use Rattle.wh_meaning.specs.Bag.{Bag}
use Rattle.wh_algebra.specs.View.{scalars_of, calls_of}
use Rattle.wh_aggregate.specs.Groups.{AreOver}
use Rattle.wh_exec.proofs.PieceLaws.{Joined}
use Rattle.wh_exec.proofs.grouping.Grouping.join_all.Given as goal

abbrev pub invariant-loop-piece : goal.invariant-loop-piece
invariant-loop-piece l = record {
  whole : l.yielded ++ into_iter_items l.piece-iterator ≡ l.fn.pieces.items;
  by : l.self.by ≡ l.initial.self.by;
  calls : l.self.calls ≡ l.initial.self.calls;
  counted : into_iter_len l.piece-iterator ≡ length (into_iter_items l.piece-iterator);
  joined : (before : Bag)
      → AreOver (scalars_of l.initial.self.by.now) (calls_of l.initial.self.calls.now) before l.initial.self.groups
      → Joined (scalars_of l.initial.self.by.now) (calls_of l.initial.self.calls.now) before l.yielded l.self.groups;
}
