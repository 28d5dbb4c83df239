use Rattle.std.proofs.Common.{◌≡◌, ◌++◌, length, Option}
use Rattle.std.specs.Vec.Iter.{into_iter_items, into_iter_len}
use Rattle.wh_value.specs.Value.{Row}
use Rattle.wh_effect.specs.Effect.{Turn, turned}
use Rattle.wh_dml.specs.View.{effect_of}
use Rattle.wh_dml.proofs.PieceLaws.{Joined}
use Rattle.wh_dml.proofs.pieces.joined.Given as goal

abbrev pub invariant-loop-piece : goal.invariant-loop-piece
invariant-loop-piece l = record {
  whole : l.yielded ++ into_iter_items l.piece-iterator ≡ l.fn.pieces.items;
  counted : into_iter_len l.piece-iterator ≡ length (into_iter_items l.piece-iterator);
  joined : (meant : Row → Option Turn) → Joined effect_of (turned meant) l.yielded l.effect;
}
