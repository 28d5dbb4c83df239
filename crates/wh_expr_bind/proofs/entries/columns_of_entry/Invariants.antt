use Rattle.std.proofs.Common.{◌≡◌, take}
use Rattle.std.specs.Prelude.{option_map}
use Rattle.wh_naming.specs.Scope.{width, spans_of}
use Rattle.wh_expr_bind.specs.View.{entries_of, span_of}
use Rattle.wh_expr_bind.proofs.ListLemmas.{last, is_several}
use Rattle.wh_expr_bind.proofs.entries.columns_of_entry.Given as goal

abbrev pub invariant-loop-entry : goal.invariant-loop-entry
invariant-loop-entry l = record {
  from : l.from ≡ width (entries_of (take l.entry-index l.entries));
  found : option_map span_of l.found ≡ last (spans_of l.name 0 (entries_of (take l.entry-index l.entries)));
  several : l.is_several ≡ is_several (spans_of l.name 0 (entries_of (take l.entry-index l.entries)));
}
