use Rattle.std.proofs.Common.{◌≡◌, ◌++◌, map, take}
use Rattle.std.specs.List.{flat_map}
use Rattle.wh_reply.specs.Reply.{refreshed_line}
use Rattle.wh_reply.specs.View.{refreshed_view}
use Rattle.wh_text.proofs.print_refresh.put_refreshed.Given as goal

abbrev pub invariant-loop-table : goal.invariant-loop-table
invariant-loop-table l = l.out
    ≡ l.initial.out ++ flat_map refreshed_line (map refreshed_view (take l.table-index l.refreshed))
