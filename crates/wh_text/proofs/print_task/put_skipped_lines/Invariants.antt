use Rattle.std.proofs.Common.{◌≡◌, ◌++◌, take}
use Rattle.std.specs.List.{flat_map}
use Rattle.wh_reply.specs.Reply.{skipped_line}
use Rattle.wh_text.proofs.print_task.put_skipped_lines.Given as goal

abbrev pub invariant-loop-name : goal.invariant-loop-name
invariant-loop-name l = l.out ≡ l.initial.out ++ flat_map skipped_line (take l.name-index l.names)
