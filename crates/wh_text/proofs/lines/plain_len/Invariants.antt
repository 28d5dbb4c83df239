use Rattle.std.proofs.Common.{◌≡◌, ◌≤◌, true, take}
use Rattle.std.specs.List.{list_all}
use Rattle.wh_text.specs.Area.{is_plain}
use Rattle.wh_text.proofs.lines.plain_len.Given as goal

abbrev pub invariant-loop-i : goal.invariant-loop-i
invariant-loop-i l = record {
  plain : list_all is_plain (take l.i l.bytes) ≡ true;
  most : l.i ≤ l.most;
}
