use Rattle.std.proofs.Common.{◌≡◌, ◌+◌, ◌-◌, ◌^◌, ◌≤◌, length, option_map}
use Rattle.wh_grammar.specs.Script.{lines_of}
use Rattle.wh_text.specs.Ahead.{consumed, total}
use Rattle.wh_text.specs.ScriptPlace.{lines_at, most, begun}
use Rattle.wh_text.specs.Turn.{ahead_and}
use Rattle.wh_text.proofs.lines.read_line.Given as goal

abbrev pub invariant-bytes : goal.invariant-bytes
invariant-bytes g l = record {
  same : option_map lines_of (ahead_and l.initial.ahead.bytes (g.S.Source.left l.initial.source))
      ≡ option_map (lines_at l.place l.text) (ahead_and l.ahead.bytes (g.S.Source.left l.source));
  used : begun l.place + consumed l.initial.ahead ≤ consumed l.ahead;
  counts : total l.ahead (g.S.Source.left l.source) ≡ total l.initial.ahead (g.S.Source.left l.initial.source);
  short : l.ahead.taken ≤ 2 ^ 30;
  fits : length l.text ≤ most l.place;
  no_fault : g.S.Source.faults l.source ≡ g.S.Source.faults l.initial.source;
}

abbrev pub decreases-bytes : goal.decreases-bytes
decreases-bytes g l = 2 ^ 31 - consumed l.ahead
