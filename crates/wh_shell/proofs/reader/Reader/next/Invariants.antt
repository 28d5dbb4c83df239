use Rattle.std.proofs.Common.{◌≡◌, ◌≤◌, ◌-◌, ◌^◌, None}
use Rattle.wh_text.specs.Script.{consumed_of, fault_of, Counts}
use Rattle.wh_shell.specs.Reading.{unread, PassesOn}
use Rattle.wh_shell.proofs.reader.Reader.next.Given as goal

abbrev pub invariant-lines : goal.invariant-lines
invariant-lines g l = record {
  passes : PassesOn (unread l.fn.self (g.S.Source.left l.fn.source)) (unread l.self (g.S.Source.left l.source));
  fault : fault_of l.self.script ≡ None;
  further : consumed_of l.fn.self.script ≤ consumed_of l.self.script;
  counts : Counts l.fn.self.script l.self.script (g.S.Source.left l.fn.source) (g.S.Source.left l.source);
  later : g.S.Source.faults l.fn.source ≤ g.S.Source.faults l.source;
}

-- each line uses some byte, and there are at most 2^30 and those of one read
abbrev pub decreases-lines : goal.decreases-lines
decreases-lines g l = 2 ^ 31 - consumed_of l.self.script
