use Rattle.std.proofs.Common.{◌≡◌, map, take, drop}
use Rattle.wh_naming.specs.Findings.{followed}
use Rattle.wh_expr_bind.specs.View.{findings_of}
use Rattle.wh_ddl_naming.specs.Tasks.{predecessor, predecessor_findings}
use Rattle.wh_ddl_bind.specs.View.{names_of}
use Rattle.wh_ddl_bind.proofs.tasks.all_predecessors.Given as goal

abbrev pub invariant-loop-name : goal.invariant-loop-name
invariant-loop-name l = record {
  ids : l.ids.items ≡ map (λ name. (predecessor (names_of l.names) l.root name).value) (take l.name-index l.after);
  findings : followed (findings_of l.findings)
      (predecessor_findings (names_of l.names) l.root (drop l.name-index l.after))
      ≡ predecessor_findings (names_of l.names) l.root l.after;
}
