use Rattle.std.proofs.Common.{◌≡◌, ◌∙◌, ℕ, ◌+◌, ap, drop, arith}
use Rattle.std.proofs.lemmas.Grind.{common_steps}
use Rattle.wh_naming.specs.Findings.{Findings, followed}
use Rattle.wh_expr_bind.specs.View.{findings_of}
use Rattle.wh_ddl_naming.specs.Meant.{Meant}
use Rattle.wh_ddl_naming.specs.Tasks.{predecessor, predecessor_findings}
use Rattle.wh_ddl_bind.specs.View.{names_of}
use Rattle.wh_ddl_bind.proofs.TaskLemmas.{next_id, next_findings}
use Rattle.wh_ddl_bind.proofs.tasks.all_predecessors.Goals as goal

pub loop-name-preserved : goal.loop-name-preserved
loop-name-preserved c =
    let names = names_of c.args.names.now in
    let root = c.args.root in
    let after = c.args.after.now in
    let i = c.loop-name.name-index in
    let name = c.name-item.result in
    let id : c.in_ok-found.found.id ≡ (predecessor names root name).value =
    ap (λ (m : Meant ℕ). m.value) c.in_ok-found.ensures in
    let found : findings_of c.in_ok-found.found.findings ≡ (predecessor names root name).findings =
    ap (λ (m : Meant ℕ). m.findings) c.in_ok-found.ensures in
    let ids = next_id names root after i name c.loop-name-test.true c.name-item.is in
    record {
      ids = grind (arith, common_steps);
      findings = ap (λ (f : Findings). followed f (predecessor_findings names root (drop (i + 1) after)))
          c.followed-findings.ensures
          ∙ next_findings names root after i name (findings_of c.loop-name.findings)
          (findings_of c.in_ok-found.found.findings)
          c.loop-name-test.true c.name-item.is found
          ∙ c.loop-name.invariant.findings;
    }
