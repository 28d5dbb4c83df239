use Rattle.std.proofs.Common.{List, ap, ◌∙◌}
use Rattle.std.proofs.lemmas.Result.{IfOk-weaker}
use Rattle.wh_naming.specs.Scope.{Named}
use Rattle.wh_ddl_naming.specs.Names.{names_at, looked_up}
use Rattle.wh_ddl_naming.specs.Statements.{bound}
use Rattle.wh_ddl_naming.proofs.NameLaws.{bound_looked_up}
use Rattle.wh_machine.specs.Names.{names_from}
use Rattle.wh_catalog.specs.Catalog.{state_of}
use Rattle.wh_decide.specs.Names.{over}
use Rattle.wh_decide.proofs.names.named_objects.Goals as goal

pub returns : goal.returns
returns c =
    let statement = c.args.statement.now in
    let all = names_from 1 (state_of c.args.catalog.now).objects in
    IfOk-weaker c.live_objects.result _ _
    (λ objects found roots. ap (λ (os : List Named). bound (over os roots) statement)
    (found ∙ ap (λ ns. looked_up all (names_at ns)) c.deref.ensures.value
    ∙ ap (looked_up all) c.in_ok-names.ensures.names)
    ∙ bound_looked_up statement roots all) c.live_objects.ensures
