use Rattle.std.proofs.Common.{ap, ◌∙◌}
use Rattle.std.proofs.lemmas.Result.{IfOk-weaker}
use Rattle.wh_ddl_naming.specs.Names.{names_at, query_names}
use Rattle.wh_machine.specs.Dynamics.{sources_named}
use Rattle.wh_decide.proofs.dynamic_tables.written_sources.Goals as goal

pub returns : goal.returns
returns c =
    IfOk-weaker c.sources_named.result _ _
    (λ sources is. is ∙ (λ i. sources_named
    ((ap names_at c.deref.ensures.value ∙ c.in_ok-names.ensures.names ∙ ap query_names c.get.ensures) i)
    (c.deref-2.ensures.value i)))
    c.sources_named.ensures
