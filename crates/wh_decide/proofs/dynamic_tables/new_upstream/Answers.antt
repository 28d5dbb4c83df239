use Rattle.std.proofs.Common.{◌≡◌, length, ap, sym, ◌∙◌}
use Rattle.std.proofs.lemmas.List.{length-map}
use Rattle.std.proofs.lemmas.Result.{IfOk-weaker}
use Rattle.wh_state.specs.Dynamic.{ids_read}
use Rattle.wh_dynamic.specs.View.{dynamics_in}
use Rattle.wh_moment.specs.Upstream.{dynamics_of, watched_object, reached_from}
use Rattle.wh_catalog.specs.Catalog.{state_of}
use Rattle.wh_decide.proofs.DynamicLemmas.{dynamics_are}
use Rattle.wh_decide.proofs.dynamic_tables.new_upstream.Goals as goal

pub returns : goal.returns
returns c =
    let objects = (state_of c.args.catalog.now).objects in
    let all : dynamics_in c.deref.result.now ≡ dynamics_of objects =
    ap dynamics_in c.deref.ensures.value ∙ c.in_ok-all.ensures.watched ∙ dynamics_are c.args.catalog.now in
    let count : length c.deref.result.now ≡ length objects =
    sym (length-map c.deref.result.now _) ∙ ap length all ∙ length-map objects watched_object in
    let reads = c.deref-2.ensures.value ∙ c.in_ok-reads.ensures ∙ ap ids_read c.in_ok-query.ensures in
    IfOk-weaker c.upstream_of_new.result _ _
    (λ ids found. found ∙ (λ i. reached_from (all i) (count i) (reads i))) c.upstream_of_new.ensures
