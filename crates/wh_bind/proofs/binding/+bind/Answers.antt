use Rattle.std.proofs.Common.{◌∙◌, ap, sym, map, drop, option_map}
use Rattle.wh_naming.specs.View.{named_of}
use Rattle.wh_bind.specs.Steps.{gathered}
use Rattle.wh_core_bind.specs.View.{query_in, joined_in}
use Rattle.wh_bind.specs.View.{source_in, core_reading, query_reading}
use Rattle.wh_bind.proofs.Layers.{cores_step, cores_end, cores_none, joins_step, joins_end, core_of, query_of_cores}
use Rattle.wh_bind.proofs.Layers.{named_read, subquery_read}
use Rattle.wh_bind.proofs.binding.+bind.Goals as goal

pub bind_cores-loop-core-preserved : goal.bind_cores-loop-core-preserved
bind_cores-loop-core-preserved t c =
    let names = map named_of c.args.names.now in
    cores_step names c.args.next (option_map query_in c.loop-core.so_far) c.args.cores.now c.loop-core.core-index _ _ _
    c.loop-core-test.true c.core-item.is (c.in_ok-bound.ensures
    ∙ ap (core_reading c.core-item.result names) c.in_ok-number.ensures) c.in_ok-with_core.ensures
    ∙ c.loop-core.invariant

pub bind_cores-returns-in-Some : goal.bind_cores-returns-in-Some
bind_cores-returns-in-Some t c =
    let names = map named_of c.args.names.now in
    let left = map core_reading (drop c.loop-core.core-index c.args.cores.now) in
    cores_end names c.args.next _ _ c.args.cores.now c.loop-core.core-index c.loop-core-test.false
    (ap (λ s. gathered names c.args.next (option_map query_in s) left) (sym c.in-Some.is) ∙ c.loop-core.invariant)

pub bind_cores-returns-in-None : goal.bind_cores-returns-in-None
bind_cores-returns-in-None t c =
    let names = map named_of c.args.names.now in
    let left = map core_reading (drop c.loop-core.core-index c.args.cores.now) in
    cores_none names c.args.next _ c.args.cores.now c.loop-core.core-index c.no_query.result c.loop-core-test.false
    (ap (λ s. gathered names c.args.next (option_map query_in s) left) (sym c.in-None.is)
    ∙ c.loop-core.invariant) c.no_query.ensures

pub bind_joins-loop-place-preserved : goal.bind_joins-loop-place-preserved
bind_joins-loop-place-preserved t c =
    joins_step (map named_of c.args.names.now) c.args.next (joined_in c.loop-place.left) c.args.joins.now
    c.joins_behind.result.now c.loop-place.place c.in_ok-number.number c.index-joins-place.result
    (source_in c.in_ok-source.source) (joined_in c.in_ok-left.left)
    c.loop-place-test.true c.index-joins-place.is c.joins_behind.ensures c.in_ok-number.ensures
    c.in_ok-source.ensures c.in_ok-left.ensures
    ∙ c.loop-place.invariant

pub bind_joins-returns : goal.bind_joins-returns
bind_joins-returns t c = joins_end (map named_of c.args.names.now) c.args.next _ _ c.args.joins.now c.loop-place.place
    c.loop-place-test.false c.loop-place.invariant

pub bind_query-returns : goal.bind_query-returns
bind_query-returns t c = query_of_cores c.args.query.now (map named_of c.args.names.now) c.args.next
    c.as_slice.result.now c.bind_cores.result c.as_slice.ensures c.bind_cores.ensures

pub bind_core-returns : goal.bind_core-returns
bind_core-returns t c =
    core_of c.args.core.now (map named_of c.args.names.now) c.args.next _ _ _ c.as_slice-joins.result.now
    c.as_slice.result.now c.as_slice-2.result.now c.bound_core.result
    c.as_slice-joins.ensures c.as_slice.ensures c.as_slice-2.ensures c.in_ok-source.ensures c.in_ok-first.ensures
    c.in_ok-joined.ensures c.bound_core.ensures

pub bind_source-returns-in-Named : goal.bind_source-returns-in-Named
bind_source-returns-in-Named t c = named_read c.args.source.now c.in-Named.name c.in-Named.field-1
    (map named_of c.args.names.now) c.args.number c.object_source.result c.in-Named.is c.object_source.ensures

pub bind_source-returns-in_ok-bind_query-in-Subquery : goal.bind_source-returns-in_ok-bind_query-in-Subquery
bind_source-returns-in_ok-bind_query-in-Subquery t c =
    let names = map named_of c.args.names.now in
    subquery_read c.args.source.now c.in-Subquery.query c.in-Subquery.field-1 names c.args.number
    (query_in c.in_ok-bind_query-in-Subquery.field-0) c.query_source.result c.in-Subquery.is
    (c.in_ok-bind_query-in-Subquery.ensures ∙ ap (λ q. query_reading q names c.args.number) c.get.ensures)
    c.query_source.ensures
