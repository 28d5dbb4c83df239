use Rattle.std.proofs.Common.{◌≡◌, length, option_map, ap, sym, ◌∙◌, arith}
use Rattle.std.proofs.lemmas.Result.{IfOk-weaker}
use Rattle.wh_dynamic.specs.View.{watched_of, dynamics_in}
use Rattle.wh_moment.specs.Upstream.{watched_object}
use Rattle.wh_moment.specs.Moment.{ids_from}
use Rattle.wh_machine.specs.Dynamics.{first_shorter}
use Rattle.wh_catalog.specs.Catalog.{state_of}
use Rattle.wh_decide.proofs.DynamicLemmas.{dynamics_are, ids_same}
use Rattle.wh_decide.proofs.lags.shorter_refusal.Goals as goal

pub first_shorter-requires-clause-dynamics : goal.first_shorter-requires-clause-dynamics
first_shorter-requires-clause-dynamics c =
    ap dynamics_in c.deref.ensures.value ∙ c.in_ok-all.ensures.watched ∙ dynamics_are c.args.catalog.now

pub first_shorter-requires-clause-few : goal.first_shorter-requires-clause-few
first_shorter-requires-clause-few c =
    omega (arith, c.in_ok-all.ensures.bounded, ap length c.deref.ensures.value)

pub returns : goal.returns
returns c =
    let objects = (state_of c.args.catalog.now).objects in
    let all = ap dynamics_in c.deref.ensures.value ∙ c.in_ok-all.ensures.watched ∙ dynamics_are c.args.catalog.now in
    let ids : ids_from 1 c.deref.result.now ≡ ids_from 1 objects =
    sym (ids_same (option_map watched_of) 1 c.deref.result.now) ∙ ap (ids_from 1) all
    ∙ ids_same watched_object 1 objects in
    IfOk-weaker c.first_shorter.result _ _
    (λ found is. is ∙ ap (first_shorter objects c.args.id c.args.lag) ids) c.first_shorter.ensures
