use Rattle.std.proofs.Common.{List, ap, ◌∙◌, arith}
use Rattle.std.proofs.lemmas.Result.{IfOk-weaker}
use Rattle.wh_state.specs.State.{Object}
use Rattle.wh_machine.specs.Names.{names_from}
use Rattle.wh_tick.proofs.CatalogLemmas.{names_are}
use Rattle.wh_tick.proofs.live.live_objects.Goals as goal

pub live_among-requires : goal.live_among-requires
live_among-requires c = omega (arith, c.objects.ensures.bounded)

pub returns : goal.returns
returns c =
    IfOk-weaker c.live_among.result _ _
    (λ names found. found ∙ ap (λ (objects : List Object). names_from 1 objects)
    (names_are c.args.catalog.now c.objects.result.now c.objects.ensures.objects)) c.live_among.ensures
