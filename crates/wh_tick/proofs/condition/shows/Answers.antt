use Rattle.std.proofs.Common.{ap, ◌∙◌}
use Rattle.std.proofs.lemmas.Result.{IfOk-weaker}
use Rattle.wh_catalog.specs.Stream.{stream_of}
use Rattle.wh_machine.specs.Reading.{start_in}
use Rattle.wh_decide.specs.Sight.{machine_in}
use Rattle.wh_tick.proofs.GuardLemmas.{unnamed, no_stream, by_stream}
use Rattle.wh_tick.proofs.condition.shows.Goals as goal

pub returns-in_default-clause-shows : goal.returns-in_default-clause-shows
returns-in_default-clause-shows g c = λ _.
    unnamed (machine_in c.args.sight.now) c.args.name.now c.in_default.ensures

pub returns-in_default-stream_at-clause-shows : goal.returns-in_default-stream_at-clause-shows
returns-in_default-stream_at-clause-shows g c = λ _.
    no_stream (machine_in c.args.sight.now) c.args.name.now c.in-Some.id c.in-Some.ensures
    c.in_default-stream_at.ensures

pub returns-clause-shows : goal.returns-clause-shows
returns-clause-shows g c = λ shown.
    let m = machine_in c.args.sight.now in
    IfOk-weaker c.has_data.result _ _
    (λ has is. is ∙ by_stream m c.args.name.now c.in-Some.id (stream_of c.in-Some-stream_at.stream.now) c.start.result
    c.in-Some.ensures c.in-Some-stream_at.ensures (c.start.ensures ∙ ap (start_in m) c.requires.ticking))
    (c.has_data.ensures.shown shown)
