use Rattle.std.proofs.Common.{◌<◌, ◌≤◌, [], map, length, Option, Some, refl, sym, ap, subst, rules, ◌∙◌}
use Rattle.std.proofs.lemmas.Result.{on_ok_weaker}
use Rattle.std.proofs.lemmas.Option.{slice_get_read, slice_get_past}
use Rattle.wh_filed.specs.Fetching.{IsShownBy, IsCovered}
use Rattle.wh_meaning.specs.Bag.{Bag}
use Rattle.wh_exec.specs.Step.{through}
use Rattle.wh_exec.specs.Sink.{Takes, Feeds}
use Rattle.wh_exec.proofs.ThroughLaws.{through-no_rows}
use Rattle.wh_exec.proofs.SinkLaws.{takes_none}
use Rattle.wh_exec.specs.Source.{filed_of}
use Rattle.wh_exec.specs.Asked.{filed_by}
use Rattle.wh_filed.specs.Asking.{id_of}
use Rattle.wh_filed.proofs.AskingLaws.{none_among}
use Rattle.std.specs.Option.{option_map_or}
use Rattle.wh_exec.proofs.AskLaws.{among_same}
use Rattle.wh_exec.proofs.SourceLaws.{source_there, no_source, all_there}
use Rattle.wh_exec.proofs.scan.scan.Goals as goal

pub returns-in-Some-clause-feeds : goal.returns-in-Some-clause-feeds
returns-in-Some-clause-feeds g c all =
    let within : c.args.source < length c.args.sources.now = search rules in
    let found = slice_get_read c.args.sources.now (length c.args.sources.now) c.args.source c.in-Some.source.now refl
    within c.in-Some.ensures.lookup.1 in
    subst (λ (b : Bag). Feeds c.scan_source.result c.args.sink.now c.scan_source.new.sink
    (through c.args.steps.now (Some b)))
    (sym (source_there c.args.sources.now c.args.source c.in-Some.source.now found))
    (c.scan_source.ensures.feeds (all_there (IsShownBy (g.F.Fetch.contents c.args.fetch.now)) c.args.sources.now c.args.source
    c.in-Some.source.now found all))

pub returns-in-Some-clause-sound : goal.returns-in-Some-clause-sound
returns-in-Some-clause-sound g c all =
    let within : c.args.source < length c.args.sources.now = search rules in
    c.scan_source.ensures.sound (all_there (IsShownBy (g.F.Fetch.contents c.args.fetch.now)) c.args.sources.now c.args.source
    c.in-Some.source.now (slice_get_read c.args.sources.now (length c.args.sources.now) c.args.source
    c.in-Some.source.now refl within c.in-Some.ensures.lookup.1) all)

pub returns-in-None-clause-feeds : goal.returns-in-None-clause-feeds
returns-in-None-clause-feeds g c all =
    let past : length c.args.sources.now ≤ c.args.source = search rules in
    let none = slice_get_past c.args.sources.now c.args.source past in
    subst (λ (found : Option Bag). Takes c.args.sink.now c.args.sink.now found)
    (sym (ap (λ b. through c.args.steps.now (Some b)) (no_source c.args.sources.now c.args.source none)
    ∙ through-no_rows c.args.steps.now))
    (takes_none c.args.sink.now)

pub scan_source-requires : goal.scan_source-requires
scan_source-requires g c =
    let within : c.args.source < length c.args.sources.now = search rules in (
      c.type_bounds.sync-R,
      all_there (IsCovered (g.F.Fetch.covers c.args.fetch.now)) c.args.sources.now c.args.source c.in-Some.source.now
          (slice_get_read c.args.sources.now (length c.args.sources.now) c.args.source c.in-Some.source.now refl within
          c.in-Some.ensures.lookup.1) c.requires,
    )

pub returns-in-Some-clause-asks : goal.returns-in-Some-clause-asks
returns-in-Some-clause-asks g c =
    let within : c.args.source < length c.args.sources.now = search rules in
    let found = slice_get_read c.args.sources.now (length c.args.sources.now) c.args.source c.in-Some.source.now refl
    within c.in-Some.ensures.lookup.1 in
    on_ok_weaker c.scan_source.result
    (among_same _ _ _ _ (sym (ap (λ source. map id_of (option_map_or filed_of source [])) found)))
    c.scan_source.ensures.asks

pub returns-in-None-clause-asks : goal.returns-in-None-clause-asks
returns-in-None-clause-asks g c =
    none_among (map id_of (filed_by c.args.sources.now c.args.source)) (g.F.Fetch.asked c.args.fetch.now)
