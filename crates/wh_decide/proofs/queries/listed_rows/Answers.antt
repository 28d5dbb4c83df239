use Rattle.std.proofs.Common.{◌≡◌, List, true, false, option_map, ap, sym, ◌∙◌}
use Rattle.std.specs.List.{list_all}
use Rattle.std.proofs.lemmas.Result.{IfOk-weaker}
use Rattle.wh_fetch.specs.DiskFetch.{told_of, Covers}
use Rattle.wh_filed.proofs.FetchingLaws.{all_shown_by, all_covered}
use Rattle.wh_meaning.specs.Listing.{listed}
use Rattle.wh_meaning.specs.Query.{Instance, eval}
use Rattle.wh_algebra.specs.View.{query_of}
use Rattle.wh_listing.specs.View.{keys_of}
use Rattle.wh_listing.specs.declared.key.SortKey.{SortKey}
use Rattle.wh_exec.specs.Source.{filed_in, instance_in}
use Rattle.wh_machine.specs.Reading.{instance_read}
use Rattle.wh_decide.specs.Sight.{machine_in}
use Rattle.wh_decide.specs.Sources.{bags_seen, filed_seen, is_stream}
use Rattle.wh_decide.proofs.SourceLemmas.{sources_shown}
use Rattle.wh_decide.proofs.AskLemmas.{streams_all, none_filed, asked_of}
use Rattle.wh_decide.proofs.queries.listed_rows.Goals as goal

pub answered_in_order-requires : goal.answered_in_order-requires
answered_in_order-requires g c = (
  c.type_bounds.sync-R,
  all_covered (Covers g.D.Disk c.sources_seen.new.fetch) (filed_in c.deref-5.result.now)
      (λ part. c.in_ok-seen.ensures.goes.right c.requires),
)

pub returns-clause-listed : goal.returns-clause-listed
returns-clause-listed g c = λ shown.
    let sight = c.args.sight.now in
    let b = c.args.bound.now in
    IfOk-weaker c.answered_in_order.result _ _ (λ found is. is
    ∙ ap (λ (keys : List SortKey). option_map (listed (keys_of keys))
    (eval (query_of b.query) (instance_in c.deref-5.result.now))) c.deref-4.ensures.value
    ∙ ap (λ (i : Instance). option_map (listed (keys_of b.keys.items)) (eval (query_of b.query) i))
    (ap instance_in c.deref-5.ensures.value ∙ c.in_ok-sources.ensures.rows ∙ ap bags_seen c.deref-2.ensures.value
    ∙ c.in_ok-seen.ensures.seen shown ∙ ap (instance_read (machine_in sight) sight.session) c.deref.ensures.value))
    (c.answered_in_order.ensures.rows (all_shown_by (told_of g.D.Disk c.sources_seen.new.fetch)
    (filed_in c.deref-5.result.now) (sources_shown sight _ _ _ _ _ _ c.in_ok-seen.ensures.same
    c.deref-2.ensures.value c.in_ok-sources.ensures.filed c.deref-5.ensures.value c.in_ok-seen.ensures.among shown)))

pub returns-clause-sound : goal.returns-clause-sound
returns-clause-sound g c = λ shown.
    c.answered_in_order.ensures.sound (all_shown_by (told_of g.D.Disk c.sources_seen.new.fetch)
    (filed_in c.deref-5.result.now) (sources_shown c.args.sight.now _ _ _ _ _ _ c.in_ok-seen.ensures.same
    c.deref-2.ensures.value c.in_ok-sources.ensures.filed c.deref-5.ensures.value c.in_ok-seen.ensures.among shown))
    ∙ c.in_ok-seen.ensures.sound shown

-- ---- over streams alone

pub listed_at_hand-requires : goal.listed_at_hand-requires
listed_at_hand-requires g c = (
  c.type_bounds.sync-R,
  ap filed_in c.deref-then-are_streams.ensures.value ∙ c.in_ok-sources.ensures.filed
      ∙ ap filed_seen c.deref-2.ensures.value
      ∙ none_filed c.in_ok-seen.seen.items
      (ap (list_all is_stream) (sym c.deref-3.ensures.value) ∙ sym c.are_streams.ensures ∙ c.if-are_streams.true),
)

pub returns-then-are_streams-clause-listed : goal.returns-then-are_streams-clause-listed
returns-then-are_streams-clause-listed g c = λ shown.
    let sight = c.args.sight.now in
    let b = c.args.bound.now in
    c.in_ok-rows.ensures
    ∙ ap (λ (i : Instance). option_map (listed (keys_of b.keys.items)) (eval (query_of b.query) i))
    (ap instance_in c.deref-then-are_streams.ensures.value ∙ c.in_ok-sources.ensures.rows
    ∙ ap bags_seen c.deref-2.ensures.value ∙ c.in_ok-seen.ensures.seen shown
    ∙ ap (instance_read (machine_in sight) sight.session) c.deref.ensures.value)

-- ---- what is asked for: the streams' partitions, and no others where all of them are streams

pub returns-in_err-seen-clause-asks : goal.returns-in_err-seen-clause-asks
returns-in_err-seen-clause-asks g c =
    asked_of c.args.sight.now.catalog.now _ _ _ _ _ c.deref.ensures.value c.in_err-seen.ensures.asks

pub returns-in_err-sources-clause-asks : goal.returns-in_err-sources-clause-asks
returns-in_err-sources-clause-asks g c =
    asked_of c.args.sight.now.catalog.now _ _ _ _ _ c.deref.ensures.value c.in_ok-seen.ensures.asks

pub returns-in_err-rows-clause-asks : goal.returns-in_err-rows-clause-asks
returns-in_err-rows-clause-asks g c =
    asked_of c.args.sight.now.catalog.now _ _ _ _ _ c.deref.ensures.value c.in_ok-seen.ensures.asks

pub returns-then-are_streams-clause-asks : goal.returns-then-are_streams-clause-asks
returns-then-are_streams-clause-asks g c =
    asked_of c.args.sight.now.catalog.now _ _ _ _ _ c.deref.ensures.value c.in_ok-seen.ensures.asks

pub returns-clause-asks : goal.returns-clause-asks
returns-clause-asks g c = λ standard.
    let so : list_all is_stream c.in_ok-seen.seen.items ≡ true =
    streams_all c.args.sight.now.catalog.now c.in_ok-seen.seen.items _ c.args.bound.now.sources.items
    c.deref.ensures.value c.in_ok-seen.ensures.streams standard in
    let never : false ≡ true = sym c.if-are_streams.false ∙ c.are_streams.ensures
    ∙ ap (list_all is_stream) c.deref-3.ensures.value ∙ so in
    absurd cc
