use Rattle.std.proofs.Common.{refl, ap, sym, ◌∙◌}
use Rattle.wh_meaning.specs.Bag.{bag_of}
use Rattle.wh_machine.specs.Sessions.{transaction_in}
use Rattle.wh_machine.specs.Reading.{start_in}
use Rattle.wh_net.specs.Stream.{rows_shown}
use Rattle.wh_state.specs.Objects.{table_at}
use Rattle.wh_catalog.specs.Catalog.{state_of}
use Rattle.wh_catalog.specs.Stream.{stream_of}
use Rattle.wh_decide.specs.Sight.{machine_in, objects_seen}
use Rattle.wh_txn.proofs.ShownLemmas.{standing_bag}
use Rattle.wh_decide.proofs.SourceLemmas.{stream_rows, table_rows}
use Rattle.wh_decide.proofs.AskLemmas.{moved_from, not_standard}
use Rattle.wh_decide.proofs.sources.source_seen.Goals as goal

pub returns-in-Some-clause-seen : goal.returns-in-Some-clause-seen
returns-in-Some-clause-seen g c = λ shown.
    let sight = c.args.sight.now in
    let m = machine_in sight in
    ap bag_of (c.in_ok-rows.ensures.shown shown
    ∙ ap (rows_shown (state_of sight.catalog.now).objects (stream_of c.in-Some.stream.now)) c.start.ensures)
    ∙ sym (stream_rows sight.catalog.now (objects_seen sight) (start_in m sight.session) c.args.id
    (stream_of c.in-Some.stream.now) (sym c.in-Some.ensures))

pub returns-clause-seen : goal.returns-clause-seen
returns-clause-seen g c = λ shown.
    let sight = c.args.sight.now in
    let m = machine_in sight in
    standing_bag c.in_ok-table.table (table_at (objects_seen sight) c.args.id)
    (c.in_ok-table.ensures.stands shown sight.stamp)
    ∙ sym (table_rows sight.catalog.now m.state (transaction_in m.sessions sight.session)
    (start_in m sight.session) c.args.id refl (sym c.in_default.ensures))

-- the stream of the id
pub returns-in-Some-clause-asks : goal.returns-in-Some-clause-asks
returns-in-Some-clause-asks g c =
    moved_from c.args.sight.now.catalog.now c.args.id (stream_of c.in-Some.stream.now) _ _ _ _ c.start.ensures
    (sym c.in-Some.ensures) c.in_ok-rows.ensures.asks

pub returns-in_err-rows-clause-asks : goal.returns-in_err-rows-clause-asks
returns-in_err-rows-clause-asks g c =
    moved_from c.args.sight.now.catalog.now c.args.id (stream_of c.in-Some.stream.now) _ _ _ _ c.start.ensures
    (sym c.in-Some.ensures) c.in_err-rows.ensures.asks

-- no stream, and so no standard one
pub returns-in_err-table-clause-asks : goal.returns-in_err-table-clause-asks
returns-in_err-table-clause-asks g c =
    not_standard c.args.sight.now.catalog.now _ c.args.id _ _ (sym c.in_default.ensures)

pub returns-clause-asks : goal.returns-clause-asks
returns-clause-asks g c = not_standard c.args.sight.now.catalog.now _ c.args.id _ _ (sym c.in_default.ensures)
