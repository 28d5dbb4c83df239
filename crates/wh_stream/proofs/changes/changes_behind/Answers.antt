use Rattle.std.proofs.Common.{IfOk, List, Some, None, sym, ap, subst, ◌∙◌}
use Rattle.wh_state.specs.Objects.{table_at}
use Rattle.wh_filed.specs.Filed.{Filed}
use Rattle.wh_filed.proofs.AskingLaws.{asks_none, asks_as}
use Rattle.wh_version.specs.Moved.{IsMoved}
use Rattle.wh_catalog.specs.Catalog.{stored_of, filed_under}
use Rattle.wh_stream.specs.Asked.{IsMovedIn, IsMovedFor}
use Rattle.wh_net.specs.Net.{RowChange}
use Rattle.wh_fetch.specs.DiskFetch.{told_of}
use Rattle.wh_table.specs.Table.{table_of}
use Rattle.wh_catalog.specs.Stream.{stream_of}
use Rattle.wh_stream.specs.Loaded.{Gives}
use Rattle.wh_stream.proofs.ShownLaws.{shown_on}
use Rattle.wh_stream.proofs.changes.changes_behind.Goals as goal

pub returns-in-Some-clause-given : goal.returns-in-Some-clause-given
returns-in-Some-clause-given g c shown =
    subst (λ (records : List RowChange). IfOk c.changes_of.result (λ found. Gives found records))
    (sym (shown_on c.args.catalog.now (stream_of c.args.stream.now) c.args.start c.source.result
    (Some (table_of c.in-Some.table.now)) c.source.ensures c.in-Some.ensures.table))
    (c.changes_of.ensures.given (c.in-Some.ensures.among (told_of g.D.Disk c.args.fetch.now) shown))

pub returns-in-Some-clause-sound : goal.returns-in-Some-clause-sound
returns-in-Some-clause-sound g c shown =
    c.changes_of.ensures.sound (c.in-Some.ensures.among (told_of g.D.Disk c.args.fetch.now) shown)

pub returns-in-None-clause-given : goal.returns-in-None-clause-given
returns-in-None-clause-given g c shown =
    shown_on c.args.catalog.now (stream_of c.args.stream.now) c.args.start c.source.result None c.source.ensures
    c.in-None.ensures.table

-- ---- what is asked for

-- the table of the stream's source
pub returns-in-Some-clause-asks : goal.returns-in-Some-clause-asks
returns-in-Some-clause-asks g c = λ standard.
    asks_as _ _ _ _ (λ f is. of_source f is) (c.changes_of.ensures.asks standard)
  where
    of_source : (f : Filed) → IsMovedIn c.in-Some.table.now (stream_of c.args.stream.now) c.args.start f
        → IsMovedFor c.args.catalog.now (stream_of c.args.stream.now) c.args.start f
    of_source f is = record {
      behind = is.behind;
      table = table_of c.in-Some.table.now;
      source = ap (table_at (stored_of c.args.catalog.now).objects) (sym c.source.ensures) ∙ sym c.in-Some.ensures.table;
      moved = subst (λ (filed : List Filed). IsMoved (stream_of c.args.stream.now).offset c.args.start
          (table_of c.in-Some.table.now).versions filed f)
          (c.in-Some.ensures.filed ∙ ap (filed_under c.args.catalog.now) c.source.ensures) is.moved;
    }

pub returns-in-None-clause-asks : goal.returns-in-None-clause-asks
returns-in-None-clause-asks g c = λ standard. asks_none _ _
