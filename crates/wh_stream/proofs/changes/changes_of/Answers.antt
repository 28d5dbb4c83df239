use Rattle.std.proofs.Common.{◌≡◌, ◌∙◌, true, false, sym, subst, ℕ, arith}
use Rattle.wh_filed.specs.Filed.{Filed}
use Rattle.wh_filed.proofs.AskingLaws.{asks_none, asks_as}
use Rattle.wh_version.specs.Moved.{IsMoved}
use Rattle.wh_state.specs.Stored.{table_meant}
use Rattle.wh_net.specs.Stream.{rows_at}
use Rattle.wh_table.specs.Table.{table_of, filed_of}
use Rattle.wh_catalog.specs.Stream.{stream_of}
use Rattle.wh_stream.specs.Asked.{IsMovedIn}
use Rattle.wh_stream.proofs.ShownLaws.{shown_net}
use Rattle.wh_stream.proofs.changes.changes_of.Given.{Over}
use Rattle.wh_stream.proofs.changes.changes_of.Goals.{After-turned_over}
use Rattle.wh_stream.proofs.changes.changes_of.Goals as goal

pub returns-clause-given : goal.returns-clause-given
returns-clause-given g c shown =
    let t = table_meant (table_of c.args.table.now) in
    let offset = c.offset-offset.result in (
      rows_at t offset,
      rows_at t c.args.start,
      c.in_ok-turned.ensures.turned shown,
      shown_net t (stream_of c.args.stream.now) offset c.args.start c.offset-offset.ensures
          (omega (arith, c.if-start-offset.false)) (sym c.is_append_only.ensures ∙ c.if-is_append_only.false),
    )

-- ---- what is asked for

pub returns-then-start-offset-clause-asks : goal.returns-then-start-offset-clause-asks
returns-then-start-offset-clause-asks g c = λ standard. asks_none _ _

pub returns-in_err-found-clause-asks : goal.returns-in_err-found-clause-asks
returns-in_err-found-clause-asks g c = λ standard.
    let never : true ≡ false = sym c.if-is_append_only.true ∙ c.is_append_only.ensures ∙ standard in absurd cc

pub returns-then-is_append_only-clause-asks : goal.returns-then-is_append_only-clause-asks
returns-then-is_append_only-clause-asks g c = λ standard.
    let never : true ≡ false = sym c.if-is_append_only.true ∙ c.is_append_only.ensures ∙ standard in absurd cc

module _ (g : Over) (c : After-turned_over g) where
  moved : (f : Filed)
      → IsMoved c.offset-offset.result c.args.start (table_of c.args.table.now).versions (filed_of c.args.table.now) f
      → IsMovedIn c.args.table.now (stream_of c.args.stream.now) c.args.start f
  moved f is = record {
    behind = omega (arith, c.if-start-offset.false, c.offset-offset.ensures);
    moved = subst (λ (offset : ℕ). IsMoved offset c.args.start (table_of c.args.table.now).versions
        (filed_of c.args.table.now) f) c.offset-offset.ensures is;
  }

pub returns-in_err-turned-clause-asks : goal.returns-in_err-turned-clause-asks
returns-in_err-turned-clause-asks g c = λ standard.
    asks_as _ _ _ _ (moved g (goal.at.returns-in_err-turned-clause-asks g c).After-turned_over)
    c.in_err-turned.ensures.asks

pub returns-clause-asks : goal.returns-clause-asks
returns-clause-asks g c = λ standard.
    asks_as _ _ _ _ (moved g (goal.at.returns-clause-asks g c).After-turned_over) c.in_ok-turned.ensures.asks
