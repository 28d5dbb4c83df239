use Rattle.std.proofs.Common.{List, Some, sym, subst}
use Rattle.wh_meaning.specs.Bag.{bag_of}
use Rattle.wh_algebra.specs.declared.tuple.Tuple.{Tuple}
use Rattle.wh_algebra.specs.Tuple.{rows_in}
use Rattle.wh_exec.specs.declared.sink.Sink.{Sink}
use Rattle.wh_exec.specs.declared.sink.Sink.TheVariants.{Rows, Groups}
use Rattle.wh_exec.specs.Sink.{Takes, Pours}
use Rattle.wh_exec.proofs.SinkLaws.{rows_taken, groups_taken}
use Rattle.wh_exec.proofs.sink.put_in.Goals as goal

pub returns-in_ok-put_all-in-Rows : goal.returns-in_ok-put_all-in-Rows
returns-in_ok-put_all-in-Rows g c =
    let rows = rows_in c.args.rows.items in
    subst (λ (s : Sink). Takes s (Rows c.put_all.new.kept) (Some (bag_of rows))) (sym c.in-Rows.is)
    (rows_taken c.in-Rows.kept c.put_all.new.kept rows c.in_ok-put_all-in-Rows.ensures)

pub returns-in-Groups : goal.returns-in-Groups
returns-in-Groups g c =
    subst (λ (s : Sink). Pours c.add.result s (Groups c.add.new.self) (Some (bag_of (rows_in c.args.rows.items))))
    (sym c.in-Groups.is)
    (subst (λ (ts : List Tuple). Pours c.add.result (Groups c.in-Groups.grouping) (Groups c.add.new.self)
    (Some (bag_of (rows_in ts)))) c.deref.ensures.value
    (groups_taken c.in-Groups.grouping c.add.new.self (rows_in c.deref.result.now) c.add.result c.add.ensures.same
    c.add.ensures.added))
