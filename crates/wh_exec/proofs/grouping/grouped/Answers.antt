use Rattle.std.proofs.lemmas.Result.{err_from_is_err_and}
use Rattle.wh_meaning.specs.Bag.{no_rows}
use Rattle.wh_algebra.specs.View.{scalars_of, calls_of}
use Rattle.wh_exec.proofs.PieceLaws.{piece_taken, piece_lacks}
use Rattle.wh_exec.proofs.grouping.grouped.Goals as goal

pub returns-in_err-add : goal.returns-in_err-add
returns-in_err-add c =
    let p = err_from_is_err_and c.from_residual-in_err-add.result c.from_residual-in_err-add.ensures.1 in
    rw (p.1, p.2) (piece_lacks (scalars_of c.args.by.now) (calls_of c.args.calls.now) c.args.rows.now _ _
    (c.in_err-add.ensures no_rows c.in_ok-groups.ensures))

pub returns : goal.returns
returns c =
    piece_taken (scalars_of c.args.by.now) (calls_of c.args.calls.now) c.args.rows.now c.add.new.self
    (c.in_ok-add.ensures no_rows c.in_ok-groups.ensures)
