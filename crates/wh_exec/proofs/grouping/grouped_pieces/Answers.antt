use Rattle.std.proofs.lemmas.Result.{IfOk-weaker}
use Rattle.wh_algebra.specs.View.{scalars_of, calls_of}
use Rattle.wh_workers.proofs.Answered.{pieces_as}
use Rattle.wh_exec.specs.Pieces.{GroupsPiece}
use Rattle.wh_exec.proofs.grouping.grouped_pieces.Goals as goal

pub returns : goal.returns
returns g c =
    IfOk-weaker c.map_pieces.result _ _
    (λ pieces are.
    let formed = pieces_as _ _ c.args.workers.now.count c.args.rows.now pieces.items are
    (GroupsPiece (scalars_of c.args.by.now) (calls_of c.args.calls.now)) (λ piece answer post. post) in
    (formed.pieces, formed.whole, formed.answered))
    c.map_pieces.ensures
