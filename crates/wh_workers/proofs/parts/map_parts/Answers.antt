use Rattle.std.proofs.Common.{◌≡◌, Some}
use Rattle.std.specs.Fn.{FnReturnsAt}
use Rattle.std.specs.Arc.{arc_value}
use Rattle.std.proofs.lemmas.Result.{IfOk-weaker}
use Rattle.wh_workers.specs.Joined.{joined_of}
use Rattle.wh_workers.proofs.JoinedLaws.{InPiece, joined_whole}
use Rattle.wh_workers.proofs.Answered.{pieces_as}
use Rattle.wh_workers.proofs.parts.map_parts.Goals as goal

pub returns : goal.returns
returns g c =
    IfOk-weaker c.joined.result (λ answers. joined_of c.in_ok-pieces.pieces.items ≡ Some answers.items) _
    (λ answers is.
    joined_whole _ c.args.workers.now.count c.args.parts.now c.in_ok-pieces.pieces.items answers.items
    (pieces_as _ _ c.args.workers.now.count c.args.parts.now c.in_ok-pieces.pieces.items c.in_ok-pieces.ensures
    (InPiece (λ part answer. FnReturnsAt g.F.Fn c.args.f.now (arc_value part) answer)) (λ piece answer post. post)) is)
    c.joined.ensures
