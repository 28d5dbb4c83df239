use Rattle.std.proofs.Common.{◌≡◌, suc, ◌-◌, ap, ◌∙◌, arith}
use Rattle.wh_generator.specs.Generated.{draw}
use Rattle.wh_generator.proofs.Pieces.{row_comes}
use Rattle.wh_generator.proofs.rest.Rest.next_row.Goals as goal

pub returns-clause-pieces : goal.returns-clause-pieces
returns-clause-pieces c =
    let left = c.args.self.now.left in
    let one : left ≡ suc (left - 1) = omega (arith, c.requires.some) in
    row_comes _ _ _ _ _ _ _ _ one c.requires.open c.requires.empty c.put_piece.ensures.items
    (c.draw-self.ensures.drawn ∙ ap draw c.draw.ensures.drawn)
