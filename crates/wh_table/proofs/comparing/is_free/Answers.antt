use Rattle.std.proofs.Common.{◌∙◌, ap, sym}
use Rattle.std.specs.Prelude.{◌&&◌}
use Rattle.std.specs.List.{list_all}
use Rattle.wh_table.specs.Apart.{are_apart}
use Rattle.wh_table.proofs.Apart.{stay}
use Rattle.wh_table.proofs.comparing.is_free.Goals as goal

pub returns-then-is_apart_from_kept : goal.returns-then-is_apart_from_kept
returns-then-is_apart_from_kept g c =
    let rows = g.P.Ranged.rows in
    let kept = stay (are_apart (rows c.args.partition.now)) c.args.removed.now c.args.kept.now in
    c.is_apart_from.ensures
    ∙ ap (λ b. b && list_all (λ p. are_apart (rows c.args.partition.now) (rows p)) c.args.earlier.now)
    (sym c.if-is_apart_from_kept.true ∙ c.is_apart_from_kept.ensures ∙ kept)

pub returns-else-is_apart_from_kept : goal.returns-else-is_apart_from_kept
returns-else-is_apart_from_kept g c =
    let rows = g.P.Ranged.rows in
    let kept = stay (are_apart (rows c.args.partition.now)) c.args.removed.now c.args.kept.now in
    c.if-is_apart_from_kept.false
    ∙ ap (λ b. b && list_all (λ p. are_apart (rows c.args.partition.now) (rows p)) c.args.earlier.now)
    (sym c.if-is_apart_from_kept.false ∙ c.is_apart_from_kept.ensures ∙ kept)
