use Rattle.std.proofs.Common.{◌∙◌, ap, is_some}
use Rattle.std.specs.List.{list_any}
use Rattle.wh_version.proofs.Touched.{any-map}
use Rattle.wh_change.specs.Seen.{has_number}
use Rattle.wh_change.proofs.SeenRows.{placed_any}
use Rattle.wh_change.proofs.seen.Seen.place_of.Goals as goal

pub returns : goal.returns
returns c =
    let partitions = c.args.self.now.partitions.items in
    ap is_some c.first_with.ensures ∙ placed_any (λ p. has_number c.args.number p.now) c.deref-2.result.now
    ∙ ap (list_any (λ p. has_number c.args.number p.now)) c.deref-2.ensures.value
    ∙ any-map (λ p. p.now) (has_number c.args.number) partitions
