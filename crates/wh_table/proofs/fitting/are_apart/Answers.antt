use Rattle.std.proofs.Common.{List, ◌≤◌, ◌∙◌, sym, ap, map, arith}
use Rattle.std.specs.Prelude.{not}
use Rattle.wh_frame.specs.Partition.{Partition}
use Rattle.wh_state.specs.Edits.{without, is_among}
use Rattle.wh_version.specs.Lasting.{is_standing}
use Rattle.wh_version.specs.History.{versions_of, standing_in}
use Rattle.wh_table.specs.Apart.{all_apart, highest_number}
use Rattle.wh_table.proofs.Apart.{rising_apart, highest_filter, highest_kept}
use Rattle.wh_table.proofs.fitting.are_apart.Goals as goal

pub returns-then-rise_above : goal.returns-then-rise_above
returns-then-rise_above g c =
    let removed = c.args.removed.now in
    let standing : List Partition = standing_in (versions_of c.args.history.now) in
    let rises = sym c.rise_above.ensures ∙ c.if-rise_above.true in
    let fewer = highest_filter (λ p. not (is_among p.number removed)) standing in
    let standing_below = highest_kept is_standing c.kept-kept.result.now in
    let below : highest_number (without removed standing) ≤ c.args.highest =
    omega (
      arith,
      c.requires,
      fewer,
      standing_below,
      ap highest_number c.kept-kept.ensures.standing,
      ap highest_number c.kept-kept.ensures.kept,
    ) in
    let added : List Partition = map g.P.Ranged.rows c.args.added.now in
    c.if-rise_above.true ∙ sym (rising_apart (without removed standing) added c.args.highest below rises)

pub returns-else-rise_above : goal.returns-else-rise_above
returns-else-rise_above g c =
    c.compared_apart.ensures
    ∙ ap (λ ps. all_apart (without c.args.removed.now ps) (map g.P.Ranged.rows c.args.added.now))
    c.kept-kept.ensures.standing
