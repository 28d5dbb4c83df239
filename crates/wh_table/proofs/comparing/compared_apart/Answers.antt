use Rattle.std.proofs.Common.{List, ◌+◌, ◌∙◌, sym, ap, map, take, drop, filter, arith}
use Rattle.std.specs.Prelude.{◌&&◌}
use Rattle.wh_frame.specs.Partition.{Partition}
use Rattle.wh_state.specs.Edits.{without}
use Rattle.wh_version.specs.Lasting.{is_standing, partitions_in}
use Rattle.wh_table.specs.Apart.{all_apart}
use Rattle.wh_table.proofs.Apart.{turned, compared_by}
use Rattle.wh_table.proofs.comparing.compared_apart.Goals as goal

pub returns-then-not-is_free : goal.returns-then-not-is_free
returns-then-not-is_free g c =
    let standing : List Partition = without c.args.removed.now (partitions_in (filter is_standing c.args.kept.now)) in
    let added : List Partition = map g.P.Ranged.rows c.args.added.now in
    let at = c.loop-place.place in
    let step = compared_by g.P.Ranged.rows standing c.args.added.now at c.index-added-place.result (omega arith)
    c.index-added-place.is in
    let stops = sym c.is_free.ensures ∙ c.if-not-is_free.true in
    sym (sym c.loop-place.invariant ∙ step
    ∙ ap (λ b. b && all_apart (turned standing (take (at + 1) added)) (drop (at + 1) added)) stops)

pub loop-place-preserved : goal.loop-place-preserved
loop-place-preserved g c =
    let standing : List Partition = without c.args.removed.now (partitions_in (filter is_standing c.args.kept.now)) in
    let added : List Partition = map g.P.Ranged.rows c.args.added.now in
    let at = c.loop-place.place in
    let step = compared_by g.P.Ranged.rows standing c.args.added.now at c.index-added-place.result (omega arith)
    c.index-added-place.is in
    let goes_on = sym c.is_free.ensures ∙ c.if-not-is_free.false in
    sym (step ∙ ap (λ b. b && all_apart (turned standing (take (at + 1) added)) (drop (at + 1) added)) goes_on)
    ∙ c.loop-place.invariant
