use Rattle.std.proofs.Common.{◌≤◌, ◌∙◌, ap, sym, subst, is_some, ℕ}
use Rattle.std.specs.List.{list_any}
use Rattle.std.specs.FinMap.{get}
use Rattle.wh_value.specs.Value.{Row}
use Rattle.wh_part.specs.View.{numbered_of}
use Rattle.wh_version.proofs.Touched.{any-map, apart_untouched}
use Rattle.wh_version.proofs.touching.is_touched.Goals as goal

pub returns-then-not-has_between : goal.returns-then-not-has_between
returns-then-not-has_between c =
    let apart = c.if-not-has_between.ensures in
    sym (apart_untouched c.args.edits.now c.args.partition.now c.rows-rows.ensures.rising (λ number above below.
    apart number (subst (λ n. n ≤ number) (sym c.first.ensures) above)
    (subst (λ n. number ≤ n) (sym c.last.ensures) below)))

pub returns : goal.returns
returns c =
    let test = λ (entry : ℕ × Row). is_some (get c.args.edits.now entry.0) in
    c.names_one.ensures ∙ any-map numbered_of test c.rows-rows.result.now ∙ ap (list_any test) c.rows-rows.ensures.rows
