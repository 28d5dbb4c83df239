use Rattle.std.proofs.Common.{◌-◌, ◌≤◌, ◌<◌, length, Some, sym, ◌∙◌, ap, rules}
use Rattle.std.proofs.lemmas.Option.{slice_get_past, slice_get-get_or}
use Rattle.wh_dynamic.proofs.PlaceLemmas.{found_at, none_at}
use Rattle.wh_dynamic.proofs.reached.watched_at.Goals as goal

pub returns-in-Some : goal.returns-in-Some
returns-in-Some c =
    let within : c.args.id - 1 < length c.args.all.now = search rules in
    found_at c.args.all.now c.args.id c.in-Some.table.now c.if-id-eq0.false
    (slice_get-get_or c.args.all.now (c.args.id - 1) _ within ∙ ap Some (sym c.in-Some.ensures.lookup.1))

pub returns-in-None : goal.returns-in-None
returns-in-None c =
    let past : length c.args.all.now ≤ c.args.id - 1 = search rules in
    none_at c.args.all.now c.args.id c.if-id-eq0.false (slice_get_past c.args.all.now (c.args.id - 1) past)
