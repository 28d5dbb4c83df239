use Rattle.std.proofs.Common.{◌≡◌, ◌∙◌, refl, sym, ap, subst, cond, Some, None, is_eq, arith}
use Rattle.std.proofs.lemmas.Grind.{common_steps}
use Rattle.std.proofs.lemmas.Result.{on_ok_weaker}
use Rattle.std.specs.Option.{IsSome}
use Rattle.std.specs.BTreeMap.{is_at}
use Rattle.std.specs.Map.{lookup}
use Rattle.wh_value.specs.Value.{row_cmp}
use Rattle.wh_aggregate.specs.Groups.{with_totals}
use Rattle.wh_aggregate.proofs.MapLemmas.{group_joined}
use Rattle.wh_aggregate.proofs.groups.Groups.join_one.Goals as goal

pub returns-in-Some : goal.returns-in-Some
returns-in-Some c =
    let key = c.args.key in
    let m = c.self.inside.map in
    let more = c.args.tallies in
    let new = c.join.new.self in
    let found : Some c.in-Some.own.now ≡ lookup (is_at (row_cmp key)) m.entries = c.in-Some.ensures.value in
    let written = (c.get_mut.follows.holds new).3 (subst IsSome found refl) in
    on_ok_weaker c.join.result (λ is.
    group_joined key m.entries (c.get_mut.follows.lender new).entries c.args.self.now (sym c.self.view_is) more new
    (is ∙ ap (λ o. with_totals o more) found) written.0) c.join.ensures

pub returns : goal.returns
returns c =
    let key = c.args.key in
    let m = c.self.inside.map in
    let more = c.args.tallies in
    let absent : lookup (is_at (row_cmp key)) m.entries ≡ None = grind (arith, common_steps) in
    let same = c.get_mut.follows.holds-at-none in
    group_joined key m.entries c.insert.new.self.entries c.args.self.now (sym c.self.view_is) more more
    (ap (λ o. with_totals o more) (sym absent))
    (λ q. c.in-Ok.ensures.updates.0 q
    ∙ ap (λ t. cond (is_eq (row_cmp key q)) (Some more) (lookup (is_at (row_cmp q)) t.entries)) same)
