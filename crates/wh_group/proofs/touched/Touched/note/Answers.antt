use Rattle.std.proofs.Common.{◌≡◌, ◌∙◌, refl, ap, sym, subst, cond, Some, None, is_eq, arith}
use Rattle.std.proofs.lemmas.Grind.{common_steps}
use Rattle.std.specs.FinMap.{from_entries}
use Rattle.std.specs.Option.{IsSome, unwrap_or}
use Rattle.std.specs.BTreeMap.{is_at}
use Rattle.std.specs.Map.{lookup}
use Rattle.wh_value.specs.Value.{row_cmp}
use Rattle.wh_algebra.specs.View.{calls_of}
use Rattle.wh_group.specs.Moves.{begun_move}
use Rattle.wh_aggregate.specs.Given.{Leaves}
use Rattle.wh_group.specs.Moves.{noted}
use Rattle.wh_aggregate.proofs.FaultLemmas.{still, passed_on}
use Rattle.wh_group.proofs.MapLaws.{row_left, row_noted, not_noted}
use Rattle.wh_group.proofs.touched.Touched.note.Goals as goal

pub returns-in-Some : goal.returns-in-Some
returns-in-Some c =
    let calls = calls_of c.args.calls.now in
    let key = c.args.key in
    let m = c.self.inside.map in
    let new = c.add_row.new.self in
    let found : Some c.in-Some.moving.now ≡ lookup (is_at (row_cmp key)) m.entries = c.in-Some.ensures.value in
    let written = (c.get_mut.follows.holds new).3 (subst IsSome found refl) in
    row_left c.args.side calls c.args.row.now key m.entries (c.get_mut.follows.lender new).entries c.args.self.now
    (sym c.self.view_is) c.in-Some.moving.now new
    (ap (λ o. unwrap_or o (begun_move calls)) found) written.0 c.add_row.result c.add_row.ensures

pub returns-in_err-add_row : goal.returns-in_err-add_row
returns-in_err-add_row c =
    let calls = calls_of c.args.calls.now in
    let key = c.args.key in
    let m = c.self.inside.map in
    let begins = c.in_ok-moving.ensures in
    let absent : lookup (is_at (row_cmp key)) m.entries ≡ None = grind (arith, common_steps) in
    passed_on c.from_residual-in_err-add_row.result c.in_err-add_row.field-0.0
    (λ r. Leaves r (from_entries c.get_mut.follows.lender-at-none.entries)
    (noted c.args.side calls c.args.row.now key c.args.self.now)) c.from_residual-in_err-add_row.ensures.1
    (still c.in_err-add_row.field-0.0 _ _ (not_noted c.args.side calls c.args.row.now key m.entries m.entries
    c.args.self.now (sym c.self.view_is) c.in_ok-moving.moving c.in_ok-moving.moving
    (begins ∙ ap (λ o. unwrap_or o (begun_move calls)) (sym absent)))
    c.in_err-add_row.ensures)

pub returns : goal.returns
returns c =
    let calls = calls_of c.args.calls.now in
    let key = c.args.key in
    let m = c.self.inside.map in
    let new = c.add_row-2.new.self in
    let absent : lookup (is_at (row_cmp key)) m.entries ≡ None = grind (arith, common_steps) in
    let same = c.get_mut.follows.holds-at-none in
    row_noted c.args.side calls c.args.row.now key m.entries c.insert.new.self.entries c.args.self.now
    (sym c.self.view_is) c.in_ok-moving.moving new
    (c.in_ok-moving.ensures ∙ ap (λ o. unwrap_or o (begun_move calls)) (sym absent))
    (λ q. c.in-Ok.ensures.updates.0 q
    ∙ ap (λ t. cond (is_eq (row_cmp key q)) (Some new) (lookup (is_at (row_cmp q)) t.entries)) same)
    c.in_ok-add_row.ensures
