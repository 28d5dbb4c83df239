use Rattle.std.proofs.Common.{◌≡◌, ◌∙◌, refl, ap, sym, subst, Some}
use Rattle.std.specs.FinMap.{from_entries, insert}
use Rattle.std.specs.Option.{IsSome}
use Rattle.std.specs.BTreeMap.{is_at}
use Rattle.std.specs.Map.{lookup}
use Rattle.wh_value.specs.Value.{row_cmp}
use Rattle.wh_value.specs.Order.{row_total}
use Rattle.wh_meaning.proofs.KeyMaps.{gotten}
use Rattle.wh_group.specs.Slots.{slots_of}
use Rattle.wh_group.proofs.MapLaws.{set_after}
use Rattle.wh_group.proofs.groups.Groups.replace.Goals as goal

pub returns-in-Some : goal.returns-in-Some
returns-in-Some c =
    let m = c.args.self.now.map in
    let key = c.args.key.now in
    let new = c.replace.new.dest in
    let found : Some c.in-Some.slot.now ≡ lookup (is_at (row_cmp key)) m.entries = c.in-Some.ensures.value in
    let written = (c.get_mut.follows.holds new).3 (subst IsSome found refl) in (
      gotten row_total m.entries key ∙ sym found ∙ ap Some (sym c.replace.ensures.value),
      set_after m.entries (c.get_mut.follows.lender new).entries key new written.0
          ∙ ap (insert (slots_of c.args.self.now) key) c.replace.ensures.after,
    )

pub returns-in-None : goal.returns-in-None
returns-in-None c = (
  refl,
  gotten row_total c.args.self.now.map.entries c.args.key.now ∙ sym c.in-None.ensures.value,
  ap (λ t. from_entries t.entries) c.get_mut.follows.holds-at-none,
)
