-- Where no slot stands, none is put back and none is removed.
use Rattle.std.proofs.Common.{◌≡◌, Bool, true, false, cond, if◌then◌else◌, List, [], ◌∷◌, Option, Some, None, is_some, refl, sym, ap, ◌∙◌}
use Rattle.std.specs.Ordering.{eq_by_cmp}
use Rattle.std.specs.FinMap.{empty, get, insert, remove, same_map, get-empty, get-remove}
use Rattle.wh_value.specs.Value.{Row, row_cmp}
use Rattle.wh_value.specs.Order.{row_total, row-IsAntisymmetric}
use Rattle.wh_meaning.specs.Scalar.{of_one}
use Rattle.wh_maintenance.specs.Standing.{Standing, if_left}
use Rattle.wh_maintenance.specs.Entries.{GroupEntry, set_at}
use Rattle.wh_group.specs.declared.groups.Before.{Before}
use Rattle.wh_group.specs.declared.groups.Before.TheVariants.{Nothing, Entries}
use Rattle.wh_group.specs.Slots.{Slots, put_at, put_slot, put_slots, put_before}
use Rattle.wh_group.specs.Slots.{settle_slot, settle_slots, settle_found, settle_before}

none_both : (b : Bool) → cond {A = Option Standing} b None None ≡ None
none_both true = refl
none_both false = refl

none_removed : (key : Row) → remove (empty {X = Standing} {R = row_cmp}) key ≡ empty
none_removed key = same_map row_total row-IsAntisymmetric (remove empty key) empty (λ q.
    get-remove row_total empty key q
    ∙ ap (cond (eq_by_cmp row_cmp q key) None) (get-empty row_cmp q)
    ∙ none_both (eq_by_cmp row_cmp q key)
    ∙ sym (get-empty row_cmp q))

none_at : (key : Row) (group : Option Standing) → put_at empty key group ≡ empty
none_at key None = none_removed key
none_at key (Some s) = ap (λ found. cond (is_some found) (insert empty key s) empty) (get-empty row_cmp key)

each_put : (es : List GroupEntry) → put_slots es empty ≡ empty
each_put [] = refl
each_put (e ∷ es) = ap (λ slots. put_slot slots e) (each_put es) ∙ none_at e.key e.group

pub none_put : (was : Before) → put_before was empty ≡ empty
none_put Nothing = refl
none_put (Entries was) = each_put was.items

same_both : (b : Bool) (slots : Slots) → (if b then slots else slots) ≡ slots
same_both true slots = refl
same_both false slots = refl

none_found : (e : GroupEntry) → settle_found empty e ≡ empty
none_found e =
    let here : settle_slot empty e.key ≡ empty =
    ap (λ found. set_at empty e.key (of_one if_left found)) (get-empty row_cmp e.key) ∙ none_removed e.key in
    ap (λ (slots : Slots). if is_some e.group then slots else empty) here ∙ same_both (is_some e.group) empty

each_settled : (es : List GroupEntry) → settle_slots es empty ≡ empty
each_settled [] = refl
each_settled (e ∷ es) = ap (settle_slots es) (none_found e) ∙ each_settled es

pub none_settled : (was : Before) → settle_before was empty ≡ empty
none_settled Nothing = refl
none_settled (Entries was) = each_settled was.items
