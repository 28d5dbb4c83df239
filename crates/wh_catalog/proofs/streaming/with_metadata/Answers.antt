use Rattle.std.proofs.Common.{◌≡◌, ◌∙◌, ap, map, ◌++◌, ◌∷◌, []}
use Rattle.wh_value.specs.View.{column_of}
use Rattle.wh_catalog.proofs.Columns.{three_more}
use Rattle.wh_catalog.proofs.streaming.with_metadata.Goals as goal

pub returns : goal.returns
returns c =
    let made = c.in_ok-made.made.items in
    let action = c.in_ok-column.field-0 in
    let update = c.in_ok-column-2.field-0 in
    let row_id = c.in_ok-column-3.field-0 in
    let items : c.push-3.new.self.items ≡ ((made ++ action ∷ []) ++ update ∷ []) ++ row_id ∷ [] =
    c.in_ok-push-3.ensures.items ∙ ap (λ l. l ++ row_id ∷ [])
    (c.in_ok-push-2.ensures.items ∙ ap (λ l. l ++ update ∷ []) c.in_ok-push.ensures.items) in
    ap (map column_of) items
    ∙ three_more column_of made action update row_id
    ∙ (λ i. c.in_ok-made.ensures i
    ++ c.in_ok-column.ensures i ∷ c.in_ok-column-2.ensures i ∷ c.in_ok-column-3.ensures i ∷ [])
