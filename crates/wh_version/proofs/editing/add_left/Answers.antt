use Rattle.std.proofs.Common.{◌≡◌, ℕ, ◌+◌, ◌<◌, ◌∷◌, [], ◌++◌, ◌∙◌, ap, sym, subst, length, map, List, arith}
use Rattle.std.proofs.lemmas.List.{length-map}
use Rattle.std.proofs.lemmas.Bool.{eqb-false}
use Rattle.wh_value.specs.Value.{Row}
use Rattle.wh_frame.specs.Spelling.{RisesFrom}
use Rattle.wh_part.specs.View.{numbered_of}
use Rattle.wh_state.specs.Edits.{edited, made_of}
use Rattle.wh_state.proofs.PartLaws.{left_rise}
use Rattle.wh_version.proofs.Left.{length_edited, made_one}
use Rattle.wh_version.proofs.editing.add_left.Goals as goal

pub make-requires : goal.make-requires
make-requires c =
    let edits = c.args.edits.now in
    let rows = c.args.partition.now.rows in
    let items = c.in_ok-rows.rows.items in
    let sized = c.in_ok-rows.rows.ok.0 in
    let here : map numbered_of items ≡ edited edits rows =
    c.in_ok-rows.ensures ∙ ap (edited edits) c.rows.ensures.rows in
    let size : length items ≡ length (edited edits rows) = sym (length-map items numbered_of) ∙ ap length here in
    let whole : length c.rows.result.now ≡ length rows =
    sym (length-map c.rows.result.now numbered_of) ∙ ap length c.rows.ensures.rows in
    let few = c.rows.ensures.few in
    let some : c.in_ok-rows.rows.len ≡ 0 → ⊥ = eqb-false c.in_ok-rows.rows.len 0 (sym c.if-is_empty.ensures) in
    let P : List (ℕ × Row) → Type 0 = RisesFrom 0 in
    record {
      some = omega arith;
      few = omega (arith, length_edited edits rows);
      rising = subst P (sym here) (left_rise edits 0 rows c.rows.ensures.rising);
    }

pub returns : goal.returns
returns c =
    let edits = c.args.edits.now in
    let rows = c.args.partition.now.rows in
    let left = c.args.left.now in
    let p = c.make.result in
    let sized = left.ok.0 in
    let here : p.rows ≡ edited edits rows = c.make.ensures.rows ∙ c.in_ok-rows.ensures
    ∙ ap (edited edits) c.rows.ensures.rows in
    let number : p.number ≡ c.args.next + length left.items = c.make.ensures.number ∙ omega (arith, c.len.ensures) in
    let rows_sized = c.in_ok-rows.rows.ok.0 in
    let filled : c.in_ok-rows.rows.len ≡ 0 → ⊥ = eqb-false c.in_ok-rows.rows.len 0 (sym c.if-is_empty.ensures) in
    let size : length p.rows ≡ length c.in_ok-rows.rows.items =
    ap length c.make.ensures.rows ∙ length-map c.in_ok-rows.rows.items numbered_of in
    let some : 0 < length p.rows = omega arith in
    c.in_ok-push.ensures.items
    ∙ ap (λ l. left.items ++ l) (sym (made_one p some) ∙ (λ i. made_of (number i) (here i ∷ [])))
