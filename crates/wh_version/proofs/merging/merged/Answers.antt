use Rattle.std.proofs.Common.{◌≡◌, ◌∙◌, ap, sym, ◌∷◌, [], ◌++◌, length, true, arith}
use Rattle.std.proofs.lemmas.List.{nil_from_length, map-append}
use Rattle.std.proofs.lemmas.Bool.{eqb-true}
use Rattle.std.specs.FinMap.{is_sorted}
use Rattle.std.specs.Ordering.{nat_cmp}
use Rattle.std.specs.Vec.Iter.{into_iter_items}
use Rattle.wh_version.specs.RowEdits.{entry_of, entries_in, puts}
use Rattle.wh_version.proofs.RisingEdits.{rest_rises}
use Rattle.wh_version.proofs.Puts.{puts_alone, merged_on}
use Rattle.wh_version.proofs.merging.merged.Goals as goal

pub loop-edit-preserved : goal.loop-edit-preserved
loop-edit-preserved c =
    let at = c.loop-edit in
    let edit = c.in-Some.edit in
    let rest = into_iter_items c.next.new.self in
    let steps : into_iter_items at.edit-iterator ≡ edit ∷ rest = c.in-Some.ensures.steps.0 in
    let was = at.invariant.2 in
    let gone = c.in-Some.ensures.steps.1 in
    let count = ap length steps in
    let rises : is_sorted nat_cmp (entries_in (edit ∷ rest)) ≡ true =
    ap (λ l. is_sorted nat_cmp (entries_in l)) (sym steps) ∙ at.invariant.1 in (
      merged_on (entry_of edit) (entries_in rest) (entries_in at.earlier.items)
          (entries_in c.add_later.new.earlier.items) (entries_in at.merged.items)
          (entries_in c.add_later.new.merged.items) _ rises
          c.in_ok-add_later.ensures.merged c.in_ok-add_later.ensures.earlier
          (ap (λ l. entries_in at.merged.items ++ puts (entries_in at.earlier.items) (entries_in l)) (sym steps)
          ∙ at.invariant.0),
      rest_rises (entry_of edit) (entries_in rest) rises,
      omega arith,
    )

pub returns-then-is_empty : goal.returns-then-is_empty
returns-then-is_empty c =
    let earlier = c.args.earlier in
    let later = entries_in c.args.later.items in
    let sized = earlier.ok.0 in
    let none : earlier.len ≡ 0 = eqb-true earlier.len 0 (sym c.if-is_empty.ensures) in
    let empty : earlier.items ≡ [] = nil_from_length _ (omega arith) in
    sym (ap (λ items. puts (entries_in items) later) empty ∙ puts_alone later c.requires)

pub returns : goal.returns
returns c =
    let at = c.loop-edit in
    let none = c.in-None.ensures.steps in
    let empty : into_iter_items at.edit-iterator ≡ [] = nil_from_length _ (sym at.invariant.2 ∙ none.0) in
    ap entries_in c.in_ok-append.ensures.items
    ∙ map-append entry_of at.merged.items _
    ∙ ap (λ l. entries_in at.merged.items ++ entries_in l) c.into_vec-rest.ensures.items
    ∙ ap (λ l. entries_in at.merged.items ++ puts (entries_in at.earlier.items) (entries_in l)) (sym empty)
    ∙ at.invariant.0
    ∙ (λ i. puts (entries_in (c.from_vec-earlier.ensures.items i))
    (entries_in (c.into_iter-edit-iterator.ensures.into_iter_gives.0 i)))
