-- What a change leaves, over the least change that does the same.
--     lacks         a row that is missing
--     overflows     a row of which there would be too many
--     changed       the bag that is left
use Rattle.std.specs.Prelude.{◌≡◌, ◌+◌, ◌-◌, ◌^◌, ◌≤◌}
use Rattle.std.proofs.Common.{sym, ap, ◌∙◌, arith}
use Rattle.wh_value.specs.Value.{Row}
use Rattle.wh_meaning.specs.Bag as bags
use Rattle.wh_meaning.specs.Bag.{Bag, no_rows, count}
use Rattle.wh_meaning.specs.BagChange.{IsExcess, IsNet, IsChanged, Lacks, Overflows}
use Rattle.wh_meaning.proofs.BagLaws.{count-no_rows, count-plus}
use Rattle.wh_bag.proofs.Entries.{some_row}

module _ (old plus minus more less lacking : Bag)
    (net : IsNet minus plus more less) (lack : IsExcess less old lacking) where
  pub lacks : (lacking ≡ no_rows → ⊥) → Lacks old plus minus
  lacks some =
      let w = some_row lacking some in
      let taken = net.removed w.0 in
      let left = lack w.0 in
      let there = w.1 in
      (w.0, omega arith)

  module _ (none : lacking ≡ no_rows) (rest : Bag) (kept : IsExcess old less rest) where
    within : (q : Row) → count less q - count old q ≡ 0
    within q = sym (lack q) ∙ ap (λ b. count b q) none ∙ count-no_rows q

    pub overflows : (q : Row) × (2 ^ 64 ≤ count rest q + count more q) → Overflows old plus minus
    overflows w =
        let q = w.0 in
        let over = w.1 in
        let added = net.added q in
        let taken = net.removed q in
        let is = kept q in
        let fits = within q in
        (q, omega arith)

    pub changed : (new : Bag) → new ≡ bags.plus more rest → IsChanged old plus minus new
    changed new made q =
        let sum : count new q ≡ count more q + count rest q = ap (λ b. count b q) made ∙ count-plus more rest q in
        let added = net.added q in
        let taken = net.removed q in
        let is = kept q in
        let fits = within q in
        omega arith
