-- Maps that are written out insert by insert.
--     no_entries     the empty map has none
--     map_steps      entries and what stands at a key, insert by insert
use Rattle.std.proofs.Common.{◌≡◌, [], sym, ◌∙◌}
use Rattle.std.proofs.lemmas.List.{nil_from_length}
use Rattle.std.specs.declared.cmp.Ordering.{Ordering}
use Rattle.std.specs.FinMap.{empty, entries, entries-insert, len-entries, len-empty, gets}
use Rattle.wh_value.specs.Order.{row_total}

pub no_entries : {K X : Type 0} (R : K → K → Ordering) → entries (empty {X = X} {R = R}) ≡ []
no_entries {X = X} R = nil_from_length _ (sym (len-entries empty) ∙ len-empty R X)

pub ruleset map_steps = (gets, entries-insert, no_entries, row_total)
