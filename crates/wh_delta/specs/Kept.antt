-- What is found of the change of a query whose groups are kept.
--     FindsKept     the net change of its rows, and the entries that lead from its groups to those afterwards; None
--                   exactly where it has no rows afterwards
--     KeepsBetween  so from one instance to another
--     Keeps         and to each instance that changes of the sources lead to
use Rattle.std.specs.Prelude.{◌≡◌, List, ◌∷◌, Option, Some, None}
use Rattle.wh_meaning.specs.Scalar.{Scalar}
use Rattle.wh_meaning.specs.Bag.{Bag}
use Rattle.wh_meaning.specs.BagChange.{IsNet}
use Rattle.wh_meaning.specs.Query.{Query, Instance, eval}
use Rattle.wh_maintenance.specs.Delta.{Sources, AreTurns}
use Rattle.wh_maintenance.specs.Standing.{Groups}
use Rattle.wh_maintenance.specs.Above.{Grouping, grouping}
use Rattle.wh_maintenance.specs.Entries.{groups_over, entries_between}
use Rattle.wh_delta.specs.declared.kept.KeptChange.{KeptChange}

abbrev pub FindsKept : Bag → Option Bag → Groups → Option Groups → Option KeptChange → Type 0
FindsKept was None groups now None = Unit {0}
FindsKept was (Some new) groups (Some now) (Some found) =
    IsNet was new found.rows.plus found.rows.minus × (found.entries.items ≡ entries_between groups now)
FindsKept was _ groups now _ = ⊥

-- between two instances, of a Group with keys, from its groups before
pub record KeepsBetween (q : Query) (old new : Instance) (groups : Groups) (found : Option KeptChange) : Type 0 where
  pub finds : (was : Bag) (g : Grouping) (e : Scalar) (es : List Scalar) → grouping q ≡ Some g → g.by ≡ e ∷ es
      → eval q old ≡ Some was → groups_over old g ≡ Some groups
      → FindsKept was (eval q new) groups (groups_over new g) found

pub record Keeps (q : Query) (s : Sources) (groups : Groups) (found : Option KeptChange) : Type 0 where
  pub leads : (new : Instance) → AreTurns s new → KeepsBetween q s.old new groups found
