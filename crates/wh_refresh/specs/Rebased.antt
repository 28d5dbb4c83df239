-- Edits that bring the rows of a table to others.
--     IsRebased            they bring them to a bag
--     RebasesTo            where there is one
--     RegroupsTo           and what becomes of groups
--     HoldsGoing           some rows of a table, among which all stand that may go
use Rattle.std.specs.Prelude.{◌≡◌, ℕ, Bool, false, List, length, filter, Option, Some, None, option_map}
use Rattle.std.specs.Option.{IfSome}
use Rattle.std.specs.FinMap.{entries}
use Rattle.wh_value.specs.Value.{Row}
use Rattle.wh_frame.specs.Partition.{Partition}
use Rattle.wh_meaning.specs.Bag.{Bag, count}
use Rattle.wh_state.specs.State.{Rows}
use Rattle.wh_moment.specs.Rebase.{rebase}
use Rattle.wh_version.specs.Edits.{edits_in}
use Rattle.wh_table.specs.Shown.{Holds}
use Rattle.wh_state.specs.State.{Object, last_rows}
use Rattle.wh_state.specs.Stored.{StoredTable, table_meant}
use Rattle.wh_state.specs.Dynamic.{Dynamic}
use Rattle.wh_state.specs.Moments.{evaluated_at}
use Rattle.wh_machine.specs.Refresh.{groups_brought}
use Rattle.wh_dynamic.specs.View.{groups_change_of}
use Rattle.wh_refresh.specs.declared.rebase.Rebased.{Rebased}
use Rattle.wh_refresh.specs.declared.rows.Regrouped.{Regrouped}

pub record IsRebased (made : Rebased) (old : Rows) (bag : Bag) : Type 0 where
  pub edits : edits_in made.edits ≡ rebase old bag
  pub plus : made.plus ≡ length (rebase old bag).added
  pub minus : made.minus ≡ length (entries (rebase old bag).rows)

abbrev pub RebasesTo : Rows → Option Bag → Option Rebased → Type 0
RebasesTo old None None = Unit {0}
RebasesTo old (Some bag) (Some made) = IsRebased made old bag
RebasesTo old None (Some made) = ⊥
RebasesTo old (Some bag) None = ⊥

-- and the groups of a dynamic table to those of its query for a moment
pub record RegroupsTo (found : Option Regrouped) (t : StoredTable) (objects : List Object) (moment : ℕ) (d : Dynamic)
    : Type 0 where
  pub rows : RebasesTo (last_rows (table_meant t)) (evaluated_at objects moment d) (option_map (λ r. r.rebased) found)
  pub groups : IfSome found (λ r. option_map groups_change_of r.groups ≡ groups_brought objects moment d)

-- those that pass a test; a row that doesn't pass it goes at no number
pub record HoldsGoing (partitions : List Partition) (old : Rows) (minus : Bag) : Type 0 where
  pub rows : Rows
  pub holds : Holds partitions rows
  pub passes : ℕ × Row → Bool
  pub are : entries rows ≡ filter passes (entries old)
  pub stays : (e : ℕ × Row) → passes e ≡ false → count minus e.1 ≡ 0
