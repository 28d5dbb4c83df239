use Rattle.std.proofs.Common.{◌≡◌, ℕ, ◌++◌, List, [], length, Contains, subst, sym, ap, ◌∙◌}
use Rattle.std.proofs.lemmas.List.{append-nil}
use Rattle.std.specs.FinMap.{entries, values}
use Rattle.std.specs.List.{AllByRecursion}
use denote.Ref.{Bor}
use Rattle.wh_value.specs.Value.{Row}
use Rattle.wh_frame.specs.Partition.{Partition}
use Rattle.wh_meaning.specs.Bag.{Bag, bag_of}
use Rattle.wh_meaning.specs.BagChange.{IsChanged}
use Rattle.wh_moment.specs.Rebase.{rebase}
use Rattle.wh_filed.specs.Filed.{Filed, filed_at, partitions_at as filed_partitions, loaded_of}
use Rattle.wh_filed.specs.Fetching.{IsShownBy, IsCovered}
use Rattle.wh_filed.proofs.AskingLaws.{asks_each}
use Rattle.wh_state.specs.State.{Rows, last_rows}
use Rattle.wh_state.specs.Edits.{Edits}
use Rattle.wh_state.specs.Stored.{table_meant}
use Rattle.wh_version.proofs.Among.{each_held}
use Rattle.wh_table.specs.Table.{table_of, filed_of}
use Rattle.wh_table.specs.Rows.{rows_only, all_rows, partitions_at}
use Rattle.wh_table.specs.Shown.{Holds}
use Rattle.wh_refresh.proofs.GoingLaws.{rebase_within}
use Rattle.wh_refresh.proofs.changes.rebased_with.Given.{Over}
use Rattle.wh_refresh.proofs.changes.rebased_with.Goals.{After-deref}
use Rattle.wh_refresh.proofs.changes.rebased_with.Goals as goal

-- what holds of the table's partitions holds of those from which rows may go
each_there : (P : Filed → Type 0) (g : Over) (c : After-deref g) → AllByRecursion P (filed_of c.args.table.now)
    → AllByRecursion P (filed_at c.deref.result.now)
each_there P g c each =
    subst (λ (fs : List (Bor Filed)). AllByRecursion P (filed_at fs)) (sym c.deref.ensures.value)
    (each_held P (filed_at c.in_ok-going.going.items) (filed_of c.args.table.now) c.in_ok-going.ensures.among
    each)

pub fetch_all-requires : goal.fetch_all-requires
fetch_all-requires g c =
    each_there (IsCovered (g.F.Fetch.covers c.args.fetch.now)) g (goal.at.fetch_all-requires g c).After-deref c.requires

pub returns-clause-rebased : goal.returns-clause-rebased
returns-clause-rebased g c shown new net =
    let old : Rows = last_rows (table_meant (table_of c.args.table.now)) in
    let going = c.in_ok-going.ensures.going in
    let loaded = c.in_ok-old.ensures.loaded (each_there (IsShownBy (g.F.Fetch.contents c.args.fetch.now)) g
    (goal.at.returns-clause-rebased g c).After-deref shown) in
    let same : loaded_of c.deref-2.result.now ++ [] ≡ filed_partitions c.in_ok-going.going.items =
    append-nil (loaded_of c.deref-2.result.now) ∙ ap loaded_of c.deref-2.ensures.value ∙ loaded
    ∙ ap filed_partitions c.deref.ensures.value in
    let holds : Holds (loaded_of c.deref-2.result.now ++ []) going.rows = subst (λ (ps : List Partition).
    Holds ps going.rows) (sym same) going.holds in
    let all = c.in_ok-sorted.ensures.rows going.rows holds in
    let listed = λ (given : List (Bor Partition)) (is : given ≡ c.in_ok-sorted.sorted.items).
    ap (λ (ps : List (Bor Partition)). all_rows (partitions_at ps)) is ∙ all in
    let rows : c.in_ok-rows.rows ≡ bag_of (values going.rows) =
    c.in_ok-rows.ensures ∙ ap (λ (es : List (ℕ × Row)). bag_of (rows_only es)) (listed _ c.deref-3.ensures.value) in
    let changed : IsChanged (bag_of (values going.rows)) c.args.change.now.plus c.args.change.now.minus c.in_ok-left.left
    = subst (λ (b : Bag). IsChanged b c.args.change.now.plus c.args.change.now.minus c.in_ok-left.left) rows
    c.in_ok-left.ensures in
    let within : rebase going.rows c.in_ok-left.left ≡ rebase old new =
    rebase_within going.passes old going.rows new c.in_ok-left.left c.args.change.now.plus c.args.change.now.minus
    going.are going.stays net changed in
    let edits = c.in_ok-found.ensures.edits going.rows (listed _ c.deref-4.ensures.value) ∙ within in
    record {
      edits = edits;
      plus = c.in_ok-found.ensures.plus ∙ ap (λ (e : Edits). length e.added) edits;
      minus = c.in_ok-found.ensures.minus going.rows (listed _ c.deref-4.ensures.value)
          ∙ ap (λ (e : Edits). length (entries e.rows)) edits;
    }

pub returns-in_err-old-clause-sound : goal.returns-in_err-old-clause-sound
returns-in_err-old-clause-sound g c shown =
    c.in_err-old.ensures.sound (each_there (IsShownBy (g.F.Fetch.contents c.args.fetch.now)) g
    (goal.at.returns-in_err-old-clause-sound g c).After-deref shown)

pub returns-in_err-sorted-clause-sound : goal.returns-in_err-sorted-clause-sound
returns-in_err-sorted-clause-sound g c shown =
    c.in_ok-old.ensures.sound (each_there (IsShownBy (g.F.Fetch.contents c.args.fetch.now)) g
    (goal.at.returns-in_err-sorted-clause-sound g c).After-deref shown)

pub returns-in_err-rows-clause-sound : goal.returns-in_err-rows-clause-sound
returns-in_err-rows-clause-sound g c shown =
    c.in_ok-old.ensures.sound (each_there (IsShownBy (g.F.Fetch.contents c.args.fetch.now)) g
    (goal.at.returns-in_err-rows-clause-sound g c).After-deref shown)

pub returns-in_err-left-clause-sound : goal.returns-in_err-left-clause-sound
returns-in_err-left-clause-sound g c shown =
    c.in_ok-old.ensures.sound (each_there (IsShownBy (g.F.Fetch.contents c.args.fetch.now)) g
    (goal.at.returns-in_err-left-clause-sound g c).After-deref shown)

pub returns-in_err-found-clause-sound : goal.returns-in_err-found-clause-sound
returns-in_err-found-clause-sound g c shown =
    c.in_ok-old.ensures.sound (each_there (IsShownBy (g.F.Fetch.contents c.args.fetch.now)) g
    (goal.at.returns-in_err-found-clause-sound g c).After-deref shown)

pub returns-clause-sound : goal.returns-clause-sound
returns-clause-sound g c shown =
    c.in_ok-old.ensures.sound (each_there (IsShownBy (g.F.Fetch.contents c.args.fetch.now)) g
    (goal.at.returns-clause-sound g c).After-deref shown)

pub returns-clause-asks : goal.returns-clause-asks
returns-clause-asks g c =
    asks_each (Contains (filed_of c.args.table.now)) (filed_at c.deref.result.now) _ _
    (subst (λ (fs : List (Bor Filed)). AllByRecursion (Contains (filed_of c.args.table.now)) (filed_at fs))
    (sym c.deref.ensures.value) c.in_ok-going.ensures.among)
    c.in_ok-old.ensures.asks
