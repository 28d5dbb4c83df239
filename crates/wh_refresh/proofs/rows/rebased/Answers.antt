use Rattle.std.proofs.Common.{◌≡◌, ◌++◌, List, [], length, subst, sym, ap, ◌∙◌}
use Rattle.std.proofs.lemmas.List.{append-nil}
use Rattle.std.specs.FinMap.{entries}
use Rattle.std.specs.List.{AllByRecursion}
use denote.Ref.{Bor}
use Rattle.wh_frame.specs.Partition.{Partition}
use Rattle.wh_filed.specs.Filed.{Filed, filed_at, partitions_at as filed_partitions, loaded_of}
use Rattle.wh_filed.specs.Fetching.{IsShownBy, IsCovered}
use Rattle.wh_state.specs.State.{Rows, last_rows}
use Rattle.wh_state.specs.Edits.{Edits}
use Rattle.wh_state.specs.Stored.{table_meant}
use Rattle.wh_version.proofs.Among.{each_held}
use Rattle.wh_table.specs.Table.{table_of, filed_of}
use Rattle.wh_table.specs.Rows.{all_rows, partitions_at}
use Rattle.wh_table.specs.Shown.{Holds}
use Rattle.wh_refresh.proofs.rows.rebased.Given.{Over}
use Rattle.wh_refresh.proofs.rows.rebased.Goals.{After-deref}
use Rattle.wh_refresh.proofs.rows.rebased.Goals as goal

-- what holds of the table's partitions holds of those that stand
each_there : (P : Filed → Type 0) (g : Over) (c : After-deref g) → AllByRecursion P (filed_of c.args.table.now)
    → AllByRecursion P (filed_at c.deref.result.now)
each_there P g c each =
    subst (λ (fs : List (Bor Filed)). AllByRecursion P (filed_at fs)) (sym c.deref.ensures.value)
    (each_held P (filed_at c.in_ok-standing.standing.items) (filed_of c.args.table.now) c.in_ok-standing.ensures.among
    each)

pub fetch_all-requires : goal.fetch_all-requires
fetch_all-requires g c =
    each_there (IsCovered (g.F.Fetch.covers c.args.fetch.now)) g (goal.at.fetch_all-requires g c).After-deref c.requires

pub returns-clause-rebased : goal.returns-clause-rebased
returns-clause-rebased g c shown =
    let old : Rows = last_rows (table_meant (table_of c.args.table.now)) in
    let loaded = c.in_ok-old.ensures.loaded (each_there (IsShownBy (g.F.Fetch.contents c.args.fetch.now)) g
    (goal.at.returns-clause-rebased g c).After-deref shown) in
    let same : loaded_of c.deref-2.result.now ++ [] ≡ filed_partitions c.in_ok-standing.standing.items =
    append-nil (loaded_of c.deref-2.result.now) ∙ ap loaded_of c.deref-2.ensures.value ∙ loaded
    ∙ ap filed_partitions c.deref.ensures.value in
    let holds : Holds (loaded_of c.deref-2.result.now ++ []) old = subst (λ (ps : List Partition). Holds ps old)
    (sym same) c.in_ok-standing.ensures.holds.holds in
    let all : all_rows (partitions_at c.deref-3.result.now) ≡ entries old =
    ap (λ (ps : List (Bor Partition)). all_rows (partitions_at ps)) c.deref-3.ensures.value
    ∙ c.in_ok-sorted.ensures.rows old holds in
    let same = c.in_ok-found.ensures.edits old all in
    record {
      edits = same;
      plus = c.in_ok-found.ensures.plus ∙ ap (λ (e : Edits). length e.added) same;
      minus = c.in_ok-found.ensures.minus old all ∙ ap (λ (e : Edits). length (entries e.rows)) same;
    }

pub returns-in_err-old-clause-sound : goal.returns-in_err-old-clause-sound
returns-in_err-old-clause-sound g c shown =
    c.in_err-old.ensures.sound (each_there (IsShownBy (g.F.Fetch.contents c.args.fetch.now)) g
    (goal.at.returns-in_err-old-clause-sound g c).After-deref shown)

pub returns-in_err-sorted-clause-sound : goal.returns-in_err-sorted-clause-sound
returns-in_err-sorted-clause-sound g c shown =
    c.in_ok-old.ensures.sound (each_there (IsShownBy (g.F.Fetch.contents c.args.fetch.now)) g
    (goal.at.returns-in_err-sorted-clause-sound g c).After-deref shown)

pub returns-in_err-found-clause-sound : goal.returns-in_err-found-clause-sound
returns-in_err-found-clause-sound g c shown =
    c.in_ok-old.ensures.sound (each_there (IsShownBy (g.F.Fetch.contents c.args.fetch.now)) g
    (goal.at.returns-in_err-found-clause-sound g c).After-deref shown)

pub returns-clause-sound : goal.returns-clause-sound
returns-clause-sound g c shown =
    c.in_ok-old.ensures.sound (each_there (IsShownBy (g.F.Fetch.contents c.args.fetch.now)) g
    (goal.at.returns-clause-sound g c).After-deref shown)
