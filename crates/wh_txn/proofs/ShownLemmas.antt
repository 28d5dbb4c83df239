-- What the partitions of a table that is seen say of its rows.
--     stands_in        a table's rows stand in partitions that hold them
--     standing_bag     the bag of all rows that stand there, one after the other
--     shown_among      what is told of some of the partitions, by the fetch
--     still_shown      what is told of the partitions in which it stands is right still
--     shows_touched    it shows a change what it may touch where it has the partitions in which that stands
--     holds_here       what its partitions hold, as they were loaded and made
use Rattle.std.proofs.Common.{◌≡◌, ℕ, List, [], ◌∷◌, ◌++◌, Option, Some, None, sym, ap, subst, ◌∙◌}
use Rattle.std.specs.Global.{Global}
use Rattle.std.specs.declared.sync.Arc.{Arc}
use denote.Ref.{Bor}
use Rattle.wh_meaning.specs.Bag.{bag_of}
use Rattle.wh_naming.specs.Changes.{Modification}
use Rattle.wh_frame.specs.Partition.{Partition}
use Rattle.wh_filed.specs.Filed.{Filed, filed_at, partitions_at, loaded_of, AllShown, AreAmong}
use Rattle.wh_filed.specs.Fetching.{AllShownBy}
use Rattle.wh_filed.proofs.FetchingLaws.{all_shown_by}
use Rattle.wh_fetch.specs.Place.{contents_at}
use Rattle.wh_state.specs.State.{Rows, Table, last_rows}
use Rattle.wh_machine.specs.Queries.{table_bag}
use Rattle.wh_table.specs.Rows.{rows_only, all_rows}
use Rattle.wh_table.specs.Shown.{Holds, HoldsRising}
use Rattle.wh_table.proofs.HoldLaws.{held_bag}
use Rattle.wh_txn.specs.declared.standing.TableAt.{TableAt}
use Rattle.wh_txn.specs.declared.seeing.TableSeen.{TableSeen}
use Rattle.wh_txn.specs.Seen.{partitions_standing, StandsAt, partitions_of}
use Rattle.wh_txn.specs.Touched.{LeavesOut, HoldsSome, ShowsTo}
use Rattle.wh_txn.proofs.TouchedLemmas.{holds_some, touched_behind}

pub stands_in : (at : TableAt) (partitions : List Partition) (t : Table) → partitions_standing at ≡ partitions
    → HoldsRising partitions (last_rows t) → StandsAt at (Some t)
stands_in at partitions t is holds = subst (λ (ps : List Partition). HoldsRising ps (last_rows t)) (sym is) holds

pub standing_bag : (at : TableAt) (found : Option Table) → StandsAt at found
    → bag_of (rows_only (all_rows (partitions_standing at))) ≡ table_bag found
standing_bag at None none = ap (λ (ps : List Partition). bag_of (rows_only (all_rows ps))) none
standing_bag at (Some t) holds = held_bag (partitions_standing at) (last_rows t) holds

pub shown_among : (told : Option (List ℕ)) (some all : List Filed) → AreAmong some all → AllShown told all
    → AllShownBy (contents_at told) some
shown_among told some all among shown = all_shown_by told some (among told shown)

pub still_shown : (told now : Option (List ℕ)) (all : List Filed) (some same : List (Bor Filed)) → now ≡ told
    → same ≡ some → AreAmong (filed_at some) all → AllShown told all → AllShown now (filed_at same)
still_shown told now all some same is_told is_some among shown =
    subst (λ (fs : List (Bor Filed)). AllShown now (filed_at fs)) (sym is_some)
    (among now (subst (λ (bytes : Option (List ℕ)). AllShown bytes all) (sym is_told) shown))

none_touched : (change : Modification) (whole touched made : List Partition) → LeavesOut change whole touched
    → whole ++ made ≡ []
    → touched ++ made ≡ []
none_touched change [] touched made out none = ap (λ ps. ps ++ made) out.mixed.0 ∙ none
none_touched change (p ∷ whole) touched made out none = absurd cc

pub shows_touched : (change : Modification) (at : TableAt) (seen : TableSeen) (found : Option Table)
    (touched : List Partition)
    → partitions_of seen ≡ touched ++ at.made.items
    → LeavesOut change (partitions_at at.filed.items) touched
    → StandsAt at found
    → ShowsTo change seen found
shows_touched change at seen None touched is out none =
    is ∙ none_touched change (partitions_at at.filed.items) touched at.made.items out none
shows_touched change at seen (Some t) touched is out holds =
    subst (λ (ps : List Partition). HoldsSome change ps (last_rows t)) (sym is)
    (holds_some change (partitions_standing at) (touched ++ at.made.items) (last_rows t)
    (touched_behind change (partitions_at at.filed.items) touched at.made.items out) holds)

pub holds_here : (seen : TableSeen) (stored : List (Arc Partition Global)) (made : List Partition)
    → stored ≡ seen.stored.items
    → made ≡ seen.made.items
    → (rows : Rows)
    → Holds (partitions_of seen) rows
    → Holds (loaded_of stored ++ made) rows
holds_here seen stored made stored_is made_is rows holds =
    subst (λ (ps : List Partition). Holds ps rows) (sym (λ i. loaded_of (stored_is i) ++ made_is i)) holds
