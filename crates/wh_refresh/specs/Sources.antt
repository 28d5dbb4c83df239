-- What sources hold, and whether they have new data.
--     bag_held, bags_held      the rows of a source, and of each
--     filed_by, filed_held     the partitions of the file among which these stand
--     view_held, views_held    these partitions, and the bag of the rows that stand in memory
--     IsPartOf, AreParts       they are apart, and some of those that the source's table has
--     AllTurn                  what came and what went in each source between two moments
--     is_new_at                whether the table of an id has a version between two moments
use Rattle.std.specs.Prelude.{ℕ, Bool, false, List, [], ◌∷◌, map, ◌++◌, Contains}
use Rattle.std.specs.List.{flat_map, AllByRecursion}
use denote.Ref.{Bor}
use Rattle.std.specs.Option.{option_map_or}
use Rattle.wh_meaning.specs.Bag.{Bag}
use Rattle.wh_exec.specs.Source.{parts_bag}
use Rattle.wh_filed.specs.Filed.{Filed, filed_at, partitions_at, partitions_filed}
use Rattle.wh_maintenance.specs.Turn.{IsTurn}
use Rattle.wh_delta.specs.Moved.{View}
use Rattle.wh_state.specs.State.{Object}
use Rattle.wh_state.specs.Objects.{table_at}
use Rattle.wh_state.specs.Moments.{bag_at}
use Rattle.wh_state.specs.Commit.{AllApart}
use Rattle.wh_state.specs.Orderly.{HasRisingRows}
use Rattle.wh_machine.specs.Refresh.{has_version_between}
use Rattle.wh_catalog.specs.declared.object.StoredObject.{StoredObject}
use Rattle.wh_refresh.specs.Objects.{filed_at_id}
use Rattle.wh_refresh.specs.declared.sources.SourceHeld.{SourceHeld}

abbrev pub bag_held : SourceHeld → Bag
bag_held source = parts_bag (partitions_at source.filed.items ++ source.made.now)

abbrev pub bags_held : List SourceHeld → List Bag
bags_held sources = map bag_held sources

abbrev pub filed_by : SourceHeld → List Filed
filed_by source = filed_at source.filed.items

abbrev pub filed_held : List SourceHeld → List Filed
filed_held sources = flat_map filed_by sources

abbrev pub view_held : SourceHeld → View
view_held source = (filed_by source, parts_bag source.made.now)

abbrev pub views_held : List SourceHeld → List View
views_held sources = map view_held sources

pub record IsPartOf (all some : List Filed) : Type 0 where
  pub among : AllByRecursion (Contains all) some
  pub rising : AllByRecursion HasRisingRows (partitions_filed some)
  pub apart : AllApart [] (partitions_filed some)

abbrev pub AreParts : List (Bor StoredObject) → List ℕ → List SourceHeld → Type 0
AreParts objects [] [] = Unit {0}
AreParts objects (id ∷ ids) (source ∷ sources) =
    IsPartOf (filed_at_id objects id) (filed_by source) × AreParts objects ids sources
AreParts objects [] (source ∷ sources) = ⊥
AreParts objects (id ∷ ids) [] = ⊥

abbrev pub AllTurn : List Object → ℕ → ℕ → List ℕ → List Bag → List Bag → Type 0
AllTurn objects from to [] [] [] = Unit {0}
AllTurn objects from to (id ∷ ids) (came ∷ all_came) (went ∷ all_went) =
    IsTurn (bag_at objects from id) (bag_at objects to id) came went × AllTurn objects from to ids all_came all_went
AllTurn objects from to _ _ _ = ⊥

abbrev pub is_new_at : List Object → ℕ → ℕ → ℕ → Bool
is_new_at objects from to id = option_map_or (has_version_between from to) (table_at objects id) false
