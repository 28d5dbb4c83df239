-- The sources that a statement reads.
--     bag_seen, bags_seen     the rows that they show, of one source and of each
--     filed_by, filed_seen    the partitions of the file among which these stand
--     is_stream               whether it is one whose rows a stream shows
--     IsTarget                what a change reads of its target
--     lower                   the lesser of an id and one that may be there
--     sources_refusal         what a statement is refused for that it reads
use Rattle.std.specs.Prelude.{◌≡◌, ℕ, Bool, true, false, min, List, [], ◌∷◌, map, Option, Some, None}
use Rattle.std.specs.List.{flat_map}
use Rattle.wh_value.specs.declared.limit.Limit.TheVariants as limits
use Rattle.wh_meaning.specs.Bag.{Bag, bag_of}
use Rattle.wh_meaning.specs.Query.{Instance}
use Rattle.wh_exec.specs.Source.{parts_bag}
use Rattle.wh_filed.specs.Filed.{Filed, filed_at}
use Rattle.wh_naming.specs.Changes.{Modification}
use Rattle.wh_state.specs.State.{Table}
use Rattle.wh_reply.specs.Reply.{Refusal, OverLimit}
use Rattle.wh_machine.specs.Tests.{refused_if, first_of}
use Rattle.wh_machine.specs.Outcome.{Machine}
use Rattle.wh_machine.specs.Reading.{reading_refusal}
use Rattle.wh_txn.specs.Seen.{partitions_standing}
use Rattle.wh_txn.specs.Touched.{ShowsTo}
use Rattle.wh_txn.specs.declared.seeing.TableSeen.{TableSeen}
use Rattle.wh_decide.specs.declared.sources.SourceSeen.{SourceSeen}
use Rattle.wh_decide.specs.declared.sources.SourceSeen.TheVariants as sources
use Rattle.wh_decide.specs.Changes.{is_insert}

abbrev pub bag_seen : SourceSeen → Bag
bag_seen (sources.Table table) = parts_bag (partitions_standing table)
bag_seen (sources.Stream rows) = bag_of rows.items

abbrev pub bags_seen : List SourceSeen → Instance
bags_seen seen = map bag_seen seen

abbrev pub filed_by : SourceSeen → List Filed
filed_by (sources.Table table) = filed_at table.filed.items
filed_by (sources.Stream rows) = []

abbrev pub filed_seen : List SourceSeen → List Filed
filed_seen seen = flat_map filed_by seen

abbrev pub is_stream : SourceSeen → Bool
is_stream (sources.Table table) = false
is_stream (sources.Stream rows) = true

-- an INSERT reads none of it, and another change its rows but for those that it leaves as they are
abbrev pub IsTarget : Modification → Table → Option TableSeen → Type 0
IsTarget change t None = is_insert change ≡ true
IsTarget change t (Some seen) = ShowsTo change seen (Some t)

abbrev pub lower : Option ℕ → ℕ → ℕ
lower None id = id
lower (Some other) id = min other id

-- a query of it is too wide, or else one of its sources can't be read
abbrev pub sources_refusal : Machine → Bool → List ℕ → Option Refusal
sources_refusal m is_wide ids = first_of (
    refused_if is_wide (OverLimit limits.Output)
    ∷ reading_refusal m.state.objects m.state.last ids
    ∷ [])
