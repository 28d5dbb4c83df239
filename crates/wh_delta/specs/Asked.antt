-- What the change of a query asks of a fetch.
--     asked_over        of what came in each of its sources, and then of what went
--     filed_in_view, moved_at     the partitions of a source that another instance's lacks, by its place
--     asked_between     of what moved between two instances
use Rattle.std.specs.Prelude.{ℕ, List, [], ◌++◌, slice_get}
use Rattle.std.specs.Option.{option_map_or}
use Rattle.wh_part.specs.declared.meta.PartId.{PartId}
use Rattle.wh_filed.specs.Filed.{Filed}
use Rattle.wh_meaning.specs.Query.{Query}
use Rattle.wh_exec.specs.declared.source.Source.{Source}
use Rattle.wh_exec.specs.Asked.{filed_by, asked_for}
use Rattle.wh_delta.specs.Moved.{View, views_of, moved_of}

abbrev pub asked_over : Query → List Source → List Source → List PartId
asked_over q comes goes = asked_for q (filed_by comes) ++ asked_for q (filed_by goes)

abbrev pub filed_in_view : List View → ℕ → List Filed
filed_in_view views place = option_map_or (λ v. v.0) (slice_get views place) []

abbrev pub moved_at : List Source → List Source → ℕ → List Filed
moved_at some others = filed_in_view (moved_of (views_of some) (views_of others))

abbrev pub asked_between : Query → List Source → List Source → List PartId
asked_between q old new = asked_for q (moved_at new old) ++ asked_for q (moved_at old new)
