-- The sources of a plan, and the partitions of the file among them.
--     source_there, no_source  the bag of the source at a place
--     still_shown              partitions are still shown where the same is told
--     all_there                what holds of the partitions of all sources holds of those of one
use Rattle.std.specs.Prelude.{◌≡◌, ℕ, zero, suc, List, [], ◌∷◌, Option, Some, None, slice_get, option_map, unwrap_or}
use Rattle.std.specs.List.{AllByRecursion}
use Rattle.std.proofs.Common.{sym, ap, subst, ◌∙◌}
use Rattle.std.proofs.lemmas.Option.{slice_get-map}
use Rattle.wh_frame.specs.Partition.{Partition}
use Rattle.wh_part.specs.declared.meta.PartMeta.{PartMeta}
use Rattle.wh_filed.specs.Filed.{Filed}
use Rattle.wh_filed.specs.Fetching.{AllShownBy}
use Rattle.wh_filed.proofs.ShownLaws.{all_front, all_behind}
use Rattle.wh_meaning.specs.Bag.{no_rows}
use Rattle.wh_meaning.specs.Query.{source_in}
use Rattle.wh_exec.specs.declared.source.Source.{Source}
use Rattle.wh_exec.specs.Source.{bag_in, instance_in, filed_of, filed_in}

pub source_there : (sources : List Source) (i : ℕ) (source : Source) → slice_get sources i ≡ Some source
    → source_in (instance_in sources) i ≡ bag_in source
source_there sources i source is = ap (λ found. unwrap_or found no_rows)
    (slice_get-map bag_in sources i ∙ ap (λ found. option_map bag_in found) is)

pub no_source : (sources : List Source) (i : ℕ) → slice_get sources i ≡ None
    → source_in (instance_in sources) i ≡ no_rows
no_source sources i is = ap (λ found. unwrap_or found no_rows)
    (slice_get-map bag_in sources i ∙ ap (λ found. option_map bag_in found) is)

pub still_shown : (was now : PartMeta → Option Partition) (fs : List Filed) → now ≡ was → AllShownBy was fs
    → AllShownBy now fs
still_shown was now fs same all =
    subst (λ (contents : PartMeta → Option Partition). AllShownBy contents fs) (sym same) all

pub all_there : (P : Filed → Type 0) (sources : List Source) (i : ℕ) (source : Source)
    → slice_get sources i ≡ Some source
    → AllByRecursion P (filed_in sources)
    → AllByRecursion P (filed_of source)
all_there P [] i source is all = absurd cc
all_there P (s ∷ rest) zero source is all =
    let same : s ≡ source = cc in
    subst (λ (x : Source). AllByRecursion P (filed_of x)) same (all_front P (filed_of s) (filed_in rest) all)
all_there P (s ∷ rest) (suc i) source is all =
    all_there P rest i source is (all_behind P (filed_of s) (filed_in rest) all)
