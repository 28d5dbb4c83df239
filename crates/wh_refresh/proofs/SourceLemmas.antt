-- What the partitions of a source hold: those of the file, and behind them others.
--     held_none              no row
--     held_alone             the rows of partitions of the file
--     held_beside            those, and the rows of a version to come
--     still_shown            partitions are still shown where the same is told
use Rattle.std.proofs.Common.{◌≡◌, List, [], ◌++◌, Option, ap, sym, subst, ◌∙◌}
use Rattle.std.proofs.lemmas.List.{append-nil}
use Rattle.std.specs.FinMap.{values}
use denote.Ref.{Bor}
use Rattle.wh_frame.specs.Partition.{Partition}
use Rattle.wh_part.specs.declared.meta.PartMeta.{PartMeta}
use Rattle.wh_meaning.specs.Bag.{bag_of, no_rows}
use Rattle.wh_exec.specs.Source.{parts_bag}
use Rattle.wh_filed.specs.Filed.{Filed, partitions_at}
use Rattle.wh_filed.specs.Fetching.{AllShownBy}
use Rattle.wh_state.specs.State.{Rows}
use Rattle.wh_table.specs.Shown.{HoldsRising}
use Rattle.wh_table.proofs.HoldLaws.{held_bag}

pub held_none : (filed : List (Bor Filed)) → filed ≡ [] → parts_bag (partitions_at filed ++ []) ≡ no_rows
held_none filed none = ap (λ (fs : List (Bor Filed)). parts_bag (partitions_at fs ++ [])) none

pub held_beside : (stored made others : List Partition) (rows : Rows) → others ≡ made
    → HoldsRising (stored ++ made) rows → parts_bag (stored ++ others) ≡ bag_of (values rows)
held_beside stored made others rows same holds =
    ap (λ (ps : List Partition). parts_bag (stored ++ ps)) same ∙ held_bag (stored ++ made) rows holds

pub held_alone : (stored : List Partition) (rows : Rows) → HoldsRising stored rows
    → parts_bag (stored ++ []) ≡ bag_of (values rows)
held_alone stored rows holds = ap parts_bag (append-nil stored) ∙ held_bag stored rows holds

pub still_shown : (was now : PartMeta → Option Partition) (fs : List Filed) → now ≡ was → AllShownBy was fs
    → AllShownBy now fs
still_shown was now fs same all =
    subst (λ (contents : PartMeta → Option Partition). AllShownBy contents fs) (sym same) all
