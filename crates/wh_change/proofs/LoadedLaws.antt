-- What was loaded of a table.
--     shown_then         what is told of some of the table's partitions, and later too
--     among_by           some of some are among all
--     each_then          what is told of all that came with versions, and later too
--     turned_so          what went and came, of equal lists and rows
--     holds_alone        partitions that are apart hold their rows
--     net_so             the net changes, by the rows of what went and came
use Rattle.std.proofs.Common.{◌≡◌, ℕ, List, [], ◌++◌, Option, sym, ap, subst, ◌∙◌}
use Rattle.std.proofs.lemmas.List.{append-nil}
use Rattle.std.specs.FinMap.{entries}
use Rattle.std.specs.List.{AllByRecursion}
use denote.Ref.{Bor}
use Rattle.wh_value.specs.Value.{Row}
use Rattle.wh_frame.specs.Partition.{Partition}
use Rattle.wh_filed.specs.Filed.{Filed, filed_at, AllShown, AreAmong}
use Rattle.wh_state.specs.Commit.{AllApart}
use Rattle.wh_state.specs.State.{Rows}
use Rattle.wh_state.specs.Stored.{rows_of}
use Rattle.wh_net.specs.Net.{net}
use Rattle.wh_version.specs.declared.arrivals.Arrivals.{Arrivals}
use Rattle.wh_table.specs.Shown.{Holds, TurnsOver}
use Rattle.wh_change.specs.Appended.{EachShown}
use Rattle.wh_change.specs.Rows.{changes_by, arrivals_by}
use Rattle.wh_change.proofs.Loading.{each_shown}
use Rattle.wh_change.proofs.NetParts.{net_by_entries, net_shown}

pub shown_then : (told now : Option (List ℕ)) (all : List Filed) (some fs : List (Bor Filed))
    → AreAmong (filed_at some) all → fs ≡ some → now ≡ told → AllShown told all
    → AllShown now (filed_at fs)
shown_then told now all some fs among same later shown =
    subst (λ (xs : List (Bor Filed)). AllShown now (filed_at xs)) (sym same)
    (among now (subst (λ (t : Option (List ℕ)). AllShown t all) (sym later) shown))

pub among_by : (some mid items : List (Bor Filed)) (all : List Filed) → AreAmong (filed_at some) (filed_at mid)
    → mid ≡ items → AreAmong (filed_at items) all
    → AreAmong (filed_at some) all
among_by some mid items all one same among told shown =
    one told (subst (λ (xs : List (Bor Filed)). AllShown told (filed_at xs)) (sym same) (among told shown))

pub each_then : (told now : Option (List ℕ)) (all : List Filed) (arrivals items : List Arrivals)
    → AllByRecursion (λ a. AreAmong (filed_at a.came.items) all) arrivals → items ≡ arrivals → now ≡ told
    → AllShown told all
    → EachShown now items
each_then told now all arrivals items among same later shown =
    subst (EachShown now) (sym same)
    (each_shown now all arrivals among (subst (λ (t : Option (List ℕ)). AllShown t all) (sym later) shown))

pub turned_so : (went gone came come : List Partition) (old before new after : Rows)
    → went ≡ gone → came ≡ come → old ≡ before → new ≡ after → TurnsOver gone come before after
    → TurnsOver went came old new
turned_so went gone came come old before new after is_went is_came is_old is_new turned =
    subst (λ (ps : List Partition). TurnsOver ps came old new) (sym is_went)
    (subst (λ (ps : List Partition). TurnsOver gone ps old new) (sym is_came)
    (subst (λ (rows : Rows). TurnsOver gone come rows new) (sym is_old)
    (subst (λ (rows : Rows). TurnsOver gone come before rows) (sym is_new) turned)))

pub holds_alone : (ps qs : List Partition) → qs ≡ ps → AllApart [] ps → Holds (qs ++ []) (rows_of ps)
holds_alone ps qs same apart = record {
  apart = subst (AllApart []) (sym is) apart;
  rows = ap rows_of is;
}
  where
    is : qs ++ [] ≡ ps
    is = append-nil qs ∙ same

pub net_so : (went came : List Partition) (old new : Rows) (went_rows came_rows : List (ℕ × Row))
    → TurnsOver went came old new → went_rows ≡ entries (rows_of went) → came_rows ≡ entries (rows_of came)
    → changes_by came_rows went_rows ++ arrivals_by went_rows came_rows ≡ net old new
net_so went came old new went_rows came_rows turned is_went is_came =
    (λ i. changes_by (arrived i) (gone i) ++ arrivals_by (gone i) (arrived i))
    ∙ sym (net_by_entries turned.changes.gone turned.changes.arrived)
    ∙ net_shown old new turned.changes.gone turned.changes.arrived turned.changes.each
  where
    gone : went_rows ≡ entries turned.changes.gone
    gone = is_went ∙ turned.changes.by_went

    arrived : came_rows ≡ entries turned.changes.arrived
    arrived = is_came ∙ turned.changes.by_came
