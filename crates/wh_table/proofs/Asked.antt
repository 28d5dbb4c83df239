-- Partitions that a fetch was asked for.
--     still_among     those of a table, by other references
--     each_among      what holds of all of a table's holds of some
--     at_hand         those that were loaded for edits have what the edits touch
use Rattle.std.proofs.Common.{◌≡◌, List, [], ◌∷◌, Contains, ap, sym, subst, ◌∙◌}
use Rattle.std.specs.List.{AllByRecursion}
use Rattle.std.specs.Global.{Global}
use Rattle.std.specs.declared.sync.Arc.{Arc}
use denote.Ref.{Bor}
use Rattle.wh_frame.specs.Partition.{Partition}
use Rattle.wh_filed.specs.Filed.{Filed, filed_at, partitions_at, contents_at, loaded_of}
use Rattle.wh_filed.proofs.FilingLaws.{each_at}
use Rattle.wh_state.specs.Edits.{Edits, touched}
use Rattle.wh_version.specs.declared.history.History.{History}
use Rattle.wh_version.specs.Edits.{HaveTouched}

pub still_among : (some same : List (Bor Filed)) (all : List Filed) → same ≡ some
    → AllByRecursion (Contains all) (filed_at some)
    → AllByRecursion (Contains all) (filed_at same)
still_among some same all is among =
    subst (λ (fs : List (Bor Filed)). AllByRecursion (Contains all) (filed_at fs)) (sym is) among

pub each_among : (P : Filed → Type 0) (some all : List Filed) → AllByRecursion (Contains all) some
    → AllByRecursion P all
    → AllByRecursion P some
each_among P [] all among each = tt
each_among P (f ∷ some) all among each = (
  subst P among.0.2 (each_at P all among.0.0 f each among.0.1),
  each_among P some all among.1 each,
)

pub at_hand : (h : History) (e : Edits) (candidates asked : List (Bor Filed))
    (loaded given : List (Arc Partition Global)) (found used : List (Bor Partition))
    → HaveTouched h e (partitions_at candidates) → asked ≡ candidates → loaded_of loaded ≡ partitions_at asked
    → given ≡ loaded → contents_at found ≡ loaded_of given → used ≡ found
    → HaveTouched h e (contents_at used)
at_hand h e candidates asked loaded given found used has is_asked is_loaded is_given is_found is_used =
    ap (touched e.rows) (ap contents_at is_used ∙ is_found ∙ ap loaded_of is_given ∙ is_loaded
    ∙ ap partitions_at is_asked) ∙ has
