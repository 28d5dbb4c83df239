-- Those that stand, and those that stand and stay, among more and more partitions.
use Rattle.std.proofs.Common.{◌≡◌, ℕ, cond, Bool, true, false, List, [], ◌∷◌, ◌++◌, filter, refl, sym, ap, ◌∙◌}
use Rattle.std.proofs.Common.{append_assoc}
use Rattle.std.specs.Prelude.{not}
use Rattle.std.specs.List.{AllByRecursion}
use Rattle.wh_frame.specs.Partition.{Partition}
use Rattle.wh_state.specs.Edits.{without, is_among}
use Rattle.wh_version.specs.declared.lasting.Lasting.{Lasting}
use Rattle.wh_version.specs.Lasting.{is_standing, partitions_in}
use Rattle.wh_table.specs.Rows.{all_rows}

-- of those that are kept, the ones that stand and aren't among the removed
abbrev pub staying : List ℕ → List Lasting → List Partition
staying removed kept = without removed (partitions_in (filter is_standing kept))

pub staying_more : (removed : List ℕ) (k : Lasting) (ks : List Lasting)
    → staying removed (k ∷ ks) ≡ staying removed (k ∷ []) ++ staying removed ks
staying_more removed k ks = pick (is_standing k)
  where
    inner : (b : Bool) → cond b (k.filed.partition ∷ staying removed ks) (staying removed ks)
        ≡ cond b (k.filed.partition ∷ []) [] ++ staying removed ks
    inner true = refl
    inner false = refl

    pick : (s : Bool) → without removed (partitions_in (cond s (k ∷ filter is_standing ks) (filter is_standing ks)))
        ≡ without removed (partitions_in (cond s (k ∷ []) [])) ++ staying removed ks
    pick true = inner (not (is_among k.filed.partition.number removed))
    pick false = refl

pub all_more : (ps qs : List Partition) → all_rows (ps ++ qs) ≡ all_rows ps ++ all_rows qs
all_more [] qs = refl
all_more (p ∷ ps) qs = ap (λ l. p.rows ++ l) (all_more ps qs) ∙ sym (append_assoc p.rows (all_rows ps) (all_rows qs))

pub each_more : (P : Partition → Type 0) (ps qs : List Partition) → AllByRecursion P ps → AllByRecursion P qs
    → AllByRecursion P (ps ++ qs)
each_more P [] qs left right = right
each_more P (p ∷ ps) qs left right = (left.0, each_more P ps qs left.1 right)
