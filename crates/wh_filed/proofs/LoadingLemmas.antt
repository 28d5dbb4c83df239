-- Loaded partitions, and one more.
use Rattle.std.specs.Prelude.{◌≡◌, ℕ, ◌+◌, ◌<◌, List, [], ◌∷◌, ◌++◌, length, take}
use Rattle.std.specs.Global.{Global}
use Rattle.std.specs.Arc.{arc_value}
use Rattle.std.specs.declared.sync.Arc.{Arc}
use denote.Ref.{Bor}
use Rattle.std.proofs.Common.{sym, ap, ◌∙◌, get_or}
use Rattle.std.proofs.lemmas.List.{take_more, map-append}
use Rattle.wh_frame.specs.Partition.{Partition}
use Rattle.wh_filed.specs.Filed.{Filed, filed_at, partitions_filed, partitions_at, loaded_of}

pub loaded_more : (fs : List (Bor Filed)) (i : ℕ) (f : Bor Filed) (loaded new : List (Arc Partition Global))
    (found : Arc Partition Global)
    → i < length fs
    → f ≡ get_or fs i f
    → new ≡ loaded ++ found ∷ []
    → loaded_of loaded ≡ partitions_at (take i fs)
    → arc_value found ≡ f.now.partition
    → loaded_of new ≡ partitions_at (take (i + 1) fs)
loaded_more fs i f loaded new found within at pushed so is =
    ap loaded_of pushed
    ∙ map-append arc_value loaded (found ∷ [])
    ∙ ap (λ (ps : List Partition). ps ++ arc_value found ∷ []) so
    ∙ ap (λ (p : Partition). partitions_at (take i fs) ++ p ∷ []) is
    ∙ sym (ap (λ (xs : List (Bor Filed)). partitions_at xs)
    (take_more fs i f within ∙ ap (λ y. take i fs ++ y ∷ []) (sym at))
    ∙ ap partitions_filed (map-append (λ (y : Bor Filed). y.now) (take i fs) (f ∷ []))
    ∙ map-append (λ (y : Filed). y.partition) (filed_at (take i fs)) (f.now ∷ []))
