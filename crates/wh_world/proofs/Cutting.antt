-- What there is of a write, up to a cut.
use Rattle.std.proofs.Common.{◌≡◌, ℕ, ◌-◌, ◌==◌, nat_lt, min, if◌then◌else◌, Bool, true, false, List, []}
use Rattle.std.proofs.Common.{◌∷◌, ◌++◌, None, length, take, drop, refl, ◌∙◌, ap, arith}
use Rattle.std.proofs.lemmas.List.{take-append-drop}
use Rattle.wh_world.specs.Bytes.{written, part_at}
use Rattle.wh_world.specs.Events.{Event, wrote, tore, synced, last_synced}
use Rattle.wh_world.specs.Cut.{unsynced, patched, image_at}

-- a choice between equals
either : (test : Bool) (a b : List ℕ) → b ≡ a → (if test then a else b) ≡ a
either true a b same = refl
either false a b same = same

-- nothing of a write leaves what was there
patched_none : (old : List ℕ) (at n : ℕ) (front : List ℕ) → front ≡ [] → patched old at n front None ≡ old
patched_none old at n front none =
    either (nat_lt (length old) at) old (written old at front) same
  where
    same : written old at front ≡ old
    same =
        rw none (ap (λ (k : ℕ). take at old ++ drop k old) (omega arith) ∙ take-append-drop at old)

take_none : (n : ℕ) (l : List ℕ) → n ≡ 0 → take n l ≡ []
take_none n l none = rw none refl

-- where nothing is there of the writes since the last sync
pub bare_image : (first : List ℕ) (past : List Event)
    → image_at first past 0 None ≡ last_synced first past
bare_image first [] = refl
bare_image first (wrote at piece ∷ past) =
    patched_none (image_at first past 0 None) at (length piece)
    (take (min (length piece) (0 - unsynced past)) piece)
    (take_none (min (length piece) (0 - unsynced past)) piece (omega arith))
    ∙ bare_image first past
bare_image first (tore at n ∷ past) =
    either (min n (0 - unsynced past) == n) old (patched old at n (part_at at there old) None)
    (patched_none old at n (part_at at there old) (take_none there (drop at old) (omega arith)))
    ∙ bare_image first past
  where
    old : List ℕ
    old = image_at first past 0 None

    there : ℕ
    there = min n (0 - unsynced past)
bare_image first (synced ∷ past) = refl
