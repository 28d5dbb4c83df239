-- What a disk went through, newest first, and what a crash may leave after it.
use Rattle.std.specs.Prelude.{◌≡◌, ◌⊎◌, ℕ, ◌-◌, ◌≤◌, List, [], ◌∷◌, length, drop}
use Rattle.wh_world.specs.Bytes.{written, Torn}

pub data Event : Type 0 where
  -- the place and the bytes
  wrote : ℕ → List ℕ → Event
  -- a write that failed: its place, and how many bytes it had
  tore : ℕ → ℕ → Event
  synced : Event

-- what a read gives
abbrev pub content : List ℕ → List Event → List ℕ
content first [] = first
content first (wrote at piece ∷ past) = written (content first past) at piece
content first (tore at n ∷ past) = content first past
content first (synced ∷ past) = content first past

-- what a read gave at the last sync, or the first bytes where there was none
abbrev pub last_synced : List ℕ → List Event → List ℕ
last_synced first [] = first
last_synced first (wrote at piece ∷ past) = last_synced first past
last_synced first (tore at n ∷ past) = last_synced first past
last_synced first (synced ∷ past) = content first past

-- some image after a write that was cut short
abbrev pub AfterTorn : (List ℕ → Type 0) → ℕ → ℕ → List ℕ → Type 0
AfterTorn images at n image = (before : List ℕ) × images before × Torn at n before image

-- What a crash may leave. A write that was not synced is there as a read gives it, or torn; after a
-- sync there is one image alone.
abbrev pub IsImage : List ℕ → List Event → List ℕ → Type 0
IsImage first [] image = image ≡ first
IsImage first (wrote at piece ∷ past) image =
    (image ≡ written (content first past) at piece)
    ⊎ AfterTorn (IsImage first past) at (length piece) image
IsImage first (tore at n ∷ past) image = AfterTorn (IsImage first past) at n image
IsImage first (synced ∷ past) image = image ≡ content first past

-- what a crash may have left after some number of calls, from `moment` of them on
abbrev pub WasImage : List ℕ → List Event → ℕ → List ℕ → Type 0
WasImage first past moment image =
    (k : ℕ) × (moment ≤ k) × (k ≤ length past) × IsImage first (drop (length past - k) past) image
