-- Which image of a disk in memory a pick gives: the writes since the last sync are there up to a cut, and behind it
-- stands a fill.
use Rattle.std.specs.Prelude.{ℕ, ◌+◌, ◌-◌, ◌/◌, ◌%◌, ◌==◌, nat_lt, min, if◌then◌else◌, List, [], ◌∷◌, ◌++◌, length}
use Rattle.std.specs.Prelude.{take, replicate, Option, Some, None}
use Rattle.wh_world.specs.Bytes.{written, part_at}
use Rattle.wh_world.specs.Events.{Event, wrote, tore, synced, content}
use Rattle.wh_world.specs.MemDisk.{DiskState}
use Rattle.wh_world.specs.declared.logged.Logged.{Logged}
use Rattle.wh_world.specs.declared.logged.Logged.TheVariants.{Wrote, Tore, Synced}

-- how many bytes were to be written since the last sync
abbrev pub unsynced : List Event → ℕ
unsynced [] = 0
unsynced (wrote at piece ∷ past) = unsynced past + length piece
unsynced (tore at n ∷ past) = unsynced past + n
unsynced (synced ∷ past) = 0

-- the front of n bytes, and the fill in the place of each byte behind it
abbrev pub filled : List ℕ → ℕ → Option ℕ → List ℕ
filled front n None = front
filled front n (Some byte) = front ++ replicate (n - length front) byte

-- the bytes with what there is of n bytes at a place; a place past their end gets nothing
abbrev pub patched : List ℕ → ℕ → ℕ → List ℕ → Option ℕ → List ℕ
patched old at n front fill =
    if nat_lt (length old) at then old else written old at (filled front n fill)

-- the same where the write failed: in front of the cut stands what stood there
abbrev pub torn_by : List ℕ → ℕ → ℕ → ℕ → Option ℕ → List ℕ
torn_by old at n there fill =
    if there == n then old else patched old at n (part_at at there old) fill

-- the image where of all bytes since the last sync, in the order of the calls, the first ones up to the cut are there
abbrev pub image_at : List ℕ → List Event → ℕ → Option ℕ → List ℕ
image_at first [] cut fill = first
image_at first (wrote at piece ∷ past) cut fill =
    patched (image_at first past cut fill) at (length piece)
    (take (min (length piece) (cut - unsynced past)) piece) fill
image_at first (tore at n ∷ past) cut fill =
    torn_by (image_at first past cut fill) at n (min n (cut - unsynced past)) fill
image_at first (synced ∷ past) cut fill = content first past

-- the cut and the fill of a pick from 2 on: each of the 256 fills and none, for each cut in turn
abbrev pub cut_of : ℕ → ℕ
cut_of pick = (pick - 2) / 257

abbrev pub fill_of : ℕ → Option ℕ
fill_of pick = if nat_lt ((pick - 2) % 257) 256 then Some ((pick - 2) % 257) else None

abbrev pub picked : DiskState → ℕ → List ℕ
picked disk pick = image_at disk.first disk.past (cut_of pick) (fill_of pick)

-- what there is of a call whose bytes are kept, up to the cut
abbrev pub cut_call : Logged → List ℕ → List ℕ → ℕ → Option ℕ → List ℕ
cut_call (Wrote at n) piece old cut fill = patched old at n (take (min n cut) piece) fill
cut_call (Tore at n) piece old cut fill = torn_by old at n (min n cut) fill
cut_call Synced piece old cut fill = old
