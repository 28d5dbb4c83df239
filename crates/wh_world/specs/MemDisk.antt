-- What a disk in memory holds, and what becomes of it in a call.
use Rattle.std.specs.Prelude.{◌≡◌, ◌⊎◌, ◌↔◌, ℕ, ◌-◌, ◌<◌, ◌≤◌, List, [], ◌∷◌, length}
use Rattle.std.specs.Prelude.{Result, OnOk, OnErr, IsErr, IsTrue, ⊤}
use Rattle.wh_world.specs.declared.source.Failed.{Failed}
use Rattle.wh_world.specs.Calls.{CallCount, no_calls, next, passed, failed, is_due}
use Rattle.wh_world.specs.Events.{Event, wrote, tore, content, last_synced, IsImage, WasImage}
use Rattle.wh_world.specs.Crash.{Elapses}

pub record DiskState : Type 0 where
  -- what it had at first, all of it synced
  pub first : List ℕ
  -- the writes and syncs since, newest first
  pub past : List Event
  -- how many more bytes its writes take
  pub room : ℕ
  -- how many more writes and syncs it takes
  pub spare : ℕ
  pub reads : ℕ
  pub calls : CallCount

-- what a read gives
abbrev pub content_of : DiskState → List ℕ
content_of disk = content disk.first disk.past

-- what a read gave at the last sync, or the first bytes where there was none
abbrev pub synced_of : DiskState → List ℕ
synced_of disk = last_synced disk.first disk.past

-- what a crash may leave
abbrev pub images_of : DiskState → List ℕ → Type 0
images_of disk = IsImage disk.first disk.past

-- a disk that was just made
abbrev pub fresh : List ℕ → ℕ → ℕ → List ℕ → DiskState
fresh bytes room spare failing =
    record { first = bytes; past = []; room = room; spare = spare; reads = 0; calls = no_calls failing }

-- a write of n bytes, or with 0 a sync, is more than the disk takes
abbrev pub Exceeds : DiskState → ℕ → Type 0
Exceeds disk n = (disk.room < n) ⊎ (disk.spare ≡ 0)

-- after a call that changed nothing else
abbrev pub done : DiskState → DiskState
done disk = record disk { calls = passed disk.calls }

-- after a call that failed and changed nothing else
abbrev pub refused : DiskState → DiskState
refused disk = record disk { calls = failed disk.calls }

-- after a read besides
abbrev pub read_once : DiskState → DiskState
read_once disk = record disk { reads = next disk.reads }

-- after a call that was logged, and took so many bytes of the room
abbrev pub logged : DiskState → Event → ℕ → DiskState
logged disk event n =
    record disk {
      past = event ∷ disk.past;
      room = disk.room - n;
      spare = disk.spare - 1;
      calls = passed disk.calls;
    }

-- after a write that failed and may be torn
abbrev pub torn : DiskState → Event → DiskState
torn disk event =
    record disk { past = event ∷ disk.past; spare = disk.spare - 1; calls = failed disk.calls }

-- a write: it fails exactly where it is to, or where it is more than the disk takes
pub record IsWrite (old new : DiskState) (at : ℕ) (piece : List ℕ) (result : Result ⊤ Failed) : Type 0 where
  pub failed_exactly : IsErr result ↔ (IsTrue (is_due old.calls) ⊎ Exceeds old (length piece))
  pub logs : OnOk result (new ≡ logged old (wrote at piece) (length piece))
  -- one that is too much changes nothing, and any other that fails may be torn
  pub refuses : OnErr result (Exceeds old (length piece) → new ≡ refused old)
  pub tears : OnErr result (length piece ≤ old.room → 0 < old.spare → new ≡ torn old (tore at (length piece)))

-- time goes on over a call
abbrev pub GoesOn : DiskState → DiskState → Type 0
GoesOn old new =
    Elapses (length old.past) (length new.past) (WasImage old.first old.past)
    (WasImage new.first new.past) (images_of new)
