-- How a disk in memory keeps its past: the calls, oldest first, and the bytes of all writes in order.
use Rattle.std.specs.Prelude.{◌≡◌, ℕ, ◌+◌, Bool, true, false, List, [], ◌∷◌, length, take, drop}
use Rattle.wh_world.specs.Bytes.{Torn}
use Rattle.wh_world.specs.Events.{Event, wrote, tore, synced, content}
use Rattle.wh_world.specs.declared.logged.Logged.{Logged}
use Rattle.wh_world.specs.declared.logged.Logged.TheVariants.{Wrote, Tore, Synced}

-- the events of a log and its bytes, after those of the past
abbrev pub events : List Event → List Logged → List ℕ → List Event
events past [] bytes = past
events past (Wrote at n ∷ log) bytes = events (wrote at (take n bytes) ∷ past) log (drop n bytes)
events past (Tore at n ∷ log) bytes = events (tore at n ∷ past) log bytes
events past (Synced ∷ log) bytes = events (synced ∷ past) log bytes

-- how many bytes the writes of a log had
abbrev pub bytes_written : List Logged → ℕ
bytes_written [] = 0
bytes_written (Wrote at n ∷ log) = n + bytes_written log
bytes_written (Tore at n ∷ log) = bytes_written log
bytes_written (Synced ∷ log) = bytes_written log

-- the bytes at hand are what the log makes of the first ones, and each written byte is kept
pub record Agrees (first bytes pieces : List ℕ) (log : List Logged) : Type 0 where
  pub shown : bytes ≡ content first (events [] log pieces)
  pub spelled : length pieces ≡ bytes_written log

abbrev pub is_sync : Logged → Bool
is_sync (Wrote at n) = false
is_sync (Tore at n) = false
is_sync Synced = true

-- how many bytes are kept for a call
abbrev pub kept_of : Logged → ℕ
kept_of (Wrote at n) = n
kept_of (Tore at n) = 0
kept_of Synced = 0

-- the event that a call stands for, with the bytes that are kept for it
abbrev pub event_of : Logged → List ℕ → Event
event_of (Wrote at n) piece = wrote at piece
event_of (Tore at n) piece = tore at n
event_of Synced piece = synced

-- an image after a write that may have happened in part
abbrev pub Tears : Logged → List ℕ → List ℕ → Type 0
Tears (Wrote at n) old new = Torn at n old new
Tears (Tore at n) old new = Torn at n old new
Tears Synced old new = Unit {0}

-- how many bytes a call was to write
abbrev pub size_of : Logged → ℕ
size_of (Wrote at n) = n
size_of (Tore at n) = n
size_of Synced = 0
