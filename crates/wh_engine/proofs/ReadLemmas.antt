-- Calls that only read.
--     read_none, read_then          none, and one behind another
--     filed_behind, shows_behind    the file goes with the catalog still, and shows what is filed
--     sound_behind                  the state is sound still
--     machine_behind, made_behind   the machine is the same, and the commit that an event makes
--     still_right, still_within     what is kept stays
--     right_beside, within_more     so where the file changes behind it
--     unread_faults                 the disk's own count of faults
use Rattle.std.proofs.Common.{◌≡◌, ℕ, ◌≤◌, List, Option, Some, None, Result, Ok, Err, refl, sym, subst, ap, ◌∙◌, arith}
use Rattle.std.specs.Result.{OnOk}
use Rattle.std.proofs.Math.Nat.{le_trans}
use Rattle.wh_world.specs.Told.{Told}
use Rattle.wh_journal.specs.Torn.{SameFront}
use Rattle.wh_world.specs.declared.disk.Disk.{Ghosts}
use Rattle.wh_filed.specs.Filed.{AllShown}
use Rattle.wh_fetch.specs.Device.{OnlyRead, only_read_none, only_read_on, Counts}
use Rattle.wh_fetch.specs.DiskFetch.{faults_of, IsRight, GoesOn}
use Rattle.wh_fetch.specs.Cache.{Agrees, Within, StaysBeside}
use Rattle.wh_fetch.specs.declared.kept.Kept.{Kept}
use Rattle.wh_fetch.specs.declared.disk_fetch.DiskFetch.{DiskFetch}
use Rattle.wh_fetch.specs.declared.fault.FetchFault.{FetchFault}
use Rattle.wh_journal.specs.declared.journal.Journal.{Journal}
use Rattle.wh_state.specs.Sound.{Sound}
use Rattle.wh_machine.specs.Outcome.{Machine}
use Rattle.wh_machine.specs.Step.{Event, step}
use Rattle.wh_machine.specs.Made.{made}
use Rattle.wh_catalog.specs.Catalog.{stored_of, state_of, filed_of}
use Rattle.wh_catalog.specs.declared.catalog.Catalog.{Catalog}
use Rattle.wh_txn.specs.View.{sessions_of}
use Rattle.wh_engine.specs.declared.warehouse.Warehouse.{Warehouse}
use Rattle.wh_engine.specs.Warehouse.{Filed, ShowsAll, IsOnlyRead, machine_of, made_in, led_to}

module _ {D : Type 0} {seen : Ghosts D} where
  pub read_none : (w : Warehouse D seen) → IsOnlyRead w w
  read_none w = record {
    disk = only_read_none seen w.fetch.disk;
    journal = refl;
    catalog = refl;
    sessions = refl;
  }

  -- of the same disk
  pub read_same : (old new : D) → new ≡ old → OnlyRead seen old new
  read_same old new is = subst (OnlyRead seen old) (sym is) (only_read_none seen old)

  pub read_then : (old mid new : Warehouse D seen) → IsOnlyRead old mid → IsOnlyRead mid new → IsOnlyRead old new
  read_then old mid new one two = record {
    disk = only_read_on seen old.fetch.disk mid.fetch.disk new.fetch.disk one.disk two.disk;
    journal = two.journal ∙ one.journal;
    catalog = two.catalog ∙ one.catalog;
    sessions = two.sessions ∙ one.sessions;
  }

  pub filed_behind : (old new : Warehouse D seen) → IsOnlyRead old new
      → Filed (seen.bytes old.fetch.disk) old.journal old.catalog
      → Filed (seen.bytes new.fetch.disk) new.journal new.catalog
  filed_behind old new read filed =
      subst (λ (bytes : Option (List ℕ)). Filed bytes new.journal new.catalog) (sym read.disk.bytes)
      (subst (λ (j : Journal). Filed (seen.bytes old.fetch.disk) j new.catalog) (sym read.journal)
      (subst (λ (c : Catalog). Filed (seen.bytes old.fetch.disk) old.journal c) (sym read.catalog) filed))

  pub shows_behind : (old new : Warehouse D seen) → IsOnlyRead old new → ShowsAll old → ShowsAll new
  shows_behind old new read shown =
      subst (λ (bytes : Option (List ℕ)). AllShown bytes (filed_of new.catalog)) (sym read.disk.bytes)
      (subst (λ (c : Catalog). AllShown (seen.bytes old.fetch.disk) (filed_of c)) (sym read.catalog) shown)

  pub sound_behind : (old new : Warehouse D seen) → IsOnlyRead old new → Sound (state_of old.catalog)
      → Sound (state_of new.catalog)
  sound_behind old new read sound = subst (λ (c : Catalog). Sound (state_of c)) (sym read.catalog) sound

  pub machine_behind : (old new : Warehouse D seen) → IsOnlyRead old new → machine_of new ≡ machine_of old
  machine_behind old new read =
      λ i. record { state = state_of (read.catalog i); sessions = sessions_of (read.sessions i) }

  pub made_behind : (old new : Warehouse D seen) (event : Event) → IsOnlyRead old new
      → made_in new event ≡ made_in old event
  made_behind old new event read =
      λ i. made (stored_of (read.catalog i)) (machine_behind old new read i) event

  pub led_behind : (old new : Warehouse D seen) (event : Event) → IsOnlyRead old new
      → led_to new event ≡ led_to old event
  led_behind old new event read = ap (λ (m : Machine). (step m event).0) (machine_behind old new read)

-- ---- what a fetch keeps

pub still_right : {D : Type 0} (seen : Ghosts D) (old new : DiskFetch D) → new.disk ≡ old.disk → new.cache ≡ old.cache
    → IsRight seen old → IsRight seen new
still_right seen old new disk cache right =
    subst (λ (kept : _). Agrees (seen.bytes new.disk) kept.entries) (sym cache)
    (subst (λ (d : _). Agrees (seen.bytes d) old.cache.entries) (sym disk) right)

pub still_within : {D : Type 0} (old new : DiskFetch D) → new.reach ≡ old.reach → new.cache ≡ old.cache
    → Within old.reach old.cache.entries → Within new.reach new.cache.entries
still_within old new reach cache within =
    subst (λ (kept : _). Within new.reach kept.entries) (sym cache)
    (subst (λ (n : ℕ). Within n old.cache.entries) (sym reach) within)

-- where the bytes in front of a position stay
pub right_beside : StaysBeside → (entries : List (ℕ × Kept)) (old new : Option (List ℕ)) (n reach : ℕ) → reach ≤ n
    → Told (SameFront n) old new → Within reach entries → Agrees old entries → Agrees new entries
right_beside stays entries None None n reach low front within right = right
right_beside stays entries None (Some now) n reach low front within right = absurd front
right_beside stays entries (Some file) None n reach low front within right = absurd front
right_beside stays entries (Some file) (Some now) n reach low front within right =
    stays n file now entries (λ e among. le_trans (within e among) low) front right

pub within_more : (entries : List (ℕ × Kept)) (n m : ℕ) → n ≤ m → Within n entries → Within m entries
within_more entries n m low within = λ e among. le_trans (within e among) low

-- where nothing failed, and no partition was found damaged, it is as it was
pub unread_faults : {D A : Type 0} (seen : Ghosts D) (old new : DiskFetch D) (r : Result A FetchFault)
    → GoesOn seen old new → Counts (faults_of seen old) (faults_of seen new) r
    → OnOk r (seen.faults new.disk ≡ seen.faults old.disk)
unread_faults seen old new (Ok a) goes counts = omega (arith, counts.no_fault, goes.later.0, goes.later.1)
unread_faults seen old new (Err e) goes counts = tt
