-- What is told.
--     told_file      told bytes are a file
--     shows_open     that of an open warehouse shows what is filed
use Rattle.std.proofs.Common.{◌≡◌, ℕ, List, Option, Some, None, refl}
use Rattle.std.specs.Prelude.{is_some, IsTrue}
use Rattle.wh_world.specs.declared.disk.Disk.{Ghosts}
use Rattle.wh_engine.specs.Warehouse.{ShowsAll}
use Rattle.wh_engine.specs.declared.warehouse.Warehouse.{Warehouse}
use Rattle.wh_engine.proofs.PlaceLemmas.{shows_all}
use Rattle.wh_shell.specs.Open.{IsOpen}

pub told_file : (bytes : Option (List ℕ)) → IsTrue (is_some bytes) → (file : List ℕ) × (bytes ≡ Some file)
told_file None told = cc
told_file (Some file) told = (file, refl)

pub shows_open : {D : Type 0} {g : Ghosts D} (w : Warehouse D g) → IsOpen w → IsTrue (is_some (g.bytes w.fetch.disk)) →
    ShowsAll w
shows_open {D} {g} w ready told = shows_all (g.bytes w.fetch.disk) w.journal w.catalog told ready.filed
