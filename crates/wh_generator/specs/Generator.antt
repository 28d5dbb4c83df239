-- What contracts say of a `Generator`, which they see as the bytes that are still to come.
--     generator     it tells them, and never fails
use Rattle.std.specs.Prelude.{ℕ, List, Some}
use Rattle.wh_world.specs.declared.source.Source.{Ghosts}

abbrev pub generator : Ghosts (List ℕ)
generator = record { left = Some; faults = λ bytes. 0 }
