-- What a set clock gives.
use Rattle.std.specs.Prelude.{ℕ, List, drop}
use Rattle.wh_world.specs.declared.set_clock.SetClock.{SetClock}

-- the readings that come
abbrev pub readings_left : SetClock → List ℕ
readings_left clock = drop clock.place clock.readings.items
