-- Rows passed by rising numbers, each of which stays where it is still to be found.
--     Walked, nothing_walked     the numbers of the rows that go, and the rows that stay
--     passed, walked             behind one more, and behind several
--     walk_of                    what a `Walk` stands for
--     expanded                   each row as often as it is there
use Rattle.std.specs.Prelude.{ℕ, suc, if◌then◌else◌, List, [], ◌∷◌, ◌++◌, replicate, nat_lt}
use Rattle.std.specs.List.{flat_map}
use Rattle.wh_value.specs.Value.{Row}
use Rattle.wh_meaning.specs.Bag.{Bag, no_rows, count, with_row}
use Rattle.wh_refresh.specs.declared.rebase.Walk.{Walk}

pub record Walked : Type 0 where
  pub gone : List ℕ
  pub kept : Bag

abbrev pub nothing_walked : Walked
nothing_walked = record { gone = []; kept = no_rows }

abbrev pub passed : Bag → ℕ × Row → Walked → Walked
passed new e w = if nat_lt (count w.kept e.1) (count new e.1)
    then record w { kept = with_row e.1 w.kept } else record w { gone = w.gone ++ e.0 ∷ [] }

abbrev pub walked : Bag → List (ℕ × Row) → Walked → Walked
walked new [] w = w
walked new (e ∷ es) w = walked new es (passed new e w)

abbrev pub walk_of : Walk → Walked
walk_of w = record { gone = w.gone.items; kept = w.kept }

abbrev pub expanded : List (Row × ℕ) → List Row
expanded es = flat_map (λ e. replicate (suc e.1) e.0) es
