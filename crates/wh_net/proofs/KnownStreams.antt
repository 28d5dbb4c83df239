-- Streams worked out by hand, over a table of the versions that stamps 2 to 6 left.
use Rattle.std.proofs.Common.{◌≡◌, ℕ, true, false, [], ◌∷◌, Some, None, pos, refl}
use Rattle.std.specs.Prelude.{codes}
use Rattle.std.specs.Fmt.{digits}
use Rattle.std.specs.FinMap.{empty, insert}
use Rattle.wh_value.specs.Value.{Number, Truth, Text, Row}
use Rattle.wh_state.specs.State.{Rows, Table, Stream, version_at}
use Rattle.wh_state.proofs.KnownMaps.{map_steps}
use Rattle.wh_net.specs.Net.{deleted, inserted, net_change, net, appended}
use Rattle.wh_net.specs.Stream.{shown, shown_row, stale_by}

abbrev row : ℕ → Row
row k = Number (pos k) ∷ []

-- of one number: nothing; a row that came; one that went; one that is as it was; one that was changed
of_nothing : net_change 7 None None ≡ []
of_nothing = refl

of_one_that_came : net_change 7 None (Some (row 10)) ≡ inserted 7 false (row 10) ∷ []
of_one_that_came = refl

of_one_that_went : net_change 7 (Some (row 10)) None ≡ deleted 7 false (row 10) ∷ []
of_one_that_went = refl

of_an_equal_one : net_change 7 (Some (row 10)) (Some (row 10)) ≡ []
of_an_equal_one = refl

of_a_changed_one : net_change 7 (Some (row 10)) (Some (row 11))
    ≡ deleted 7 true (row 10) ∷ inserted 7 true (row 11) ∷ []
of_a_changed_one = refl

-- rows 1 to 3; then row 1 is changed, row 2 goes and row 4 comes
abbrev before : Rows
before = insert (insert (insert empty 1 (row 10)) 2 (row 20)) 3 (row 30)

abbrev behind : Rows
behind = insert (insert (insert empty 1 (row 11)) 3 (row 30)) 4 (row 40)

changes : net before behind ≡ deleted 1 true (row 10) ∷ inserted 1 true (row 11) ∷ deleted 2 false (row 20)
    ∷ inserted 4 false (row 40) ∷ []
unfolding net
changes = simp map_steps

no_changes : net behind behind ≡ []
unfolding net
no_changes = simp map_steps

-- a table of one row, then another beside it that is changed, then the first one alone
abbrev table : Table
table = record {
  created = 2;
  columns = [];
  retention = 1;
  next_row = 3;
  next_partition = 1;
  versions = version_at 2 (record { rows = insert empty 1 (row 10); partitions = [] })
      ∷ version_at 3 (record { rows = insert (insert empty 1 (row 10)) 2 (row 20); partitions = [] })
      ∷ version_at 4 (record { rows = insert (insert empty 1 (row 10)) 2 (row 21); partitions = [] })
      ∷ version_at 6 (record { rows = insert empty 1 (row 10); partitions = [] })
      ∷ [];
}

abbrev standard : ℕ → Stream
standard offset = record { source = 7; is_append_only = false; offset = offset; columns = [] }

abbrev append_only : ℕ → Stream
append_only offset = record { source = 7; is_append_only = true; offset = offset; columns = [] }

-- a row that came and changed behind the offset came as it is now
an_inserted_row : shown table (standard 2) 5 ≡ inserted 2 false (row 21) ∷ []
unfolding shown net
an_inserted_row = simp map_steps

-- and one that came and went is not shown
a_row_that_came_and_went : shown table (standard 2) 6 ≡ []
unfolding shown net
a_row_that_came_and_went = simp map_steps

-- but by a stream of appended rows, as it came
an_appended_row : shown table (append_only 2) 6 ≡ inserted 2 false (row 20) ∷ []
unfolding shown appended
an_appended_row = simp map_steps

-- the range begins behind the offset
behind_the_offset : shown table (append_only 3) 6 ≡ []
unfolding shown appended
behind_the_offset = simp map_steps

nothing_before_the_offset : shown table (standard 5) 5 ≡ []
unfolding shown
nothing_before_the_offset = refl

-- the source's columns, the action, whether it is part of an update, and the row's id
three_columns : shown_row 7 (deleted 12 true (row 5))
    ≡ Number (pos 5) ∷ Text (codes "DELETE") ∷ Truth true ∷ Text (codes "7:12") ∷ []
unfolding digits
three_columns = refl

-- 14 days behind the offset it is read, and a millisecond later not
staleness : (stale_by 1 5 1209600005 ≡ None) × (stale_by 1 5 1209600006 ≡ Some (5, 1209600005))
staleness = (refl, refl)
