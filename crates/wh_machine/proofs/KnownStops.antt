-- Known values of the definitions on the commits of events and on stops, worked out by hand.
use Rattle.std.proofs.Common.{◌≡◌, List, [], ◌∷◌, Some, None, refl}
use Rattle.std.specs.Prelude.{codes}
use Rattle.wh_meaning.specs.Scalar.{val}
use Rattle.wh_meaning.specs.Query.{values_on}
use Rattle.wh_naming.specs.Findings.{first_failing}
use Rattle.wh_naming.specs.Typing as typing
use Rattle.wh_naming.specs.Changes.{bound_change}
use Rattle.wh_effect.specs.Effect.{effect}
use Rattle.wh_frame.specs.Spelling.{partition_bytes, row_bytes, value_bytes}
use Rattle.wh_reply.specs.Reply.{print}
use Rattle.wh_machine.specs.Tables.{table_refusal, create_table, drop_table}
use Rattle.wh_state.specs.Edits.{edits_from, later_edits, partitions_made}
use Rattle.wh_state.specs.Act.{edited_table}
use Rattle.wh_state.specs.Stored.{Stored, first_stored}
use Rattle.wh_state.specs.Commit.{changed}
use Rattle.wh_state.specs.Spelling.{text_payload}
use Rattle.wh_state.specs.Spelling.{change_bytes, table_bytes, version_bytes, column_bytes}
use Rattle.wh_state.specs.Written.{kept_after}
use Rattle.wh_state.proofs.KnownCommits as commits
use Rattle.wh_state.proofs.KnownMaps.{map_steps}
use Rattle.wh_machine.specs.Transaction as transactions
use Rattle.wh_machine.specs.Transaction.{seen, staged, past_limit}
use Rattle.wh_machine.specs.Outcome.{Machine}
use Rattle.wh_machine.specs.Reading.{reading_refusal}
use Rattle.wh_ddl_naming.specs.Statements as ddl
use Rattle.wh_machine.specs.Statements.{changes_rows, carried_out}
use Rattle.wh_machine.specs.Definitions.{defines}
use Rattle.wh_machine.specs.Step.{Event, step, acts_of, commanded}
use Rattle.wh_machine.specs.Made.{made, overflow}
use Rattle.wh_machine.specs.Stop.{whole_replies, most_events}
use Rattle.wh_machine.proofs.KnownEvents.{first, table_t, replacing_t, drop_t, insertion, number, asked, literal_typed}

abbrev table_and_row : List Event
table_and_row = asked table_t ∷ asked (insertion (codes "T") ((number 1 ∷ []) ∷ [])) ∷ []

abbrev created : Machine
created = (step first (asked table_t)).0

-- what a file says after the first event
abbrev filed : Stored
filed = kept_after first_stored (made first_stored first (asked table_t))

made_table : made first_stored first (asked table_t) ≡ Some commits.creation
unfolding acts_of commanded ddl.bound carried_out defines create_table table_refusal first_failing
made_table = refl

made_row : made filed created (asked (insertion (codes "T") ((number 1 ∷ []) ∷ []))) ≡ Some commits.insertion
unfolding acts_of step commanded ddl.bound carried_out defines create_table table_refusal changes_rows
    transactions.acts_of past_limit staged later_edits seen reading_refusal bound_change first_failing typing.step
    effect values_on val edits_from edited_table partitions_made changed
made_row = simp (literal_typed, map_steps)

-- a drop, and a table that takes the place of T
made_drop : (made filed created (asked drop_t) ≡ Some (commits.drop 2))
    × (made filed created (asked replacing_t) ≡ Some (commits.replacement 2))
    × (made first_stored first (asked replacing_t) ≡ Some commits.creation)
unfolding acts_of step commanded ddl.bound carried_out defines create_table drop_table table_refusal first_failing
    changed
made_drop = (refl, refl, refl)

-- a table that is there, and two values for one column
made_none : (made filed created (asked table_t) ≡ None)
    × (made filed created (asked (insertion (codes "T") ((number 1 ∷ number 2 ∷ []) ∷ []))) ≡ None)
unfolding acts_of step commanded ddl.bound carried_out defines create_table table_refusal changes_rows
    transactions.acts_of past_limit staged later_edits seen reading_refusal bound_change first_failing typing.step
    effect values_on val edits_from edited_table partitions_made changed
made_none = (refl, simp (literal_typed, map_steps))

-- the second record needs 83 bytes behind the first 50
no_room : (overflow 132 8 first_stored first table_and_row ≡ Some (50, 83))
    × (overflow 133 8 first_stored first table_and_row ≡ None)
    × (overflow 49 8 first_stored first table_and_row ≡ Some (8, 42))
unfolding acts_of step commanded ddl.bound carried_out defines create_table table_refusal changes_rows
    transactions.acts_of past_limit staged later_edits seen reading_refusal bound_change first_failing typing.step
    effect values_on val edits_from edited_table partitions_made changed text_payload change_bytes table_bytes
    column_bytes version_bytes partition_bytes row_bytes value_bytes
no_room = (simp (literal_typed, map_steps), simp (literal_typed, map_steps), refl)

abbrev twice : List Event
twice = asked table_t ∷ asked table_t ∷ []

-- replies of 16 and 15 bytes
whole : (whole_replies first twice 15 ≡ 0) × (whole_replies first twice 16 ≡ 1) × (whole_replies first twice 30 ≡ 1)
    × (whole_replies first twice 31 ≡ 2) × (most_events first twice 30 ≡ 2) × (most_events first twice 31 ≡ 2)
unfolding step commanded ddl.bound carried_out defines create_table table_refusal first_failing print
whole = (refl, refl, refl, refl, refl, refl)
