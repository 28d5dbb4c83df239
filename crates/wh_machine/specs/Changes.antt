-- Changing statements: INSERT, UPDATE, DELETE and MERGE.
--     edits_of           an effect as edits of rows
--     rows_seen          the rows of a table by rising number
--     Changed            what a change comes to before its numbers are tested: a refusal, or its effect on a table
use Rattle.std.specs.Prelude.{ℕ, ◌+◌, List, length, Option, Some, None}
use Rattle.std.specs.FinMap.{entries}
use Rattle.wh_value.specs.Value.{Row}
use Rattle.wh_naming.specs.Changes.{BoundChange, Modification, InsertRows, InsertQuery, Update, Delete, Merge}
use Rattle.wh_reply.specs.Reply as replies
use Rattle.wh_reply.specs.Reply.{Refusal, Reply, TypeMismatch, NumberOutOfRange, AmbiguousMerge}
use Rattle.wh_reply.specs.Reply.{RowCounts, Inserted, Updated, Deleted, Merged}
use Rattle.wh_meaning.specs.Query.{Instance}
use Rattle.wh_effect.specs.Effect as effects
use Rattle.wh_effect.specs.Effect.{Effect, effect}
use Rattle.wh_state.specs.State.{Table, last_rows}
use Rattle.wh_state.specs.Edits.{Edits, edits_from}

-- an effect as edits
abbrev pub edits_of : Effect → Edits
edits_of e = edits_from e.removed e.changed e.added

-- the rows of a table by rising number
abbrev pub rows_seen : Table → List (ℕ × Row)
rows_seen t = entries (last_rows t)

abbrev pub counted : Effect → ℕ
counted e = length e.added + length e.changed + length e.removed

-- how many rows the statement is told to have changed
abbrev pub counts_of : Modification → Effect → RowCounts
counts_of (InsertRows rows) e = Inserted (length e.added)
counts_of (InsertQuery query parts) e = Inserted (length e.added)
counts_of (Update condition parts) e = Updated (length e.changed)
counts_of (Delete condition) e = Deleted (length e.removed)
counts_of (Merge source on clauses) e = Merged (length e.added) (length e.changed) (length e.removed)

abbrev pub reply_to : Modification → Effect → Reply
reply_to change e = replies.Changed (counts_of change e)

-- ---- what a change comes to before its numbers are tested

pub data Changed : Type 0 where
  Fails : Refusal → Changed
  Gives : (id : ℕ) → (streams : List ℕ) → Modification → Effect → Changed

abbrev pub given : ℕ → List ℕ → Modification → effects.EffectResult → Changed
given id streams change effects.Undefined = Fails NumberOutOfRange
given id streams change (effects.Ambiguous row) = Fails (AmbiguousMerge row)
given id streams change (effects.Does e) = Gives id streams change e

-- a target that nothing is found wrong with is a table; the streams and the rows are those that the change reads
abbrev pub given_on : List ℕ → Instance → BoundChange → Option Table → Changed
given_on streams read b None = Fails TypeMismatch
given_on streams read b (Some t) = given b.target streams b.change (effect b.change (rows_seen t) read)

abbrev pub fails_or : Option Refusal → Changed → Changed
fails_or (Some why) changed = Fails why
fails_or None changed = changed
