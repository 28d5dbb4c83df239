-- The sessions of a script, each with at most one open transaction.
--     Sessions                        the open transaction of each session, by its number
--     transaction_in, number_in       that of a session, and its number
--     holder, locked_by               the number of the transaction that holds an object, and of one of another session
--     first_locked                    of one of another session that holds the first of some objects
--     with_begun, with_ended          a transaction that begins or ends; its holds go with it
use Rattle.std.specs.Prelude.{ℕ, ◌+◌, Bool, ◌||◌, List, [], ◌∷◌, Option, Some, None, option_map, is_some, cond}
use Rattle.std.specs.Prelude.{replicate}
use Rattle.std.specs.Prelude.{slice_get, slice_set, unwrap_or, nat_eq}
use Rattle.std.specs.List.{list_any}
use Rattle.std.specs.FinMap.{get}
use Rattle.wh_value.specs.Limit.{last_session}
use Rattle.wh_machine.specs.Transaction.{Transaction, begun}

-- each at the place of its number; none stands at 0
abbrev pub Sessions : Type 0
Sessions = List (Option Transaction)

-- as a file is opened
abbrev pub no_sessions : Sessions
no_sessions = replicate (last_session + 1) None

-- None where none is open
abbrev pub transaction_in : Sessions → ℕ → Option Transaction
transaction_in sessions session = unwrap_or (slice_get sessions session) None

abbrev pub number_in : Sessions → ℕ → Option ℕ
number_in sessions session = option_map (λ t. t.number) (transaction_in sessions session)

-- ---- holds

abbrev pub is_held : Transaction → ℕ → Bool
is_held t id = is_some (get t.tables id) || list_any (nat_eq id) t.streams

abbrev pub held_by : ℕ → Option Transaction → Option ℕ
held_by id None = None
held_by id (Some t) = cond (is_held t id) (Some t.number) None

abbrev pub or_later : Option ℕ → Option ℕ → Option ℕ
or_later None later = later
or_later (Some number) later = Some number

-- the number of the transaction that holds the object of an id
abbrev pub holder : Sessions → ℕ → Option ℕ
holder [] id = None
holder (one ∷ others) id = or_later (held_by id one) (holder others id)

-- ---- transactions that begin and end

abbrev pub with_transaction : Sessions → ℕ → Transaction → Sessions
with_transaction sessions session t = slice_set sessions session (Some t)

abbrev pub with_begun : Sessions → ℕ → ℕ → Sessions
with_begun sessions session stamp = with_transaction sessions session (begun stamp)

abbrev pub with_ended : Sessions → ℕ → Sessions
with_ended sessions session = slice_set sessions session None

-- the number of another session's transaction that holds it
abbrev pub locked_by : Sessions → ℕ → ℕ → Option ℕ
locked_by sessions session id = holder (with_ended sessions session) id

-- that holds the first of some objects that one holds
abbrev pub first_locked : Sessions → ℕ → List ℕ → Option ℕ
first_locked sessions session [] = None
first_locked sessions session (id ∷ ids) = or_later (locked_by sessions session id) (first_locked sessions session ids)
