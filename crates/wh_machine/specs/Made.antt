-- The commits of events.
--     made                 the commit that an event makes, where it makes one
--     all_made             those that events make, in order
--     kept_after_all       what the file says behind them
--     overflow, fitting    the first commit of some events that a file has no room for, and the events before it
use Rattle.std.specs.Prelude.{ℕ, ◌+◌, List, [], ◌∷◌, ◌++◌, Option, Some, None, option_map, if◌then◌else◌}
use Rattle.std.specs.Option.{option_to_list}
use Rattle.wh_state.specs.Stored.{Stored}
use Rattle.wh_state.specs.Commit.{Commit}
use Rattle.wh_state.specs.Written.{commit_for, kept_after, added_length, is_beyond}
use Rattle.wh_machine.specs.Outcome.{Machine}
use Rattle.wh_machine.specs.Step.{Event, reading_of, stamp_of, step, acts_of}

-- over a file that says that much
abbrev pub made : Stored → Machine → Event → Option Commit
made s m e = option_map (commit_for s (stamp_of m.state (reading_of e))) (acts_of m e)

abbrev pub all_made : Stored → Machine → List Event → List Commit
all_made s m [] = []
all_made s m (e ∷ es) = option_to_list (made s m e) ++ all_made (kept_after s (made s m e)) (step m e).0 es

abbrev pub kept_after_all : Stored → Machine → List Event → Stored
kept_after_all s m [] = s
kept_after_all s m (e ∷ es) = kept_after_all (kept_after s (made s m e)) (step m e).0 es

-- where the first commit would begin that there is no room for, and what it needs
abbrev pub overflow : ℕ → ℕ → Stored → Machine → List Event → Option (ℕ × ℕ)
overflow most end s m [] = None
overflow most end s m (e ∷ es) =
    if is_beyond most end (made s m e) then Some (end, added_length (made s m e))
    else overflow most (end + added_length (made s m e)) (kept_after s (made s m e)) (step m e).0 es

-- the events before the one that makes it
abbrev pub fitting : ℕ → ℕ → Stored → Machine → List Event → List Event
fitting most end s m [] = []
fitting most end s m (e ∷ es) =
    if is_beyond most end (made s m e) then []
    else e ∷ fitting most (end + added_length (made s m e)) (kept_after s (made s m e)) (step m e).0 es
