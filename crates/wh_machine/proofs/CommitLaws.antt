-- What holds of the acts of commits.
--     spares_all         acts that move no offset
--     unmoved            a commit of such acts, and defined, of those that make and drop objects
--     acts_are           edits of tables, and then moves of the streams that were read
--     recorded_holds     a transaction that commits
use Rattle.std.proofs.Common.{◌≡◌, ℕ, suc, ◌-◌, ◌≤◌, Bool, true, false, cond, List, [], ◌∷◌, ◌++◌, map}
use Rattle.std.proofs.Common.{Option, Some, None, refl, ap, ◌∙◌, arith}
use Rattle.std.specs.Prelude.{nat_lt}
use Rattle.std.specs.List.{AllByRecursion}
use Rattle.std.proofs.lemmas.Bool.Decides.{nat_tests}
use Rattle.wh_reply.specs.Reply.{Reply}
use Rattle.wh_reply.specs.Reply.{is_refusal}
use Rattle.wh_state.specs.State.{State, Object, Stream}
use Rattle.wh_state.specs.Act.{MakesTask, PutsTask, BeginsRun, EndsTask, MakesDynamic, PutsDynamic, RefreshesRows}
use Rattle.wh_state.specs.Act.{Act, MakesTable, DropsObject, EditsRows, MakesStream, MovesOffset, acted}
use Rattle.wh_state.specs.Act.{all_acted}
use Rattle.wh_state.specs.Objects.{stream_at}
use Rattle.wh_machine.specs.Offsets.{offset_move, offset_moves, acts_of_commit}
use Rattle.wh_state.proofs.AllLaws.{all_map, all_append}
use Rattle.wh_state.proofs.ActLaws.{IsNoEdit, AreNoEdits, AreEditsFrom, next_edit, no_edits_from}
use Rattle.wh_machine.specs.Transaction.{Staged, Transaction, start_of}
use Rattle.wh_machine.specs.Transaction.{edit_act, touched, acts_of, commit_refusal}
use Rattle.wh_machine.specs.Sessions.{Sessions}
use Rattle.wh_machine.specs.Outcome.{Machine, commits}
use Rattle.wh_machine.specs.Statements.{recorded}
use Rattle.wh_machine.specs.Sound.{AreBegun}
use Rattle.wh_machine.proofs.EntryLaws.{RiseFrom, entries_rise}
use Rattle.wh_machine.proofs.MoveLaws.{left_of, acts_at, stream_more, stream_dropped, stream_tasked}
use Rattle.wh_machine.proofs.MoveLaws.{stream_edited, stream_refreshed, stream_put}
use Rattle.wh_machine.proofs.Lawful.{KeepsSessions, MovesOn, AllMoveOn, MovesFree, IsCommitOf, AreOfCommit}
use Rattle.wh_machine.proofs.Lawful.{IsLawful, same_sessions, does, tested}
use Rattle.wh_state.specs.Task.{with_state, with_run, with_ended}
use Rattle.wh_state.specs.Dynamic.{with_dynamic_state}

-- ---- acts that move no offset

abbrev pub MovesNone : Act → Type 0
MovesNone (MovesOffset id offset) = ⊥
MovesNone _ = Unit {0}

pub spares_one : (stamp : ℕ) (objects : List Object) (act : Act) → MovesNone act → (id : ℕ) (s : Stream)
    → stream_at objects id ≡ Some s → stream_at (acted stamp objects act) id ≡ Some s
spares_one stamp objects (MakesTable name columns retention) is id s at = stream_more objects _ id s at
spares_one stamp objects (MakesStream name source is_append_only) is id s at = stream_more objects _ id s at
spares_one stamp objects (DropsObject other) is id s at = stream_dropped stamp other objects id ∙ at
spares_one stamp objects (EditsRows other e) is id s at = stream_edited stamp other e objects id ∙ at
spares_one stamp objects (MovesOffset other offset) is id s at = absurd is
spares_one stamp objects (MakesTask name minutes after runs) is id s at = stream_more objects _ id s at
spares_one stamp objects (PutsTask other state) is id s at = stream_tasked (with_state state) other objects id ∙ at
spares_one stamp objects (BeginsRun root tasks) is id s at = stream_tasked (with_run tasks) root objects id ∙ at
spares_one stamp objects (EndsTask root task ending) is id s at =
    stream_tasked (with_ended task ending) root objects id ∙ at
spares_one stamp objects (MakesDynamic name lag is_incremental query columns) is id s at =
    stream_more objects _ id s at
spares_one stamp objects (PutsDynamic other state) is id s at =
    stream_put (with_dynamic_state state) other objects id ∙ at
spares_one stamp objects (RefreshesRows other moment e c) is id s at =
    stream_refreshed stamp other moment e c objects id ∙ at

pub spares_all : (stamp : ℕ) (objects : List Object) (acts : List Act) → AllByRecursion MovesNone acts
    → (id : ℕ) (s : Stream)
    → stream_at objects id ≡ Some s → stream_at (all_acted stamp objects acts) id ≡ Some s
spares_all stamp objects [] are id s at = at
spares_all stamp objects (act ∷ acts) are id s at =
    spares_all stamp (acted stamp objects act) acts are.1 id s (spares_one stamp objects act are.0 id s at)

pub unmoved : (m : Machine) (reply : Reply) (acts : List Act) → is_refusal reply ≡ false → AreEditsFrom 0 acts
    → AllByRecursion MovesNone acts → AllMoveOn m.state acts → IsLawful m [] (commits m reply acts)
unmoved m reply acts accepted shape are on = does m reply m.sessions (Some acts) accepted (same_sessions m) (record {
  shape = shape;
  moves = λ begun. on;
  free = λ apart q id held still. refl;
  stays = λ id s at none. spares_all m.state.last m.state.objects acts are id s at;
})

-- ---- acts that make and drop objects

abbrev pub Defines : Act → Type 0
Defines (EditsRows id e) = ⊥
Defines (RefreshesRows id moment e c) = ⊥
Defines (MovesOffset id offset) = ⊥
Defines _ = Unit {0}

-- it edits no rows and moves no offset
record DefinesOnly (s : State) (act : Act) : Type 0 where
  no_edit : IsNoEdit act
  moves_none : MovesNone act
  moves_on : MovesOn s act

defines_only : (s : State) (act : Act) → Defines act → DefinesOnly s act
defines_only s (MakesTable name columns retention) is = record { no_edit = tt; moves_none = tt; moves_on = tt }
defines_only s (DropsObject id) is = record { no_edit = tt; moves_none = tt; moves_on = tt }
defines_only s (EditsRows id e) is = absurd is
defines_only s (MakesStream name source is_append_only) is = record { no_edit = tt; moves_none = tt; moves_on = tt }
defines_only s (MovesOffset id offset) is = absurd is
defines_only s (MakesTask name minutes after runs) is = record { no_edit = tt; moves_none = tt; moves_on = tt }
defines_only s (PutsTask id state) is = record { no_edit = tt; moves_none = tt; moves_on = tt }
defines_only s (BeginsRun root tasks) is = record { no_edit = tt; moves_none = tt; moves_on = tt }
defines_only s (EndsTask root task ending) is = record { no_edit = tt; moves_none = tt; moves_on = tt }
defines_only s (MakesDynamic name lag is_incremental query columns) is =
    record { no_edit = tt; moves_none = tt; moves_on = tt }
defines_only s (PutsDynamic id state) is = record { no_edit = tt; moves_none = tt; moves_on = tt }
defines_only s (RefreshesRows id moment e c) is = absurd is

pub all_no_edits : (s : State) (acts : List Act) → AllByRecursion Defines acts → AreNoEdits acts
all_no_edits s acts are = all_map Defines IsNoEdit (λ act is. (defines_only s act is).no_edit) acts are

pub all_move_none : (s : State) (acts : List Act) → AllByRecursion Defines acts → AllByRecursion MovesNone acts
all_move_none s acts are = all_map Defines MovesNone (λ act is. (defines_only s act is).moves_none) acts are

pub defines_move_on : (s : State) (acts : List Act) → AllByRecursion Defines acts → AllMoveOn s acts
defines_move_on s acts are = all_map Defines (MovesOn s) (λ act is. (defines_only s act is).moves_on) acts are

pub defined : (m : Machine) (reply : Reply) (acts : List Act) → is_refusal reply ≡ false → AllByRecursion Defines acts
    → IsLawful m [] (commits m reply acts)
defined m reply acts accepted are = unmoved m reply acts accepted (no_edits_from 0 acts (all_no_edits m.state acts are))
    (all_move_none m.state acts are) (defines_move_on m.state acts are)

-- ---- the acts of commits that edit tables and read streams

one_moves : (start id : ℕ) (found : Option Stream) → AreNoEdits (offset_move start id found)
one_moves start id None = tt
one_moves start id (Some s) = by_test (nat_lt s.offset start)
  where
    by_test : (later : Bool) → AreNoEdits (cond later (MovesOffset id start ∷ []) [])
    by_test true = (tt, tt)
    by_test false = tt

pub they_move : (objects : List Object) (start : ℕ) (ids : List ℕ) → AreNoEdits (offset_moves objects start ids)
they_move objects start [] = tt
they_move objects start (id ∷ ids) =
    all_append IsNoEdit (offset_move start id (stream_at objects id)) (offset_moves objects start ids)
    (one_moves start id (stream_at objects id)) (they_move objects start ids)

one_moves_on : (s : State) (start id : ℕ) → start ≤ s.last - 1 → (found : Option Stream)
    → stream_at s.objects id ≡ found → AllMoveOn s (offset_move start id found)
one_moves_on s start id h None is = tt
one_moves_on s start id h (Some old) is = by_test (nat_lt old.offset start) refl
  where
    by_test : (later : Bool) → nat_lt old.offset start ≡ later
        → AllMoveOn s (cond later (MovesOffset id start ∷ []) [])
    by_test true test = ((h, λ same at. grind (arith, nat_tests)), tt)
    by_test false test = tt

-- offsets that move to a stamp before the last one
all_move_on : (s : State) (start : ℕ) → start ≤ s.last - 1 → (ids : List ℕ)
    → AllMoveOn s (offset_moves s.objects start ids)
all_move_on s start h [] = tt
all_move_on s start h (id ∷ ids) =
    all_append (MovesOn s) (offset_move start id (stream_at s.objects id)) (offset_moves s.objects start ids)
    (one_moves_on s start id h (stream_at s.objects id) refl) (all_move_on s start h ids)

pub edits_of_rising : (least : ℕ) (found : List (ℕ × Staged)) (more : List Act) → RiseFrom least found → AreNoEdits more
    → AreEditsFrom least (map edit_act found ++ more)
edits_of_rising least [] more rising are = no_edits_from least more are
edits_of_rising least (entry ∷ others) more rising are =
    next_edit rising.0 (edits_of_rising (suc entry.0) others more rising.1 are)

edits_move_on : (s : State) (found : List (ℕ × Staged)) (moves : List Act) → AllMoveOn s moves
    → AllMoveOn s (map edit_act found ++ moves)
edits_move_on s [] moves on = on
edits_move_on s (entry ∷ others) moves on = (tt, edits_move_on s others moves on)

is_commit : (m : Machine) (sessions : Sessions) (start : ℕ) (moving : List ℕ) (found : List (ℕ × Staged))
    → RiseFrom 0 found → (AreBegun m.state.last m.sessions → start ≤ m.state.last - 1) → MovesFree m sessions moving
    → IsCommitOf m moving sessions (map edit_act found ++ offset_moves m.state.objects start moving)
is_commit m sessions start moving found rising before free = record {
  shape = edits_of_rising 0 found (offset_moves m.state.objects start moving) rising
      (they_move m.state.objects start moving);
  moves = λ begun. edits_move_on m.state found (offset_moves m.state.objects start moving)
      (all_move_on m.state start (before begun) moving);
  free = free;
  stays = λ id s at none. acts_at m.state.objects m.state.last start id s at found moving m.state.objects at
      ∙ ap (λ (among : Bool). Some (left_of start s among s)) none;
}

pub acts_are : (m : Machine) (sessions : Sessions) (streams : List ℕ) (start : ℕ) (moving : List ℕ)
    (found : List (ℕ × Staged)) → RiseFrom 0 found → (AreBegun m.state.last m.sessions → start ≤ m.state.last - 1)
    → MovesFree m sessions moving
    → AreOfCommit m moving sessions
    (acts_of_commit streams (offset_moves m.state.objects start moving) (map edit_act found))
acts_are m sessions [] start moving [] rising before free = tt
acts_are m sessions [] start moving (entry ∷ others) rising before free =
    is_commit m sessions start moving (entry ∷ others) rising before free
acts_are m sessions (id ∷ ids) start moving found rising before free =
    is_commit m sessions start moving found rising before free

-- a transaction that commits: it began before, and no stream that is held behind it is among those that it read
pub recorded_holds : (m : Machine) (reply : Reply) (sessions : Sessions)
    (t : Transaction) → is_refusal reply ≡ false → KeepsSessions m sessions
    → (AreBegun m.state.last m.sessions → start_of t ≤ m.state.last - 1) → MovesFree m sessions t.streams
    → IsLawful m t.streams (recorded m reply sessions t)
unfolding acts_of
recorded_holds m reply sessions t accepted keeps before free =
    tested m (commit_refusal m.state.objects t) _ (does m reply sessions _ accepted keeps
    (acts_are m sessions t.streams (start_of t) t.streams (touched t) (entries_rise t) before free))
