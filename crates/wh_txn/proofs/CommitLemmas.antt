-- What is written for a transaction: versions of tables, and then offsets of streams.
--     offsets_append                 what is written for moves of offsets, one after the other
--     none_written, some_written     the commit where no table was touched and no stream read, and where some were
use Rattle.std.proofs.Common.{◌≡◌, ℕ, suc, ◌+◌, ◌<◌, ◌≤◌, Bool, true, false, cond, List, [], ◌∷◌, ◌++◌, length, map}
use Rattle.std.proofs.Common.{Option, Some, None, option_map, refl, sym, ap, ◌∙◌, append_assoc, arith}
use Rattle.std.specs.Prelude.{nat_lt}
use Rattle.wh_state.specs.State.{Object, Stream, at_id}
use Rattle.wh_state.specs.Stored.{Stored, StoredObject}
use Rattle.wh_state.specs.Commit.{Change, SetsOffset, Commit, changed, all_changed}
use Rattle.wh_state.specs.Objects.{stream_at}
use Rattle.wh_state.specs.Act.{Act, MakesTable, DropsObject, EditsRows, MakesStream, MovesOffset}
use Rattle.wh_state.specs.Act.{MakesTask, PutsTask, BeginsRun, EndsTask, MakesDynamic, PutsDynamic, RefreshesRows}
use Rattle.wh_machine.specs.Offsets.{offset_move, offset_moves, acts_of_commit}
use Rattle.wh_state.specs.Written.{version_written_to, act_written, written, commit_for}
use Rattle.wh_state.proofs.ActLaws.{AreMoves, edit_leaves}
use Rattle.wh_machine.specs.Transaction.{Staged, Transaction, start_of, touched, acts_of, edit_act}
use Rattle.wh_machine.proofs.EntryLaws.{RiseFrom, entries_rise}
use Rattle.wh_txn.specs.Recording.{version_for, versions_for, offset_written, offsets_written}

-- ---- moves of offsets

-- moves of offsets, whatever the objects are
moves_written : (stamp : ℕ) (now : List StoredObject) (moves : List Act) → AreMoves moves
    → written stamp now moves ≡ offsets_written moves
moves_written stamp now [] moves = refl
moves_written stamp now (MovesOffset id offset ∷ acts) moves =
    ap (SetsOffset id offset ∷◌) (moves_written stamp (changed stamp now (SetsOffset id offset)) acts moves)
moves_written stamp now (MakesTable name columns retention ∷ acts) moves = absurd moves
moves_written stamp now (DropsObject id ∷ acts) moves = absurd moves
moves_written stamp now (EditsRows id e ∷ acts) moves = absurd moves
moves_written stamp now (MakesStream name source is_append_only ∷ acts) moves = absurd moves
moves_written stamp now (MakesTask name minutes after runs ∷ acts) moves = absurd moves
moves_written stamp now (PutsTask id state ∷ acts) moves = absurd moves
moves_written stamp now (BeginsRun root tasks ∷ acts) moves = absurd moves
moves_written stamp now (EndsTask root task ending ∷ acts) moves = absurd moves
moves_written stamp now (MakesDynamic name lag is_incremental query columns ∷ acts) moves = absurd moves
moves_written stamp now (PutsDynamic id state ∷ acts) moves = absurd moves
moves_written stamp now (RefreshesRows id moment e groups ∷ acts) moves = absurd moves

pub offsets_append : (first more : List Act)
    → offsets_written (first ++ more) ≡ offsets_written first ++ offsets_written more
offsets_append [] more = refl
offsets_append (act ∷ acts) more =
    ap (λ (cs : List Change). offset_written act ++ cs) (offsets_append acts more)
    ∙ sym (append_assoc (offset_written act) (offsets_written acts) (offsets_written more))

one_moves : (start id : ℕ) (found : Option Stream) (moves : List Act) → AreMoves moves
    → AreMoves (offset_move start id found ++ moves)
one_moves start id None moves are = are
one_moves start id (Some s) moves are = by_test (nat_lt s.offset start)
  where
    by_test : (below : Bool) → AreMoves (cond below (MovesOffset id start ∷ []) [] ++ moves)
    by_test true = are
    by_test false = are

they_move : (objects : List Object) (start : ℕ) (ids : List ℕ) → AreMoves (offset_moves objects start ids)
they_move objects start [] = tt
they_move objects start (id ∷ ids) =
    one_moves start id (stream_at objects id) (offset_moves objects start ids) (they_move objects start ids)

-- ---- edits by rising ids, of which none changes what a later one is written over, and then moves of offsets

written_apart : (stamp least : ℕ) (objects now : List StoredObject) (es : List (ℕ × Staged)) (moves : List Act)
    → RiseFrom least es → AreMoves moves → ((id : ℕ) → least ≤ id → at_id now id ≡ at_id objects id)
    → written stamp now (map edit_act es ++ moves) ≡ versions_for stamp objects es ++ offsets_written moves
written_apart stamp least objects now [] moves rising are same = moves_written stamp now moves are
written_apart stamp least objects now (e ∷ es) moves rising are same =
    let next : List StoredObject = all_changed stamp now (act_written stamp now (EditsRows e.0 e.1.edits)) in
    let here : act_written stamp now (EditsRows e.0 e.1.edits) ≡ version_for stamp objects e =
    ap (version_written_to stamp e.0 e.1.edits) (same e.0 rising.0) in
    let others : written stamp next (map edit_act es ++ moves)
    ≡ versions_for stamp objects es ++ offsets_written moves =
    written_apart stamp (suc e.0) objects next es moves rising.1 are (λ later behind.
    edit_leaves stamp e.0 e.1.edits now later (omega (arith, behind)) ∙ same later (omega (arith, behind, rising.0))) in
    (λ i. here i ++ others i)
    ∙ sym (append_assoc (version_for stamp objects e) (versions_for stamp objects es) (offsets_written moves))

-- the commit of a transaction that touched these tables and read these streams
abbrev commit_of_acts : (s : Stored) (stamp : ℕ) (streams : List ℕ) (moves : List Act) (es : List (ℕ × Staged))
    → Option Commit
commit_of_acts s stamp streams moves es =
    option_map (commit_for s stamp) (acts_of_commit streams moves (map edit_act es))

idle_written : (s : Stored) (stamp : ℕ) (streams : List ℕ) (moves : List Act) (es : List (ℕ × Staged))
    → length es + length streams ≡ 0 → None ≡ commit_of_acts s stamp streams moves es
idle_written s stamp [] moves [] none = refl
idle_written s stamp [] moves (e ∷ es) none = absurd (omega (arith, none))
idle_written s stamp (id ∷ ids) moves es none = absurd (omega (arith, none))

busy_written : (s : Stored) (stamp : ℕ) (streams : List ℕ) (moves : List Act) (es : List (ℕ × Staged))
    → 0 < length es + length streams
    → commit_of_acts s stamp streams moves es ≡ Some (commit_for s stamp (map edit_act es ++ moves))
busy_written s stamp [] moves [] some = absurd (omega (arith, some))
busy_written s stamp [] moves (e ∷ es) some = refl
busy_written s stamp (id ∷ ids) moves [] some = refl
busy_written s stamp (id ∷ ids) moves (e ∷ es) some = refl

module _ (s : Stored) (stamp : ℕ) (objects : List Object) (t : Transaction) where
  abbrev moves : List Act
  moves = offset_moves objects (start_of t) t.streams

  pub none_written : length (touched t) + length t.streams ≡ 0
      → None ≡ option_map (commit_for s stamp) (acts_of objects t)
  unfolding acts_of
  none_written none = idle_written s stamp t.streams moves (touched t) none

  pub some_written : (changes : List Change) → 0 < length (touched t) + length t.streams
      → changes ≡ versions_for stamp s.objects (touched t) ++ offsets_written moves
      → Some (record { stamp = stamp; changes = changes }) ≡ option_map (commit_for s stamp) (acts_of objects t)
  unfolding acts_of
  some_written changes some made =
      ap (λ cs. Some (record { stamp = stamp; changes = cs }))
      (made ∙ sym (written_apart stamp 0 s.objects s.objects (touched t) moves (entries_rise t)
      (they_move objects (start_of t) t.streams) (λ id behind. refl)))
      ∙ sym (busy_written s stamp t.streams moves (touched t) some)
