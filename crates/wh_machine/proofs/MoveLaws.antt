-- What a commit that read a stream leaves of it.
--     read_by        what a statement reads of a stream
--     shown_again    behind the greater of its offset and a stamp nothing is shown that isn't shown up to the stamp
--     change_moves, commit_moves     where it is accepted, the offset is the greater of both
use Rattle.std.proofs.Common.{◌≡◌, ℕ, zero, suc, Bool, true, false, cond, List, [], ◌∷◌, ◌++◌, map}
use Rattle.std.proofs.Common.{Option, Some, None, option_map, refl, sym, ap, ◌∙◌, arith}
use Rattle.std.specs.Prelude.{nat_le, nat_lt, nat_eq, ◌||◌, ◌&&◌, slice_get, slice_set}
use Rattle.std.specs.List.{list_any}
use Rattle.std.specs.Option.{option_and_then}
use Rattle.std.proofs.lemmas.Bool.Decides.{nat_tests}
use Rattle.std.proofs.lemmas.Iterator.Adapters.{option_map_id}
use Rattle.wh_state.specs.State.{Stream, Object, Table, with_offset, dropped, at_id}
use Rattle.wh_state.specs.State.{put_at, changed_at}
use Rattle.wh_state.specs.Edits.{Edits}
use Rattle.wh_state.specs.Act.{on_task_object, on_dynamic_object, RefreshesRows}
use Rattle.wh_state.specs.Act.{DropsObject, EditsRows, MovesOffset, edited_table, edited_kind, edited_object}
use Rattle.wh_state.specs.Act.{refreshed_object}
use Rattle.wh_state.specs.Act.{moved_object, acted, all_acted}
use Rattle.wh_state.specs.Objects.{as_stream, stream_at}
use Rattle.wh_state.proofs.KindLaws.{stream_of_task, stream_of_dynamic}
use Rattle.wh_state.proofs.KindLaws.{stream_of_table, stream_of_stream}
use Rattle.wh_machine.specs.Offsets.{with_stream, with_streams, offset_move, offset_moves}
use Rattle.wh_net.specs.Stream.{shown, records_between}
use Rattle.wh_machine.specs.Transaction.{Staged, edit_act}
use Rattle.wh_state.specs.Task.{Task}
use Rattle.wh_state.specs.Dynamic.{Dynamic, GroupsChange, with_groups}

-- ---- what stands at an id

some_same : {X : Type 0} (a b : X) → Some a ≡ Some b → a ≡ b
some_same a b same = cc

after_zero : (q : ℕ) → nat_eq (suc q) zero ≡ false
after_zero q = grind (arith, nat_tests)

before_one : (q : ℕ) → nat_eq zero (suc q) ≡ false
before_one q = grind (arith, nat_tests)

after_both : (a b : ℕ) → nat_eq (suc a) (suc b) ≡ nat_eq a b
after_both a b = by_test (nat_eq a b) refl
  where
    by_test : (same : Bool) → nat_eq a b ≡ same → nat_eq (suc a) (suc b) ≡ same
    by_test true is = grind (arith, nat_tests)
    by_test false is = grind (arith, nat_tests)

pub same_number : (a b : ℕ) → nat_eq a b ≡ true → a ≡ b
same_number a b is = grind (arith, nat_tests)

set_get : {X : Type 0} (xs : List X) (place q : ℕ) (x y : X) → slice_get xs place ≡ Some x
    → slice_get (slice_set xs place y) q ≡ cond (nat_eq q place) (Some y) (slice_get xs q)
set_get [] place q x y there = absurd cc
set_get (z ∷ zs) zero zero x y there = refl
set_get (z ∷ zs) zero (suc q) x y there =
    ap (λ (b : Bool). cond b (Some y) (slice_get zs q)) (sym (after_zero q))
set_get (z ∷ zs) (suc place) zero x y there = ap (λ (b : Bool). cond b (Some y) (Some z)) (sym (before_one place))
set_get (z ∷ zs) (suc place) (suc q) x y there =
    set_get zs place q x y there ∙ ap (λ (b : Bool). cond b (Some y) (slice_get zs q)) (sym (after_both q place))

not_there : {X : Type 0} (x : X) → Some x ≡ None → ⊥
not_there x same = absurd cc

none_or : {X : Type 0} (b : Bool) (f : X → X) (found : Option X) → (b ≡ true → found ≡ None)
    → found ≡ cond b (option_map f found) found
none_or true f None so = refl
none_or true f (Some x) so = absurd (not_there x (so refl))
none_or false f found so = refl

-- at the id that changes and at others
changed_get : {X : Type 0} (f : X → X) (xs : List X) (id q : ℕ)
    → at_id (changed_at xs id f) q ≡ cond (nat_eq q id) (option_map f (at_id xs q)) (at_id xs q)
changed_get f xs zero zero = refl
changed_get f xs zero (suc q) =
    ap (λ (b : Bool). cond b (option_map f (slice_get xs q)) (slice_get xs q)) (sym (after_zero q))
changed_get f xs (suc place) q = by_found (slice_get xs place) refl q
  where
    by_found : (found : Option _) → slice_get xs place ≡ found → (q : ℕ)
        → at_id (put_at xs (suc place) (option_map f found)) q
        ≡ cond (nat_eq q (suc place)) (option_map f (at_id xs q)) (at_id xs q)
    by_found None there zero = ap (λ (b : Bool). cond b None None) (sym (before_one place))
    by_found None there (suc q) =
        none_or (nat_eq q place) f (slice_get xs q) (λ is. ap (slice_get xs) (same_number q place is) ∙ there)
        ∙ ap (λ (b : Bool). cond b (option_map f (slice_get xs q)) (slice_get xs q)) (sym (after_both q place))
    by_found (Some x) there zero = ap (λ (b : Bool). cond b None None) (sym (before_one place))
    by_found (Some x) there (suc q) =
        set_get xs place q x (f x) there ∙ by_number (nat_eq q place) refl
        ∙ ap (λ (b : Bool). cond b (option_map f (slice_get xs q)) (slice_get xs q)) (sym (after_both q place))
      where
        by_number : (same : Bool) → nat_eq q place ≡ same
            → cond same (Some (f x)) (slice_get xs q) ≡ cond same (option_map f (slice_get xs q)) (slice_get xs q)
        by_number true is =
            sym (ap (option_map f) (ap (slice_get xs) (same_number q place is) ∙ there))
        by_number false is = refl

-- the stream that an object is, if there is one
abbrev stream_of : Option Object → Option Stream
stream_of found = option_and_then as_stream found

-- where the change of an object changes its stream so
stream_changed : (f : Object → Object) (g : Stream → Stream)
    → ((o : Object) → as_stream (f o) ≡ option_map g (as_stream o))
    → (objects : List Object) (id q : ℕ)
    → stream_at (changed_at objects id f) q
    ≡ cond (nat_eq q id) (option_map g (stream_at objects q)) (stream_at objects q)
stream_changed f g so objects id q =
    ap stream_of (changed_get f objects id q) ∙ by_number (nat_eq q id) (at_id objects q)
  where
    by_number : (same : Bool) (found : Option Object)
        → stream_of (cond same (option_map f found) found)
        ≡ cond same (option_map g (stream_of found)) (stream_of found)
    by_number true None = refl
    by_number true (Some o) = so o
    by_number false found = refl

-- ---- edits, and offsets that move

-- where it stays as it is
stream_stays : (f : Object → Object) → ((o : Object) → as_stream (f o) ≡ as_stream o)
    → (objects : List Object) (id q : ℕ) → stream_at (changed_at objects id f) q ≡ stream_at objects q
stream_stays f so objects id q =
    stream_changed f (λ s. s) (λ o. so o ∙ sym (option_map_id (as_stream o))) objects id q
    ∙ either_same (nat_eq q id) (stream_at objects q)
  where
    either_same : (b : Bool) (found : Option Stream) → cond b (option_map (λ x. x) found) found ≡ found
    either_same true found = option_map_id found
    either_same false found = refl

pub stream_edited : (stamp id : ℕ) (e : Edits) (objects : List Object) (q : ℕ)
    → stream_at (acted stamp objects (EditsRows id e)) q ≡ stream_at objects q
stream_edited stamp id e objects q = stream_stays (edited_object stamp stamp e)
    (λ o. stream_of_table (edited_table stamp stamp e) o.kind) objects id q

pub stream_refreshed : (stamp id moment : ℕ) (e : Edits) (c : Option GroupsChange) (objects : List Object) (q : ℕ)
    → stream_at (acted stamp objects (RefreshesRows id moment e c)) q ≡ stream_at objects q
stream_refreshed stamp id moment e c objects q = stream_stays (refreshed_object stamp moment e c)
    (λ o. stream_of_dynamic (with_groups c) (edited_kind stamp moment e o.kind)
    ∙ stream_of_table (edited_table stamp moment e) o.kind) objects id q

stream_moved : (stamp id offset : ℕ) (objects : List Object) (q : ℕ)
    → stream_at (acted stamp objects (MovesOffset id offset)) q
    ≡ cond (nat_eq q id) (option_map (with_offset offset) (stream_at objects q)) (stream_at objects q)
stream_moved stamp id offset objects q =
    stream_changed (moved_object offset) (with_offset offset)
    (λ o. stream_of_stream (with_offset offset) o.kind) objects id q

-- where objects are dropped, and where one is made
pub stream_dropped : (stamp id : ℕ) (objects : List Object) (q : ℕ)
    → stream_at (acted stamp objects (DropsObject id)) q ≡ stream_at objects q
stream_dropped stamp id objects q = stream_stays dropped (λ o. refl) objects id q

pub stream_tasked : (f : Task → Task) (id : ℕ) (objects : List Object) (q : ℕ)
    → stream_at (changed_at objects id (on_task_object f)) q ≡ stream_at objects q
stream_tasked f id objects q = stream_stays (on_task_object f) (λ o. stream_of_task f o.kind) objects id q

pub stream_put : (f : Dynamic → Dynamic) (id : ℕ) (objects : List Object) (q : ℕ)
    → stream_at (changed_at objects id (on_dynamic_object f)) q ≡ stream_at objects q
stream_put f id objects q = stream_stays (on_dynamic_object f) (λ o. stream_of_dynamic f o.kind) objects id q

get_more : {X : Type 0} (xs : List X) (y x : X) (place : ℕ) → slice_get xs place ≡ Some x
    → slice_get (xs ++ y ∷ []) place ≡ Some x
get_more [] y x place there = absurd cc
get_more (z ∷ zs) y x zero there = there
get_more (z ∷ zs) y x (suc place) there = get_more zs y x place there

pub stream_more : (objects : List Object) (o : Object) (id : ℕ) (s : Stream) → stream_at objects id ≡ Some s
    → stream_at (objects ++ o ∷ []) id ≡ Some s
stream_more objects o id s at = by_place id (at_id objects id) refl at
  where
    by_place : (q : ℕ) (found : Option Object) → at_id objects q ≡ found → stream_of found ≡ Some s
        → stream_of (at_id (objects ++ o ∷ []) q) ≡ Some s
    by_place q None there is = absurd cc
    by_place zero (Some p) there is = absurd cc
    by_place (suc place) (Some p) there is = ap stream_of (get_more objects o p place there) ∙ is

-- up to a stamp, or not at all where it is behind it already
abbrev pub read_to : ℕ → Stream → Stream
read_to start s = cond (nat_lt s.offset start) (with_offset start s) s

-- where it was `s`, a stream that is among those that move to a start, or isn't
abbrev pub left_of : ℕ → Stream → Bool → Stream → Stream
left_of start s among now = cond (among && nat_lt s.offset start) (with_offset start now) now

-- a stream behind moves to a start that are made on some objects, where it stood there as `s`
module _ (objects : List Object) (stamp start id : ℕ) (s : Stream) (at : stream_at objects id ≡ Some s) where
  moved_once : (among : Bool) (r : Stream) → nat_lt s.offset start ≡ true
      → left_of start s among (with_offset start r) ≡ with_offset start r
  moved_once true r is = rw is refl
  moved_once false r is = refl

  abbrev MovesAt : List ℕ → Type 0
  MovesAt ids = (now : List Object) (r : Stream) → stream_at now id ≡ Some r
      → stream_at (all_acted stamp now (offset_moves objects start ids)) id
      ≡ Some (left_of start s (list_any (nat_eq id) ids) r)

  moves_at : (ids : List ℕ) → MovesAt ids
  moves_at [] now r is = is
  moves_at (other ∷ ids) now r is = by_found (moves_at ids) (stream_at objects other) refl (nat_eq id other) refl
    where
      by_test : MovesAt ids → (o : Stream) → stream_at objects other ≡ Some o → (same : Bool) → nat_eq id other ≡ same
          → (later : Bool) → nat_lt o.offset start ≡ later
          → stream_at (all_acted stamp now (cond later (MovesOffset other start ∷ []) []
          ++ offset_moves objects start ids)) id
          ≡ Some (left_of start s (same || list_any (nat_eq id) ids) r)
      by_test rest o there true same true later =
          let as_s : nat_lt s.offset start ≡ true =
          ap (λ (t : Stream). nat_lt t.offset start)
          (some_same s o (sym at ∙ ap (stream_at objects) (same_number id other same) ∙ there)) ∙ later in
          rest (acted stamp now (MovesOffset other start)) (with_offset start r)
          (stream_moved stamp other start now id
          ∙ ap (λ (b : Bool). cond b (option_map (with_offset start) (stream_at now id)) (stream_at now id)) same
          ∙ ap (option_map (with_offset start)) is)
          ∙ ap Some (moved_once (list_any (nat_eq id) ids) r as_s
          ∙ sym (ap (λ (b : Bool). cond b (with_offset start r) r) as_s))
      by_test rest o there true same false later =
          let as_s : nat_lt s.offset start ≡ false =
          ap (λ (t : Stream). nat_lt t.offset start)
          (some_same s o (sym at ∙ ap (stream_at objects) (same_number id other same) ∙ there)) ∙ later in
          rest now r is ∙ ap Some (stays (list_any (nat_eq id) ids) as_s
          ∙ sym (ap (λ (b : Bool). cond b (with_offset start r) r) as_s))
        where
          stays : (among : Bool) → nat_lt s.offset start ≡ false → left_of start s among r ≡ r
          stays true still = rw still refl
          stays false still = refl
      by_test rest o there false same true later =
          rest (acted stamp now (MovesOffset other start)) r
          (stream_moved stamp other start now id
          ∙ ap (λ (b : Bool). cond b (option_map (with_offset start) (stream_at now id)) (stream_at now id)) same ∙ is)
      by_test rest o there false same false later = rest now r is

      by_found : MovesAt ids → (found : Option Stream) → stream_at objects other ≡ found
          → (same : Bool) → nat_eq id other ≡ same
          → stream_at (all_acted stamp now (offset_move start other found ++ offset_moves objects start ids)) id
          ≡ Some (left_of start s (same || list_any (nat_eq id) ids) r)
      by_found rest None there true same =
          absurd (not_there s (sym at ∙ ap (stream_at objects) (same_number id other same) ∙ there))
      by_found rest None there false same = rest now r is
      by_found rest (Some o) there same number = by_test rest o there same number (nat_lt o.offset start) refl

  -- behind edits of tables
  pub acts_at : (found : List (ℕ × Staged)) (ids : List ℕ) (now : List Object) → stream_at now id ≡ Some s
      → stream_at (all_acted stamp now (map edit_act found ++ offset_moves objects start ids)) id
      ≡ Some (left_of start s (list_any (nat_eq id) ids) s)
  acts_at [] ids now is = moves_at ids now s is
  acts_at (entry ∷ others) ids now is =
      acts_at others ids (acted stamp now (edit_act entry))
      (stream_edited stamp entry.0 entry.1.edits now id ∙ is)

-- ---- streams that are read

with_one : (id other : ℕ) (ids : List ℕ)
    → list_any (nat_eq id) (with_stream other ids) ≡ (nat_eq id other || list_any (nat_eq id) ids)
with_one id other [] = refl
with_one id other (first ∷ ids) =
    by_order (with_one id other ids) (nat_lt other first) (nat_eq other first) refl
  where
    swapped : (a b c : Bool) → (b || (a || c)) ≡ (a || (b || c))
    swapped true true c = refl
    swapped true false c = refl
    swapped false b c = refl

    twice : (a b c : Bool) → a ≡ b → (b || c) ≡ (a || (b || c))
    twice true true c same = refl
    twice true false c same = absurd cc
    twice false b c same = refl

    by_order : list_any (nat_eq id) (with_stream other ids) ≡ (nat_eq id other || list_any (nat_eq id) ids)
        → (before same : Bool) → nat_eq other first ≡ same
        → list_any (nat_eq id) (cond before (other ∷ first ∷ ids)
        (cond same (first ∷ ids) (first ∷ with_stream other ids)))
        ≡ (nat_eq id other || (nat_eq id first || list_any (nat_eq id) ids))
    by_order rest true same is = refl
    by_order rest false true is =
        twice (nat_eq id other) (nat_eq id first) (list_any (nat_eq id) ids)
        (ap (nat_eq id) (same_number other first is))
    by_order rest false false is =
        ap (λ (b : Bool). nat_eq id first || b) rest
        ∙ swapped (nat_eq id other) (nat_eq id first) (list_any (nat_eq id) ids)

-- the streams of a statement are among those of its transaction then
pub among_streams : (id : ℕ) (more ids : List ℕ)
    → list_any (nat_eq id) (with_streams more ids) ≡ (list_any (nat_eq id) more || list_any (nat_eq id) ids)
among_streams id [] ids = refl
among_streams id (other ∷ more) ids =
    among_streams id more (with_stream other ids)
    ∙ ap (λ (b : Bool). list_any (nat_eq id) more || b) (with_one id other ids)
    ∙ swapped (nat_eq id other) (list_any (nat_eq id) more) (list_any (nat_eq id) ids)
  where
    swapped : (a b c : Bool) → (b || (a || c)) ≡ ((a || b) || c)
    swapped true true c = refl
    swapped true false c = refl
    swapped false b c = refl

-- ---- what is shown up to the offset that is left

pub shown_again : (t : Table) (s : Stream) (start : ℕ) → shown t s (read_to start s).offset ≡ shown t s start
unfolding shown
shown_again t s start = by_test (nat_lt s.offset start) refl
  where
    by_test : (later : Bool) → nat_lt s.offset start ≡ later
        → cond (nat_le (cond later (with_offset start s) s).offset s.offset) []
        (records_between s.is_append_only t s.offset (cond later (with_offset start s) s).offset)
        ≡ cond (nat_le start s.offset) [] (records_between s.is_append_only t s.offset start)
    by_test true later = refl
    by_test false later =
        let none : nat_le start s.offset ≡ true = grind (arith, nat_tests) in
        let here : nat_le s.offset s.offset ≡ true = grind (arith, nat_tests) in
        rw (none, here) refl
