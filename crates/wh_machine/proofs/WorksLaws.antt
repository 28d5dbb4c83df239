-- What an event may come to over a file that its machine was opened from.
--     IsReached                a machine and what its file says by then
--     Works                    the commit of an outcome applies, and what is held still stands
--     works_refuses, works_unless, works_last, works_does     refusals, tests, and replies without a commit
--     transaction_commits, works_recorded                     a transaction that commits
--     works_defined, works_made                               an object that nobody holds is dropped, or none is
use Rattle.std.proofs.Common.{◌≡◌, ℕ, Bool, true, false, cond, List, []}
use Rattle.std.proofs.Common.{◌∷◌, ◌++◌, map, Option, Some, None, option_map, refl, sym, ap, subst, ◌∙◌, arith, IfSome}
use Rattle.std.specs.Prelude.{nat_eq, ◌||◌, is_some}
use Rattle.std.specs.List.{AllByRecursion, list_any}
use Rattle.std.specs.FinMap.{get}
use Rattle.std.proofs.lemmas.Bool.Decides.{nat_tests}
use Rattle.wh_reply.specs.Reply.{Refusal, Reply}
use Rattle.wh_state.specs.State.{State, Object}
use Rattle.wh_state.specs.Act.{Act}
use Rattle.wh_state.specs.Stored.{StoredObject, Stored, object_meant, meant}
use Rattle.wh_state.specs.Commit.{CreatesTask, SetsTask, StartsRun, FinishesTask, CreatesDynamic, SetsDynamic}
use Rattle.wh_state.specs.Commit.{SetsGroups}
use Rattle.wh_state.specs.Commit.{Change, CreatesTable, Drops, PushesVersion, CreatesStream, SetsOffset, all_changed}
use Rattle.wh_state.specs.Written.{written, commit_for, kept_after}
use Rattle.wh_state.specs.Sound.{IsSoundObject}
use Rattle.wh_state.proofs.AllLaws.{all_map}
use Rattle.wh_state.proofs.ActLaws.{AreEditsFrom}
use Rattle.wh_state.proofs.FirmLaws.{IsFirm}
use Rattle.wh_state.proofs.WrittenLaws.{AllGo, AllStand, ChangeSpares, acts_go}
use Rattle.wh_state.proofs.EndLaws.{rows_spare, acts_of_rows}
use Rattle.wh_machine.specs.Offsets.{offset_moves, acts_of_commit}
use Rattle.wh_machine.specs.Transaction.{Staged, Transaction, start_of, edit_act, touched, acts_of, commit_refusal}
use Rattle.wh_machine.specs.Sessions.{Sessions, held_by, is_held, holder}
use Rattle.wh_machine.specs.Outcome.{Machine, Outcome, Refuses, Does, unless, last_test, settled, acts_in}
use Rattle.wh_machine.specs.Statements.{recorded}
use Rattle.wh_machine.specs.Sound.{SoundMachine}
use Rattle.wh_machine.proofs.EntryLaws.{entries_rise}
use Rattle.wh_machine.proofs.HoldLaws.{or_none}
use Rattle.wh_machine.proofs.CommitLaws.{edits_of_rising, they_move}
use Rattle.wh_machine.proofs.StandLaws.{TransactionStands, AllStandOn, stands_through, commit_stands}

-- ---- machines and their files

pub record IsReached (s : Stored) (m : Machine) : Type 0 where
  pub means : m.state ≡ record (meant s) { last = m.state.last }
  pub sound : SoundMachine m
  pub firm : IsFirm s.objects
  pub stand : AllStandOn s.objects m.sessions

pub objects_meant : (s : Stored) (m : Machine) → IsReached s m → m.state.objects ≡ map object_meant s.objects
objects_meant s m reached = ap (λ (t : State). t.objects) reached.means

-- ---- outcomes

abbrev pub CommitGoes : Stored → ℕ → Option (List Act) → Type 0
CommitGoes s stamp None = Unit {0}
CommitGoes s stamp (Some acts) = AllGo stamp s.objects (written stamp s.objects acts)

abbrev pub objects_after : Stored → ℕ → Option (List Act) → List StoredObject
objects_after s stamp acts = (kept_after s (option_map (commit_for s stamp) acts)).objects

pub record Works (s : Stored) (m : Machine) (o : Outcome) : Type 0 where
  pub goes : CommitGoes s m.state.last (acts_in o)
  pub stand : AllStandOn (objects_after s m.state.last (acts_in o)) (settled m o).0.sessions

pub works_refuses : (s : Stored) (m : Machine) (why : Refusal) → IsReached s m → Works s m (Refuses why)
works_refuses s m why reached = record { goes = tt; stand = reached.stand }

pub works_unless : (s : Stored) (m : Machine) (found : Option Refusal) (o : Outcome) → IsReached s m
    → (found ≡ None → Works s m o) → Works s m (unless found o)
works_unless s m (Some why) o reached works = works_refuses s m why reached
works_unless s m None o reached works = works refl

pub works_last : (s : Stored) (m : Machine) (found : Option Refusal) (o : Outcome) → IsReached s m
    → (found ≡ None → Works s m o) → Works s m (last_test found o)
works_last s m found (Refuses why) reached works = works_refuses s m why reached
works_last s m found (Does reply sessions acts) reached works = works_unless s m found _ reached works

pub works_either : (s : Stored) (m : Machine) (b : Bool) (o p : Outcome) → Works s m o → Works s m p
    → Works s m (cond b o p)
works_either s m true o p first second = first
works_either s m false o p first second = second

-- no commit, and sessions that stand
pub works_does : (s : Stored) (m : Machine) (reply : Reply) (sessions : Sessions) → AllStandOn s.objects sessions
    → Works s m (Does reply sessions None)
works_does s m reply sessions stand = record { goes = tt; stand = stand }

-- ---- a transaction that commits

all_spare : (P : ℕ → Type 0) → ((id : ℕ) → P id) → (ids : List ℕ) → AllByRecursion P ids
all_spare P so [] = tt
all_spare P so (id ∷ ids) = (so id, all_spare P so ids)

-- what every id is spared by
sessions_through : (stamp : ℕ) (objects : List StoredObject) (cs : List Change)
    → ((id : ℕ) → AllByRecursion (ChangeSpares id) cs) → (sessions : Sessions) → AllStandOn objects sessions
    → AllStandOn (all_changed stamp objects cs) sessions
sessions_through stamp objects cs spares [] stand = tt
sessions_through stamp objects cs spares (None ∷ others) stand =
    (tt, sessions_through stamp objects cs spares others stand.1)
sessions_through stamp objects cs spares (Some t ∷ others) stand = (
  stands_through stamp objects cs t (record {
    tables = λ id s is. spares id;
    streams = all_spare (λ id. AllByRecursion (ChangeSpares id) cs) spares t.streams;
  }) stand.0,
  sessions_through stamp objects cs spares others stand.1,
)

-- edits and then moves that stand, of a transaction of that start
abbrev pub CommitStands : Stored → ℕ → ℕ → Option (List Act) → Type 0
CommitStands s stamp start found = IfSome found (λ acts. AreEditsFrom 0 acts × AllStand stamp start s.objects acts)

works_acts : (s : Stored) (m : Machine) (reply : Reply) (sessions : Sessions) (start : ℕ) (found : Option (List Act))
    → IsReached s m → AllStandOn s.objects sessions → CommitStands s m.state.last start found
    → Works s m (Does reply sessions found)
works_acts s m reply sessions start None reached stand stands = works_does s m reply sessions stand
works_acts s m reply sessions start (Some acts) reached stand stands = record {
  goes = acts_go m.state.last start 0 s.objects acts stands.0 stands.1 reached.firm;
  stand = sessions_through m.state.last s.objects (written m.state.last s.objects acts)
      (λ id. rows_spare id (written m.state.last s.objects acts)
      (acts_of_rows m.state.last start s.objects acts stands.1 s.objects)) sessions stand;
}

stands_some : (s : Stored) (stamp start : ℕ) (streams : List ℕ) (edits moves : List Act)
    → AreEditsFrom 0 (edits ++ moves) → AllStand stamp start s.objects (edits ++ moves)
    → CommitStands s stamp start (acts_of_commit streams moves edits)
stands_some s stamp start [] [] moves shape stand = tt
stands_some s stamp start [] (edit ∷ edits) moves shape stand = (shape, stand)
stands_some s stamp start (id ∷ ids) edits moves shape stand = (shape, stand)

-- of a transaction that stands and that no limit refuses
pub transaction_commits : (s : Stored) (m : Machine) (t : Transaction) → IsReached s m
    → commit_refusal m.state.objects t ≡ None → TransactionStands s.objects t
    → CommitStands s m.state.last (start_of t) (acts_of m.state.objects t)
unfolding acts_of
transaction_commits s m t reached none stands =
    stands_some s m.state.last (start_of t) t.streams (map edit_act (touched t))
    (offset_moves m.state.objects (start_of t) t.streams)
    (edits_of_rising 0 (touched t) (offset_moves m.state.objects (start_of t) t.streams) (entries_rise t)
    (they_move m.state.objects (start_of t) t.streams))
    (subst (λ (objects : List Object). AllStand m.state.last (start_of t) s.objects
    (map edit_act (touched t) ++ offset_moves objects (start_of t) t.streams)) (sym (objects_meant s m reached))
    (commit_stands m.state.committed m.state.last reached.sound.state.ordered s.objects t
    (subst (λ (objects : List Object). AllByRecursion (IsSoundObject m.state.committed objects) objects)
    (objects_meant s m reached) reached.sound.state.objects)
    (subst (λ (objects : List Object). commit_refusal objects t ≡ None) (objects_meant s m reached) none) stands))

-- where the sessions that it leaves stand
pub works_recorded : (s : Stored) (m : Machine) (reply : Reply) (sessions : Sessions) (t : Transaction) → IsReached s m
    → AllStandOn s.objects sessions → TransactionStands s.objects t → Works s m (recorded m reply sessions t)
works_recorded s m reply sessions t reached stand stands =
    works_unless s m (commit_refusal m.state.objects t) _ reached (λ none.
    works_acts s m reply sessions (start_of t) (acts_of m.state.objects t) reached stand
    (transaction_commits s m t reached none stands))

-- ---- objects that are made and dropped

-- what a transaction doesn't hold isn't what it holds
apart_held : (t : Transaction) (id : ℕ) → held_by id (Some t) ≡ None → is_held t id ≡ false
apart_held t id none = by_test (is_held t id) none
  where
    by_test : (held : Bool) → cond held (Some t.number) None ≡ None → held ≡ false
    by_test true none = absurd cc
    by_test false none = refl

neither : (a b : Bool) → (a || b) ≡ false → (a ≡ false) × (b ≡ false)
neither true b is = absurd cc
neither false b is = (refl, is)

others_among : (id : ℕ) (ids : List ℕ) → list_any (nat_eq id) ids ≡ false → AllByRecursion (λ other. other ≡ id → ⊥) ids
others_among id [] none = tt
others_among id (other ∷ others) none =
    let both = neither (nat_eq id other) (list_any (nat_eq id) others) none in
    (apart both.0, others_among id others both.1)
  where
    apart : nat_eq id other ≡ false → other ≡ id → ⊥
    apart test same = grind (arith, nat_tests)

-- changes that drop nothing but that
abbrev pub DropsOnly : ℕ → Change → Type 0
DropsOnly id (Drops other) = other ≡ id
DropsOnly id _ = Unit {0}

only_spares : (id other : ℕ) → (other ≡ id → ⊥) → (c : Change) → DropsOnly id c → ChangeSpares other c
only_spares id other apart (CreatesTable c) only = tt
only_spares id other apart (PushesVersion c) only = tt
only_spares id other apart (CreatesStream c) only = tt
only_spares id other apart (SetsOffset target offset) only = tt
only_spares id other apart (CreatesTask c) only = tt
only_spares id other apart (SetsTask target state) only = tt
only_spares id other apart (StartsRun root tasks) only = tt
only_spares id other apart (FinishesTask root task ending) only = tt
only_spares id other apart (CreatesDynamic c) only = tt
only_spares id other apart (SetsDynamic target state) only = tt
only_spares id other apart (SetsGroups target c) only = tt
only_spares id other apart (Drops target) only = λ same. apart (same ∙ only)

pub free_stand : (stamp : ℕ) (objects : List StoredObject) (cs : List Change) (id : ℕ) →
    AllByRecursion (DropsOnly id) cs
    → (sessions : Sessions) → holder sessions id ≡ None → AllStandOn objects sessions
    → AllStandOn (all_changed stamp objects cs) sessions
free_stand stamp objects cs id only [] none stand = tt
free_stand stamp objects cs id only (None ∷ others) none stand =
    (tt, free_stand stamp objects cs id only others none stand.1)
free_stand stamp objects cs id only (Some t ∷ others) none stand =
    let both = or_none (held_by id (Some t)) (holder others id) none in
    let held = neither (is_some (get t.tables id)) (list_any (nat_eq id) t.streams) (apart_held t id both.0) in (
      stands_through stamp objects cs t (record {
        tables = λ other s is. all_map (DropsOnly id) (ChangeSpares other)
            (only_spares id other (λ same. not_some (get t.tables id) held.0 s
            (ap (get t.tables) (sym same) ∙ is))) cs only;
        streams = all_map (λ other. other ≡ id → ⊥) (λ other. AllByRecursion (ChangeSpares other) cs)
            (λ other apart. all_map (DropsOnly id) (ChangeSpares other) (only_spares id other apart) cs only) t.streams
            (others_among id t.streams held.1);
      }) stand.0,
      free_stand stamp objects cs id only others both.1 stand.1,
    )
  where
    not_some : (found : Option Staged) → is_some found ≡ false → (s : Staged) → found ≡ Some s → ⊥
    not_some None none s is = absurd cc
    not_some (Some x) none s is = absurd cc

-- a commit that drops that object alone, which nobody holds
pub works_defined : (s : Stored) (m : Machine) (reply : Reply) (acts : List Act) (id : ℕ) → IsReached s m
    → holder m.sessions id ≡ None
    → AllByRecursion (DropsOnly id) (written m.state.last s.objects acts)
    → AllGo m.state.last s.objects (written m.state.last s.objects acts)
    → Works s m (Does reply m.sessions (Some acts))
works_defined s m reply acts id reached none only goes = record {
  goes = goes;
  stand = free_stand m.state.last s.objects (written m.state.last s.objects acts) id only m.sessions none reached.stand;
}

-- a commit that drops nothing
pub works_made : (s : Stored) (m : Machine) (reply : Reply) (acts : List Act) → IsReached s m
    → ((id : ℕ) → AllByRecursion (ChangeSpares id) (written m.state.last s.objects acts))
    → AllGo m.state.last s.objects (written m.state.last s.objects acts)
    → Works s m (Does reply m.sessions (Some acts))
works_made s m reply acts reached spares goes = record {
  goes = goes;
  stand = sessions_through m.state.last s.objects (written m.state.last s.objects acts) spares m.sessions reached.stand;
}
