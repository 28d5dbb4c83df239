-- The groups that a refresh brings a dynamic table to.
--     groups_told             where a query has rows, the groups of its Group are defined
--     HasItsGroups            the groups that stand of a dynamic table are those that are kept of it
--     sound_groups, first_groups     so it is of a sound one, and of a new one
--     groups_kept             behind the change it has the groups of its query for the moment
--     takes_change            the change may be made
use Rattle.std.proofs.Common.{◌≡◌, ℕ, Bool, true, false, cond, List, Option, Some, None, option_map, refl, sym, ap}
use Rattle.std.proofs.Common.{subst, ◌∙◌, arith}
use Rattle.std.specs.Prelude.{nat_eq, unwrap_or}
use Rattle.std.specs.FinMap.{empty}
use Rattle.std.specs.List.{AllByRecursion}
use Rattle.std.specs.Option.{IfSome, option_and_then}
use Rattle.std.proofs.lemmas.Bool.Decides.{nat_tests}
use Rattle.std.proofs.lemmas.Option.{IfSome_then}
use Rattle.wh_meaning.specs.Scalar.{of_one}
use Rattle.wh_meaning.specs.Bag.{Bag}
use Rattle.wh_meaning.specs.Query.{Query, Scan, Filter, Project, Join, UnionAll, Group, Instance, filtered}
use Rattle.wh_meaning.specs.Query.{projected, grouped, eval}
use Rattle.wh_maintenance.specs.Delta.{linear}
use Rattle.wh_maintenance.specs.Above.{Grouping, grouping}
use Rattle.wh_maintenance.specs.Standing.{Groups}
use Rattle.wh_maintenance.specs.Entries.{set_all, groups_of, groups_over, entries_between}
use Rattle.wh_maintenance.proofs.Between.{between_leads, between_removes}
use Rattle.wh_maintenance.proofs.GroupsOf.{groups_there}
use Rattle.wh_state.specs.State.{TableOf, KindOf, ObjectOf, Object, Table}
use Rattle.wh_state.specs.Dynamic.{DynamicQuery, Dynamic, Kept, GroupsChange, behind_entries, with_groups, ids_read}
use Rattle.wh_state.specs.Bound.{query_bound, grouping_bound, kept_first, kept_for}
use Rattle.wh_state.specs.Moments.{instance_at, evaluated_at, groups_at}
use Rattle.wh_state.specs.Commit.{MaySet}
use Rattle.wh_state.specs.Sound.{IsKeptAs, IsSoundDynamic}
use Rattle.wh_state.proofs.BroughtGoes.{TakesChange}
use Rattle.wh_machine.specs.Refresh.{groups_stood, groups_change, groups_brought}

-- ---- groups that are defined

one_there : (f : Bag → Option Bag) (a : Option Bag) (o : Bag) → of_one f a ≡ Some o → (x : Bag) × (a ≡ Some x)
one_there f None o e = cc
one_there f (Some a) o e = (a, refl)

pub groups_told : (q : Query) (g : Grouping) (instance : Instance) (o : Bag) → grouping q ≡ Some g
    → eval q instance ≡ Some o → (groups : Groups) × (groups_over instance g ≡ Some groups)
unfolding grouping eval
groups_told (Scan source) g instance o is e = cc
groups_told (Filter q condition) g instance o is e =
    let there = one_there (filtered condition) (eval q instance) o e in groups_told q g instance there.0 is there.1
groups_told (Project q items) g instance o is e =
    let there = one_there (projected items) (eval q instance) o e in groups_told q g instance there.0 is there.1
groups_told (Join left right on) g instance o is e = cc
groups_told (UnionAll left right) g instance o is e = cc
groups_told (Group q by calls) g instance o is e = by_linear (linear q) is
  where
    by_rows : (found : Option Bag) → of_one (grouped by calls) found ≡ Some o
        → (groups : Groups) × (of_one (groups_of by calls) found ≡ Some groups)
    by_rows None e = cc
    by_rows (Some b) e = groups_there by calls b o e

    by_linear : (t : Bool) → cond t (Some (record { below = q; by = by; calls = calls })) None ≡ Some g
        → (groups : Groups) × (groups_over instance g ≡ Some groups)
    by_linear false is = cc
    by_linear true is =
        let same : ◌≡◌ {A = Grouping} (record { below = q; by = by; calls = calls }) g = cc in
        subst (λ (g : Grouping). (groups : Groups) × (groups_over instance g ≡ Some groups)) same
        (by_rows (eval q instance) e)

-- of a dynamic table whose groups are kept as they are asked for
groups_defined : (objects : List Object) (moment : ℕ) (d : Dynamic) (k : Kept) (rows : Bag)
    → IsKeptAs (kept_for objects d.is_incremental d.query) (Some k) → evaluated_at objects moment d ≡ Some rows
    → (groups : Groups) × (groups_at objects moment d ≡ Some groups)
unfolding evaluated_at groups_at
groups_defined objects moment d k rows kept is =
    by_mode d.is_incremental (grouping_bound objects d.query) refl kept
  where
    instance : Instance
    instance = instance_at objects moment (ids_read d.query)

    by_mode : (is_incremental : Bool) (found : Option Grouping) → grouping_bound objects d.query ≡ found
        → IsKeptAs (cond is_incremental (option_map kept_first found) None) (Some k)
        → (groups : Groups) × (option_and_then (groups_over instance) found ≡ Some groups)
    by_mode false found there kept = absurd cc
    by_mode true None there kept = absurd cc
    by_mode true (Some g) there kept = groups_told (query_bound objects d.query).query g instance rows there is

-- ---- groups that stood

abbrev pub HasItsGroups : Dynamic → Type 0
HasItsGroups d = IfSome d.kept (λ k. groups_stood d k ≡ k.groups)

pub sound_groups : (stamp : ℕ) (objects : List Object) (d : Dynamic) (t : Table) → IsSoundDynamic stamp objects d t
    → HasItsGroups d
sound_groups stamp objects d t sound = by_test (nat_eq d.state.moment 0) refl
  where
    zero_is : (n : ℕ) → nat_eq n 0 ≡ true → n ≡ 0
    zero_is n test = grind (arith, nat_tests)

    same_all : (found : Option Kept) → IfSome found (λ k. k.groups ≡ k.groups)
    same_all None = tt
    same_all (Some k) = refl

    by_test : (b : Bool) → nat_eq d.state.moment 0 ≡ b → IfSome d.kept (λ k. cond b empty k.groups ≡ k.groups)
    by_test true test = IfSome_then d.kept (sound.no_groups (zero_is d.state.moment test)) (λ k none. sym none)
    by_test false test = same_all d.kept

-- as they are kept first there are none
pub first_groups : {Content : Type 0} (objects : List (ObjectOf (KindOf (TableOf Content)))) (is_incremental : Bool)
    (q : DynamicQuery) → IfSome (kept_for objects is_incremental q) (λ k. empty ≡ k.groups)
first_groups objects is_incremental q = by_mode is_incremental (grouping_bound objects q)
  where
    by_mode : (is_incremental : Bool) (found : Option Grouping)
        → IfSome (cond is_incremental (option_map kept_first found) None) (λ k. empty ≡ k.groups)
    by_mode false found = tt
    by_mode true None = tt
    by_mode true (Some g) = refl

-- ---- the change

-- where its query has rows
pub groups_kept : (stamp moment : ℕ) (objects : List Object) (d : Dynamic) (t : Table) (rows : Bag)
    → IsSoundDynamic stamp objects d t → evaluated_at objects moment d ≡ Some rows
    → IfSome (with_groups (groups_brought objects moment d) d).kept (λ k. groups_at objects moment d ≡ Some k.groups)
groups_kept stamp moment objects d t rows sound is =
    by_kept d.kept refl sound.kept (sound_groups stamp objects d t sound)
  where
    Are : Kept → Type 0
    Are k = groups_at objects moment d ≡ Some k.groups

    with_kept : (k : Kept) → groups_stood d k ≡ k.groups
        → (groups : Groups) × (groups_at objects moment d ≡ Some groups)
        → Are (behind_entries (groups_change objects moment d k).entries k)
    with_kept k stood there =
        there.1 ∙ ap Some (sym (between_leads k.groups there.0)
        ∙ ap (λ (old : Groups). set_all (entries_between old there.0) k.groups) (sym stood)
        ∙ ap (λ (found : Option Groups). set_all (entries_between (groups_stood d k) (unwrap_or found empty)) k.groups)
        (sym there.1))

    by_kept : (found : Option Kept) → d.kept ≡ found → IsKeptAs (kept_for objects d.is_incremental d.query) found
        → IfSome found (λ k. groups_stood d k ≡ k.groups)
        → IfSome (with_groups (option_map (groups_change objects moment d) found) d).kept Are
    by_kept None same kept stood = subst (λ (found : Option Kept). IfSome found Are) (sym same) tt
    by_kept (Some k) same kept stood =
        subst (λ (found : Option Kept).
        IfSome (option_map (behind_entries (groups_change objects moment d k).entries) found) Are) (sym same)
        (with_kept k stood (groups_defined objects moment d k rows kept is))

pub takes_change : (objects : List Object) (moment : ℕ) (d : Dynamic) → HasItsGroups d
    → TakesChange (groups_brought objects moment d) d.kept
takes_change objects moment d stood = by_kept d.kept stood
  where
    by_kept : (found : Option Kept) → IfSome found (λ k. groups_stood d k ≡ k.groups)
        → TakesChange (option_map (groups_change objects moment d) found) found
    by_kept None stood = tt
    by_kept (Some k) stood =
        let c : GroupsChange = groups_change objects moment d k in
        record {
          keys = refl;
          calls = refl;
          entries = subst (λ (old : Groups). AllByRecursion (MaySet old) c.entries) stood
              (between_removes (groups_stood d k) (unwrap_or (groups_at objects moment d) empty));
        }
