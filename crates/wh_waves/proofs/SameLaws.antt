-- One table over others that were brought: only those count that its query reads.
--     head_among, rest_among     the first of some ids, and another one, is among them
--     AgreeOn            two lists of tables have the same new versions of what a table reads
--     one_same           over both it is brought alike
--     one_id             it has its id
use Rattle.std.proofs.Common.{◌≡◌, ℕ, Bool, true, false, List, [], ◌∷◌, Option, Some, None, option_map}
use Rattle.std.proofs.Common.{refl, sym, ap, ◌∙◌, arith}
use Rattle.std.specs.Prelude.{◌||◌, nat_eq, unwrap_or}
use Rattle.std.specs.FinMap.{empty, values}
use Rattle.std.specs.Option.{option_and_then, option_map_or}
use Rattle.std.proofs.lemmas.Bool.Decides.{nat_tests}
use Rattle.wh_meaning.specs.Bag.{Bag, no_rows, bag_of}
use Rattle.wh_meaning.specs.Query.{Instance, eval}
use Rattle.wh_maintenance.specs.Above.{grouping}
use Rattle.wh_maintenance.specs.Standing.{Groups}
use Rattle.wh_maintenance.specs.Entries.{groups_over, entries_between}
use Rattle.wh_naming.specs.Select.{BoundQuery}
use Rattle.wh_reply.specs.Reply.{RefreshAction, NoData, Full, Incremental}
use Rattle.wh_state.specs.State.{Object, Table, last_rows, rows_at}
use Rattle.wh_state.specs.Objects.{table_at, dynamic_at}
use Rattle.wh_state.specs.Dynamic.{Dynamic, Kept, GroupsChange, ids_read}
use Rattle.wh_state.specs.Bound.{query_bound, grouping_bound}
use Rattle.wh_state.specs.Moments.{bag_at, instance_at, evaluated_at, groups_at}
use Rattle.wh_state.specs.Edits.{Edits, is_among}
use Rattle.wh_machine.specs.Refresh.{Brought, brought_one, brought_with, brought_by, action_of, action_by, has_new_data}
use Rattle.wh_machine.specs.Refresh.{has_version_between, groups_brought, groups_change, groups_stood, brought_as}
use Rattle.wh_moment.specs.Rebase.{rebase}
use Rattle.wh_machine.specs.Brought.{after_all, AreAbove, sought, edits_sought}
use Rattle.wh_machine.proofs.AfterLaws.{table_brought, table_after, dynamic_after, bound_after}
use Rattle.wh_waves.specs.Settled.{sources_at}

-- ---- of what it reads

abbrev pub AgreeOn : List ℕ → List Brought → List Brought → Type 0
AgreeOn ids bs cs = (source : ℕ) → is_among source ids ≡ true → edits_sought source bs ≡ edits_sought source cs

-- the same tables stand there
abbrev HoldAlike : List ℕ → List Object → List Object → Type 0
HoldAlike ids one other = (source : ℕ) → is_among source ids ≡ true → table_at one source ≡ table_at other source

pub head_among : (id : ℕ) (ids : List ℕ) → is_among id (id ∷ ids) ≡ true
head_among id ids =
    let test : nat_eq id id ≡ true = grind (arith, nat_tests) in
    ap (λ (t : Bool). t || is_among id ids) test

pub rest_among : (id other : ℕ) (ids : List ℕ) → is_among id ids ≡ true → is_among id (other ∷ ids) ≡ true
rest_among id other ids is = ap (λ (t : Bool). nat_eq id other || t) is ∙ by_test (nat_eq id other)
  where
    by_test : (t : Bool) → (t || true) ≡ true
    by_test true = refl
    by_test false = refl

rest_alike : (id : ℕ) (ids : List ℕ) (one other : List Object) → HoldAlike (id ∷ ids) one other
    → HoldAlike ids one other
rest_alike id ids one other alike source is = alike source (rest_among source id ids is)

abbrev bag_held : ℕ → Option Table → Bag
bag_held moment found = option_map_or (λ t. bag_of (values (rows_at t moment))) found no_rows

instance_same : (moment : ℕ) (ids : List ℕ) (one other : List Object) → HoldAlike ids one other
    → instance_at one moment ids ≡ instance_at other moment ids
instance_same moment [] one other alike = refl
instance_same moment (id ∷ ids) one other alike =
    let here : bag_at one moment id ≡ bag_at other moment id = ap (bag_held moment) (alike id (head_among id ids)) in
    ap (λ (b : Bag). b ∷ instance_at one moment ids) here
    ∙ ap (λ (rest : Instance). bag_at other moment id ∷ rest)
    (instance_same moment ids one other (rest_alike id ids one other alike))

new_same : (from to : ℕ) (ids : List ℕ) (one other : List Object) → HoldAlike ids one other
    → has_new_data one from to ids ≡ has_new_data other from to ids
new_same from to [] one other alike = refl
new_same from to (id ∷ ids) one other alike =
    ap (λ (found : Option Table). option_map_or (has_version_between from to) found false || has_new_data one from to ids)
    (alike id (head_among id ids))
    ∙ ap (λ (rest : Bool). option_map_or (has_version_between from to) (table_at other id) false || rest)
    (new_same from to ids one other (rest_alike id ids one other alike))

-- ---- the table

abbrev groups_to : Dynamic → Kept → Option Groups → GroupsChange
groups_to d k gs = record {
  keys = k.keys;
  calls = k.calls;
  entries = entries_between (groups_stood d k) (unwrap_or gs empty);
}

module _ (moment : ℕ) (one other : List Object) (d : Dynamic) (bound : query_bound one d.query ≡ query_bound other d.query)
    (alike : HoldAlike (ids_read d.query) one other) where
  evaluated_same : evaluated_at one moment d ≡ evaluated_at other moment d
  unfolding evaluated_at
  evaluated_same =
      ap (λ (q : BoundQuery). eval q.query (instance_at one moment (ids_read d.query))) bound
      ∙ ap (eval (query_bound other d.query).query) (instance_same moment (ids_read d.query) one other alike)

  groups_same : groups_at one moment d ≡ groups_at other moment d
  unfolding groups_at
  groups_same =
      ap (λ (q : BoundQuery). option_and_then (groups_over (instance_at one moment (ids_read d.query))) (grouping q.query))
      bound
      ∙ ap (λ (i : Instance). option_and_then (groups_over i) (grouping_bound other d.query))
      (instance_same moment (ids_read d.query) one other alike)

  groups_brought_same : groups_brought one moment d ≡ groups_brought other moment d
  groups_brought_same = by_kept d.kept
    where
      by_kept : (k : Option Kept) → option_map (groups_change one moment d) k ≡ option_map (groups_change other moment d) k
      by_kept None = refl
      by_kept (Some k) = ap (λ (gs : Option Groups). Some (groups_to d k gs)) groups_same

  brought_same : (id : ℕ) (t : Table) (action : RefreshAction)
      → brought_by one moment id d t action ≡ brought_by other moment id d t action
  brought_same id t NoData = refl
  brought_same id t Full = (λ i. option_map (λ rows. brought_as id moment d.state Full
      (Some (rebase (last_rows t) rows)) (groups_brought_same i)) (evaluated_same i))
  brought_same id t Incremental = (λ i. option_map (λ rows. brought_as id moment d.state Incremental
      (Some (rebase (last_rows t) rows)) (groups_brought_same i)) (evaluated_same i))

  action_same : action_of one moment d ≡ action_of other moment d
  action_same = ap (action_by d) (new_same d.state.moment moment (ids_read d.query) one other alike)

  by_same : (id : ℕ) (t : Table) → brought_by one moment id d t (action_of one moment d)
      ≡ brought_by other moment id d t (action_of other moment d)
  by_same id t = brought_same id t (action_of one moment d)
      ∙ ap (brought_by other moment id d t) action_same

-- ---- over tables that were brought

module _ (stamp moment : ℕ) (objects : List Object) where
  abbrev after : List Brought → List Object
  after bs = after_all stamp moment bs objects

  found_there : (id : ℕ) (bs : List Brought) → AreAbove 0 bs → sought id bs ≡ None
      → brought_one (after bs) moment id ≡ brought_with (after bs) moment id (dynamic_at objects id) (table_at objects id)
  unfolding brought_one
  found_there id bs above none =
      ap (λ (p : Option Dynamic). brought_with (after bs) moment id p (table_at (after bs) id))
      (dynamic_after stamp moment 0 bs objects id above none)
      ∙ ap (brought_with (after bs) moment id (dynamic_at objects id))
      (table_after stamp moment 0 bs objects id above
      ∙ ap (λ (p : Option Brought). table_brought stamp moment (option_and_then (λ b. b.edits) p) (table_at objects id))
      none)

  tables_alike : (ids : List ℕ) (bs cs : List Brought) → AreAbove 0 bs → AreAbove 0 cs → AgreeOn ids bs cs
      → HoldAlike ids (after bs) (after cs)
  tables_alike ids bs cs above rise agree source is =
      table_after stamp moment 0 bs objects source above
      ∙ ap (λ (e : Option Edits). table_brought stamp moment e (table_at objects source)) (agree source is)
      ∙ sym (table_after stamp moment 0 cs objects source rise)

  with_same : (id : ℕ) (bs cs : List Brought) (d : Option Dynamic) (t : Option Table) → AreAbove 0 bs → AreAbove 0 cs
      → AgreeOn (option_map_or (λ d. ids_read d.query) d []) bs cs
      → brought_with (after bs) moment id d t ≡ brought_with (after cs) moment id d t
  with_same id bs cs None t above rise agree = refl
  with_same id bs cs (Some d) None above rise agree = refl
  with_same id bs cs (Some d) (Some t) above rise agree =
      by_same moment (after bs) (after cs) d
      (bound_after stamp moment bs objects d.query ∙ sym (bound_after stamp moment cs objects d.query))
      (tables_alike (ids_read d.query) bs cs above rise agree) id t

  pub one_same : (id : ℕ) (bs cs : List Brought) → AreAbove 0 bs → AreAbove 0 cs → sought id bs ≡ None
      → sought id cs ≡ None → AgreeOn (sources_at objects id) bs cs
      → brought_one (after bs) moment id ≡ brought_one (after cs) moment id
  one_same id bs cs above rise none also agree =
      found_there id bs above none
      ∙ with_same id bs cs (dynamic_at objects id) (table_at objects id) above rise agree
      ∙ sym (found_there id cs rise also)

-- ---- its id

by_id : (objects : List Object) (moment id : ℕ) (d : Option Dynamic) (t : Option Table) (b : Brought)
    → brought_with objects moment id d t ≡ Some b → b.id ≡ id
by_id objects moment id None t b is = absurd cc
by_id objects moment id (Some d) None b is = absurd cc
by_id objects moment id (Some d) (Some t) b is = by_action (action_of objects moment d) is
  where
    by_rows : (action : RefreshAction) (found : Option Bag) → option_map (λ rows. brought_as id moment d.state action
        (Some (rebase (last_rows t) rows)) (groups_brought objects moment d)) found ≡ Some b → b.id ≡ id
    by_rows action None is = absurd cc
    by_rows action (Some rows) is =
        let same : brought_as id moment d.state action (Some (rebase (last_rows t) rows)) (groups_brought objects moment d)
        ≡ b = cc in
        sym (ap (λ (x : Brought). x.id) same)

    by_action : (action : RefreshAction) → brought_by objects moment id d t action ≡ Some b → b.id ≡ id
    by_action NoData is =
        let same : brought_as id moment d.state NoData None None ≡ b = cc in sym (ap (λ (x : Brought). x.id) same)
    by_action Full is = by_rows Full (evaluated_at objects moment d) is
    by_action Incremental is = by_rows Incremental (evaluated_at objects moment d) is

pub one_id : (objects : List Object) (moment id : ℕ) (b : Brought) → brought_one objects moment id ≡ Some b → b.id ≡ id
unfolding brought_one
one_id objects moment id b is = by_id objects moment id (dynamic_at objects id) (table_at objects id) b is
