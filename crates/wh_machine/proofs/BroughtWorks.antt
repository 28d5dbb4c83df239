-- What is written for the tables that a refresh brings to a moment applies.
--     IsWithinNumbers     its next numbers are within their limits
--     MayBring            a table that may be brought to a moment
--     OneBrought          what holds of one table that is brought; one_brought
--     all_go              the tables one after the other
use Rattle.std.proofs.Common.{◌≡◌, ℕ, suc, ◌+◌, ◌≤◌, false, List, [], ◌∷◌, ◌++◌, length, map, Option, Some}
use Rattle.std.proofs.Common.{None, option_map, refl, sym, ap, subst, ◌∙◌, arith, IsTrue, IfSome}
use Rattle.std.specs.Prelude.{nat_lt}
use Rattle.std.specs.List.{AllByRecursion, flat_map}
use Rattle.std.specs.Option.{IsSomeAnd, option_and_then, option_map_or}
use Rattle.std.proofs.lemmas.Bool.Decides.{nat_tests}
use Rattle.wh_value.specs.Limit.{bound}
use Rattle.wh_value.specs.declared.limit.Limit.TheVariants as limits
use Rattle.wh_frame.specs.Partition.{Partition}
use Rattle.wh_meaning.specs.Bag.{Bag}
use Rattle.wh_reply.specs.Reply.{RefreshAction, NoData, Full, Incremental}
use Rattle.wh_state.specs.State.{TableKind, StreamKind, TaskKind, DynamicKind, Object, Table, at_id, last_rows}
use Rattle.wh_state.specs.State.{dynamic_in}
use Rattle.wh_state.specs.Objects.{as_table, as_dynamic, table_at, dynamic_at}
use Rattle.wh_state.specs.Edits.{Edits, partitions_made}
use Rattle.wh_state.specs.Dynamic.{Dynamic, GroupsChange}
use Rattle.wh_state.specs.Moments.{evaluated_at}
use Rattle.wh_state.specs.Act.{Act, PutsDynamic, all_acted, table_partitions_made}
use Rattle.wh_state.specs.Stored.{StoredTable, StoredKind, StoredObject, standing, table_meant, object_meant}
use Rattle.wh_state.specs.Commit.{all_changed}
use Rattle.wh_state.specs.Written.{written}
use Rattle.wh_state.proofs.AllLaws.{all_map, all_both, all_at}
use Rattle.wh_state.proofs.FoundLaws.{FoundAt, found_some}
use Rattle.wh_state.proofs.MeaningLaws.{at_id_meant, last_partitions_meant}
use Rattle.wh_state.proofs.AppliesLaws.{EditsFit}
use Rattle.wh_state.proofs.DynamicFirm.{DynamicHolds, IsFirmDynamic}
use Rattle.wh_state.proofs.FirmLaws.{IsFirm}
use Rattle.wh_state.proofs.WrittenLaws.{AllGo, EditStands, go_none, go_firm}
use Rattle.wh_state.proofs.EndLaws.{go_behind}
use Rattle.wh_state.proofs.BroughtGoes.{StateStands, KindRefreshable, Refreshable, GroupsStand, refresh_of, one_goes}
use Rattle.wh_state.proofs.BroughtGoes.{one_leaves, one_means}
use Rattle.wh_moment.specs.Moment.{brought_to}
use Rattle.wh_moment.specs.Rebase.{rebase}
use Rattle.wh_moment.proofs.UpstreamLaws.{RiseFrom}
use Rattle.wh_machine.specs.Refresh.{Brought, brought_as, brought_by, brought_with, brought_one, action_of}
use Rattle.wh_machine.specs.Refresh.{version_acts, groups_brought}
use Rattle.wh_machine.specs.Refresh.{acts_of_one, brought_then, brought_all, is_row_past, is_partition_past}
use Rattle.wh_machine.proofs.GroupsBrought.{HasItsGroups, takes_change}
use Rattle.wh_machine.proofs.RebaseLaws.{rebase_fits}
use Rattle.wh_machine.proofs.EvaluatedLaws.{evaluated_fits}
use Rattle.wh_machine.proofs.RefreshLaws.{brought_id, brought_ids}

-- over the objects before it, and over those that the tables before it leave
pub record IsWithinNumbers (objects : List Object) (b : Brought) : Type 0 where
  pub rows : is_row_past objects b ≡ false
  pub partitions : is_partition_past objects b ≡ false

pub record OneBrought (objects : List StoredObject) (moment id : ℕ) (b : Brought) : Type 0 where
  pub state : FoundAt (StateStands b.state) objects id
  pub edits : IfSome b.edits (λ e. FoundAt (EditStands moment e) objects id)
  pub groups : IfSome b.edits (λ e. FoundAt (GroupsStand b.groups) objects id)

-- with the groups that are kept of it
abbrev pub MayBring : ℕ → StoredObject → Type 0
MayBring moment o = Refreshable moment o × IfSome (dynamic_in o.kind) HasItsGroups

-- ---- one table

not_less : (a b : ℕ) → nat_lt a b ≡ false → b ≤ a
not_less a b test = grind (arith, nat_tests)

-- of an object that is a dynamic table
module _ (objects : List StoredObject) (moment id : ℕ) (o : StoredObject) (d : Dynamic) (t : StoredTable)
    (there : at_id objects id ≡ Some (record o { kind = DynamicKind d t })) (live : IsTrue o.is_live)
    (refreshable : KindRefreshable moment (DynamicKind d t)) (stood : HasItsGroups d) (firm : IsFirm objects) where
  abbrev meant : List Object
  meant = map object_meant objects

  at_now : at_id meant id ≡ Some (object_meant (record o { kind = DynamicKind d t }))
  at_now = at_id_meant objects id ∙ ap (option_map object_meant) there

  table_now : table_at meant id ≡ Some (table_meant t)
  table_now = ap (option_and_then as_table) at_now

  dynamic_now : dynamic_at meant id ≡ Some d
  dynamic_now = ap (option_and_then as_dynamic) at_now

  firm_now : IsFirmDynamic objects d t.columns
  firm_now = all_at (λ o. DynamicHolds objects o.kind) objects id
      (record o { kind = DynamicKind d t }) firm.dynamics there

  state_now : FoundAt (StateStands (brought_to moment d.state)) objects id
  state_now = found_some (StateStands (brought_to moment d.state)) objects id
      (record o { kind = DynamicKind d t }) there
      (live, record { lag = firm_now.lag; failures = omega arith; moment = refreshable.0 })

  edits_now : (b : Brought) (e : Edits) → b.id ≡ id → b.edits ≡ Some e → IsWithinNumbers meant b → EditsFit t.columns e
      → FoundAt (EditStands moment e) objects id
  edits_now b e at is within fit =
      let rows : nat_lt (bound limits.RowNumber) (t.next_row + length e.added) ≡ false =
      sym (ap (λ (found : Option Table). option_map_or
      (λ t. nat_lt (bound limits.RowNumber) (t.next_row + length e.added)) found false) (ap (table_at meant) at
      ∙ table_now))
      ∙ sym (ap (λ (edits : Option Edits). is_row_past meant (record b { edits = edits })) is) ∙ within.rows in
      let partitions : nat_lt (bound limits.PartitionNumber)
      (t.next_partition + length (partitions_made t.next_partition t.next_row e (standing t))) ≡ false =
      ap (λ (ps : List Partition). nat_lt (bound limits.PartitionNumber)
      (t.next_partition + length (partitions_made t.next_partition t.next_row e ps))) (sym (last_partitions_meant t))
      ∙ sym (ap (λ (found : Option Table). option_map_or
      (λ u. nat_lt (bound limits.PartitionNumber) (u.next_partition + length (table_partitions_made e u))) found false)
      (ap (table_at meant) at ∙ table_now))
      ∙ sym (ap (λ (edits : Option Edits). is_partition_past meant (record b { edits = edits })) is)
      ∙ within.partitions in
      found_some (EditStands moment e) objects id (record o { kind = DynamicKind d t }) there (
        live,
        record {
          below = refreshable.1.0;
          fit = fit;
          later = refreshable.1.1;
          few = not_less (bound limits.RowNumber) _ rows;
          few_partitions = not_less (bound limits.PartitionNumber) _ partitions;
        },
      )

  abbrev groups : Option GroupsChange
  groups = groups_brought meant moment d

  groups_now : FoundAt (GroupsStand groups) objects id
  groups_now = found_some (GroupsStand groups) objects id (record o { kind = DynamicKind d t }) there
      (takes_change meant moment d stood)

  by_rows : (action : RefreshAction) (b : Brought) (found : Option Bag) → evaluated_at meant moment d ≡ found
      → option_map (λ rows. brought_as id moment d.state action (Some (rebase (last_rows (table_meant t)) rows))
      groups) found ≡ Some b → IsWithinNumbers meant b → OneBrought objects moment id b
  by_rows action b None evaluated is within = absurd cc
  by_rows action b (Some rows) evaluated is within =
      let x : Brought = brought_as id moment d.state action (Some (rebase (last_rows (table_meant t)) rows)) groups in
      let same : x ≡ b = cc in
      subst (OneBrought objects moment id) same (record {
        state = state_now;
        edits = edits_now x (rebase (last_rows (table_meant t)) rows) refl refl
            (subst (IsWithinNumbers meant) (sym same) within)
            (rebase_fits t.columns (last_rows (table_meant t)) rows
            (evaluated_fits objects moment d t.columns firm.tables firm_now rows evaluated));
        groups = groups_now;
      })

  by_action : (action : RefreshAction) (b : Brought) → brought_by meant moment id d (table_meant t) action ≡ Some b
      → IsWithinNumbers meant b → OneBrought objects moment id b
  by_action NoData b is within =
      let same : brought_as id moment d.state NoData None None ≡ b = cc in
      subst (OneBrought objects moment id) same (record { state = state_now; edits = tt; groups = tt })
  by_action Full b is within = by_rows Full b (evaluated_at meant moment d) refl is within
  by_action Incremental b is within = by_rows Incremental b (evaluated_at meant moment d) refl is within

  of_dynamic : (b : Brought) → brought_one meant moment id ≡ Some b → IsWithinNumbers meant b
      → OneBrought objects moment id b
  unfolding brought_one
  of_dynamic b is within =
      by_action (action_of meant moment d) b
      (sym (ap (λ (found : Option Table). brought_with meant moment id (Some d) found) table_now)
      ∙ sym (ap (λ (found : Option Dynamic). brought_with meant moment id found (table_at meant id)) dynamic_now) ∙ is)
      within

pub one_brought : (objects : List StoredObject) (moment id : ℕ) → IsFirm objects
    → FoundAt (MayBring moment) objects id
    → (b : Brought) → brought_one (map object_meant objects) moment id ≡ Some b
    → IsWithinNumbers (map object_meant objects) b → OneBrought objects moment id b
one_brought objects moment id firm may b is within = by_found (at_id objects id) refl may
  where
    by_kind : (o : StoredObject) (k : StoredKind) → at_id objects id ≡ Some (record o { kind = k }) → IsTrue o.is_live
        → KindRefreshable moment k → IfSome (dynamic_in k) HasItsGroups → OneBrought objects moment id b
    by_kind o (TableKind t) there live can stood = absurd can
    by_kind o (StreamKind s) there live can stood = absurd can
    by_kind o (TaskKind t) there live can stood = absurd can
    by_kind o (DynamicKind d t) there live can stood =
        of_dynamic objects moment id o d t there live can stood firm b is within

    by_found : (found : Option StoredObject) → at_id objects id ≡ found → IsSomeAnd found (MayBring moment)
        → OneBrought objects moment id b
    by_found None none may = absurd may
    by_found (Some o) there may = by_kind o o.kind there may.0.0 may.0.1 may.1

-- ---- the tables one after the other

acts_are : (moment id : ℕ) (b : Brought) → b.id ≡ id
    → acts_of_one moment b ≡ refresh_of id moment b.edits b.groups b.state
acts_are moment id b at =
    by_edits b.edits ∙ ap (λ (n : ℕ). refresh_of n moment b.edits b.groups b.state) at
  where
    by_edits : (edits : Option Edits)
        → version_acts b.id moment edits b.groups ++ PutsDynamic b.id b.state ∷ []
        ≡ refresh_of b.id moment edits b.groups b.state
    by_edits None = refl
    by_edits (Some e) = refl

above : (least : ℕ) (ids : List ℕ) → RiseFrom least ids → AllByRecursion (λ n. least ≤ n) ids
above least [] rise = tt
above least (id ∷ ids) rise = (
  rise.0,
  all_map (λ n. suc id ≤ n) (λ n. least ≤ n) (λ n h. omega (arith, h, rise.0)) ids
      (above (suc id) ids rise.1),
)

ids_all : (P : ℕ → Type 0) (all : List Brought) (ids : List ℕ) → map (λ b. b.id) all ≡ ids → AllByRecursion P ids
    → AllByRecursion (λ b. P b.id) all
ids_all P all ids same h = of_map all (subst (AllByRecursion P) (sym same) h)
  where
    of_map : (all : List Brought) → AllByRecursion P (map (λ b. b.id) all) → AllByRecursion (λ b. P b.id) all
    of_map [] h = tt
    of_map (b ∷ others) h = (h.0, of_map others h.1)

within_kept : (objects new : List Object) (b : Brought) → table_at new b.id ≡ table_at objects b.id
    → IsWithinNumbers objects b → IsWithinNumbers new b
within_kept objects new b same within = record {
  rows = ap (λ (found : Option Table). option_map_or (λ e. option_map_or
      (λ t. nat_lt (bound limits.RowNumber) (t.next_row + length e.added)) found false) b.edits false) same
      ∙ within.rows;
  partitions = ap (λ (found : Option Table). option_map_or (λ e. option_map_or
      (λ t. nat_lt (bound limits.PartitionNumber) (t.next_partition + length (table_partitions_made e t))) found false)
      b.edits false) same ∙ within.partitions;
}

-- so it is of the tables of some ids
abbrev pub TheyGo : ℕ → ℕ → List ℕ → List StoredObject → Type 0
TheyGo stamp moment ids objects = AllByRecursion (FoundAt (MayBring moment) objects) ids → IsFirm objects
    → (all : List Brought) → brought_all stamp moment ids (map object_meant objects) ≡ Some all
    → AllByRecursion (IsWithinNumbers (map object_meant objects)) all
    → AllGo stamp objects (written stamp objects (flat_map (acts_of_one moment) all))

-- each over what those before it leave
pub all_go : (stamp moment least : ℕ) (ids : List ℕ) (objects : List StoredObject) → RiseFrom least ids
    → TheyGo stamp moment ids objects
all_go stamp moment least [] objects rise may firm all is within =
    let same : [] ≡ all = cc in
    subst (λ (all : List Brought). AllGo stamp objects (written stamp objects (flat_map (acts_of_one moment) all)))
    same (go_none stamp objects)
all_go stamp moment least (id ∷ ids) objects rise may firm all is within =
    by_one (brought_one meant moment id) refl is (λ new. all_go stamp moment (suc id) ids new rise.1)
  where
    meant : List Object
    meant = map object_meant objects

    behind : (b : Brought) (more : List Brought) → b.id ≡ id → OneBrought objects moment id b
        → brought_all stamp moment ids (all_acted stamp meant (acts_of_one moment b)) ≡ Some more
        → AllByRecursion (IsWithinNumbers meant) more → ((new : List StoredObject) → TheyGo stamp moment ids new)
        → AllGo stamp objects (written stamp objects (flat_map (acts_of_one moment) (b ∷ more)))
    behind b more at one rest within they =
        subst (λ (acts : List Act). AllGo stamp objects
        (written stamp objects (acts ++ flat_map (acts_of_one moment) more)))
        (sym (acts_are moment id b at)) (go_behind stamp objects first (flat_map (acts_of_one moment) more) goes
        (they new still (go_firm stamp objects (written stamp objects first) goes firm) more brought_is later))
      where
        first : List Act
        first = refresh_of id moment b.edits b.groups b.state

        new : List StoredObject
        new = all_changed stamp objects (written stamp objects first)

        goes : AllGo stamp objects (written stamp objects first)
        goes = one_goes stamp moment objects id b.edits b.groups b.state firm one.state one.edits one.groups

        above_id : AllByRecursion (λ n. suc id ≤ n) ids
        above_id = above (suc id) ids rise.1

        left : (n : ℕ) → suc id ≤ n → at_id new n ≡ at_id objects n
        left n h = one_leaves stamp moment objects id b.edits b.groups b.state n h

        still : AllByRecursion (FoundAt (MayBring moment) new) ids
        still = all_both (λ n. suc id ≤ n) (FoundAt (MayBring moment) objects) (FoundAt (MayBring moment) new)
            (λ n h may. subst (λ found. IsSomeAnd found (MayBring moment)) (sym (left n h)) may) ids above_id may.1

        means : map object_meant new ≡ all_acted stamp meant first
        means = one_means stamp moment objects id b.edits b.groups b.state firm

        brought_is : brought_all stamp moment ids (map object_meant new) ≡ Some more
        brought_is = ap (brought_all stamp moment ids) (means
            ∙ ap (λ (acts : List Act). all_acted stamp meant acts) (sym (acts_are moment id b at))) ∙ rest

        table_left : (n : ℕ) → suc id ≤ n → table_at (map object_meant new) n ≡ table_at meant n
        table_left n h = ap (option_and_then as_table) (at_id_meant new n ∙ ap (option_map object_meant) (left n h)
            ∙ sym (at_id_meant objects n))

        later : AllByRecursion (IsWithinNumbers (map object_meant new)) more
        later = all_both (λ c. suc id ≤ c.id) (IsWithinNumbers meant) (IsWithinNumbers (map object_meant new))
            (λ c h within. within_kept meant (map object_meant new) c (table_left c.id h) within) more
            (ids_all (λ n. suc id ≤ n) more ids (brought_ids stamp moment ids (map object_meant new) more brought_is)
            above_id) within

    by_rest : (b : Brought) → brought_one meant moment id ≡ Some b → (rest : Option (List Brought))
        → brought_all stamp moment ids (all_acted stamp meant (acts_of_one moment b)) ≡ rest
        → option_map (λ more. b ∷ more) rest ≡ Some all → ((new : List StoredObject) → TheyGo stamp moment ids new)
        → AllGo stamp objects (written stamp objects (flat_map (acts_of_one moment) all))
    by_rest b one None rest is they = absurd cc
    by_rest b one (Some more) rest is they =
        let same : b ∷ more ≡ all = cc in
        let both : AllByRecursion (IsWithinNumbers meant) (b ∷ more) =
        subst (AllByRecursion (IsWithinNumbers meant)) (sym same) within in
        subst (λ (all : List Brought). AllGo stamp objects
        (written stamp objects (flat_map (acts_of_one moment) all))) same
        (behind b more (brought_id meant moment id b one)
        (one_brought objects moment id firm may.0 b one both.0) rest both.1 they)

    by_one : (found : Option Brought) → brought_one meant moment id ≡ found
        → brought_then (brought_all stamp moment ids) stamp moment meant found ≡ Some all
        → ((new : List StoredObject) → TheyGo stamp moment ids new)
        → AllGo stamp objects (written stamp objects (flat_map (acts_of_one moment) all))
    by_one None one is they = absurd cc
    by_one (Some b) one is they =
        by_rest b one (brought_all stamp moment ids (all_acted stamp meant (acts_of_one moment b))) refl is they
