-- Commits that may be written and apply leave orderly partitions.
--     KeptStored           orderly, and the numbers are below each table's next one
--     rising_pushed, orderly_pushed     a new version
--     orderly_applied      a commit
--     orderly_leads        commits one after the other
--     orderly_file         what a file says
use Rattle.std.proofs.Common.{◌≡◌, ℕ, ◌+◌, ◌^◌, ◌<◌, ◌≤◌, inl, inr, Bool, true, false, cond, List, [], ◌∷◌, ◌++◌}
use Rattle.std.proofs.Common.{length}
use Rattle.std.proofs.Common.{map, Option, Some, None, option_map, refl, sym, ap, subst, arith}
use Rattle.std.specs.Prelude.{not}
use Rattle.std.specs.List.{AllByRecursion, filter}
use Rattle.std.specs.Option.{IfSome}
use Rattle.std.proofs.lemmas.List.{map-append}
use Rattle.std.proofs.lemmas.Option.{IfSome_then}
use Rattle.wh_value.specs.Column.{Column}
use Rattle.wh_frame.specs.Partition.{Partition}
use Rattle.wh_frame.specs.Spelling.{IsPartition}
use Rattle.wh_state.specs.State.{TaskKind, DynamicKind, changed_at}
use Rattle.wh_state.specs.State.{new_table, new_object, dropped, content_in, at_id, put_at, TableKind, StreamKind}
use Rattle.wh_state.specs.State.{table_in}
use Rattle.wh_state.specs.Edits.{is_among, without}
use Rattle.wh_state.specs.Stored.{StoredTable, StoredKind, StoredObject, Stored, first_stored, standing}
use Rattle.wh_state.specs.State.{on_dynamic}
use Rattle.wh_state.specs.Dynamic.{Dynamic, with_dynamic_state, behind_change}
use Rattle.wh_state.specs.Commit.{CreatesDynamic, SetsDynamic, SetsGroups, on_dynamic_stored}
use Rattle.wh_state.specs.Commit.{CreatesTask, SetsTask, StartsRun, FinishesTask, change_as_text, on_task_stored}
use Rattle.wh_state.specs.Commit.{VersionChange, Change, CreatesTable, Drops, PushesVersion, CreatesStream, SetsOffset}
use Rattle.wh_state.specs.Commit.{Commit, pushed, pushed_object, offset_set, changed, all_changed}
use Rattle.wh_state.proofs.KindLaws.{task_keeps}
use Rattle.wh_state.proofs.KindLaws.{offset_keeps}
use Rattle.wh_state.specs.Commit.{applied, AreApart, AllApart, NumberedFrom, VersionApplies, FitsObject, ChangeApplies}
use Rattle.wh_state.specs.Commit.{AllApply, Applies, Leads}
use Rattle.wh_state.specs.Spelling.{NumbersRiseFrom, IsVersionChange, IsChange, IsCommit}
use Rattle.wh_state.specs.Orderly.{HasRisingRows, IsOrderly, IsOrderlyVersion, IsOrderlyTable, IsOrderlyObject}
use Rattle.wh_state.specs.Orderly.{IsOrderlyStored}
use Rattle.wh_state.specs.File.{Keeps}
use Rattle.wh_state.proofs.AllLaws.{all_map, all_filter, all_append, all_more, all_at, all_with, all_changed_at}
use Rattle.wh_state.proofs.IdLaws.{last_more}
use Rattle.wh_state.proofs.EditLaws.{rise_filter}
use Rattle.wh_state.proofs.ActLaws.{orderly_standing}
use Rattle.wh_state.specs.Task.{Task, with_state, with_run, with_ended}

-- ---- partitions that are apart

abbrev pub ApartFrom : List Partition → Partition → Type 0
ApartFrom before p = AllByRecursion (AreApart p) before

-- from fewer
apart_weaker : (before fewer : List Partition) → ((p : Partition) → ApartFrom before p → ApartFrom fewer p)
    → (ps : List Partition) → AllApart before ps
    → AllApart fewer ps
apart_weaker before fewer so [] apart = tt
apart_weaker before fewer so (p ∷ ps) apart =
    (so p apart.0, apart_weaker (p ∷ before) (p ∷ fewer) (λ q h. (h.0, so q h.1)) ps apart.1)

apart_filter : (test : Partition → Bool) (before fewer : List Partition)
    → ((p : Partition) → ApartFrom before p → ApartFrom fewer p) → (ps : List Partition) → AllApart before ps
    → AllApart fewer (filter test ps)
apart_filter test before fewer so [] apart = tt
apart_filter test before fewer so (p ∷ ps) apart =
    by_test (test p) (apart_filter test (p ∷ before) (p ∷ fewer) (λ q h. (h.0, so q h.1)) ps apart.1)
    (apart_filter test (p ∷ before) fewer (λ q h. so q h.1) ps apart.1)
  where
    by_test : (b : Bool) → AllApart (p ∷ fewer) (filter test ps) → AllApart fewer (filter test ps)
        → AllApart fewer (cond b (p ∷ filter test ps) (filter test ps))
    by_test true with_it without_it = (so p apart.0, with_it)
    by_test false with_it without_it = without_it

moved_back : (P : Partition → Type 0) (p : Partition) (ps before : List Partition) → AllByRecursion P (p ∷ ps ++ before)
    → AllByRecursion P (ps ++ p ∷ before)
moved_back P p [] before h = h
moved_back P p (q ∷ ps) before h = (h.1.0, moved_back P p ps before (h.0, h.1.1))

pub apart_append : (before ps qs : List Partition) → AllApart before ps → AllApart (ps ++ before) qs
    → AllApart before (ps ++ qs)
apart_append before [] qs apart others = others
apart_append before (p ∷ ps) qs apart others = (
  apart.0,
  apart_append (p ∷ before) ps qs apart.1
      (apart_weaker (p ∷ ps ++ before) (ps ++ p ∷ before) (λ q h. moved_back (AreApart q) p ps before h) qs others),
)

-- ---- numbers

rise_append : (least next : ℕ) (ns ms : List ℕ) → least ≤ next → NumbersRiseFrom least ns
    → AllByRecursion (λ n. n < next) ns → NumbersRiseFrom next ms
    → NumbersRiseFrom least (ns ++ ms)
rise_append least next [] [] h rise below others = tt
rise_append least next [] (m ∷ ms) h rise below others = (omega (arith, others.0), others.1, others.2)
rise_append least next (n ∷ ns) ms h rise below others =
    (rise.0, rise.1, rise_append (n + 1) next ns ms (omega (arith, below.0)) rise.2 below.1 others)

numbered_rise : (next : ℕ) (ps : List Partition) → NumberedFrom next ps → next + length ps ≤ 2 ^ 64
    → NumbersRiseFrom next (map (λ p. p.number) ps)
numbered_rise next [] numbered few = tt
numbered_rise next (p ∷ ps) numbered few =
    let rest : NumbersRiseFrom (p.number + 1) (map (λ p. p.number) ps) =
    subst (λ (n : ℕ). NumbersRiseFrom (n + 1) (map (λ p. p.number) ps)) (sym numbered.0)
    (numbered_rise (next + 1) ps numbered.1 (omega arith)) in
    (omega (arith, numbered.0), omega (arith, numbered.0), rest)

numbered_below : (next : ℕ) (ps : List Partition) → NumberedFrom next ps
    → AllByRecursion (λ p. p.number < next + length ps) ps
numbered_below next [] numbered = tt
numbered_below next (p ∷ ps) numbered = (
  omega (arith, numbered.0),
  all_map (λ q. q.number < next + 1 + length ps) (λ q. q.number < next + length (p ∷ ps)) (λ q h. omega arith) ps
      (numbered_below (next + 1) ps numbered.1),
)

all_numbers : (next : ℕ) (ps : List Partition) → AllByRecursion (λ p. p.number < next) ps
    → AllByRecursion (λ n. n < next) (map (λ p. p.number) ps)
all_numbers next [] h = tt
all_numbers next (p ∷ ps) h = (h.0, all_numbers next ps h.1)

-- ---- tables

pub record KeptTable (t : StoredTable) : Type 0 where
  pub orderly : IsOrderlyTable t
  pub below : AllByRecursion (λ p. p.number < t.next_partition) (standing t)

abbrev pub KeptKind : StoredKind → Type 0
KeptKind k = IfSome (table_in k) KeptTable

abbrev pub KeptObject : StoredObject → Type 0
KeptObject o = KeptKind o.kind

abbrev pub KeptObjects : List StoredObject → Type 0
KeptObjects objects = AllByRecursion KeptObject objects

abbrev pub KeptStored : Stored → Type 0
KeptStored s = KeptObjects s.objects

pub standing_pushed : (stamp : ℕ) (c : VersionChange) (t : StoredTable)
    → standing (pushed stamp c t) ≡ without c.removed (standing t) ++ c.added
standing_pushed stamp c t = ap (content_in []) (last_more t.versions _)

pub rising_pushed : (stamp : ℕ) (c : VersionChange) (t : StoredTable) → AllByRecursion HasRisingRows c.added
    → VersionApplies t c → KeptTable t → KeptTable (pushed stamp c t)
rising_pushed stamp c t rising applies kept =
    let stood : IsOrderly (standing t) = orderly_standing t kept.orderly in
    let stays : Partition → Bool = λ (p : Partition). not (is_among p.number c.removed) in
    let old : List Partition = without c.removed (standing t) in
    let rise_old : NumbersRiseFrom 0 (map (λ p. p.number) old) =
    rise_filter stays 0 (standing t) stood.numbers in
    let below_old : AllByRecursion (λ p. p.number < t.next_partition) old =
    all_filter (λ p. p.number < t.next_partition) stays (standing t) kept.below in
    let rise : NumbersRiseFrom 0 (map (λ p. p.number) old ++ map (λ p. p.number) c.added) =
    rise_append 0 t.next_partition _ _ (omega arith) rise_old (all_numbers t.next_partition old below_old)
    (numbered_rise t.next_partition c.added applies.numbers (omega (arith, applies.next_partition))) in
    let apart_old : AllApart [] old = apart_filter stays [] [] (λ p h. h) (standing t) stood.apart in
    let orderly : IsOrderly (old ++ c.added) = record {
      numbers = subst (NumbersRiseFrom 0) (sym (map-append (λ (p : Partition). p.number) old c.added)) rise;
      rows = all_append HasRisingRows old c.added (all_filter HasRisingRows stays (standing t) stood.rows)
          rising;
      apart = apart_append [] old c.added apart_old
          (apart_weaker old (old ++ []) (λ p h. all_append (AreApart p) old [] h tt) c.added applies.apart);
    } in
    let below : AllByRecursion (λ p. p.number < t.next_partition + length c.added) (old ++ c.added) =
    all_append (λ p. p.number < t.next_partition + length c.added) old c.added
    (all_map (λ p. p.number < t.next_partition) (λ p. p.number < t.next_partition + length c.added)
    (λ p h. omega arith) old below_old)
    (numbered_below t.next_partition c.added applies.numbers) in
    record {
      orderly = all_more IsOrderlyVersion t.versions _ kept.orderly orderly;
      below = subst (AllByRecursion (λ p. p.number < t.next_partition + length c.added))
          (sym (standing_pushed stamp c t)) below;
    }

pub orderly_pushed : (stamp : ℕ) (c : VersionChange) (t : StoredTable) → IsVersionChange c → VersionApplies t c
    → KeptTable t → KeptTable (pushed stamp c t)
orderly_pushed stamp c t good applies kept =
    rising_pushed stamp c t (all_map (IsPartition c.width) HasRisingRows (λ p is. is.rising) c.added good.added) applies
    kept

pub new_kept : (columns : List Column) (retention stamp : ℕ) → KeptTable (new_table [] columns retention stamp)
new_kept columns retention stamp = record { orderly = (record { numbers = tt; rows = tt; apart = tt }, tt); below = tt }

-- ---- changes

pushed_kept : (stamp : ℕ) (c : VersionChange) (o : StoredObject) (k : StoredKind) → IsVersionChange c → o.kind ≡ k
    → KeptKind k → FitsObject (Some (record o { kind = k })) c
    → KeptObject (pushed_object stamp c (record o { kind = k }))
pushed_kept stamp c o (TableKind t) good is kept fits = orderly_pushed stamp c t good fits.1 kept
pushed_kept stamp c o (StreamKind s) good is kept fits = absurd fits.1
pushed_kept stamp c o (TaskKind t) good is kept fits = absurd fits.1
pushed_kept stamp c o (DynamicKind d t) good is kept fits = orderly_pushed stamp c t good fits.1 kept

offset_kept : (offset : ℕ) (o : StoredObject) → KeptObject o → KeptObject (offset_set offset o)
offset_kept offset o kept = offset_keeps KeptKind offset (λ s kept. tt) o.kind kept

task_kept : (f : Task → Task) (objects : List StoredObject) (id : ℕ) → KeptObjects objects
    → KeptObjects (changed_at objects id (on_task_stored f))
task_kept f objects id kept = all_changed_at KeptObject KeptObject (on_task_stored f) (λ o h. h)
    (λ o h. task_keeps KeptKind f (λ t kept. tt) o.kind h) objects id kept

dynamic_kept : (f : Dynamic → Dynamic) (k : StoredKind) → KeptKind k → KeptKind (on_dynamic f k)
dynamic_kept f (TableKind t) kept = kept
dynamic_kept f (StreamKind s) kept = kept
dynamic_kept f (TaskKind t) kept = kept
dynamic_kept f (DynamicKind d t) kept = kept

pub orderly_changed : (stamp : ℕ) (objects : List StoredObject) (c : Change) → IsChange (change_as_text c)
    → ChangeApplies objects c
    → KeptObjects objects
    → KeptObjects (changed stamp objects c)
unfolding changed
orderly_changed stamp objects (CreatesTable c) good applies kept =
    all_more KeptObject objects (new_object c.name (TableKind (new_table [] c.columns c.retention stamp)))
    kept (new_kept c.columns c.retention stamp)
orderly_changed stamp objects (CreatesStream c) good applies kept = all_more KeptObject objects _ kept tt
orderly_changed stamp objects (SetsOffset id offset) good applies kept =
    all_changed_at KeptObject KeptObject (offset_set offset) (λ o h. h) (offset_kept offset) objects id kept
orderly_changed stamp objects (Drops id) good applies kept =
    all_changed_at KeptObject KeptObject dropped (λ o h. h) (λ o h. h) objects id kept
orderly_changed stamp objects (CreatesTask c) good applies kept = all_more KeptObject objects _ kept tt
orderly_changed stamp objects (SetsTask id state) good applies kept = task_kept (with_state state) objects id kept
orderly_changed stamp objects (StartsRun root tasks) good applies kept = task_kept (with_run tasks) objects root kept
orderly_changed stamp objects (FinishesTask root task ending) good applies kept =
    task_kept (with_ended task ending) objects root kept
orderly_changed stamp objects (CreatesDynamic c) good applies kept = all_more KeptObject objects _ kept
    (record { orderly = tt; below = tt })
orderly_changed stamp objects (SetsDynamic id state) good applies kept =
    all_changed_at KeptObject KeptObject (on_dynamic_stored (with_dynamic_state state)) (λ o h. h)
    (λ o h. dynamic_kept (with_dynamic_state state) o.kind h) objects id kept
orderly_changed stamp objects (SetsGroups id c) good applies kept =
    all_changed_at KeptObject KeptObject (on_dynamic_stored (behind_change c)) (λ o h. h)
    (λ o h. dynamic_kept (behind_change c) o.kind h) objects id kept
orderly_changed stamp objects (PushesVersion c) good applies kept = by_found (at_id objects c.id) refl applies
  where
    by_found : (found : Option StoredObject) → at_id objects c.id ≡ found → FitsObject found c
        → KeptObjects (put_at objects c.id (option_map (pushed_object stamp c) found))
    by_found None none fits = absurd fits
    by_found (Some o) there fits =
        all_with KeptObject objects c.id (pushed_object stamp c o) kept
        (pushed_kept stamp c o o.kind good refl (all_at KeptObject objects c.id o kept there) fits)

orderly_all : (stamp : ℕ) (objects : List StoredObject) (cs : List Change)
    → AllByRecursion IsChange (map change_as_text cs)
    → AllApply stamp objects cs → KeptObjects objects
    → KeptObjects (all_changed stamp objects cs)
orderly_all stamp objects [] good applies kept = kept
orderly_all stamp objects (c ∷ cs) good applies kept =
    orderly_all stamp (changed stamp objects c) cs good.1 applies.1
    (orderly_changed stamp objects c good.0 applies.0 kept)

-- a commit that may be written and applies
pub orderly_applied : (s : Stored) (c : Commit) → IsCommit c → Applies s c → KeptStored s → KeptStored (applied s c)
orderly_applied s c good applies kept =
    orderly_all c.stamp s.objects c.changes good.written.changes applies.changes kept

kept_leads : (s : Stored) (commits : List Commit) (new : Stored) → AllByRecursion IsCommit commits → Leads s commits new
    → KeptStored s → KeptStored new
kept_leads s [] new good leads kept = subst KeptStored leads kept
kept_leads s (c ∷ cs) new good leads kept =
    kept_leads (applied s c) cs new good.1 leads.1 (orderly_applied s c good.0 leads.0 kept)

-- ---- what is orderly

pub orderly_stored : (s : Stored) → KeptStored s → IsOrderlyStored s
orderly_stored s kept = all_map KeptObject IsOrderlyObject
    (λ o h. IfSome_then (table_in o.kind) h (λ t kept. kept.orderly)) s.objects kept

pub orderly_leads : (commits : List Commit) (s : Stored) → AllByRecursion IsCommit commits
    → Leads first_stored commits s → KeptStored s
orderly_leads commits s good leads = kept_leads first_stored commits s good leads tt

-- what a file says is orderly
pub orderly_file : (bytes : List ℕ) (s : Stored) → Keeps bytes s → IsOrderlyStored s
orderly_file bytes s (inl few) = subst IsOrderlyStored (sym few.1) tt
orderly_file bytes s (inr more) = orderly_stored s (orderly_leads more.1.commits s more.1.good more.1.leads)
