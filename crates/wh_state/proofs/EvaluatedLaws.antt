-- What the query of a dynamic table gives, as objects change.
--     rows_kept                     a version for a later moment leaves the rows for a time as they were
--     IsNextKind, IsNextAt, Follows     objects that leave the rows of tables before a moment as they were, and
--                                   those of dynamic tables up to their own
--     next_same, follows_refl       what stays follows itself
--     bag_follows, bound_follows    the rows of a source, and what a query binds to
--     kept_follows                  how its groups are kept first
--     ids_read_hold                 what holds of the ids that it is kept with
--     evaluated_same, evaluated_follows     so what it gives
--     groups_same, groups_follow    and its groups
--     written_same, written_is      what it gives over tables alone
--     rows_last                     all versions stand for no later moment
use Rattle.std.proofs.Common.{◌≡◌, ℕ, ◌<◌, ◌≤◌, Bool, true, false, cond, List, [], ◌∷◌, ◌++◌, map, length}
use Rattle.std.proofs.Common.{Option, Some, None, option_map, refl, sym, ap, subst, ◌∙◌, arith}
use Rattle.std.specs.Prelude.{nat_le, bytes_eq}
use Rattle.std.specs.List.{AllByRecursion, filter}
use Rattle.std.specs.Option.{IsSomeAnd, IfSome, option_map_or, option_and_then}
use Rattle.std.specs.FinMap.{values}
use Rattle.std.proofs.lemmas.Bool.Decides.{nat_tests}
use Rattle.wh_naming.specs.Scope.{Named}
use Rattle.wh_naming.specs.Select.{BoundQuery, bound_query}
use Rattle.wh_ddl_naming.specs.Names.{query_names}
use Rattle.wh_meaning.specs.Bag.{Bag, bag_of, no_rows}
use Rattle.wh_meaning.specs.Query.{Instance, eval}
use Rattle.wh_state.specs.State.{Version, Table, Kind, TableKind, StreamKind, TaskKind, DynamicKind, Object, Stream}
use Rattle.wh_state.specs.State.{Rows, nothing_held, content_in, last_of, at_id, rows_at, last_rows, version_for}
use Rattle.wh_state.specs.State.{table_in, dynamic_in}
use Rattle.wh_state.specs.Task.{Task}
use Rattle.wh_state.specs.Dynamic.{Source, DynamicQuery, Dynamic, id_named, ids_read}
use Rattle.wh_state.specs.Objects.{as_table, as_dynamic, dynamic_at}
use Rattle.wh_maintenance.specs.Above.{grouping}
use Rattle.wh_state.specs.Bound.{named_as, names_among, query_bound, grouping_bound, kept_first, kept_for}
use Rattle.wh_maintenance.specs.Entries.{groups_over}
use Rattle.wh_state.specs.Moments.{bag_at, instance_at, evaluated_at, groups_at, with_given, all_given}
use Rattle.wh_state.specs.Moments.{written_out}
use Rattle.wh_state.specs.Edits.{Edits}
use Rattle.wh_state.specs.Act.{edited_table, next_contents}
use Rattle.wh_state.proofs.AllLaws.{all_map, all_both}

-- ---- the rows of a table for a time

-- one more that fails a test
filter_more : {X : Type 0} (test : X → Bool) (xs : List X) (x : X) → test x ≡ false
    → filter test (xs ++ x ∷ []) ≡ filter test xs
filter_more test [] x fails = rw fails refl
filter_more test (y ∷ ys) x fails =
    ap (λ (rest : List _). cond (test y) (y ∷ rest) rest) (filter_more test ys x fails)

pub rows_kept : (stamp moment : ℕ) (e : Edits) (t : Table) (time : ℕ) → time < moment
    → rows_at (edited_table stamp moment e t) time ≡ rows_at t time
unfolding edited_table
rows_kept stamp moment e t time before =
    let later : nat_le moment time ≡ false = grind (arith, nat_tests) in
    ap (λ (vs : List Version). (content_in nothing_held (last_of vs)).rows)
    (filter_more (λ v. nat_le v.data_timestamp time) t.versions (version_for stamp moment (next_contents e t)) later)

-- ---- objects that follow others

-- a table's rows before a moment stay, and a dynamic table's up to its own; what it reads is what it was
pub data IsNextKind (before : ℕ) : Kind → Kind → Type 0 where
  next_table : {t u : Table} → u.created ≡ t.created → u.columns ≡ t.columns
      → ((time : ℕ) → time < before → rows_at u time ≡ rows_at t time) → IsNextKind before (TableKind t) (TableKind u)
  next_stream : {s r : Stream} → r.columns ≡ s.columns → IsNextKind before (StreamKind s) (StreamKind r)
  next_task : {t u : Task} → IsNextKind before (TaskKind t) (TaskKind u)
  next_dynamic : {d e : Dynamic} {t u : Table} → e.query ≡ d.query → u.created ≡ t.created → u.columns ≡ t.columns
      → d.state.moment ≤ e.state.moment → ((time : ℕ) → time ≤ d.state.moment → rows_at u time ≡ rows_at t time)
      → IsNextKind before (DynamicKind d t) (DynamicKind e u)

abbrev pub IsNextAt : ℕ → Option Object → Option Object → Type 0
IsNextAt before None found = found ≡ None
IsNextAt before (Some o) found = IsSomeAnd found (λ p. IsNextKind before o.kind p.kind)

-- of each object; there may be more behind them
abbrev pub Follows : ℕ → List Object → List Object → Type 0
Follows before old new = (id : ℕ) → id ≤ length old → IsNextAt before (at_id old id) (at_id new id)

pub next_same : (before : ℕ) (k : Kind) → IsNextKind before k k
next_same before (TableKind t) = next_table refl refl (λ time h. refl)
next_same before (StreamKind s) = next_stream refl
next_same before (TaskKind t) = next_task
next_same before (DynamicKind d t) = next_dynamic refl refl refl (omega arith) (λ time h. refl)

pub next_at : (before : ℕ) (found other : Option Object) → other ≡ found → IsNextAt before found other
next_at before None other same = same
next_at before (Some o) other same =
    subst (λ (p : Option Object). IsSomeAnd p (λ p. IsNextKind before o.kind p.kind)) (sym same)
    (next_same before o.kind)

-- ---- the rows of a source

abbrev bag_of_table : ℕ → Option Table → Bag
bag_of_table time found = option_map_or (λ t. bag_of (values (rows_at t time))) found no_rows

bag_of_next : (before time : ℕ) (k l : Kind) → IsNextKind before k l → time < before
    → IfSome (dynamic_in k) (λ e. time ≤ e.state.moment)
    → bag_of_table time (table_in l) ≡ bag_of_table time (table_in k)
bag_of_next before time k l (next_table created columns rows) within up =
    ap (λ (held : Rows). bag_of (values held)) (rows time within)
bag_of_next before time k l (next_stream columns) within up = refl
bag_of_next before time k l next_task within up = refl
bag_of_next before time k l (next_dynamic query created columns moment rows) within up =
    ap (λ (held : Rows). bag_of (values held)) (rows time up)

-- for a time that a dynamic table there stands for
pub bag_follows : (before time : ℕ) (old new : List Object) → Follows before old new → (id : ℕ) → id ≤ length old
    → time < before
    → IfSome (dynamic_at old id) (λ e. time ≤ e.state.moment)
    → bag_at new time id ≡ bag_at old time id
bag_follows before time old new follows id there within up =
    by_found (at_id old id) (at_id new id) (follows id there) up
  where
    by_found : (found other : Option Object) → IsNextAt before found other
        → IfSome (option_and_then as_dynamic found) (λ e. time ≤ e.state.moment)
        → bag_of_table time (option_and_then as_table other) ≡ bag_of_table time (option_and_then as_table found)
    by_found None other is up = ap (λ (p : Option Object). bag_of_table time (option_and_then as_table p)) is
    by_found (Some o) None is up = absurd is
    by_found (Some o) (Some p) is up = bag_of_next before time o.kind p.kind is within up

-- ---- what a query binds to

abbrev named_in : List Object → Source → List Named
named_in objects s = option_map_or (λ o. named_as s o ∷ []) (at_id objects s.id) []

named_next : (before : ℕ) (s : Source) (found other : Option Object) → IsNextAt before found other
    → option_map_or (λ o. named_as s o ∷ []) other [] ≡ option_map_or (λ o. named_as s o ∷ []) found []
named_next before s None other is = ap (λ (p : Option Object). option_map_or (λ o. named_as s o ∷ []) p []) is
named_next before s (Some o) None is = absurd is
named_next before s (Some o) (Some p) is = by_kind o.kind p.kind is
  where
    by_kind : (k l : Kind) → IsNextKind before k l
        → named_as s (record p { kind = l }) ∷ [] ≡ named_as s (record o { kind = k }) ∷ []
    by_kind k l (next_table created columns rows) = rw columns refl
    by_kind k l (next_stream columns) = rw columns refl
    by_kind k l next_task = refl
    by_kind k l (next_dynamic query created columns moment rows) = rw columns refl

names_follow : (before : ℕ) (old new : List Object) → Follows before old new → (sources : List Source)
    → AllByRecursion (λ s. s.id ≤ length old) sources
    → names_among new sources ≡ names_among old sources
names_follow before old new follows [] there = refl
names_follow before old new follows (s ∷ ss) there =
    ap (λ (l : List Named). l ++ names_among new ss)
    (named_next before s (at_id old s.id) (at_id new s.id) (follows s.id there.0))
    ∙ ap (λ (l : List Named). named_in old s ++ l) (names_follow before old new follows ss there.1)

-- what it reads is there
abbrev pub IsThere : List Object → DynamicQuery → Type 0
IsThere objects q = AllByRecursion (λ s. s.id ≤ length objects) q.sources

pub bound_follows : (before : ℕ) (old new : List Object) → Follows before old new → (q : DynamicQuery)
    → IsThere old q → query_bound new q ≡ query_bound old q
bound_follows before old new follows q there =
    ap (λ (names : List Named). bound_query q.tree names 0) (names_follow before old new follows q.sources there)

-- how its groups are kept first
pub kept_follows : (before : ℕ) (old new : List Object) → Follows before old new → (is_incremental : Bool)
    → (q : DynamicQuery) → IsThere old q → kept_for new is_incremental q ≡ kept_for old is_incremental q
kept_follows before old new follows is_incremental q there =
    ap (λ (b : BoundQuery). cond is_incremental (option_map kept_first (grouping b.query)) None)
    (bound_follows before old new follows q there)

-- ---- what it gives

id_holds : (P : ℕ → Type 0) → P 0 → (sources : List Source) → AllByRecursion (λ s. P s.id) sources → (name : List ℕ)
    → P (id_named sources name)
id_holds P none [] all name = none
id_holds P none (s ∷ ss) all name = by_test (bytes_eq s.name name) (id_holds P none ss all.1 name)
  where
    by_test : (same : Bool) → P (id_named ss name) → P (cond same s.id (id_named ss name))
    by_test true rest = all.0
    by_test false rest = rest

ids_hold : (P : ℕ → Type 0) → P 0 → (sources : List Source) → AllByRecursion (λ s. P s.id) sources
    → (names : List (List ℕ))
    → AllByRecursion P (map (id_named sources) names)
ids_hold P none sources all [] = tt
ids_hold P none sources all (name ∷ names) = (id_holds P none sources all name, ids_hold P none sources all names)

-- what holds of the ids that a query is kept with and of 0 holds of those that it reads
pub ids_read_hold : (P : ℕ → Type 0) → P 0 → (q : DynamicQuery) → AllByRecursion (λ s. P s.id) q.sources
    → AllByRecursion P (ids_read q)
unfolding ids_read
ids_read_hold P none q all = ids_hold P none q.sources all (query_names q.tree)

instance_same : (old new : List Object) (from to : ℕ) (ids : List ℕ)
    → AllByRecursion (λ id. bag_at new to id ≡ bag_at old from id) ids
    → instance_at new to ids ≡ instance_at old from ids
instance_same old new from to [] same = refl
instance_same old new from to (id ∷ ids) same =
    ap (λ (b : Bag). b ∷ instance_at new to ids) same.0
    ∙ ap (λ (bs : List Bag). bag_at old from id ∷ bs) (instance_same old new from to ids same.1)

-- for a moment and for another, where the rows that it reads are the same
pub evaluated_same : (old new : List Object) (from to : ℕ) (d : Dynamic)
    → query_bound new d.query ≡ query_bound old d.query
    → AllByRecursion (λ id. bag_at new to id ≡ bag_at old from id) (ids_read d.query)
    → evaluated_at new to d ≡ evaluated_at old from d
unfolding evaluated_at
evaluated_same old new from to d bound same =
    ap (λ (b : BoundQuery). eval b.query (instance_at new to (ids_read d.query))) bound
    ∙ ap (λ (bags : List Bag). eval (query_bound old d.query).query bags)
    (instance_same old new from to (ids_read d.query) same)

-- and its groups
pub groups_same : (old new : List Object) (from to : ℕ) (d : Dynamic)
    → query_bound new d.query ≡ query_bound old d.query
    → AllByRecursion (λ id. bag_at new to id ≡ bag_at old from id) (ids_read d.query)
    → groups_at new to d ≡ groups_at old from d
unfolding groups_at
groups_same old new from to d bound same =
    ap (λ (b : BoundQuery). option_and_then (groups_over (instance_at new to (ids_read d.query))) (grouping b.query))
    bound
    ∙ ap (λ (bags : List Bag). option_and_then (groups_over bags) (grouping_bound old d.query))
    (instance_same old new from to (ids_read d.query) same)

-- the dynamic tables that it reads stand for a moment, or later ones
abbrev pub StandFrom : ℕ → List Object → List ℕ → Type 0
StandFrom moment objects ids = AllByRecursion (λ id. IfSome (dynamic_at objects id) (λ e. moment ≤ e.state.moment)) ids

-- or for that moment itself
abbrev pub StandAt : ℕ → List Object → List ℕ → Type 0
StandAt moment objects ids = AllByRecursion (λ id. IfSome (dynamic_at objects id) (λ e. e.state.moment ≡ moment)) ids

pub stand_from : (moment : ℕ) (objects : List Object) (ids : List ℕ) → StandAt moment objects ids
    → StandFrom moment objects ids
stand_from moment objects ids stand =
    all_map (λ id. IfSome (dynamic_at objects id) (λ e. e.state.moment ≡ moment))
    (λ id. IfSome (dynamic_at objects id) (λ e. moment ≤ e.state.moment))
    (λ id at. by_found (dynamic_at objects id) at) ids stand
  where
    by_found : (found : Option Dynamic) → IfSome found (λ e. e.state.moment ≡ moment)
        → IfSome found (λ e. moment ≤ e.state.moment)
    by_found None at = tt
    by_found (Some e) at = omega (arith, at)

-- the rows that it reads for a moment that those stand for
rows_follow : (before time : ℕ) (old new : List Object) → Follows before old new → (d : Dynamic)
    → IsThere old d.query → time < before → StandFrom time old (ids_read d.query)
    → AllByRecursion (λ id. bag_at new time id ≡ bag_at old time id) (ids_read d.query)
rows_follow before time old new follows d there within stand =
    all_both (λ id. id ≤ length old) (λ id. IfSome (dynamic_at old id) (λ e. time ≤ e.state.moment))
    (λ id. bag_at new time id ≡ bag_at old time id)
    (λ id here up. bag_follows before time old new follows id here within up) (ids_read d.query)
    (ids_read_hold (λ id. id ≤ length old) (omega arith) d.query there) stand

pub evaluated_follows : (before time : ℕ) (old new : List Object) → Follows before old new → (d : Dynamic)
    → IsThere old d.query → time < before → StandFrom time old (ids_read d.query)
    → evaluated_at new time d ≡ evaluated_at old time d
evaluated_follows before time old new follows d there within stand =
    evaluated_same old new time time d (bound_follows before old new follows d.query there)
    (rows_follow before time old new follows d there within stand)

pub groups_follow : (before time : ℕ) (old new : List Object) → Follows before old new → (d : Dynamic)
    → IsThere old d.query → time < before → StandFrom time old (ids_read d.query)
    → groups_at new time d ≡ groups_at old time d
groups_follow before time old new follows d there within stand =
    groups_same old new time time d (bound_follows before old new follows d.query there)
    (rows_follow before time old new follows d there within stand)

-- ---- over tables alone

pub given_alike : (gives other : ℕ → Option Bag) (ids : List ℕ) → AllByRecursion (λ id. gives id ≡ other id) ids
    → map gives ids ≡ map other ids
given_alike gives other [] same = refl
given_alike gives other (id ∷ ids) same =
    ap (λ (b : Option Bag). b ∷ map gives ids) same.0
    ∙ ap (λ (bs : List (Option Bag)). other id ∷ bs) (given_alike gives other ids same.1)

pub written_same : (gives other : ℕ → Option Bag) (old new : List Object) (d e : Dynamic) → e.query ≡ d.query
    → query_bound new d.query ≡ query_bound old d.query
    → AllByRecursion (λ id. gives id ≡ other id) (ids_read d.query)
    → written_out gives new e ≡ written_out other old d
unfolding written_out
written_same gives other old new d e query bound same =
    ap (λ (q : DynamicQuery). option_and_then (eval (query_bound new q).query) (all_given (map gives (ids_read q))))
    query
    ∙ ap (λ (b : BoundQuery). option_and_then (eval b.query) (all_given (map gives (ids_read d.query)))) bound
    ∙ ap (λ (bs : List (Option Bag)). option_and_then (eval (query_bound old d.query).query) (all_given bs))
    (given_alike gives other (ids_read d.query) same)

given_rows : (gives : ℕ → Option Bag) (objects : List Object) (moment : ℕ) (ids : List ℕ)
    → AllByRecursion (λ id. gives id ≡ Some (bag_at objects moment id)) ids
    → all_given (map gives ids) ≡ Some (instance_at objects moment ids)
given_rows gives objects moment [] are = refl
given_rows gives objects moment (id ∷ ids) are =
    ap (λ (b : Option Bag). with_given b (all_given (map gives ids))) are.0
    ∙ ap (λ (rest : Option Instance). option_map (λ bags. bag_at objects moment id ∷ bags) rest)
    (given_rows gives objects moment ids are.1)

-- where what it reads gives the rows that stand there
pub written_is : (gives : ℕ → Option Bag) (objects : List Object) (moment : ℕ) (d : Dynamic)
    → AllByRecursion (λ id. gives id ≡ Some (bag_at objects moment id)) (ids_read d.query)
    → written_out gives objects d ≡ evaluated_at objects moment d
unfolding written_out evaluated_at
written_is gives objects moment d are =
    ap (λ (bags : Option Instance). option_and_then (eval (query_bound objects d.query).query) bags)
    (given_rows gives objects moment (ids_read d.query) are)

-- all versions stand for no later moment than a time
all_pass : {X : Type 0} (test : X → Bool) (xs : List X) → AllByRecursion (λ x. test x ≡ true) xs → filter test xs ≡ xs
all_pass test [] are = refl
all_pass test (x ∷ xs) are =
    ap (λ (b : Bool). cond b (x ∷ filter test xs) (filter test xs)) are.0
    ∙ ap (λ (l : List _). x ∷ l) (all_pass test xs are.1)

pub rows_last : (t : Table) (time : ℕ) → AllByRecursion (λ v. v.data_timestamp ≤ time) t.versions
    → rows_at t time ≡ last_rows t
rows_last t time within =
    ap (λ (vs : List Version). (content_in nothing_held (last_of vs)).rows)
    (all_pass (λ v. nat_le v.data_timestamp time) t.versions
    (all_map (λ v. v.data_timestamp ≤ time) (λ v. nat_le v.data_timestamp time ≡ true)
    (λ v h. not_behind v.data_timestamp time h) t.versions within))
  where
    not_behind : (m n : ℕ) → m ≤ n → nat_le m n ≡ true
    not_behind m n h = grind (arith, nat_tests)
