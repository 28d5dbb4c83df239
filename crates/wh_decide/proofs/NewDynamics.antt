-- CREATE DYNAMIC TABLE and new lags: their tests, and their outcomes.
--     upstream_new         the dynamic tables that a new one will read
--     refusal_by           the first test that a new dynamic table fails, from each
--     within_limits        what one that passes all tests keeps
--     defines_dynamic      the outcome of CREATE DYNAMIC TABLE
--     made_written         what is written for it
--     lag_by, within_lag, defines_lag     the same of a new lag
use Rattle.std.proofs.Common.{◌≡◌, ℕ, zero, suc, ◌+◌, ◌-◌, ◌<◌, ◌≤◌, true, List, [], ◌∷◌, ◌++◌, map, length, Option}
use Rattle.std.proofs.Common.{Some, None, option_map, refl, ap, sym, ◌∙◌, arith}
use Rattle.std.proofs.lemmas.List.{length-map}
use Rattle.std.specs.Prelude.{◌&&◌, is_some, unwrap_or, slice_get, nat_lt, if◌then◌else◌}
use Rattle.std.specs.List.{list_any}
use Rattle.std.specs.Option.{option_map_or, option_or}
use Rattle.wh_value.specs.Limit.{bound}
use Rattle.wh_value.specs.declared.limit.Limit.TheVariants as limits
use Rattle.wh_ast.specs.declared.statement.Lag.{Lag}
use Rattle.wh_ast.specs.declared.statement.Lag.TheVariants as lags
use Rattle.wh_algebra.specs.Increments.{incrementable}
use Rattle.wh_ddl_naming.specs.DynamicTables.{NewDynamicTable}
use Rattle.wh_ddl_naming.specs.Tables.{column_names}
use Rattle.wh_reply.specs.Reply.{Refusal, OverLimit, DdlInTransaction, Locked, Altered}
use Rattle.wh_state.specs.State.{Object, State, DynamicKind, new_object, empty_table, live_count, stamped}
use Rattle.wh_state.specs.Dynamic.{DynamicQuery, Kept, ids_read, first_dynamic_state, new_dynamic}
use Rattle.wh_state.specs.Bound.{kept_for}
use Rattle.wh_state.specs.Edits.{is_among}
use Rattle.wh_state.specs.Objects.{name_at}
use Rattle.wh_state.specs.Act.{Act}
use Rattle.wh_state.specs.Stored.{StoredObject}
use Rattle.wh_state.specs.Commit.{CreatesDynamic, changed}
use Rattle.wh_state.specs.Written.{written}
use Rattle.wh_moment.specs.Upstream.{Watched, Dynamics, watched_at, watched_object, dynamics_of, more_read, if_reached}
use Rattle.wh_moment.specs.Upstream.{reached_from, upstream}
use Rattle.wh_machine.specs.Tests.{refused_if, refused_past, first_of}
use Rattle.wh_machine.specs.Sessions.{Sessions, number_in}
use Rattle.wh_machine.specs.Outcome.{Machine, unless}
use Rattle.wh_machine.specs.Definitions.{is_long, count_refusals, holder_of, defines}
use Rattle.wh_machine.specs.Dynamics.{seconds_of, lag_refusals, below_refusal, above_refusal, is_incremental}
use Rattle.wh_machine.specs.Dynamics.{mode_refusal}
use Rattle.wh_machine.specs.Dynamics.{dynamic_made, with_dynamic, new_id, dynamic_refusal, initialized, query_of}
use Rattle.wh_machine.specs.Dynamics.{create_dynamic, lag_refusal, set_lag, alters}
use Rattle.wh_decide.specs.Decision.{machine_at}
use Rattle.wh_decide.specs.Dynamics.{has_increments, stored_with, dynamic_change, new_upstream, new_limit_refusal}
use Rattle.wh_decide.specs.Dynamics.{lag_state}
use Rattle.wh_decide.proofs.NamingLemmas.{alone}
use Rattle.wh_decide.proofs.DefineLemmas.{counts_none, not_past}
use Rattle.wh_decide.proofs.DynamicLemmas.{defines_first}

-- ---- what a new one will read

at_front : {X : Type 0} (xs ys : List X) (place : ℕ) → place < length xs
    → slice_get (xs ++ ys) place ≡ slice_get xs place
at_front [] ys place h = absurd (omega (arith, h))
at_front (x ∷ xs) ys zero h = refl
at_front (x ∷ xs) ys (suc place) h = at_front xs ys place (omega (arith, h))

at_last : {X : Type 0} (xs : List X) (x : X) → slice_get (xs ++ x ∷ []) (length xs) ≡ Some x
at_last [] x = refl
at_last (y ∷ xs) x = at_last xs x

map_more : {X Y : Type 0} (f : X → Y) (xs : List X) (x : X) → map f (xs ++ x ∷ []) ≡ map f xs ++ f x ∷ []
map_more f [] x = refl
map_more f (y ∷ xs) x = ap (λ ys. f y ∷ ys) (map_more f xs x)

reached_front : (all more : Dynamics) (most : ℕ) (ids : List ℕ) → most ≤ length all
    → reached_from (all ++ more) most ids ≡ reached_from all most ids
reached_front all more zero ids h = refl
reached_front all more (suc most) ids h =
    let there : watched_at (all ++ more) (suc most) ≡ watched_at all (suc most) =
    ap (λ (found : Option (Option Watched)). unwrap_or found None) (at_front all more most (omega (arith, h))) in
    ap (λ (found : Option Watched). reached_from (all ++ more) most
    (ids ++ (if is_among (suc most) ids then option_map_or (λ w. w.sources) found [] else []))
    ++ (if is_among (suc most) ids && is_some found then suc most ∷ [] else [])) there
    ∙ ap (λ (others : List ℕ). others ++ if_reached all (suc most) ids)
    (reached_front all more most (ids ++ more_read all (suc most) ids) (omega (arith, h)))

upstream_last : (all : Dynamics) (last : Watched) (count : ℕ) → count ≡ length all
    → upstream (all ++ Some last ∷ []) (suc count) ≡ reached_from all count last.sources
unfolding upstream
upstream_last all last count is =
    let there : watched_at (all ++ Some last ∷ []) (suc count) ≡ Some last =
    ap (λ (found : Option (Option Watched)). unwrap_or found None)
    (ap (slice_get (all ++ Some last ∷ [])) is ∙ at_last all (Some last)) in
    let less : suc count - 1 ≡ count = omega arith in
    ap (λ (found : Option Watched).
    option_map_or (λ w. reached_from (all ++ Some last ∷ []) (suc count - 1) w.sources) found []) there
    ∙ ap (λ (most : ℕ). reached_from (all ++ Some last ∷ []) most last.sources) less
    ∙ reached_front all (Some last ∷ []) count last.sources (omega (arith, is))

pub upstream_new : (s : State) (n : NewDynamicTable) (query : DynamicQuery)
    → upstream (dynamics_of (with_dynamic s n query).objects) (new_id s) ≡ new_upstream s.objects query
upstream_new s n query =
    let kept : Option Kept = kept_for s.objects (has_increments n) query in
    let made : Object = new_object n.name (DynamicKind
    (new_dynamic (seconds_of n.lag) (has_increments n) kept query) (empty_table n.columns s.last)) in
    let last : Watched = record {
      is_live = true;
      created = s.last;
      sources = ids_read query;
      state = first_dynamic_state (seconds_of n.lag);
    } in
    ap (λ (all : Dynamics). upstream all (new_id s)) (map_more watched_object s.objects made)
    ∙ upstream_last (dynamics_of s.objects) last (length s.objects) (sym (length-map s.objects watched_object))

-- ---- CREATE DYNAMIC TABLE: its tests

tests_folded : (m b p q l k w : Option Refusal) (rest : List (Option Refusal))
    → first_of (m ∷ b ∷ first_of (first_of (p ∷ q ∷ []) ∷ l ∷ k ∷ w ∷ first_of rest ∷ []) ∷ [])
    ≡ first_of (None ∷ m ∷ b ∷ p ∷ q ∷ l ∷ k ∷ w ∷ rest)
tests_folded (Some why) b p q l k w rest = refl
tests_folded None (Some why) p q l k w rest = refl
tests_folded None None (Some why) q l k w rest = refl
tests_folded None None None (Some why) l k w rest = refl
tests_folded None None None None (Some why) k w rest = refl
tests_folded None None None None None (Some why) w rest = refl
tests_folded None None None None None None (Some why) rest = refl
tests_folded None None None None None None None rest = alone (first_of (first_of rest ∷ [])) ∙ alone (first_of rest)

abbrev pub new_tests : State → NewDynamicTable → Option Refusal
new_tests s n = first_of (
    mode_refusal n.mode (incrementable n.query)
    ∷ below_refusal s.objects n.name n.lag (new_upstream s.objects (query_of n))
    ∷ new_limit_refusal s n
    ∷ [])

pub refusal_by : (s : State) (n : NewDynamicTable) → new_tests s n ≡ dynamic_refusal s None n (query_of n)
unfolding dynamic_refusal
refusal_by s n =
    ap (λ (ids : List ℕ). first_of (mode_refusal n.mode (incrementable n.query)
    ∷ below_refusal s.objects n.name n.lag ids ∷ new_limit_refusal s n ∷ [])) (sym (upstream_new s n (query_of n)))
    ∙ tests_folded
    (mode_refusal n.mode (incrementable n.query))
    (below_refusal s.objects n.name n.lag (upstream (dynamics_of (with_dynamic s n (query_of n)).objects) (new_id s)))
    (refused_past limits.ObjectIds (length s.objects + 1))
    (refused_past limits.Objects (live_count s.objects + 1 - 0))
    (refused_if (list_any is_long (n.name ∷ column_names n.columns)) (OverLimit limits.Name))
    (refused_past limits.Columns (length n.columns))
    (refused_if n.is_wide (OverLimit limits.Output))
    (lag_refusals n.lag)

refusal_stamped : (s : State) (stamp : ℕ) (n : NewDynamicTable)
    → dynamic_refusal (stamped s stamp) None n (query_of n) ≡ dynamic_refusal s None n (query_of n)
refusal_stamped s stamp n = sym (refusal_by (stamped s stamp) n) ∙ refusal_by s n

-- ---- what passes

parts_none : (m b c l k w t : Option Refusal)
    → first_of (m ∷ b ∷ first_of (c ∷ l ∷ k ∷ w ∷ t ∷ []) ∷ []) ≡ None
    → (m ≡ None) × ((c ≡ None) × ((k ≡ None) × (t ≡ None)))
parts_none (Some why) b c l k w t is = absurd cc
parts_none None (Some why) c l k w t is = absurd cc
parts_none None None (Some why) l k w t is = absurd cc
parts_none None None None (Some why) k w t is = absurd cc
parts_none None None None None (Some why) w t is = absurd cc
parts_none None None None None None (Some why) t is = absurd cc
parts_none None None None None None None (Some why) is = absurd cc
parts_none None None None None None None None is = (refl, (refl, (refl, refl)))

second_none : (p q : Option Refusal) → first_of (p ∷ q ∷ []) ≡ None → q ≡ None
second_none None None is = refl
second_none None (Some why) is = absurd cc
second_none (Some why) q is = absurd cc

pub within_lag : (lag : Lag) → first_of (lag_refusals lag) ≡ None → seconds_of lag ≤ bound limits.MostTargetLag
within_lag lags.Downstream none = omega arith
within_lag (lags.Seconds n) none = not_past limits.MostTargetLag n (second_none
    (refused_if (nat_lt n (bound limits.LeastTargetLag)) (OverLimit limits.LeastTargetLag))
    (refused_past limits.MostTargetLag n) none)

pub record IsWithin (s : State) (n : NewDynamicTable) : Type 0 where
  pub mode : mode_refusal n.mode (incrementable n.query) ≡ None
  pub room : length s.objects + 1 ≤ bound limits.ObjectIds
  pub columns : length n.columns ≤ bound limits.Columns
  pub lag : seconds_of n.lag ≤ bound limits.MostTargetLag

pub within_limits : (s : State) (n : NewDynamicTable) → dynamic_refusal s None n (query_of n) ≡ None → IsWithin s n
within_limits s n none =
    let parts = parts_none
    (mode_refusal n.mode (incrementable n.query))
    (below_refusal s.objects n.name n.lag (new_upstream s.objects (query_of n)))
    (first_of (count_refusals s 0))
    (refused_if (list_any is_long (n.name ∷ column_names n.columns)) (OverLimit limits.Name))
    (refused_past limits.Columns (length n.columns))
    (refused_if n.is_wide (OverLimit limits.Output))
    (first_of (lag_refusals n.lag))
    (refusal_by s n ∙ none) in
    let counts = counts_none
    (refused_past limits.ObjectIds (length s.objects + 1))
    (refused_past limits.Objects (live_count s.objects + 1 - 0)) [] parts.1.0 in
    record {
      mode = parts.0;
      room = not_past limits.ObjectIds (length s.objects + 1) counts.0;
      columns = not_past limits.Columns (length n.columns) parts.1.1.0;
      lag = within_lag n.lag parts.1.1.1;
    }

-- ---- its outcome

create_is : (m : Machine) (n : NewDynamicTable) (wrong : Option Refusal)
    → dynamic_refusal m.state None n (query_of n) ≡ wrong
    → create_dynamic m None n ≡ unless wrong (initialized m n (query_of n) n.initialize)
unfolding create_dynamic
create_is m n wrong is =
    ap (λ (found : Option Refusal). unless found (initialized m n (query_of n) n.initialize)) is

pub defines_dynamic : (s : State) (stamp : ℕ) (sessions : Sessions) (session : ℕ) (n : NewDynamicTable)
    (wrong found : Option Refusal) → wrong ≡ dynamic_refusal s None n (query_of n)
    → found ≡ first_of (option_map DdlInTransaction (number_in sessions session) ∷ wrong
    ∷ option_map Locked (holder_of sessions None) ∷ [])
    → defines (machine_at (stamped s stamp) sessions) session None
    (create_dynamic (machine_at (stamped s stamp) sessions) None n)
    ≡ unless found (initialized (machine_at (stamped s stamp) sessions) n (query_of n) n.initialize)
defines_dynamic s stamp sessions session n wrong found test is =
    ap (defines (machine_at (stamped s stamp) sessions) session None)
    (create_is (machine_at (stamped s stamp) sessions) n wrong (refusal_stamped s stamp n ∙ sym test))
    ∙ defines_first (machine_at (stamped s stamp) sessions) session wrong found
    (initialized (machine_at (stamped s stamp) sessions) n (query_of n) n.initialize) is

pub made_written : (stamp : ℕ) (objects : List StoredObject) (n : NewDynamicTable) (acts : List Act)
    → CreatesDynamic (dynamic_change (length objects) n) ∷ written stamp (stored_with stamp objects n) acts
    ≡ written stamp objects (dynamic_made n (query_of n) ++ acts)
unfolding changed
made_written stamp objects n acts = refl

-- ---- a new lag

lag_folded : (b a : Option Refusal) (rest : List (Option Refusal))
    → first_of (b ∷ a ∷ first_of rest ∷ []) ≡ first_of (None ∷ b ∷ a ∷ rest)
lag_folded (Some why) a rest = refl
lag_folded None (Some why) rest = refl
lag_folded None None rest = alone (first_of rest)

abbrev pub lag_tests : State → ℕ → Lag → Option Refusal
lag_tests s id lag = first_of (
    below_refusal s.objects (name_at s.objects id) lag (upstream (dynamics_of s.objects) id)
    ∷ above_refusal s.objects id lag
    ∷ first_of (lag_refusals lag)
    ∷ [])

pub lag_by : (s : State) (id : ℕ) (lag : Lag) → lag_tests s id lag ≡ lag_refusal s None id lag
unfolding lag_refusal
lag_by s id lag =
    lag_folded (below_refusal s.objects (name_at s.objects id) lag (upstream (dynamics_of s.objects) id))
    (above_refusal s.objects id lag) (lag_refusals lag)

third_none : (b a t : Option Refusal) → first_of (b ∷ a ∷ t ∷ []) ≡ None → t ≡ None
third_none (Some why) a t is = absurd cc
third_none None (Some why) t is = absurd cc
third_none None None (Some why) is = absurd cc
third_none None None None is = refl

pub within_new_lag : (s : State) (id : ℕ) (lag : Lag) → lag_refusal s None id lag ≡ None
    → seconds_of lag ≤ bound limits.MostTargetLag
within_new_lag s id lag none = within_lag lag (third_none
    (below_refusal s.objects (name_at s.objects id) lag (upstream (dynamics_of s.objects) id))
    (above_refusal s.objects id lag) (first_of (lag_refusals lag)) (lag_by s id lag ∙ none))

pub lag_stamped : (s : State) (stamp id : ℕ) (lag : Lag)
    → lag_refusal (stamped s stamp) None id lag ≡ lag_refusal s None id lag
unfolding lag_refusal
lag_stamped s stamp id lag = refl

pub first_five : {R : Type 0} (f : R → Refusal) (a b c d e : Option R)
    → option_map f (option_or (option_or (option_or (option_or a b) c) d) e)
    ≡ first_of (option_map f a ∷ option_map f b ∷ option_map f c ∷ option_map f d ∷ option_map f e ∷ [])
first_five f (Some x) b c d e = refl
first_five f None (Some x) c d e = refl
first_five f None None (Some x) d e = refl
first_five f None None None (Some x) e = refl
first_five f None None None None (Some x) = refl
first_five f None None None None None = refl

lag_is : (m : Machine) (id : ℕ) (lag : Lag) (wrong : Option Refusal) → lag_refusal m.state None id lag ≡ wrong
    → set_lag m None id lag ≡ unless wrong (alters m (Altered (name_at m.state.objects id)) id (lag_state lag))
unfolding set_lag
lag_is m id lag wrong is =
    ap (λ (found : Option Refusal). unless found (alters m (Altered (name_at m.state.objects id)) id (lag_state lag)))
    is

pub defines_lag : (s : State) (stamp : ℕ) (sessions : Sessions) (session id : ℕ) (lag : Lag)
    (wrong found : Option Refusal) → wrong ≡ lag_refusal s None id lag
    → found ≡ first_of (option_map DdlInTransaction (number_in sessions session) ∷ wrong
    ∷ option_map Locked (holder_of sessions None) ∷ [])
    → defines (machine_at (stamped s stamp) sessions) session None
    (set_lag (machine_at (stamped s stamp) sessions) None id lag)
    ≡ unless found (alters (machine_at (stamped s stamp) sessions) (Altered (name_at s.objects id)) id (lag_state lag))
defines_lag s stamp sessions session id lag wrong found test is =
    ap (defines (machine_at (stamped s stamp) sessions) session None)
    (lag_is (machine_at (stamped s stamp) sessions) id lag wrong (lag_stamped s stamp id lag ∙ sym test))
    ∙ defines_first (machine_at (stamped s stamp) sessions) session wrong found
    (alters (machine_at (stamped s stamp) sessions) (Altered (name_at s.objects id)) id (lag_state lag)) is
