-- CREATE DYNAMIC TABLE applies.
--     IsFilledDynamic         its name and those of its query are not empty, and its query stands in a text
--     dynamic_applies         the new table
--     works_create_dynamic    it is made, and brought to its first moment where it is asked for
use Rattle.std.proofs.Common.{◌≡◌, ℕ, suc, ◌+◌, ◌-◌, ◌<◌, ◌≤◌, true, false, List, [], ◌∷◌, ◌++◌, length, map}
use Rattle.std.proofs.Common.{Option, Some, None, option_map, refl, sym, ap, subst, ◌∙◌, arith}
use Rattle.std.specs.Prelude.{slice_get}
use Rattle.std.specs.List.{AllByRecursion, list_any}
use Rattle.std.specs.Option.{option_map_or}
use Rattle.wh_value.specs.Limit.{bound}
use Rattle.wh_value.specs.declared.limit.Limit.TheVariants as limits
use Rattle.wh_ast.specs.declared.statement.CreateDynamicTable.{CreateDynamicTable}
use Rattle.wh_ast.specs.declared.statement.Initialize.{Initialize}
use Rattle.wh_ast.specs.declared.statement.Initialize.TheVariants as starts
use Rattle.wh_grammar.specs.Token.{Token}
use Rattle.wh_grammar.specs.Query.{IsQuery}
use Rattle.wh_grammar.specs.Spelled.{most_nested}
use Rattle.wh_algebra.specs.Increments.{incrementable}
use Rattle.wh_naming.specs.Findings as naming
use Rattle.wh_naming.specs.Findings.{Name}
use Rattle.wh_naming.specs.Scope.{Named, is_source}
use Rattle.wh_naming.specs.Select.{BoundQuery, bound_query, column_of}
use Rattle.wh_ddl_naming.specs.Meant.{Meant, first_failing}
use Rattle.wh_ddl_naming.specs.Tables.{column_names}
use Rattle.wh_ddl_naming.specs.DynamicTables.{NewDynamicTable, bound_dynamic_table}
use Rattle.wh_reply.specs.Reply.{Refusal, OverLimit, CreatedDynamicTable}
use Rattle.wh_state.specs.State.{TableKind, StreamKind, TaskKind, DynamicKind, State, Object, at_id, live_count}
use Rattle.wh_state.specs.State.{columns_in}
use Rattle.wh_state.specs.Dynamic.{DynamicQuery}
use Rattle.wh_state.specs.Objects.{is_live_at}
use Rattle.wh_state.specs.Bound.{source_kind, Binds}
use Rattle.wh_state.specs.Act.{Act, all_acted}
use Rattle.wh_state.specs.Stored.{StoredKind, StoredObject, Stored, object_meant}
use Rattle.wh_state.specs.Commit.{IsLag, DynamicApplies, changed, all_changed}
use Rattle.wh_state.specs.Written.{written}
use Rattle.wh_state.proofs.AllLaws.{all_append, all_more, all_at}
use Rattle.wh_state.proofs.MeaningLaws.{at_id_meant, length_meant}
use Rattle.wh_state.proofs.DynamicFirm.{AreFilled, KindHasColumns, HasColumns}
use Rattle.wh_state.proofs.FirmLaws.{HasNot}
use Rattle.wh_state.proofs.WrittenLaws.{AllGo, ChangeSpares, go_firm}
use Rattle.wh_state.proofs.EndLaws.{written_append, go_behind}
use Rattle.wh_state.proofs.BroughtGoes.{made_means}
use Rattle.wh_machine.specs.Tests.{refused_if, refused_past}
use Rattle.wh_machine.specs.Names.{names_in, refusal_of}
use Rattle.wh_machine.specs.Outcome.{Machine}
use Rattle.wh_machine.specs.Definitions.{is_long, defines}
use Rattle.wh_machine.specs.Refresh.{Refreshing, Fails, Brings, with_upstream}
use Rattle.wh_machine.specs.Dynamics.{seconds_of, is_incremental, mode_refusal, below_refusal, dynamic_made}
use Rattle.wh_machine.specs.Dynamics.{with_dynamic}
use Rattle.wh_machine.specs.Dynamics.{new_id, dynamic_refusal, first_suspended, asked_refresh, made_with, initialized}
use Rattle.wh_machine.specs.Dynamics.{query_of, create_dynamic}
use Rattle.wh_moment.specs.Upstream.{dynamics_of, upstream}
use Rattle.wh_machine.proofs.NamedLaws.{free_of_all}
use Rattle.wh_machine.proofs.WorksLaws.{IsReached, objects_meant, Works, works_refuses, works_unless, works_made}
use Rattle.wh_machine.proofs.PassedLaws.{passed, none_if, within, neither, short_name, nothing_wrong, free_taken}
use Rattle.wh_machine.proofs.DefineLaws.{live_is, works_defines, columns_named}
use Rattle.wh_machine.proofs.RefreshLaws.{AreOfRefresh, refresh_acts}
use Rattle.wh_machine.proofs.GroupsBrought.{first_groups}
use Rattle.wh_machine.proofs.RefreshGoes.{AreStanding, KindStands, refresh_goes}
use Rattle.wh_machine.proofs.DynamicWorks.{lag_is, refresh_spares, standing_of}
use Rattle.wh_machine.proofs.DynamicNames.{all_inside, IsSeenBy, seen_by, right_kept, new_binds}
use Rattle.wh_machine.proofs.TokensFilled.{AllFilled}
use Rattle.wh_machine.proofs.OutputLaws.{columns_filled}
use Rattle.wh_machine.proofs.QueryOutputs.{SourcesFilled, query_filled}

-- ---- what is asked of the statement

pub record IsFilledDynamic (t : CreateDynamicTable) : Type 0 where
  pub name : 0 < length t.name
  pub tokens : List Token
  pub behind : List Token
  pub query : IsQuery most_nested tokens t.query behind
  pub filled : AllFilled tokens

-- ---- its tests

record PassesDynamic (s : State) (n : NewDynamicTable) : Type 0 where
  few : live_count s.objects + 1 - 0 ≤ bound limits.Objects
  name : length n.name ≤ bound limits.Name
  columns : list_any is_long (column_names n.columns) ≡ false
  few_columns : length n.columns ≤ bound limits.Columns
  narrow : n.is_wide ≡ false
  lag : IsLag (seconds_of n.lag)

passes_dynamic : (s : State) (wrong : Option Refusal) (n : NewDynamicTable) (query : DynamicQuery)
    → dynamic_refusal s wrong n query ≡ None → (wrong ≡ None) × PassesDynamic s n
unfolding dynamic_refusal
passes_dynamic s wrong n query none =
    let names = passed wrong _ none in
    let mode = passed (mode_refusal n.mode (incrementable n.query)) _ names.1 in
    let lags = passed (below_refusal s.objects n.name n.lag
    (upstream (dynamics_of (with_dynamic s n query).objects) (new_id s))) _ mode.1 in
    let ids = passed (refused_past limits.ObjectIds (length s.objects + 1)) _ lags.1 in
    let live = passed (refused_past limits.Objects (live_count s.objects + 1 - 0)) _ ids.1 in
    let long = passed (refused_if (list_any is_long (n.name ∷ column_names n.columns))
    (OverLimit limits.Name)) _ live.1 in
    let short = neither (is_long n.name) (list_any is_long (column_names n.columns))
    (none_if (list_any is_long (n.name ∷ column_names n.columns)) (OverLimit limits.Name) long.0) in
    let columns = passed (refused_past limits.Columns (length n.columns)) _ long.1 in
    let wide = passed (refused_if n.is_wide (OverLimit limits.Output)) _ columns.1 in (
      names.0,
      record {
        few = within limits.Objects (live_count s.objects + 1 - 0) live.0;
        name = short_name n.name short.0;
        columns = short.1;
        few_columns = within limits.Columns (length n.columns) columns.0;
        narrow = none_if n.is_wide (OverLimit limits.Output) wide.0;
        lag = lag_is n.lag wide.1;
      },
    )

dynamic_applies : (objects : List StoredObject) (s : State) (n : NewDynamicTable) (query : DynamicQuery)
    → PassesDynamic s n → 0 < length n.name → AreFilled n.columns → live_count objects < bound limits.Objects
    → AllByRecursion (HasNot n.name) objects → Binds objects query n.columns
    → DynamicApplies objects (record {
      id = length objects + 1;
      name = n.name;
      lag = seconds_of n.lag;
      is_incremental = is_incremental n.mode (incrementable n.query);
      query = query;
      columns = n.columns;
    })
dynamic_applies objects s n query passes some filled few free binds = record {
  object = record {
    next_id = refl;
    few = few;
    free = free_of_all n.name objects free;
    name = (some, passes.name);
  };
  lag = passes.lag;
  some_column = filled.some;
  few_columns = passes.few_columns;
  column_names = columns_named n.columns passes.columns filled.names;
  query = binds;
}

-- ---- its query

-- what may be read has columns
sources_filled : (objects : List StoredObject) → AllByRecursion HasColumns objects → SourcesFilled (all_inside objects)
sources_filled objects columns name found is readable =
    let seen : IsSeenBy objects name found = seen_by objects name found is in
    subst (λ (n : Named). AreFilled n.columns) (sym seen.is)
    (by_kind seen.object.kind (sym (ap (λ (n : Named). is_source n.kind) seen.is) ∙ readable)
    (all_at HasColumns objects found.id seen.object columns seen.there))
  where
    by_kind : (k : StoredKind) → is_source (source_kind k) ≡ true → KindHasColumns k → AreFilled (columns_in k)
    by_kind (TableKind t) is h = h
    by_kind (StreamKind s) is h = absurd cc
    by_kind (TaskKind t) is h = absurd cc
    by_kind (DynamicKind d t) is h = h

-- of the statement, over the objects that are meant
module _ (objects : List StoredObject) (columns : AllByRecursion HasColumns objects) (t : CreateDynamicTable)
    (filled : IsFilledDynamic t) where
  abbrev bound_over : List Object → Meant NewDynamicTable
  bound_over objs = bound_dynamic_table (names_in objs) t

  abbrev BindsOver : List Object → Type 0
  BindsOver objs = naming.first_failing (bound_over objs).findings ≡ None → (bound_over objs).value.is_wide ≡ false
      → Binds objects (query_of (bound_over objs).value) (bound_over objs).value.columns
      × AreFilled (bound_over objs).value.columns

  binds_here : BindsOver (map object_meant objects)
  binds_here none narrow =
      let q : BoundQuery = bound_query t.query (all_inside objects) 0 in
      let right = right_kept (column_names (map column_of q.outputs)) q.findings none in (
        new_binds objects t.query t.query_text (column_names (map column_of q.outputs)) none narrow,
        columns_filled q.outputs (query_filled (all_inside objects)
            (sources_filled objects columns) t.query filled.query
            filled.filled 0 (right.0.0.0, (right.0.0.1, right.0.1))),
      )

  binds_over : (objs : List Object) → objs ≡ map object_meant objects → BindsOver objs
  binds_over objs same = subst BindsOver (sym same) binds_here

-- ---- the statement

at_last : {X : Type 0} (xs : List X) (x : X) → at_id (xs ++ x ∷ []) (suc (length xs)) ≡ Some x
at_last xs x = behind xs
  where
    behind : (xs : List _) → slice_get (xs ++ x ∷ []) (length xs) ≡ Some x
    behind [] = refl
    behind (y ∷ ys) = behind ys

module _ (s : Stored) (m : Machine) (reached : IsReached s m) (n : NewDynamicTable) (query : DynamicQuery)
    (goes : AllGo m.state.last s.objects (written m.state.last s.objects (dynamic_made n query))) where
  abbrev new : List StoredObject
  new = all_changed m.state.last s.objects (written m.state.last s.objects (dynamic_made n query))

  made_objects : (with_dynamic m.state n query).objects ≡ map object_meant new
  made_objects =
      ap (λ (objects : List Object). all_acted m.state.last objects (dynamic_made n query)) (objects_meant s m reached)
      ∙ sym (made_means m.state.last s.objects n.name (seconds_of n.lag)
      (is_incremental n.mode (incrementable n.query)) query n.columns reached.firm)

  made_standing : AreStanding new
  unfolding changed
  made_standing = all_more (λ o. KindStands o.kind) s.objects _ (standing_of s m reached)
      (tt, (tt, first_groups s.objects (is_incremental n.mode (incrementable n.query)) query))

  made_lives : is_live_at (map object_meant new) (new_id m.state) ≡ true
  unfolding changed
  made_lives =
      let count : length m.state.objects ≡ length s.objects =
      ap (λ (objects : List Object). length objects) (objects_meant s m reached) ∙ length_meant s.objects in
      ap (λ (k : ℕ). is_live_at (map object_meant new) (suc k)) count
      ∙ ap (λ (found : Option Object). option_map_or (λ o. o.is_live) found false)
      (at_id_meant new (suc (length s.objects)) ∙ ap (option_map object_meant) (at_last s.objects _))

  made_spares : (id : ℕ) (acts : List Act) → AllByRecursion (ChangeSpares id) (written m.state.last new acts)
      → AllByRecursion (ChangeSpares id) (written m.state.last s.objects (dynamic_made n query ++ acts))
  made_spares id acts spares =
      subst (AllByRecursion (ChangeSpares id))
      (sym (written_append m.state.last s.objects (dynamic_made n query) acts))
      (all_append (ChangeSpares id) (written m.state.last s.objects (dynamic_made n query))
      (written m.state.last new acts) (tt, tt) spares)

  -- and is brought to the event's stamp, where it is asked for
  works_initialized : (start : Initialize) → Works s m (initialized m n query start)
  works_initialized starts.OnSchedule =
      works_made s m (CreatedDynamicTable n.name []) (dynamic_made n query) reached (λ id. (tt, tt)) goes
  works_initialized starts.OnCreate = by_refresh (asked_refresh (with_dynamic m.state n query) (new_id m.state)) refl
    where
      later : State
      later = with_dynamic m.state n query

      besides : Option Refusal
      besides = first_suspended later.objects (with_upstream later.objects (new_id m.state))

      by_refresh : (r : Refreshing) → asked_refresh later (new_id m.state) ≡ r → Works s m (made_with m n query r)
      by_refresh (Fails why) r_is = works_refuses s m why reached
      by_refresh (Brings lines acts) r_is =
          works_made s m (CreatedDynamicTable n.name lines) (dynamic_made n query ++ acts) reached
          (λ id. made_spares id acts (refresh_spares id m.state.last new acts
          (subst (AreOfRefresh later) r_is (refresh_acts later besides (new_id m.state) later.last)).are))
          (go_behind m.state.last s.objects (dynamic_made n query) acts goes
          (refresh_goes new later made_objects
          (go_firm m.state.last s.objects (written m.state.last s.objects (dynamic_made n query)) goes reached.firm)
          made_standing besides (new_id m.state) later.last made_lives lines acts r_is))

pub works_create_dynamic : (s : Stored) (m : Machine) (session : ℕ) (t : CreateDynamicTable) → IsReached s m
    → IsFilledDynamic t
    → Works s m (defines m session None (create_dynamic m
    (option_map refusal_of (first_failing (bound_dynamic_table (names_in m.state.objects) t)))
    (bound_dynamic_table (names_in m.state.objects) t).value))
unfolding create_dynamic
works_create_dynamic s m session t reached filled =
    let b : Meant NewDynamicTable = bound_dynamic_table (names_in m.state.objects) t in
    let n : NewDynamicTable = b.value in
    works_defines s m session None _ reached (λ outside.
    works_unless s m (dynamic_refusal m.state (option_map refusal_of (first_failing b)) n (query_of n)) _ reached
    (λ none.
    let tests = passes_dynamic m.state (option_map refusal_of (first_failing b)) n (query_of n) none in
    let found = nothing_wrong b tests.0 in
    let binds = binds_over s.objects reached.firm.columns t filled m.state.objects (objects_meant s m reached) found.1
    tests.1.narrow in
    works_initialized s m reached n (query_of n) (record {
      applies = (
        dynamic_applies s.objects m.state n (query_of n) tests.1 filled.name binds.1
            (omega (arith, tests.1.few, live_is s m reached)) (free_taken s m t.name reached found.0) binds.0,
        tt,
      );
      rises = (record { tokens = filled.tokens; behind = filled.behind; is = filled.query }, tt);
      follows = (refl, refl);
    }) n.initialize))
