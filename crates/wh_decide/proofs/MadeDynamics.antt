-- New dynamic tables that may be made, and the objects with one.
--     bound_over       what a statement binds to is bound over the objects
--     may_make         one that is bound so, and of which nothing is wrong, may be made
--     made_objects     the machine's objects with it are those that the file will have
--     made_stand       each dynamic table among them stands
use Rattle.std.proofs.Common.{◌≡◌, ℕ, Bool, true, false, IsTrue, List, [], ◌∷◌, ◌++◌, map, Option, Some, None, refl}
use Rattle.std.proofs.Common.{sym, ap, subst, ◌∙◌}
use Rattle.std.proofs.lemmas.Option.{same_Some}
use Rattle.wh_ast.specs.declared.statement.Statement.{Statement}
use Rattle.wh_ast.specs.declared.statement.Statement.TheVariants as st
use Rattle.wh_ast.specs.declared.statement.CreateDynamicTable.{CreateDynamicTable}
use Rattle.wh_ast.specs.declared.statement.RefreshMode.{RefreshMode}
use Rattle.wh_ast.specs.declared.statement.RefreshMode.TheVariants as modes
use Rattle.wh_meaning.specs.Query.{Query}
use Rattle.wh_naming.specs.Select.{BoundQuery, bound_query}
use Rattle.wh_algebra.specs.Increments.{incrementable}
use Rattle.wh_ddl_naming.specs.DynamicTables.{NewDynamicTable, inside, new_dynamic_table}
use Rattle.wh_ddl_naming.specs.Statements.{bound}
use Rattle.wh_state.specs.State.{Object, State, DynamicKind, new_object, empty_table, stamped}
use Rattle.wh_state.specs.Stored.{StoredObject, object_meant}
use Rattle.wh_state.specs.Dynamic.{Kept, Dynamic, new_dynamic}
use Rattle.wh_state.specs.Bound.{query_bound, kept_for}
use Rattle.wh_state.specs.Sound.{Sound, IsKeptAs}
use Rattle.wh_state.proofs.EvaluatedLaws.{Follows, bound_follows, kept_follows}
use Rattle.wh_state.proofs.MeaningLaws.{kept_for_meant}
use Rattle.wh_state.proofs.SoundObjects.{more_follow}
use Rattle.wh_machine.specs.Names.{names_from, names_in}
use Rattle.wh_machine.specs.Dynamics.{seconds_of, is_incremental, mode_refusal, with_dynamic, query_of}
use Rattle.wh_machine.proofs.MadeQuery.{query_same, sources_there}
use Rattle.wh_catalog.specs.Catalog.{stored_of, state_of}
use Rattle.wh_catalog.specs.declared.catalog.Catalog.{Catalog}
use Rattle.wh_refresh.specs.Standing.{IsKeyed, AllStand}
use Rattle.wh_refresh.proofs.StandLaws.{keyed_by, all_stand_with}
use Rattle.wh_txn.proofs.SeenLemmas.{objects_are}
use Rattle.wh_decide.specs.Definitions.{IsBoundOver}
use Rattle.wh_decide.specs.Dynamics.{has_increments, new_dynamic_in, new_stored, IsBoundAs, MayBeMade}
use Rattle.wh_decide.proofs.NewDynamics.{IsWithin}

-- ---- a statement's

new_bound : (objects : List Object) (t : CreateDynamicTable)
    → IsBoundAs objects (new_dynamic_table t (bound_query t.query (map inside (names_from 1 objects)) 0))
new_bound objects t = record {
  reads = sources_there objects t.query;
  query = sym (ap (λ (b : BoundQuery). b.query) (query_same objects t.query t.query_text));
}

pub bound_over : (objects : List Object) (tree : Statement) → IsBoundOver objects (bound (names_in objects) tree).value
unfolding bound
bound_over objects (st.Select q sorts) = tt
bound_over objects (st.HasData stream) = tt
bound_over objects (st.Dml statement) = tt
bound_over objects (st.CreateTable t) = tt
bound_over objects (st.CreateStream name table is_append_only) = tt
bound_over objects (st.DropTable name) = tt
bound_over objects (st.DropStream name) = tt
bound_over objects st.Begin = tt
bound_over objects st.Commit = tt
bound_over objects st.Rollback = tt
bound_over objects (st.CreateTask t) = tt
bound_over objects (st.ResumeTask name) = tt
bound_over objects (st.SuspendTask name) = tt
bound_over objects (st.ExecuteTask name) = tt
bound_over objects (st.DropTask name) = tt
bound_over objects (st.CreateDynamicTable t) = new_bound objects t
bound_over objects (st.ResumeDynamicTable name) = tt
bound_over objects (st.SuspendDynamicTable name) = tt
bound_over objects (st.RefreshDynamicTable name) = tt
bound_over objects (st.SetTargetLag name lag) = tt
bound_over objects (st.DropDynamicTable name) = tt

-- ---- by its refresh mode

-- one that is brought by changes has a query that allows it
mode_allows : (mode : RefreshMode) (can : Bool) → mode_refusal mode can ≡ None → IsTrue (is_incremental mode can)
    → IsTrue can
mode_allows modes.Auto can none is = is
mode_allows modes.Full can none is = absurd cc
mode_allows modes.Incremental true none is = refl
mode_allows modes.Incremental false none is = absurd cc

pub may_make : (s : State) (n : NewDynamicTable) → IsBoundAs s.objects n → IsWithin s n → MayBeMade s.objects n
may_make s n over within = record {
  reads = over.reads;
  mode = λ is. subst (λ (q : Query). IsTrue (incrementable q)) over.query
      (mode_allows n.mode (incrementable n.query) within.mode is);
}

-- ---- the objects with it

kept_meant : (c : Catalog) (n : NewDynamicTable) → kept_for (state_of c).objects (has_increments n) (query_of n)
    ≡ kept_for (stored_of c).objects (has_increments n) (query_of n)
kept_meant c n =
    ap (λ (objects : List Object). kept_for objects (has_increments n) (query_of n)) (objects_are c)
    ∙ kept_for_meant (stored_of c).objects (has_increments n) (query_of n)

pub made_objects : (c : Catalog) (stamp : ℕ) (n : NewDynamicTable)
    → (with_dynamic (stamped (state_of c) stamp) n (query_of n)).objects
    ≡ (state_of c).objects ++ object_meant (new_stored stamp (stored_of c).objects n) ∷ []
made_objects c stamp n = ap (λ (kept : Option Kept). (state_of c).objects ++ new_object n.name
    (DynamicKind (new_dynamic (seconds_of n.lag) (has_increments n) kept (query_of n)) (empty_table n.columns stamp))
    ∷ []) (kept_meant c n)

-- the new one stands for no moment, and keeps groups as its query and its mode ask for
pub made_stand : (c : Catalog) (stamp : ℕ) (n : NewDynamicTable) → Sound (state_of c) → MayBeMade (state_of c).objects n
    → AllStand ((state_of c).objects ++ object_meant (new_stored stamp (stored_of c).objects n) ∷ [])
made_stand c stamp n sound may = all_stand_with s o sound
    (λ d is. ap (λ (e : Dynamic). e.state.moment) (sym (same_Some made d is)))
    (λ d is. subst (IsKeyed objects) (same_Some made d is) (keyed_by objects made mode kept))
  where
    s : State
    s = state_of c

    made : Dynamic
    made = new_dynamic_in (stored_of c).objects n

    o : Object
    o = object_meant (new_stored stamp (stored_of c).objects n)

    objects : List Object
    objects = s.objects ++ o ∷ []

    follow : Follows 0 s.objects objects
    follow = more_follow 0 s.objects o

    mode : IsTrue (has_increments n) → IsTrue (incrementable (query_bound objects (query_of n)).query)
    mode is = subst (λ (b : BoundQuery). IsTrue (incrementable b.query))
        (sym (bound_follows 0 s.objects objects follow (query_of n) may.reads)) (may.mode is)

    kept_as : (kept : Option Kept) → IsKeptAs kept kept
    kept_as None = refl
    kept_as (Some k) = (refl, refl)

    kept : IsKeptAs (kept_for objects (has_increments n) (query_of n)) made.kept
    kept = subst (λ (first : Option Kept). IsKeptAs first made.kept)
        (sym (kept_follows 0 s.objects objects follow (has_increments n) (query_of n) may.reads ∙ kept_meant c n))
        (kept_as made.kept)
