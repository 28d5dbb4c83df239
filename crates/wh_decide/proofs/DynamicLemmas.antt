-- Dynamic tables of a catalog, and the outcomes of statements on them.
--     dynamic_there, live_there, dynamics_are     of a catalog's state, as its commits say
--     ids_same                    the ids of a list hang on its length alone
--     defines_first, defines_found     a statement that makes or alters, by its first failing test
--     puts_as                     what is written for a dynamic table of another state
use Rattle.std.proofs.Common.{◌≡◌, ℕ, suc, Bool, true, false, List, [], ◌∷◌, map, Option, Some, None, option_map, refl}
use Rattle.std.proofs.Common.{sym, ap, ◌∙◌}
use Rattle.std.specs.Prelude.{if◌then◌else◌}
use Rattle.std.specs.Option.{option_and_then, option_map_or}
use Rattle.wh_reply.specs.Reply.{Refusal, DdlInTransaction, Locked}
use Rattle.wh_state.specs.State.{Object, TableKind, StreamKind, TaskKind, DynamicKind, dynamic_in, at_id}
use Rattle.wh_state.specs.Objects.{as_dynamic, dynamic_at, is_live_at}
use Rattle.wh_state.specs.Dynamic.{DynamicState, Dynamic}
use Rattle.wh_state.specs.Act.{PutsDynamic}
use Rattle.wh_state.specs.Commit.{SetsDynamic}
use Rattle.wh_state.specs.Stored.{StoredKind, StoredObject, kind_meant, object_meant}
use Rattle.wh_state.specs.Written.{written}
use Rattle.wh_state.proofs.MeaningLaws.{at_id_meant}
use Rattle.wh_moment.specs.Upstream.{watched, watched_object, dynamics_of}
use Rattle.wh_moment.specs.Moment.{ids_from}
use Rattle.wh_machine.specs.Tests.{first_of}
use Rattle.wh_machine.specs.Sessions.{number_in}
use Rattle.wh_machine.specs.Outcome.{Machine, Outcome, Refuses, Does, unless, last_test}
use Rattle.wh_machine.specs.Definitions.{holder_of, defines}
use Rattle.wh_machine.specs.Dynamics.{is_same_dynamic_state, puts_dynamic}
use Rattle.wh_catalog.specs.Catalog.{stored_of, state_of}
use Rattle.wh_catalog.specs.declared.catalog.Catalog.{Catalog}
use Rattle.wh_decide.specs.Dynamics.{put_written_to}
use Rattle.wh_decide.proofs.CatalogLemmas.{object_there}

-- ---- of a catalog's state

same_objects : (c : Catalog) → (state_of c).objects ≡ map object_meant (stored_of c).objects
unfolding state_of
same_objects c = refl

dynamic_meant : (objects : List StoredObject) (id : ℕ)
    → dynamic_at (map object_meant objects) id ≡ dynamic_at objects id
dynamic_meant objects id = ap (option_and_then as_dynamic) (at_id_meant objects id) ∙ through (at_id objects id)
  where
    by_kind : (k : StoredKind) → dynamic_in (kind_meant k) ≡ dynamic_in k
    by_kind (TableKind t) = refl
    by_kind (StreamKind s) = refl
    by_kind (TaskKind t) = refl
    by_kind (DynamicKind d t) = refl

    through : (found : Option StoredObject)
        → option_and_then as_dynamic (option_map object_meant found) ≡ option_and_then as_dynamic found
    through None = refl
    through (Some o) = by_kind o.kind

pub dynamic_there : (c : Catalog) (id : ℕ) → dynamic_at (stored_of c).objects id ≡ dynamic_at (state_of c).objects id
dynamic_there c id =
    sym (ap (λ (objects : List Object). dynamic_at objects id) (same_objects c)
    ∙ dynamic_meant (stored_of c).objects id)

pub live_there : (c : Catalog) (id : ℕ)
    → is_live_at (state_of c).objects id ≡ option_map_or (λ o. o.is_live) (at_id (stored_of c).objects id) false
live_there c id =
    ap (λ (found : Option Object). option_map_or (λ o. o.is_live) found false) (object_there c id)
    ∙ through (at_id (stored_of c).objects id)
  where
    through : (found : Option StoredObject)
        → option_map_or (λ (o : Object). o.is_live) (option_map object_meant found) false
        ≡ option_map_or (λ (o : StoredObject). o.is_live) found false
    through None = refl
    through (Some o) = refl

watched_meant : (o : StoredObject) → watched_object (object_meant o) ≡ watched_object o
watched_meant o = by_kind o.kind
  where
    by_kind : (k : StoredKind) → watched o.is_live (kind_meant k) ≡ watched o.is_live k
    by_kind (TableKind t) = refl
    by_kind (StreamKind s) = refl
    by_kind (TaskKind t) = refl
    by_kind (DynamicKind d t) = refl

all_meant : (objects : List StoredObject) → dynamics_of (map object_meant objects) ≡ dynamics_of objects
all_meant [] = refl
all_meant (o ∷ os) = λ i. watched_meant o i ∷ all_meant os i

pub dynamics_are : (c : Catalog) → dynamics_of (stored_of c).objects ≡ dynamics_of (state_of c).objects
dynamics_are c = sym (ap (λ (objects : List Object). dynamics_of objects) (same_objects c)
    ∙ all_meant (stored_of c).objects)

pub ids_same : {X Y : Type 0} (f : X → Y) (id : ℕ) (xs : List X) → ids_from id (map f xs) ≡ ids_from id xs
ids_same f id [] = refl
ids_same f id (x ∷ xs) = ap (λ (ids : List ℕ). id ∷ ids) (ids_same f (suc id) xs)

-- ---- a statement by its first failing test

tests_around : (first wrong : Option Refusal) (outcome : Outcome)
    → unless first (last_test None (unless wrong outcome)) ≡ unless (first_of (first ∷ wrong ∷ None ∷ [])) outcome
tests_around (Some why) wrong outcome = refl
tests_around None (Some why) outcome = refl
tests_around None None (Refuses why) = refl
tests_around None None (Does reply sessions acts) = refl

pub defines_first : (m : Machine) (session : ℕ) (wrong found : Option Refusal) (outcome : Outcome)
    → found ≡ first_of (option_map DdlInTransaction (number_in m.sessions session) ∷ wrong
    ∷ option_map Locked (holder_of m.sessions None) ∷ [])
    → defines m session None (unless wrong outcome) ≡ unless found outcome
unfolding defines
defines_first m session wrong found outcome is =
    tests_around (option_map DdlInTransaction (number_in m.sessions session)) wrong outcome
    ∙ ap (λ (why : Option Refusal). unless why outcome) (sym is)

first_alone : (first : Option Refusal) → first ≡ first_of (first ∷ None ∷ None ∷ [])
first_alone None = refl
first_alone (Some why) = refl

pub defines_found : (m : Machine) (session : ℕ) (found : Option Refusal) (outcome : Outcome)
    → found ≡ option_map DdlInTransaction (number_in m.sessions session)
    → defines m session None outcome ≡ unless found outcome
defines_found m session found outcome is = defines_first m session None found outcome (is
    ∙ first_alone (option_map DdlInTransaction (number_in m.sessions session)))

-- ---- a dynamic table of another state

written_as : (stamp : ℕ) (objects : List StoredObject) (id : ℕ) (new : DynamicState → DynamicState)
    (found : Option Dynamic) → put_written_to id new found ≡ written stamp objects (puts_dynamic id new found)
written_as stamp objects id new None = refl
written_as stamp objects id new (Some d) = by_same (is_same_dynamic_state d.state (new d.state))
  where
    by_same : (same : Bool) → (if same then [] else SetsDynamic id (new d.state) ∷ [])
        ≡ written stamp objects (if same then [] else PutsDynamic id (new d.state) ∷ [])
    by_same true = refl
    by_same false = refl

pub puts_as : (c : Catalog) (stamp id : ℕ) (new : DynamicState → DynamicState)
    → put_written_to id new (dynamic_at (stored_of c).objects id)
    ≡ written stamp (stored_of c).objects (puts_dynamic id new (dynamic_at (state_of c).objects id))
puts_as c stamp id new =
    ap (put_written_to id new) (dynamic_there c id)
    ∙ written_as stamp (stored_of c).objects id new (dynamic_at (state_of c).objects id)
