-- The target of a change that nothing is found wrong with.
--     IsObjectAt, object_of     the live object of a name
--     table_changed             what a change does is done to a table
use Rattle.std.proofs.Common.{◌≡◌, ℕ, suc, ◌+◌, Bool, true, false, cond, List, [], ◌∷◌, ◌++◌, Option, Some, None}
use Rattle.std.proofs.Common.{IsTrue}
use Rattle.std.proofs.Common.{option_map, refl, sym, ap, subst, ◌∙◌, arith}
use Rattle.std.specs.Prelude.{not, bytes_eq, slice_get}
use Rattle.std.specs.Option.{IsSomeAnd}
use Rattle.wh_ast.specs.declared.dml.Dml.{Dml}
use Rattle.wh_ast.specs.declared.dml.Dml.TheVariants as dml
use Rattle.wh_ast.specs.declared.dml.Rows.TheVariants as rows
use Rattle.wh_naming.specs.Findings as naming
use Rattle.wh_naming.specs.Findings.{Name}
use Rattle.wh_naming.specs.Scope.{Named, named}
use Rattle.wh_naming.specs.Changes as changes
use Rattle.wh_naming.specs.Changes.{Target, target_of, target_at, BoundChange, Modification, bound_change}
use Rattle.wh_reply.specs.Reply.{Refusal}
use Rattle.wh_effect.specs.Effect as effects
use Rattle.wh_state.specs.State.{Kind, TableKind, StreamKind, TaskKind, DynamicKind, Object, Table, at_id}
use Rattle.wh_state.specs.Objects.{is_table, table_at}
use Rattle.wh_machine.specs.Names.{object_kind, named_object, names_from, naming_refusal, refusal_of}
use Rattle.wh_machine.specs.Changes.{Changed, Fails, Gives, given, given_on, fails_or}
use Rattle.wh_machine.specs.Reading.{objects_seen, instance_read}
use Rattle.wh_machine.specs.Outcome.{Machine}
use Rattle.wh_machine.specs.Statements.{streams_read, change_refusal, bound_changed}
use Rattle.wh_machine.specs.Sound.{IsTableAt}
use Rattle.wh_machine.proofs.PassedLaws.{passed, no_map, both_none, no_name, NothingFails, nothing_fails}

-- ---- the object of a name

pub record IsObjectAt (from : ℕ) (objects : List Object) (name : List ℕ) (found : Named) : Type 0 where
  pub place : ℕ
  pub object : Object
  pub there : slice_get objects place ≡ Some object
  pub is : found ≡ named_object (from + place) object
  pub live : object.is_live ≡ true
  pub same : bytes_eq object.name name ≡ true

pub object_of : (from : ℕ) (objects : List Object) (name : List ℕ) (found : Named)
    → named (names_from from objects) name ≡ Some found → IsObjectAt from objects name found
object_of from [] name found is = absurd cc
object_of from (o ∷ os) name found is = by_live o.is_live refl is (object_of (suc from) os name found)
  where
    later : IsObjectAt (suc from) os name found → IsObjectAt from (o ∷ os) name found
    later rest = record {
      place = suc rest.place;
      object = rest.object;
      there = rest.there;
      is = rest.is ∙ ap (λ (id : ℕ). named_object id rest.object) (omega arith);
      live = rest.live;
      same = rest.same;
    }

    by_name : (same : Bool) → bytes_eq o.name name ≡ same → o.is_live ≡ true
        → cond same (Some (named_object from o)) (named (names_from (suc from) os) name) ≡ Some found
        → (named (names_from (suc from) os) name ≡ Some found → IsObjectAt (suc from) os name found)
        → IsObjectAt from (o ∷ os) name found
    by_name true same live is rest =
        let first : named_object from o ≡ found = cc in record {
          place = 0;
          object = o;
          there = refl;
          is = sym first ∙ ap (λ (id : ℕ). named_object id o) (omega arith);
          live = live;
          same = same;
        }
    by_name false same live is rest = later (rest is)

    by_live : (live : Bool) → o.is_live ≡ live
        → named (cond live (named_object from o ∷ []) [] ++ names_from (suc from) os) name ≡ Some found
        → (named (names_from (suc from) os) name ≡ Some found → IsObjectAt (suc from) os name found)
        → IsObjectAt from (o ∷ os) name found
    by_live false dead is rest = later (rest is)
    by_live true live is rest = by_name (bytes_eq o.name name) refl live is rest

-- ---- the target

-- what is found wrong with a target is found wrong with its change
record IsOnTarget (names : List Named) (b : BoundChange) : Type 0 where
  name : Name
  target : b.target ≡ (target_at names name).id
  known : b.findings.unknown_object ≡ None → (target_at names name).findings.unknown_object ≡ None
  kinds : b.findings.wrong_kind ≡ None → (target_at names name).findings.wrong_kind ≡ None

on_target : (names : List Named) (x : Dml) → IsOnTarget names (bound_change names x)
unfolding bound_change
on_target names (dml.Insert name listed (rows.Values found)) = record {
  name = name;
  target = refl;
  known = λ none. (both_none (target_at names name).findings.unknown_object _ none).0;
  kinds = λ none. (both_none (target_at names name).findings.wrong_kind _ none).0;
}
on_target names (dml.Insert name listed (rows.Query q)) = record {
  name = name;
  target = refl;
  known = λ none. (both_none (target_at names name).findings.unknown_object _ none).0;
  kinds = λ none. (both_none (target_at names name).findings.wrong_kind _ none).0;
}
on_target names (dml.Update name parts filter) = record {
  name = name;
  target = refl;
  known = λ none. (both_none (target_at names name).findings.unknown_object _ none).0;
  kinds = λ none. (both_none (target_at names name).findings.wrong_kind _ none).0;
}
on_target names (dml.Delete name filter) = record {
  name = name;
  target = refl;
  known = λ none. (both_none (target_at names name).findings.unknown_object _ none).0;
  kinds = λ none. (both_none (target_at names name).findings.wrong_kind _ none).0;
}
on_target names (dml.Merge name alias source on written_clauses) = record {
  name = name;
  target = refl;
  known = λ none. (both_none (target_at names name).findings.unknown_object _ none).0;
  kinds = λ none. (both_none (target_at names name).findings.wrong_kind _ none).0;
}

target_table : (objects : List Object) (name : Name)
    → (target_at (names_from 1 objects) name).findings.unknown_object ≡ None
    → (target_at (names_from 1 objects) name).findings.wrong_kind ≡ None
    → IsTableAt objects (target_at (names_from 1 objects) name).id
target_table objects name known kinds = by_found (named (names_from 1 objects) name) refl known kinds
  where
    not_false : (b : Bool) → not b ≡ false → b ≡ true
    not_false true is = refl
    not_false false is = absurd cc

    by_kind : (k : Kind) → changes.is_table (object_kind k) ≡ true → IsTrue (is_table k)
    by_kind (TableKind t) is = refl
    by_kind (StreamKind s) is = absurd cc
    by_kind (TaskKind t) is = absurd cc
    by_kind (DynamicKind d t) is = absurd cc

    by_found : (found : Option Named) → named (names_from 1 objects) name ≡ found
        → (target_of name found).findings.unknown_object ≡ None → (target_of name found).findings.wrong_kind ≡ None
        → IsTableAt objects (target_of name found).id
    by_found None is known kinds = absurd cc
    by_found (Some found) is known kinds =
        let o : IsObjectAt 1 objects name found = object_of 1 objects name found is in
        let id : found.id ≡ suc o.place = ap (λ (n : Named). n.id) o.is ∙ omega arith in
        let at : at_id objects found.id ≡ Some o.object = ap (at_id objects) id ∙ o.there in
        subst (λ (p : Option Object). IsSomeAnd p (λ o. IsTrue (is_table o.kind))) (sym at)
        (by_kind o.object.kind (ap (λ (n : Named). changes.is_table n.kind) (sym o.is)
        ∙ not_false (changes.is_table found.kind) (no_name (not (changes.is_table found.kind)) name kinds)))

-- ---- what a change comes to

abbrev pub ChangesTable : List Object → Changed → Type 0
ChangesTable objects (Fails why) = Unit {0}
ChangesTable objects (Gives id streams change e) = IsTableAt objects id

given_table : (objects : List Object) (id : ℕ) (streams : List ℕ) (change : Modification) (o : effects.EffectResult)
    → IsTableAt objects id → ChangesTable objects (given id streams change o)
given_table objects id streams change effects.Undefined is = tt
given_table objects id streams change (effects.Ambiguous row) is = tt
given_table objects id streams change (effects.Does e) is = is

pub table_changed : (m : Machine) (session : ℕ) (x : Dml)
    → ChangesTable m.state.objects (bound_changed m session (bound_change (names_from 1 m.state.objects) x))
table_changed m session x = by_refusal (change_refusal m session b) refl
  where
    b : BoundChange
    b = bound_change (names_from 1 m.state.objects) x

    by_table : (found : Option Table) → IsTableAt m.state.objects b.target
        → ChangesTable m.state.objects (given_on (streams_read m b) (instance_read m session b.sources) b found)
    by_table None is = tt
    by_table (Some t) is = given_table m.state.objects b.target (streams_read m b) b.change _ is

    by_refusal : (found : Option Refusal) → change_refusal m session b ≡ found
        → ChangesTable m.state.objects (fails_or found
        (given_on (streams_read m b) (instance_read m session b.sources) b
        (table_at (objects_seen m session) b.target)))
    by_refusal (Some why) is = tt
    by_refusal None is =
        let names_pass = passed (naming_refusal b.findings b.is_wide) _ is in
        let types_pass = passed (option_map refusal_of (naming.first_failing b.findings)) _ names_pass.0 in
        let nothing : NothingFails b.findings = nothing_fails b.findings
        (no_map refusal_of (naming.first_failing b.findings) types_pass.0) in
        let on : IsOnTarget (names_from 1 m.state.objects) b = on_target (names_from 1 m.state.objects) x in
        by_table (table_at (objects_seen m session) b.target)
        (subst (IsTableAt m.state.objects) (sym on.target) (target_table m.state.objects on.name
        (on.known nothing.unknown_object) (on.kinds nothing.wrong_kind)))
