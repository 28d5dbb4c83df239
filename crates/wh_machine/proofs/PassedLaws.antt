-- Tests that a statement passes.
--     passed, none_if, within         tests that none refuses
--     nothing_wrong, nothing_fails    no name and no type is found wrong
--     free_taken, object_found        a created name that isn't taken, and the object of a name
use Rattle.std.proofs.Common.{◌≡◌, ℕ, ◌≤◌, Bool, true, false, List}
use Rattle.std.proofs.Common.{◌∷◌, length, Option, Some, None, option_map, refl, subst, arith}
use Rattle.std.specs.Prelude.{◌||◌, is_some, nat_lt}
use Rattle.std.specs.List.{AllByRecursion}
use Rattle.std.proofs.lemmas.Bool.Decides.{nat_tests}
use Rattle.wh_value.specs.Limit.{bound}
use Rattle.wh_value.specs.declared.limit.Limit.{Limit}
use Rattle.wh_value.specs.declared.limit.Limit.TheVariants as limits
use Rattle.wh_naming.specs.Findings as naming
use Rattle.wh_naming.specs.Findings.{Findings, Failing, UnknownName, NameTaken, either, name_if}
use Rattle.wh_naming.specs.Scope.{Named, named}
use Rattle.wh_ddl_naming.specs.Meant.{Meant, first_failing, first_failing_of}
use Rattle.wh_ddl_naming.specs.Objects.{taken_name}
use Rattle.wh_reply.specs.Reply.{Refusal, OverLimit}
use Rattle.wh_state.specs.State.{Object}
use Rattle.wh_state.specs.Stored.{Stored}
use Rattle.wh_state.proofs.FirmLaws.{HasNot}
use Rattle.wh_machine.specs.Tests.{refused_if, refused_past, first_of}
use Rattle.wh_machine.specs.Names.{names_from, names_in, refusal_of}
use Rattle.wh_machine.specs.Outcome.{Machine}
use Rattle.wh_machine.specs.Definitions.{is_long}
use Rattle.wh_machine.proofs.NamedLaws.{none_named, IsObjectOf, object_named}
use Rattle.wh_machine.proofs.WorksLaws.{IsReached, objects_meant}

-- ---- tests

pub passed : (first : Option Refusal) (others : List (Option Refusal)) → first_of (first ∷ others) ≡ None
    → (first ≡ None) × (first_of others ≡ None)
passed None others none = (refl, none)
passed (Some why) others none = absurd cc

pub none_if : (b : Bool) (why : Refusal) → refused_if b why ≡ None → b ≡ false
none_if true why none = absurd cc
none_if false why none = refl

pub within : (limit : Limit) (count : ℕ) → refused_past limit count ≡ None → count ≤ bound limit
within limit count none = not_past (bound limit) count (none_if (nat_lt (bound limit) count) (OverLimit limit) none)
  where
    not_past : (most count : ℕ) → nat_lt most count ≡ false → count ≤ most
    not_past most count test = grind (arith, nat_tests)

pub neither : (a b : Bool) → (a || b) ≡ false → (a ≡ false) × (b ≡ false)
neither true b is = absurd cc
neither false b is = (refl, is)

pub short_name : (name : List ℕ) → is_long name ≡ false → length name ≤ bound limits.Name
short_name name test = not_past (bound limits.Name) (length name) test
  where
    not_past : (most count : ℕ) → nat_lt most count ≡ false → count ≤ most
    not_past most count test = grind (arith, nat_tests)

-- ---- names that are found

pub both_none : {A : Type 0} (a b : Option A) → either a b ≡ None → (a ≡ None) × (b ≡ None)
both_none None b none = (refl, none)
both_none (Some x) b none = absurd cc

pub no_map : {A B : Type 0} (f : A → B) (found : Option A) → option_map f found ≡ None → found ≡ None
no_map f None none = refl
no_map f (Some x) none = absurd cc

-- no test of names fails
pub record NothingFails (f : Findings) : Type 0 where
  pub unknown_object : f.unknown_object ≡ None
  pub wrong_kind : f.wrong_kind ≡ None
  pub is_mistyped : f.is_mistyped ≡ false

pub nothing_fails : (f : Findings) → naming.first_failing f ≡ None → NothingFails f
unfolding naming.first_failing
nothing_fails f none =
    let objects = both_none (option_map UnknownName f.unknown_object) _ none in
    let kinds = both_none (option_map naming.WrongKind f.wrong_kind) _ objects.1 in
    let columns = both_none (option_map UnknownName f.unknown_column) _ kinds.1 in
    let taken = both_none (option_map NameTaken f.taken) _ columns.1 in
    record {
      unknown_object = no_map UnknownName f.unknown_object objects.0;
      wrong_kind = no_map naming.WrongKind f.wrong_kind kinds.0;
      is_mistyped = typed_well f.is_mistyped taken.1;
    }
  where
    typed_well : (b : Bool) → naming.mistyped b ≡ None → b ≡ false
    typed_well true none = absurd cc
    typed_well false none = refl

pub nothing_wrong : {A : Type 0} (m : Meant A) → option_map refusal_of (first_failing m) ≡ None
    → (m.taken_object ≡ None) × (naming.first_failing m.findings ≡ None)
nothing_wrong m none = by_taken m.taken_object (no_map refusal_of (first_failing m) none)
  where
    by_taken : (taken : Option naming.Name) → first_failing_of taken m.findings ≡ None
        → (taken ≡ None) × (naming.first_failing m.findings ≡ None)
    by_taken None none = (refl, none)
    by_taken (Some created) none =
        absurd (cc (both_none (option_map UnknownName m.findings.unknown_object) (Some (NameTaken created)) none).1)

pub no_name : (b : Bool) (name : List ℕ) → name_if b name ≡ None → b ≡ false
no_name true name none = absurd cc
no_name false name none = refl

not_taken : (found : Option Named) → is_some found ≡ false → found ≡ None
not_taken None none = refl
not_taken (Some x) none = absurd cc

-- a created name that isn't taken
pub free_taken : (s : Stored) (m : Machine) (name : List ℕ) → IsReached s m
    → taken_name (names_in m.state.objects) name ≡ None → AllByRecursion (HasNot name) s.objects
free_taken s m name reached none =
    none_named 1 s.objects name
    (subst (λ (objects : List Object). named (names_from 1 objects) name ≡ None) (objects_meant s m reached)
    (not_taken (named (names_from 1 m.state.objects) name)
    (no_name (is_some (named (names_from 1 m.state.objects) name)) name none)))

pub object_found : (s : Stored) (m : Machine) (name : List ℕ) (found : Named) → IsReached s m
    → named (names_from 1 m.state.objects) name ≡ Some found → IsObjectOf s.objects name found
object_found s m name found reached is =
    object_named s.objects name found
    (subst (λ (objects : List Object). named (names_from 1 objects) name ≡ Some found) (objects_meant s m reached) is)
