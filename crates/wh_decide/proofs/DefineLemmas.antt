-- CREATE, ALTER and DROP of a session: their tests, and their outcomes.
--     tests_flat, counts_none      tests behind two others
--     not_past, none_past          a count, and a statement, that isn't refused
--     defines_by                   a statement by its first failing test
--     defines_as                   the same statement by the same test and name
--     drops_as                     what is written for an object that goes
use Rattle.std.proofs.Common.{◌≡◌, ℕ, ◌≤◌, List, [], ◌∷◌, Option, Some, None, option_map, true, inl, inr, refl, sym, ap}
use Rattle.std.proofs.Common.{◌∙◌}
use Rattle.std.specs.Prelude.{nat_lt}
use Rattle.std.proofs.lemmas.Bool.{cases_lt, lt-ltb}
use Rattle.wh_value.specs.Limit.{bound}
use Rattle.wh_value.specs.declared.limit.Limit.{Limit}
use Rattle.wh_reply.specs.Reply.{Refusal, Reply, DdlInTransaction, Locked}
use Rattle.wh_state.specs.Act.{Act}
use Rattle.wh_state.specs.Stored.{StoredObject}
use Rattle.wh_state.specs.Written.{written}
use Rattle.wh_machine.specs.Tests.{first_of, refused_past}
use Rattle.wh_machine.specs.Sessions.{number_in}
use Rattle.wh_machine.specs.Outcome.{Machine, commits, unless, last_test}
use Rattle.wh_machine.specs.Definitions.{drops, holder_of, defines}
use Rattle.wh_decide.specs.Definitions.{drops_written}

-- ---- tests

pub tests_flat : (p q : Option Refusal) (rest : List (Option Refusal))
    → first_of (first_of (p ∷ q ∷ []) ∷ rest) ≡ first_of (p ∷ q ∷ rest)
tests_flat None None rest = refl
tests_flat None (Some why) rest = refl
tests_flat (Some why) q rest = refl

pub counts_none : (p q : Option Refusal) (rest : List (Option Refusal)) → first_of (p ∷ q ∷ rest) ≡ None
    → (p ≡ None) × (first_of rest ≡ None)
counts_none None None rest is = (refl, is)
counts_none None (Some why) rest is = absurd cc
counts_none (Some why) q rest is = absurd cc

pub not_past : (limit : Limit) (count : ℕ) → refused_past limit count ≡ None → count ≤ bound limit
not_past limit count none = elim (cases_lt (bound limit) count) [
  | inl past ↦
      let test : nat_lt (bound limit) count ≡ true = lt-ltb _ _ past in
      let found = rw test at none in
      absurd cc
  | inr within ↦ within
]

pub none_past : (first wrong last : Option Refusal) → first_of (first ∷ wrong ∷ last ∷ []) ≡ None → wrong ≡ None
none_past None None last is = refl
none_past None (Some why) last is = absurd cc
none_past (Some why) wrong last is = absurd cc

-- ---- a statement, by all its tests

tests_around : (m : Machine) (first wrong last : Option Refusal) (reply : Reply) (acts : List Act)
    → unless first (last_test last (unless wrong (commits m reply acts)))
    ≡ unless (first_of (first ∷ wrong ∷ last ∷ [])) (commits m reply acts)
tests_around m (Some why) wrong last reply acts = refl
tests_around m None (Some why) last reply acts = refl
tests_around m None None (Some why) reply acts = refl
tests_around m None None None reply acts = refl

pub defines_by : (m : Machine) (session : ℕ) (old : Option ℕ) (wrong found : Option Refusal) (reply : Reply)
    (acts : List Act) → found ≡ first_of (option_map DdlInTransaction (number_in m.sessions session) ∷ wrong
    ∷ option_map Locked (holder_of m.sessions old) ∷ [])
    → defines m session old (unless wrong (commits m reply acts)) ≡ unless found (commits m reply acts)
unfolding defines
defines_by m session old wrong found reply acts is =
    tests_around m (option_map DdlInTransaction (number_in m.sessions session)) wrong
    (option_map Locked (holder_of m.sessions old)) reply acts
    ∙ ap (λ (why : Option Refusal). unless why (commits m reply acts)) (sym is)

-- the reply has a copy of the name
pub defines_as : {wrong found : Option Refusal} {copied name : List ℕ} (m : Machine) (session : ℕ) (old : Option ℕ)
    (reply : List ℕ → Reply) (acts : List Act) → wrong ≡ found → copied ≡ name
    → defines m session old (unless wrong (commits m (reply copied) acts))
    ≡ defines m session old (unless found (commits m (reply name) acts))
defines_as m session old reply acts test same =
    λ i. defines m session old (unless (test i) (commits m (reply (same i)) acts))

-- ---- what is written for an object that goes

pub drops_as : (stamp : ℕ) (objects : List StoredObject) (old : Option ℕ)
    → drops_written old ≡ written stamp objects (drops old)
drops_as stamp objects None = refl
drops_as stamp objects (Some id) = refl
