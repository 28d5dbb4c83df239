-- What each step of a rule leaves, where it reads.
use Rattle.std.proofs.Common.{◌≡◌, ℕ, suc, ◌+◌, ◌-◌, ◌==◌, Bool, true, false, List, Some, None}
use Rattle.std.proofs.Common.{refl, arith, if◌then◌else◌}
use Rattle.std.proofs.lemmas.Bool.Decides.{Decides-eqb, not_from_Decides}
use Rattle.wh_grammar.specs.Token.{Token}
use Rattle.wh_cursor.specs.declared.key.TokenClass.{TokenClass}
use Rattle.wh_expr_parse.specs.State.{State, at, next, Reader, expect, spend}
use Rattle.wh_cursor.specs.Steps.{and_then, sees}
use Rattle.wh_cursor.proofs.Yields.{Is, Yields}
use Rattle.wh_cursor.proofs.KeyLemmas.{fixed, Heads, heads}

expect_by : {B : Type 0} (r : Bool) (s : State) (f : Unit {0} → Reader B) (Q : B → State → Type 0)
    → (r ≡ true → Yields (f tt (next s)) Q)
    → Is Q (and_then (if r then Some (tt, next s) else None) f)
expect_by true s f Q k = (k refl).is
expect_by false s f Q k = tt

pub then_expect : {B : Type 0} (key : TokenClass) (s : State) (f : Unit {0} → Reader B) {Q : B → State → Type 0}
    → (Heads (fixed key) s.left → Yields (f tt (next s)) Q) → Yields (and_then (expect key s) f) Q
unfolding expect
then_expect key s f {Q = Q} k = record { is = expect_by (sees key s.left) s f Q (λ r. k (heads key s.left r)) }

spend_by : {B : Type 0} (r : Bool) (s : State) (f : Unit {0} → Reader B) (Q : B → State → Type 0) → (s.room == 0) ≡ r
    → ((n : ℕ) → s.room ≡ suc n → Yields (f tt (at s.left n)) Q)
    → Is Q (and_then (if r then None else Some (tt, at s.left (s.room - 1))) f)
spend_by true s f Q e k = tt
spend_by false s f Q e k =
    let some = not_from_Decides (s.room == 0) (Decides-eqb s.room 0) e in
    (k (s.room - 1) (omega (arith, some))).is

pub then_spend : {B : Type 0} (s : State) (f : Unit {0} → Reader B) {Q : B → State → Type 0}
    → ((n : ℕ) → s.room ≡ suc n → Yields (f tt (at s.left n)) Q) → Yields (and_then (spend s) f) Q
unfolding spend
then_spend s f {Q = Q} k = record { is = spend_by (s.room == 0) s f Q refl k }

-- behind a token that may stand there
pub if_eaten : {B : Type 0} (key : TokenClass) (s : State) (f : Bool → Reader B) {Q : B → State → Type 0}
    → (Heads (fixed key) s.left → Yields (f true (next s)) Q) → Yields (f false s) Q
    → Yields (f (sees key s.left) (if sees key s.left then next s else s)) Q
if_eaten key s f {Q = Q} yes_ no_ = by (sees key s.left) (λ r. yes_ (heads key s.left r))
  where
    by : (r : Bool) → (r ≡ true → Yields (f true (next s)) Q) → Yields (f r (if r then next s else s)) Q
    by true k = k refl
    by false k = no_

-- so many were counted in between
pub record Took {A : Type 0} (P : ℕ → List Token → A → List Token → Type 0)
    (s : State) (x : A) (t : State) : Type 0 where
  pub count : ℕ
  pub spent : s.room ≡ count + t.room
  pub is : P count s.left x t.left
